-- Reading on leaves the output, and where failures are told, as they were.
use Rattle.std.proofs.Common.{◌≡◌}
use Rattle.console.proofs.read_on.Given as goal

abbrev pub invariant-loop : goal.invariant-loop
invariant-loop g l = record {
  output : l.streams.output ≡ l.initial.streams.output;
  errors : l.streams.errors ≡ l.initial.streams.errors;
}
