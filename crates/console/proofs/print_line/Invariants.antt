-- What was printed so far, and what the rest of the text prints, is the whole line.
use Rattle.std.proofs.Common.{◌≡◌, ◌≤◌}
use Rattle.console.proofs.Printing.{PrintedTo}
use Rattle.console.proofs.print_line.Given as goal

abbrev pub invariant-loop-byte : goal.invariant-loop-byte
invariant-loop-byte g l = record {
  count : l.next ≤ l.byte-index;
  input : l.streams.input ≡ l.initial.streams.input;
  done : PrintedTo (g.O.Write.contents l.initial.streams.output) (g.O.Write.contents l.streams.output) l.text l.numbers l.byte-index l.next;
}
