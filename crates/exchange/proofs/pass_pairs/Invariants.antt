-- `exchange::pass_pairs` meets its contract. Two cells have been passed for each i. Assumes nothing.
use Prim.Native.Nat.{◌+◌, ◌*◌}
use Rattle.exchange.specs.Exchange.{end_delay, Passes, At}
use Rattle.exchange.proofs.pass_pairs.Given as goal

abbrev pub invariant-loop-i : goal.invariant-loop-i
invariant-loop-i l =
    At l.emitter l.m l.b l.e l.store l.cells (l.from.p + 2 * l.i) l.d l.at × Passes (end_delay l.emitter l.m) l.from.p l.initial.store l.initial.cells l.initial.at l.initial.last (l.from.p + 2 * l.i) l.store l.cells l.at l.last
