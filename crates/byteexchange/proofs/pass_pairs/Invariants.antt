-- `byteexchange::pass_pairs` meets its contract. As many pairs are passed as are counted. Assumes nothing.
use Prim.Native.Nat.{◌+◌, ◌*◌}
use mathlib.Core.Path.{◌≡◌}
use Rattle.bytecells.specs.Octets.{cells_of, Whole}
use Rattle.exchange.specs.Exchange.{end_delay, Passes, At}
use Rattle.byteexchange.proofs.pass_pairs.Given as goal

abbrev pub invariant-loop : goal.invariant-loop
invariant-loop l = (l.to.p ≡ l.initial.to.p + 2 * l.counter) × Whole l.store × At l.emitter l.m l.b l.e (cells_of l.store) l.cells l.to.p l.to.d l.to.at × Passes (end_delay l.emitter l.m) l.initial.to.p (cells_of l.initial.store) l.initial.cells l.initial.to.at l.initial.to.last l.to.p (cells_of l.store) l.cells l.to.at l.to.last
