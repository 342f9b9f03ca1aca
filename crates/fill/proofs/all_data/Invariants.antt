-- `fill::all_data` meets its contract. The flags so far, joined bit by bit, are 0 where the cells so far are data cells. Assumes nothing.
use mathlib.Core.Path.{◌≡◌}
use lib.Dec.{eqb}
use Rattle.fill.specs.Flags.{all_data}
use Rattle.fill.proofs.all_data.Given as goal

abbrev pub invariant-loop-f : goal.invariant-loop-f
invariant-loop-f l = eqb l.held 0 ≡ all_data l.flag l.p l.f-index
