-- `sums::mixed_cells` meets its contract. The loop has taken in the cells before the next. Assumes nothing.
use Prim.Native.Nat.{ℕ}
use mathlib.Core.Path.{ap, ◌∙◌}
use native.Mathlib.Numerals.{add-one}
use lib.ListN.{get_or, take}
use Rattle.sums.specs.Sums.{mix}
use Rattle.sums.proofs.SumLaws.{mix_next}
use Rattle.sums.proofs.mixed_cells.Goals as goal

pub loop-x-preserved : goal.loop-x-preserved
loop-x-preserved c =
    let l = c.loop-x in
    let xs = take c.min.result c.args.cells.now in
    rw add-one (c.mixed_cell-mix.ensures ∙ ap (λ (s : ℕ). mix s (get_or xs l.x-index 0)) l.invariant ∙ mix_next _ xs l.x-index c.loop-x-test.true)
