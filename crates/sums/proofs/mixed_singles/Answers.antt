-- `sums::mixed_singles` meets its contract. The loop has taken in the numbers before the next. Assumes nothing.
use Prim.Native.Nat.{ℕ}
use mathlib.Core.Path.{ap, ◌∙◌}
use native.Mathlib.Numerals.{add-one}
use lib.ListN.{get_or}
use lib.Ieee.{nan, binary32, to_bits}
use Rattle.sums.specs.Sums.{mix}
use Rattle.sums.proofs.Singles.{single_next}
use Rattle.sums.proofs.mixed_singles.Goals as goal

pub loop-y-preserved : goal.loop-y-preserved
loop-y-preserved c =
    let l = c.loop-y in
    let ys = c.args.singles.now in
    rw add-one (c.mixed_single-mix.ensures ∙ ap (λ (s : ℕ). mix s (to_bits binary32 (get_or ys l.y-index nan))) l.invariant ∙ single_next _ ys l.y-index c.loop-y-test.true)
