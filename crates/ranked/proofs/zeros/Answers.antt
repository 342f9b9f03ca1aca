-- `ranked::zeros` meets its contract. Assumes nothing.
use mathlib.Core.Path.{◌≡◌, refl, sym, ap, ◌∙◌}
use mathlib.Core.Bool.{Bool}
use native.Mathlib.Omega.{arith}
use Prim.Native.Nat.{ℕ, ◌+◌, ◌<◌}
use lib.ListN.{length, take}
use lib.Seq.{get_or-take, length-take-le}
use Rattle.counting.specs.Search.{bit, sum, count, is_zero}
use Rattle.counting.proofs.Laws.{count_le, count_step}
use Rattle.ranked.proofs.zeros.Goals as goal
use Rattle.ranked.proofs.zeros.Goals.{Start}

places : (c : Start) → length (take c.args.size c.args.m.now) ≡ c.args.size
places c = length-take-le c.args.size c.args.m.now (omega arith)

pub loop-x-init : goal.loop-x-init
unfolding count sum
loop-x-init c = refl

pub one_more-n-requires : goal.one_more-n-requires
one_more-n-requires c =
    omega (arith, c.loop-x.invariant, count_le (is_zero c.args.m.now) c.loop-x.x-index, places (goal.at.one_more-n-requires c).Start)

pub loop-x-preserved : goal.loop-x-preserved
unfolding is_zero
loop-x-preserved c =
    let l = c.loop-x in
    let p : ℕ → Bool = is_zero c.args.m.now in
    let here : l.x-index < c.args.size = omega (arith, places (goal.at.loop-x-preserved c).Start) in
    c.one_more-n.ensures ∙ rw (get_or-take c.args.size c.args.m.now l.x-index 0 here) (ap (λ (x : ℕ). x + bit (p l.x-index)) l.invariant) ∙ sym (count_step p l.x-index)

pub returns : goal.returns
returns c =
    let l = c.loop-x in
    let p : ℕ → Bool = is_zero c.args.m.now in
    let e : l.x-index ≡ c.args.size = omega (arith, places (goal.at.returns c).Start) in
    (c.from.ensures ∙ l.invariant ∙ ap (count p) e, omega (arith, l.invariant, count_le p l.x-index))
