-- `pilots::has_pilot` meets its contract. Assumes nothing.
use Prim.Native.Nat.{ℕ, ◌+◌, ◌-◌, ◌<◌, ◌≤◌}
use mathlib.Core.Path.{◌≡◌, refl, sym, ap, ◌∙◌}
use mathlib.Core.List.{List}
use native.Mathlib.Omega.{arith}
use lib.Dec.{eqb}
use lib.ListN.{length, get_or, take, drop}
use borrow.Author.Rules.{rules}
use Rattle.std.proofs.lemmas.List.{places}
use Rattle.counting.specs.Search.{bit, sum, count}
use Rattle.counting.proofs.Laws.{count_step}
use Rattle.rules.specs.Roles.{continuous_mark}
use Rattle.pilots.specs.Marked.{is_marked}
use Rattle.pilots.proofs.has_pilot.Goals as goal

-- place i of the block is place k + i of the marks
in_block : (m : List ℕ) (k i : ℕ) → k + 16 ≤ length m → i < length (take (k + 16 - k) (drop k m)) → get_or (take (k + 16 - k) (drop k m)) i 0 ≡ get_or m (k + i) 0
in_block m k i w h = search (rules, places)

pub loop-x-init : goal.loop-x-init
unfolding count sum
loop-x-init c = λ z. refl

pub loop-x-preserved : goal.loop-x-preserved
loop-x-preserved c = λ z.
    let a = c.args in
    let i = c.loop-x.x-index in
    let none = c.met-h.ensures z in
    let last : bit (is_marked a.marks.now (a.k + i)) ≡ 0 =
    unfold is_marked in (ap bit (ap (λ (x : ℕ). eqb x continuous_mark) (sym (in_block a.marks.now a.k i c.requires.1 c.loop-x-test.true)) ∙ none.1)) in
    omega (arith, count_step (λ j. is_marked a.marks.now (a.k + j)) i, last, c.loop-x.invariant none.0)
