-- `placeholders::meet` meets its contract. Assumes nothing.
use mathlib.Core.Path.{◌≡◌, refl, sym, ap, ◌∙◌}
use native.Mathlib.Omega.{arith}
use lib.Seq.{sets, take_all}
use Rattle.counting.specs.Search.{bit, sum, count, tabulate}
use Rattle.counting.proofs.Laws.{count_le, count_step}
use Rattle.counting.proofs.Lists.{length_tabulate, get_d_tabulate}
use Rattle.placeholders.specs.Meets.{like}
use Rattle.placeholders.proofs.Turns.{next_stored}
use Rattle.placeholders.proofs.meet.Goals as goal

pub loop-i-init : goal.loop-i-init
unfolding count sum
loop-i-init c = (refl, refl)

pub overflow_add-n : goal.overflow_add-n
overflow_add-n c =
    let a = c.args in
    omega (arith, c.one_if_like-one.ensures.1, count_le (like a.want.now a.kc.now a.b) c.loop-i.i, c.requires.1)

pub loop-i-preserved : goal.loop-i-preserved
loop-i-preserved c =
    let a = c.args in
    let l = c.loop-i in
    let h = c.loop-i-test.true in
    let t = like a.want.now a.kc.now a.b in
    let one : c.one_if_like-one.result ≡ bit (t l.i) = unfold like in c.one_if_like-one.ensures.0 in
    let size = length_tabulate (λ j. bit (t j)) a.k in (
      next_stored a.flag.now (tabulate (λ j. bit (t j)) a.k) l.flag a.b l.i c.one_if_like-one.result l.invariant.0 (omega (arith, size)) (one ∙ sym (get_d_tabulate (λ j. bit (t j)) a.k 0 l.i h)),
      omega (arith, count_step t l.i, one, l.invariant.1),
    )

pub returns : goal.returns
returns c =
    let a = c.args in
    let l = c.loop-i in
    let t = like a.want.now a.kc.now a.b in
    let e : l.i ≡ a.k = omega arith in record { flags = l.invariant.0 ∙ ap (sets a.flag.now a.b) (take_all l.i (tabulate (λ j. bit (t j)) a.k) (omega (arith, length_tabulate (λ j. bit (t j)) a.k))); number = l.invariant.1 ∙ ap (count t) e }
