-- `delay::shift` meets its contract. Each place that has been passed has the next one's cell. Assumes nothing.
use Prim.Native.Nat.{ℕ, ◌+◌, ◌-◌}
use mathlib.Core.Path.{◌≡◌, sym, ap, ◌∙◌}
use native.Mathlib.Omega.{arith}
use lib.ListN.{length, get_or}
use Rattle.delay.specs.Shift.{next_place}
use Rattle.delay.proofs.Shifts.{next_in, upto_put, next_all}
use Rattle.delay.proofs.shift.Goals as goal

pub loop-k-preserved : goal.loop-k-preserved
loop-k-preserved c =
    let a = c.args in
    let l = c.loop-k in
    let s = a.store.now in
    let here : l.k ≡ l.k - 1 + 1 = omega arith in
    let next : l.k + 1 - 1 ≡ l.k - 1 + 1 = omega arith in
    rw next
    (upto_put (length s) (l.k - 1) (next_place a.n s) (λ q. get_or s q 0) l.store (get_or l.store l.k 0) l.invariant (omega arith)
    (l.invariant.rest l.k (omega arith) (omega arith) ∙ ap (λ (q : ℕ). get_or s q 0) here ∙ sym (next_in a.n s (l.k - 1) (omega arith))))

pub returns : goal.returns
returns c =
    let a = c.args in
    let l = c.loop-k in
    next_all a.n a.store.now l.store (l.k - 1) (omega arith) (omega arith) l.invariant
