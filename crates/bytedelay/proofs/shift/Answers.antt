-- `bytedelay::shift` meets its contract: each byte that is copied comes from two places on. Assumes nothing.
use Prim.Native.Nat.{ℕ, ◌+◌, ◌-◌}
use mathlib.Core.Path.{◌≡◌, refl, ap, ◌∙◌}
use native.Mathlib.Omega.{arith}
use lib.ListN.{get_or}
use Rattle.bytedelay.proofs.ByteShifts.{next_all}
use Rattle.bytedelay.proofs.shift.Goals as goal

pub returns-then-n-gt0 : goal.returns-then-n-gt0
returns-then-n-gt0 c =
    let s = c.args.store.now in
    let copied = c.copy_within.ensures in
    next_all c.args.n s _ c.requires.0 copied.len
    (λ q h. let e : 2 + (q - 0) ≡ q + 2 = omega arith in copied.by_index.0 q 0 (omega arith) (omega arith) ∙ ap (λ (k : ℕ). get_or s k 0) e)
    (λ q h. copied.by_index.2 q 0 (omega arith))

pub returns-else-n-gt0 : goal.returns-else-n-gt0
returns-else-n-gt0 c = next_all c.args.n c.args.store.now _ c.requires.0 refl (λ q h. absurd (omega arith)) (λ q h. refl)
