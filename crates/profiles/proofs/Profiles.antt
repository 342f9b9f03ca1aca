-- Laws of the loop over a profile: loads joined. Assumes nothing.
use Prim.Native.Nat.{ℕ, ◌+◌, ◌<◌}
use mathlib.Core.Path.{◌≡◌, refl, sym, ap, ◌∙◌}
use mathlib.Core.Logic.{by_cases}
use mathlib.Core.Bool.{Bool, true, false, not, ◌&&◌}
use mathlib.Core.List.{List}
use native.Mathlib.Decide.{dec_lt}
use native.Mathlib.Omega.{arith}
use lib.Bits.{bit_or}
use lib.Dec.{eqb}
use lib.ListN.{get_or}
use borrow.Author.Tests.{eqb-true}
use Rattle.counting.specs.Search.{bit}
use Rattle.counting.proofs.Bools.{and_left, and_right, or_zero}
use Rattle.rules.specs.Loads.{profile_load}

-- ---- loads joined: 0 as long as all are listed

abbrev pub Joined : List ℕ → ℕ → ℕ → Type 0
Joined w some k = eqb some 0 ≡ true → (i : ℕ) → i < k → profile_load (get_or w i 0) ≡ true

bit_listed : (t : Bool) → eqb (bit (not t)) 0 ≡ true → t ≡ true
bit_listed true e = refl
bit_listed false e = absurd (zero_no e)
  where
    zero_no : eqb 1 0 ≡ true → ⊥
    zero_no z = let y : ◌≡◌ {A = ℕ} 1 0 = eqb-true 1 0 z in omega arith

pub joined_next : (w : List ℕ) (k s x : ℕ) → Joined w s k → x ≡ bit (not (profile_load (get_or w k 0))) → Joined w (bit_or s x) (k + 1)
joined_next w k s x h ex e i l =
    let both : (eqb s 0 && eqb x 0) ≡ true = sym (or_zero s x) ∙ e in
    by_cases (dec_lt i k)
    (λ c. h (and_left (eqb s 0) (eqb x 0) both) i c)
    (λ c.
    let n : i ≡ k = omega arith in
    rw n (bit_listed (profile_load (get_or w k 0)) (ap (λ (m : ℕ). eqb m 0) (sym ex) ∙ and_right (eqb s 0) (eqb x 0) both)))
