-- Laws of findings: where nothing was found, no ground of those tried holds. Assumes nothing.
use Prim.Native.Nat.{ℕ}
use mathlib.Core.Path.{◌≡◌, refl, ap}
use mathlib.Core.Bool.{Bool, true, false}
use native.Mathlib.Omega.{arith}
use Rattle.counting.specs.Search.{when}
use Rattle.rules.specs.Refusals.{Finding, refused_by}
use Rattle.std.specs.Prelude.{Result, Ok, Err, Option, Some, None, IsErr, IsErrAnd}
use Rattle.rules.specs.Grounds.{◌else◌, ground?}

pub not_fine : {T E : Type 0} {x : T} {r : E} → ◌≡◌ {A = Result T E} (Err r) (Ok x) → ⊥
not_fine e = let z : ◌≡◌ {A = ℕ} 0 1 = cc in omega arith

pub both_fine : (a b : Finding) → (a else b) ≡ Ok tt → (a ≡ Ok tt) × (b ≡ Ok tt)
both_fine (Ok tt) b e = (refl, e)
both_fine (Err r) b e = absurd (not_fine e)

-- a ground that is not found does not hold
pub when_fine : (n place : ℕ) (b : Bool) → ground? n (when b place) ≡ Ok tt → b ≡ false
when_fine n place true e = absurd (not_fine e)
when_fine n place false e = refl

-- it has no place
pub no_place : (n : ℕ) (o : Option ℕ) → ground? n o ≡ Ok tt → o ≡ None
no_place n None e = refl
no_place n (Some place) e = absurd (not_fine e)

-- nothing was found, or a ground
pub by_finding {ℓ} : {P : Type ℓ} (f : Finding) → (f ≡ Ok tt → P) → ((n place : ℕ) → f ≡ refused_by n place → P) → P
by_finding (Ok tt) a b = a refl
by_finding (Err r) a b = b r.number r.place refl

-- what a `?` answers is the error that it met
pub passed_on : {T E : Type 0} (r : Result T E) {a : E} → IsErr r × IsErrAnd r (λ e. e ≡ a) → r ≡ Err a
passed_on (Ok x) h = absurd h.1
passed_on (Err e) h = ap Err h.1
