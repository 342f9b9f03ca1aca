-- The eight predefined pilots of a device that fits: the list, where they stand, and membership in the part of a list that a loop has passed. Assumes nothing.
use Prim.Native.Nat.{ℕ, zero, suc, ◌+◌, ◌-◌, ◌≤◌, ◌<◌}
use mathlib.Core.Path.{◌≡◌, refl, sym, ap, ◌∙◌, subst}
use mathlib.Core.Logic.{◌⊎◌, inl, inr}
use mathlib.Core.Bool.{Bool, true, false, ◌&&◌, ◌||◌, or_assoc, true≢false}
use mathlib.Core.List.{List, [], ◌∷◌, ◌++◌, map, reverse}
use native.Mathlib.Numerals.{add-one}
use native.Mathlib.Omega.{arith}
use lib.Dec.{leb, eqb}
use lib.ListN.{length, get_or, take, replicate}
use borrow.Author.Tests.{le-leb, lt-leb}
use Rattle.counting.proofs.Bools.{and_false, or_false, or_true, Same, decide_eq}
use Rattle.rules.specs.declared.Device.{Device}
use Rattle.rules.specs.Roles.{one_of, predefined}
use Rattle.rules.specs.Answers.{pilots_of}
use Rattle.rules.specs.Fits.{Fits}

four : (xs : List ℕ) → length xs ≡ 4 → xs ≡ get_or xs 0 0 ∷ get_or xs 1 0 ∷ get_or xs 2 0 ∷ get_or xs 3 0 ∷ []
four [] e = absurd (omega arith)
four (a ∷ []) e = absurd (omega arith)
four (a ∷ b ∷ []) e = absurd (omega arith)
four (a ∷ b ∷ c ∷ []) e = absurd (omega arith)
four (a ∷ b ∷ c ∷ x ∷ []) e = refl
four (a ∷ b ∷ c ∷ x ∷ y ∷ ys) e = absurd (omega arith)

-- distance i of the four
abbrev pub away : Device → ℕ → ℕ
away d i = get_or d.distances i 0

-- the eight, from the four distances
abbrev pub eight : ℕ → ℕ → ℕ → ℕ → ℕ → ℕ → List ℕ
eight l last a b c e = (l - e) ∷ (l - c) ∷ (l - b) ∷ (l - a) ∷ (last + a) ∷ (last + b) ∷ (last + c) ∷ (last + e) ∷ []

pub eight_is : (d : Device) (l : ℕ) → Fits d → eight l (l + d.plc_width - 1) (away d 0) (away d 1) (away d 2) (away d 3) ≡ predefined d l
unfolding predefined
eight_is d l fits = sym (ap (λ (xs : List ℕ). map (λ (x : ℕ). l - x) (reverse xs) ++ map (λ (x : ℕ). l + d.plc_width - 1 + x) xs) (four d.distances fits.four))

pub eight_long : (d : Device) (l : ℕ) → Fits d → length (predefined d l) ≡ 8
eight_long d l fits = sym (ap length (eight_is d l fits))

-- the answer for any L: the eight where it is in its range, zeros below and above
module _ (d : Device) (l : ℕ) where
  choose : Bool → List ℕ
  choose b = elim b [ true ↦ predefined d l | false ↦ replicate 8 0 ]

  pub in_range : d.low_plc ≤ l → l ≤ d.high_plc → predefined d l ≡ pilots_of d l
  unfolding pilots_of choose
  in_range a b = sym (λ i. choose (le-leb d.low_plc l a i && le-leb l d.high_plc b i))

  pub below_range : l < d.low_plc → replicate 8 0 ≡ pilots_of d l
  unfolding pilots_of choose
  below_range a = sym (λ i. choose (lt-leb d.low_plc l a i && leb l d.high_plc))

  pub above_range : d.high_plc < l → replicate 8 0 ≡ pilots_of d l
  unfolding pilots_of choose
  above_range a = sym (ap choose (ap (λ (b : Bool). leb d.low_plc l && b) (lt-leb l d.high_plc a) ∙ and_false (leb d.low_plc l)))

-- x stands in the margin of the PLC, below or above it
pub record Beside (d : Device) (l x : ℕ) : Type 0 where
  pub from : l ≤ x + d.plc_margin
  pub to : x < l + d.plc_width + d.plc_margin
  pub off : (x < l) ⊎ (l + d.plc_width ≤ x)

-- x stands at one of the four distances, below L or above the last PLC subcarrier
abbrev pub Sided : Device → ℕ → ℕ → Type 0
Sided d l x = ((n : ℕ) × (n < 4) × (x ≡ l - away d n)) ⊎ ((n : ℕ) × (n < 4) × (x ≡ l + d.plc_width - 1 + away d n))

module _ (d : Device) (l : ℕ) (fits : Fits d) (low : d.low_plc ≤ l) where
  under : (i : ℕ) → i < 4 → Beside d l (l - away d i)
  under i h =
      let n = fits.near i h in
      record { from = omega (arith, fits.plc_low); to = omega (arith, fits.plc_some); off = inl (omega (arith, fits.plc_low)) }

  over : (i : ℕ) → i < 4 → Beside d l (l + d.plc_width - 1 + away d i)
  over i h =
      let n = fits.near i h in
      record { from = omega (arith, fits.plc_some); to = omega (arith, fits.plc_some); off = inr (omega (arith, fits.plc_some)) }

  -- the pilot at place i of the eight
  pub sided : (i : ℕ) → i < 8 → Sided d l (get_or (predefined d l) i 0)
  sided i h = subst (λ (xs : List ℕ). Sided d l (get_or xs i 0)) (eight_is d l fits) (go i h)
    where
      go : (j : ℕ) → j < 8 → Sided d l (get_or (eight l (l + d.plc_width - 1) (away d 0) (away d 1) (away d 2) (away d 3)) j 0)
      go zero h = inl (3, omega arith, refl)
      go (suc zero) h = inl (2, omega arith, refl)
      go (suc (suc zero)) h = inl (1, omega arith, refl)
      go (suc (suc (suc zero))) h = inl (0, omega arith, refl)
      go (suc (suc (suc (suc zero)))) h = inr (0, omega arith, refl)
      go (suc (suc (suc (suc (suc zero))))) h = inr (1, omega arith, refl)
      go (suc (suc (suc (suc (suc (suc zero)))))) h = inr (2, omega arith, refl)
      go (suc (suc (suc (suc (suc (suc (suc zero))))))) h = inr (3, omega arith, refl)
      go (suc (suc (suc (suc (suc (suc (suc (suc j)))))))) h = absurd (omega arith)

  pub beside : (i : ℕ) → i < 8 → Beside d l (get_or (predefined d l) i 0)
  beside i h = go (sided i h)
    where
      go : Sided d l (get_or (predefined d l) i 0) → Beside d l (get_or (predefined d l) i 0)
      go (inl (n, few, e)) = subst (Beside d l) (sym e) (under n few)
      go (inr (n, few, e)) = subst (Beside d l) (sym e) (over n few)

-- of the first n of a list: none, and one more
pub one_none : (xs : List ℕ) (k : ℕ) → one_of k (take 0 xs) ≡ false
unfolding one_of
one_none xs k = refl

one_suc : (xs : List ℕ) (n k : ℕ) → n < length xs → one_of k (take (suc n) xs) ≡ (one_of k (take n xs) || eqb k (get_or xs n 0))
unfolding one_of
one_suc [] n k h = absurd (omega arith)
one_suc (x ∷ xs) zero k h = or_false (eqb k x)
one_suc (x ∷ xs) (suc n) k h = ap (λ (b : Bool). eqb k x || b) (one_suc xs n k (omega arith)) ∙ sym (or_assoc (eqb k x) (one_of k (take n xs)) (eqb k (get_or xs n 0)))

pub one_more : (xs : List ℕ) (n k : ℕ) → n < length xs → one_of k (take (n + 1) xs) ≡ (one_of k (take n xs) || eqb k (get_or xs n 0))
one_more xs n k h = rw (add-one n) (one_suc xs n k h)

-- a number of the list stands somewhere in it
pub record Place (xs : List ℕ) (k : ℕ) : Type 0 where
  pub at : ℕ
  pub inside : at < length xs
  pub is : k ≡ get_or xs at 0

pub place : (xs : List ℕ) (k : ℕ) → one_of k xs ≡ true → Place xs k
unfolding one_of
place [] k e = absurd (true≢false (sym e))
place (x ∷ xs) k e = go (decide_eq k x) (λ f. place xs k (sym (ap (λ (b : Bool). b || one_of k xs) f) ∙ e))
  where
    go : Same k x → (eqb k x ≡ false → Place xs k) → Place (x ∷ xs) k
    go (inl (same, _)) rest = record { at = 0; inside = omega arith; is = same }
    go (inr (_, f)) rest = let w = rest f in record { at = suc w.at; inside = omega (arith, w.inside); is = w.is }

-- k is number n of the list
pub one_at : (xs : List ℕ) (n k : ℕ) → n < length xs → eqb k (get_or xs n 0) ≡ true → one_of k xs ≡ true
unfolding one_of
one_at [] n k h e = absurd (omega arith)
one_at (x ∷ xs) zero k h e = ap (λ (b : Bool). b || one_of k xs) e
one_at (x ∷ xs) (suc n) k h e = ap (λ (b : Bool). eqb k x || b) (one_at xs n k (omega arith) e) ∙ or_true (eqb k x)
