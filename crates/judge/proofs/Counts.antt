-- How many are scattered, counted over every 128th subcarrier. Assumes nothing.
use mathlib.Core.Path.{◌≡◌, refl, sym, ap, ◌∙◌}
use mathlib.Core.Bool.{Bool, true, false, not, ◌&&◌}
use Prim.Native.Nat.{ℕ, suc, ◌+◌, ◌%◌, ◌≤◌, ◌<◌}
use native.Mathlib.Omega.{arith}
use borrow.Author.Tests.{le-ltb, eq-eqb, ne_eqb}
use Rattle.counting.specs.Search.{bit, sum, count}
use Rattle.counting.proofs.Bools.{and_false}
use Rattle.counting.proofs.Laws.{count_le}
use Rattle.counting.proofs.Searches.{count_no}
use Rattle.rules.specs.declared.Device.{Device}
use Rattle.rules.specs.Plan.{Plan}
use Rattle.rules.specs.Bands.{excluded, active}
use Rattle.rules.specs.Roles.{in_plc, continuous, ranked, scattered_at, scattered, scattered_count}

module _ (d : Device) (p : Plan) (j : ℕ) where
  -- where the first one would stand
  abbrev pub phase_start : ℕ
  phase_start = (p.plc + d.plc_width + j) % 128

  miss : (k : ℕ) → (k % 128 ≡ phase_start → ⊥) → scattered d p j k ≡ false
  unfolding scattered scattered_at
  miss k ne = ap (λ (b : Bool). ranked d p k && b) (ne_eqb (k % 128) phase_start ne) ∙ and_false (ranked d p k)

  here : (k : ℕ) → k % 128 ≡ phase_start → (b : Bool) → ranked d p k ≡ b → scattered d p j k ≡ b
  unfolding scattered scattered_at
  here k e b r = (λ i. r i && eq-eqb (k % 128) phase_start e i) ∙ and-true b
    where
      and-true : (a : Bool) → (a && true) ≡ a
      and-true true = refl
      and-true false = refl

  past : (k : ℕ) → d.subcarriers ≤ k → scattered d p j k ≡ false
  unfolding scattered ranked active
  past k l = ap (λ (b : Bool). (((b && not (excluded p k)) && not (in_plc d p k)) && not (continuous d p k)) && scattered_at d p j k) (le-ltb k d.subcarriers l)

  -- none stands below the first
  pub none_below : count (scattered d p j) phase_start ≡ 0
  unfolding count sum
  none_below = count_no (scattered d p j) 0 phase_start (omega arith) (λ k a b. miss k (λ e. omega arith))

  -- one step of 128
  pub step_on : (k : ℕ) → k % 128 ≡ phase_start → (b : Bool) → ranked d p k ≡ b → count (scattered d p j) (k + 128) ≡ count (scattered d p j) k + bit b
  unfolding count sum
  step_on k e b r = count_no (scattered d p j) (suc k) (k + 128) (omega arith) (λ i l w. miss i (λ f. omega arith)) ∙ ap (λ (x : Bool). count (scattered d p j) k + bit x) (here k e b r)

  -- past the last subcarrier there is none
  pub all_counted : (k : ℕ) → d.subcarriers ≤ k → count (scattered d p j) k ≡ scattered_count d p j
  unfolding scattered_count
  all_counted k l = count_no (scattered d p j) d.subcarriers k l (λ i a b. past i a)

  -- a loop stands at subcarrier k, with n counted below it
  pub record Counted (n k : ℕ) : Type 0 where
    pub phase : k % 128 ≡ phase_start
    pub total : n ≡ count (scattered d p j) k
    pub near : k < d.subcarriers + 128

  pub counted_start : (k : ℕ) → k ≡ phase_start → Counted 0 k
  counted_start k e = record { phase = omega arith; total = sym (ap (count (scattered d p j)) e ∙ none_below); near = omega arith }

  pub counted_on : (n k t : ℕ) → Counted n k → k < d.subcarriers → (b : Bool) → ranked d p k ≡ b → t ≡ n + bit b → Counted t (k + 128)
  counted_on n k t w l b r e = record { phase = omega (arith, w.phase); total = e ∙ ap (λ (x : ℕ). x + bit b) w.total ∙ sym (step_on k w.phase b r); near = omega arith }

  pub counted_few : (n k : ℕ) → Counted n k → n ≤ k
  counted_few n k w = omega (arith, w.total, count_le (scattered d p j) k)
