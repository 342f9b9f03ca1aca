-- Over all phases each cell is a placeholder once, so the data cells of 128 successive symbols number 127 times N_I. Assumes nothing.
use Prim.Native.Nat.{ℕ, ◌+◌, ◌-◌, ◌*◌, ◌%◌, ◌<◌}
use mathlib.Core.Path.{◌≡◌, refl, sym, ap, ◌∙◌}
use mathlib.Core.Bool.{Bool, true, false, not, ◌&&◌, false≢true}
use native.Mathlib.Nat.{mul_comm, add_comm, zero-mul}
use native.Mathlib.Omega.{arith}
use Rattle.counting.specs.Search.{bit, pick, sum, count}
use Rattle.counting.proofs.Bools.{by_test}
use Rattle.counting.proofs.Sums.{sum_cong, sum_swap, sum_const, sum_zero, count_not}
use Rattle.counting.proofs.Orders.{sum_turn, sum_mul}
use Rattle.rules.specs.declared.Role.{Role}
use Rattle.rules.specs.declared.Role.TheVariants.{Excluded, Plc, Continuous, Scattered, Data}
use Rattle.rules.specs.Frame.{Frame, cells, spot, delay, held, is_data, data_count}
use Rattle.frame.specs.Counted.{phase_of, is_scattered, is_data_role, Counts}
use Rattle.frame.proofs.Cells.{Sound, spot_below, spot_ranked}

-- a role goes by rank and pattern: of a subcarrier with a rank it is scattered where the pattern stands, else data; no other's is data
pub record ByRank (F : Frame) : Type 0 where
  pub role_is : (j k : ℕ) → k < F.width → F.ranked k ≡ true → F.role j k ≡ pick (F.pattern j k) Scattered Data
  pub data_ranked : (j k : ℕ) → k < F.width → F.role j k ≡ Data → F.ranked k ≡ true

scattered_test : (b : Bool) → is_scattered (pick b Scattered Data) ≡ b
scattered_test true = refl
scattered_test false = refl

data_test : (b : Bool) → is_data_role (pick b Scattered Data) ≡ not b
data_test true = refl
data_test false = refl

no_data : (r : Role) → (r ≡ Data → ⊥) → is_data_role r ≡ false
no_data Excluded n = refl
no_data Plc n = refl
no_data Continuous n = refl
no_data Scattered n = refl
no_data Data n = absurd (n refl)

module _ (F : Frame) (ok : Sound F) (roles : ByRank F)
    -- over all phases the pattern stands once on a subcarrier with a rank
    (once : (k : ℕ) → k < F.width → F.ranked k ≡ true → count (λ j. F.pattern j k) F.phases ≡ 1) where
  held_once : (p : ℕ) → p < cells F → count (λ j. held F j p) F.phases ≡ 1
  unfolding held count
  held_once p h =
      sum_turn F.phases (delay F p) (λ j. bit (F.pattern j (spot F p)))
      ∙ once (spot F p) (spot_below F p h) (spot_ranked F p h)

  all_input : sum (data_count F) F.phases ≡ (F.phases - 1) * cells F
  unfolding data_count count is_data
  all_input =
      sum_swap (λ j p. bit (is_data F j p)) F.phases (cells F)
      ∙ sum_cong (λ p. sum (λ j. bit (is_data F j p)) F.phases) (λ p. F.phases - 1) (cells F)
      (λ p h. omega (arith, count_not (λ j. held F j p) F.phases, held_once p h))
      ∙ sum_const (F.phases - 1) (cells F) ∙ mul_comm (cells F) (F.phases - 1)

  scattered_once : (k : ℕ) → k < F.width → F.ranked k ≡ true → count (λ j. is_scattered (F.role j k)) F.phases ≡ 1
  unfolding count
  scattered_once k h q =
      sum_cong (λ j. bit (is_scattered (F.role j k))) (λ j. bit (F.pattern j k)) F.phases
      (λ j l. ap bit (ap is_scattered (roles.role_is j k h q) ∙ scattered_test (F.pattern j k)))
      ∙ once k h q

  -- subcarrier k carries data in a symbol emitted at phase j
  role_data_lem : ℕ → ℕ → Bool
  role_data_lem j k = F.ranked k && not (F.pattern j k)

  role_once : (k : ℕ) → k < F.width → sum (λ j. bit (role_data_lem j k)) F.phases ≡ bit (F.ranked k) * (F.phases - 1)
  unfolding role_data_lem
  role_once k h =
      by_test (F.ranked k)
      (λ q. rw q (unfold count in omega (arith, count_not (λ j. F.pattern j k) F.phases, once k h q)))
      (λ q. rw q (sum_zero F.phases ∙ sym (zero-mul (F.phases - 1))))

  data_role : (j k : ℕ) → k < F.width → is_data_role (F.role j k) ≡ role_data_lem j k
  unfolding role_data_lem
  data_role j k h =
      by_test (F.ranked k)
      (λ q. rw q (ap is_data_role (roles.role_is j k h q) ∙ data_test (F.pattern j k)))
      (λ q. rw q (no_data (F.role j k) (λ e. false≢true (sym q ∙ roles.data_ranked j k h e))))

  data_roles : (j : ℕ) → count (λ k. is_data_role (F.role j k)) F.width ≡ count (role_data_lem j) F.width
  unfolding count role_data_lem
  data_roles j = sum_cong (λ k. bit (is_data_role (F.role j k))) (λ k. bit (role_data_lem j k)) F.width (λ k h. ap bit (data_role j k h))

  all_emitted : sum (λ j. count (λ k. is_data_role (F.role j k)) F.width) F.phases ≡ (F.phases - 1) * cells F
  unfolding count cells
  all_emitted =
      sum_cong (λ j. count (λ k. is_data_role (F.role j k)) F.width) (λ j. count (role_data_lem j) F.width) F.phases (λ j l. data_roles j)
      ∙ sum_swap (λ j k. bit (role_data_lem j k)) F.phases F.width
      ∙ sum_cong (λ k. sum (λ j. bit (role_data_lem j k)) F.phases) (λ k. bit (F.ranked k) * (F.phases - 1)) F.width role_once
      ∙ sum_mul (λ k. bit (F.ranked k)) (F.phases - 1) F.width ∙ mul_comm (cells F) (F.phases - 1)

  from_any : (f : ℕ → ℕ) (j : ℕ) → sum (λ i. f (phase_of F j i)) F.phases ≡ sum f F.phases
  from_any f j = sum_cong (λ i. f (phase_of F j i)) (λ i. f ((i + j) % F.phases)) F.phases (λ i l. ap (λ (x : ℕ). f (x % F.phases)) (add_comm j i)) ∙ sum_turn F.phases j f

  pub counts : Counts F
  counts = record {
    once = scattered_once;
    input = λ j. from_any (data_count F) j ∙ all_input;
    emitted = λ j. from_any (λ i. count (λ k. is_data_role (F.role i k)) F.width) j ∙ all_emitted;
  }
