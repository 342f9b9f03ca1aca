-- The marks with the scattered pilots allow on each subcarrier what its role asks for, of any frame tied to its marks. Assumes nothing.
use Prim.Native.Nat.{ℕ, ◌+◌, ◌%◌, ◌<◌}
use mathlib.Core.Path.{◌≡◌, refl, sym, ap, ap₂, ◌∙◌}
use mathlib.Core.Bool.{Bool, true, false, not}
use mathlib.Core.List.{List}
use Rattle.std.specs.Prelude.{None}
use native.Mathlib.Nat.{mod-eq_of_lt}
use native.Mathlib.Omega.{arith}
use lib.Dec.{eqb}
use lib.ListN.{get_or}
use borrow.Author.Tests.{eq-eqb, ne_eqb, eqb-true}
use Rattle.counting.specs.Search.{bit, count, lowest, is_zero, tabulate}
use Rattle.counting.proofs.Lists.{get_d_tabulate}
use Rattle.counting.proofs.Bools.{by_test}
use Rattle.counting.proofs.Laws.{none_lowest}
use Rattle.counting.proofs.Searches.{lowest_ext}
use Rattle.counting.proofs.Sums.{all_pass}
use Rattle.counting.proofs.Orders.{same_mod}
use Rattle.rules.specs.declared.Device.{Device}
use Rattle.rules.specs.Device.{phases}
use Rattle.rules.specs.Plan.{Plan}
use Rattle.rules.specs.Fits.{Fits}
use Rattle.rules.specs.Frame.{Frame, frame_of}
use Rattle.rules.specs.Loads.{limit_at}
use Rattle.rules.specs.Receive.{wrong_cell}
use Rattle.roles.proofs.Fitting.{cell_fits, fits_role_lem}
use Rattle.marks.specs.Marked.{Marked}
use Rattle.counting.proofs.Stride.{Upto, Gap}
use Rattle.spots.specs.Tied.{Tied, Turning}
use Rattle.spots.proofs.Plans.{tied_of, turning_of}
use Rattle.arrivals.specs.Expected.{allowed, allowed_at, scattered_mark, expected}

-- ---- the loop that puts the pilots among the marks

expected_out : (base : ℕ) (m : List ℕ) (k : ℕ) → (k % phases ≡ base → ⊥) → expected base m k ≡ get_or m k 0
unfolding expected
expected_out base m k e = rw (ne_eqb (k % phases) base e) refl

pub expected_in : (base : ℕ) (m : List ℕ) (k : ℕ) → k % phases ≡ base → expected base m k ≡ scattered_mark (get_or m k 0)
unfolding expected
expected_in base m k e = rw (eq-eqb (k % phases) base e) refl

-- between two pilots nothing changes
pub expected_gap : (base k : ℕ) (m : List ℕ) → k % phases ≡ base → Gap k phases (expected base m) (λ q. get_or m q 0)
expected_gap base k m e q lo hi = expected_out base m q (λ z. absurd (omega (arith, same_mod phases k q (omega arith) hi (z ∙ sym e))))

-- nor below the first
pub expected_start : (n base : ℕ) (m : List ℕ) → base < phases → Upto n base (expected base m) (λ q. get_or m q 0) m
expected_start n base m h = record {
  done = λ q hq k. sym (expected_out base m q (λ z. absurd (omega (arith, mod-eq_of_lt (let j : q < phases = omega arith in j)))));
  rest = λ q hq k. refl;
}

-- ---- what is allowed, of a frame

module _ (F : Frame) (m : List ℕ) (tied : Tied F m) (base : ℕ) (turns : Turning F base) (limit j k x : ℕ) (h : k < F.width) where
  -- a subcarrier without a rank asks for its mark
  unranked : F.ranked k ≡ false → allowed limit (expected ((base + j) % phases) m k) x ≡ cell_fits F limit j k x
  unfolding allowed expected scattered_mark cell_fits is_zero
  unranked r =
      let z : eqb (get_or m k 0) 0 ≡ false = tied.ranks k h ∙ r in
      by_test (eqb (k % phases) ((base + j) % phases))
      (λ e. rw (e, z, z, r) (ap (eqb x) (tied.marks k h r)))
      (λ e. rw (e, z, r) (ap (eqb x) (tied.marks k h r)))

  -- one with a rank for a placeholder where the pattern stands, else for data or filler
  with_rank : F.ranked k ≡ true → allowed limit (expected ((base + j) % phases) m k) x ≡ cell_fits F limit j k x
  unfolding allowed expected scattered_mark cell_fits is_zero
  with_rank r =
      let z : get_or m k 0 ≡ 0 = eqb-true (get_or m k 0) 0 (tied.ranks k h ∙ r) in
      by_test (eqb (k % phases) ((base + j) % phases))
      (λ e. rw (r, turns.pattern j k, e, z) refl)
      (λ e. rw (r, turns.pattern j k, e, z) refl)

  pub allowed_fits : allowed limit (expected ((base + j) % phases) m k) x ≡ cell_fits F limit j k x
  allowed_fits = by_test (F.ranked k) with_rank unranked

-- ---- searches

-- r is the count of one cell
module _ (limits w y : List ℕ) (k r : ℕ) (e : r ≡ bit (allowed (get_or limits k 0) (get_or w k 0) (get_or y k 0))) where
  pub cell_wrong : r ≡ 0 → not (allowed_at limits w y k) ≡ true
  unfolding allowed_at
  cell_wrong z = by_test (allowed (get_or limits k 0) (get_or w k 0) (get_or y k 0)) (λ t. absurd (omega (arith, e, z, ap bit t))) (λ t. ap not t)

  pub cell_right : (r ≡ 0 → ⊥) → not (allowed_at limits w y k) ≡ false
  unfolding allowed_at
  cell_right n = by_test (allowed (get_or limits k 0) (get_or w k 0) (get_or y k 0)) (λ t. ap not t) (λ t. absurd (n (e ∙ ap bit t)))

-- where all fit, none is wrong
pub all_fit : (t : ℕ → Bool) (n : ℕ) → count t n ≡ n → lowest (λ k. not (t k)) n ≡ None
all_fit t n e = none_lowest (λ k. not (t k)) n (λ k h. ap not (all_pass t n e k h))

-- the limits of the profile and the marks m' with the scattered pilots of phase j find the lowest cell that its role does not ask for
pub wrong_is : (d : Device) (p : Plan) (w limits m m' y : List ℕ) (l j : ℕ) → l ≡ p.plc → Fits d → Marked d p m
    → ((k : ℕ) → k < d.subcarriers → get_or m' k 0 ≡ expected ((l + d.plc_width + j) % phases) m k)
    → ((k : ℕ) → k < d.subcarriers → get_or limits k 0 ≡ limit_at w k)
    → lowest (λ k. not (allowed_at limits m' y k)) d.subcarriers ≡ lowest (wrong_cell (frame_of d p) w j y) d.subcarriers
unfolding allowed_at wrong_cell frame_of
wrong_is d p w limits m m' y l j e fits marked put are =
    lowest_ext _ _ d.subcarriers
    (λ k h.
    ap not
    (ap₂ (λ (a v : ℕ). allowed a v (get_or y k 0)) (are k h) (put k h)
    ∙ ap (λ (b : ℕ). allowed (limit_at w k) (expected ((b + d.plc_width + j) % phases) m k) (get_or y k 0)) e
    ∙ allowed_fits (frame_of d p) m (tied_of d p m fits marked) (p.plc + d.plc_width) (turning_of d p) (limit_at w k) j k (get_or y k 0) h
    ∙ fits_role_lem d p (limit_at w k) j k (get_or y k 0) h))

-- what one limit allows
abbrev pub allowed_under : ℕ → List ℕ → List ℕ → ℕ → Bool
allowed_under limit m y k = allowed limit (get_or m k 0) (get_or y k 0)

-- where every cell fits under the limit of its load, none is wrong
pub none_wrong : (d : Device) (p : Plan) (w m m' y : List ℕ) (l j : ℕ) → l ≡ p.plc → Fits d → Marked d p m
    → ((k : ℕ) → k < d.subcarriers → get_or m' k 0 ≡ expected ((l + d.plc_width + j) % phases) m k)
    → ((k : ℕ) → k < d.subcarriers → allowed_under (limit_at w k) m' y k ≡ true)
    → None ≡ lowest (wrong_cell (frame_of d p) w j y) d.subcarriers
unfolding allowed_at
none_wrong d p w m m' y l j e fits marked put fit =
    let n : ℕ = d.subcarriers in
    let limits : List ℕ = tabulate (limit_at w) n in
    let are : (k : ℕ) → k < n → get_or limits k 0 ≡ limit_at w k = get_d_tabulate (limit_at w) n 0 in
    sym (none_lowest (λ k. not (allowed_at limits m' y k)) n (λ k h. ap not (ap (λ (a : ℕ). allowed_under a m' y k) (are k h) ∙ fit k h)))
    ∙ wrong_is d p w limits m m' y l j e fits marked put are
