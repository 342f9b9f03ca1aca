-- The answer to filling by its stages, and what the entries answer and leave by it. Assumes nothing.
use Prim.Native.Nat.{ℕ, ◌+◌, ◌-◌, ◌*◌, ◌≤◌, ◌<◌}
use mathlib.Core.Path.{◌≡◌, refl, sym, ap, ◌∙◌}
use mathlib.Core.Bool.{Bool, not}
use mathlib.Core.List.{List}
use native.Mathlib.Omega.{arith}
use lib.Dec.{ltb}
use lib.ListN.{length, get_or, take}
use borrow.Author.Tests.{le-leb, lt-leb, eq-eqb, ne_eqb}
use Rattle.counting.specs.Search.{when, lowest}
use Rattle.rules.specs.declared.Device.{Device}
use Rattle.rules.specs.Refusals.{Finding, refused_by}
use Rattle.std.specs.Prelude.{Ok, Err}
use Rattle.rules.specs.Plan.{plan_of}
use Rattle.rules.specs.Grounds.{◌else◌, ground?, grounds1to15}
use Rattle.rules.specs.Frame.{Frame, frame_of, data_count}
use Rattle.rules.specs.Bits.{total, filled_from, unfilled_into}
use Rattle.rules.specs.Loads.{ground25, load_limit, data_loads, ground19}
use Rattle.rules.specs.Steps.{ground16, ground18}
use Rattle.rules.specs.Filling.{Filling, fills, bit_count, ground26, fill_grounds, unfill_grounds, frame_fill, frame_unfill, fill_step, unfill_step}
use Rattle.rules.proofs.Findings.{both_fine}
use Rattle.frame.proofs.Loads as loads
use Rattle.filling.specs.Measured.{count_or, measure, put_back, Measured}
use Rattle.filling.proofs.Starts.{start_fits}

-- ---- the stages

module _ (d : Device) (s w : List ℕ) (j m n a : ℕ) where
  abbrev F : Frame
  F = frame_of d (plan_of s)

  -- refused as the plan is
  pub by_plan : (g place : ℕ) → grounds1to15 d s ≡ refused_by g place → refused_by g place ≡ measure d s w j m n a
  unfolding measure
  by_plan g place e = sym (ap (λ (f : Finding). count_or (f else fill_grounds F w j m n a) (bit_count F w j)) e)

  -- the answer as a function of what each ground finds
  found : Finding → Finding → Finding → Finding → Finding → Finding
  found plan profile phase number bits = plan else profile else phase else number else bits

  module _ (fine : grounds1to15 d s ≡ Ok tt) where
    pub by_profile : (g place : ℕ) → ground25 F.width w ≡ refused_by g place → refused_by g place ≡ measure d s w j m n a
    unfolding measure fill_grounds found
    by_profile g place e = sym (λ i. count_or (found (fine i) (e i) (ground16 F j) (ground18 F j m) (ground26 F w j n a)) (bit_count F w j))

    module _ (listed : ground25 F.width w ≡ Ok tt) where
      pub by_phase : F.phases ≤ j → refused_by 16 0 ≡ measure d s w j m n a
      unfolding measure fill_grounds found ground16
      by_phase h = sym (λ i. count_or (found (fine i) (listed i) (ground? 16 (when (le-leb F.phases j h i) 0)) (ground18 F j m) (ground26 F w j n a)) (bit_count F w j))

      module _ (hj : j < F.phases) where
        pub by_number : (m ≡ data_count F j → ⊥) → refused_by 18 0 ≡ measure d s w j m n a
        unfolding measure fill_grounds found ground16 ground18
        by_number h = sym
            (λ i. count_or
            (found (fine i) (listed i) (ground? 16 (when (lt-leb F.phases j hj i) 0)) (ground? 18 (when (not (ne_eqb m (data_count F j) h i)) 0)) (ground26 F w j n a)) (bit_count F w j))

        pub by_bits : m ≡ data_count F j → (t : Bool) → t ≡ ltb (n * 8 - a) (bit_count F w j) → count_or (ground? 26 (when t 0)) (bit_count F w j) ≡ measure d s w j m n a
        unfolding measure fill_grounds found ground16 ground18 ground26
        by_bits h t e = sym
            (λ i. count_or
            (found (fine i) (listed i) (ground? 16 (when (lt-leb F.phases j hj i) 0)) (ground? 18 (when (not (eq-eqb m (data_count F j) h i)) 0)) (ground? 26 (when (sym e i) 0)))
            (bit_count F w j))

-- ---- what an answer tells

told_refused : (f : Finding) (k g place : ℕ) → refused_by g place ≡ count_or f k → f ≡ refused_by g place
told_refused (Ok tt) k g place e = let z : ◌≡◌ {A = ℕ} 0 1 = cc in absurd (omega arith)
told_refused (Err r) k g place e = cc

told_count_lem : (f : Finding) (k need : ℕ) → Ok need ≡ count_or f k → (f ≡ Ok tt) × (need ≡ k)
told_count_lem (Ok tt) k need e = (refl, cc)
told_count_lem (Err r) k need e = let z : ◌≡◌ {A = ℕ} 0 1 = cc in absurd (omega arith)

-- ---- filling

module _ (d : Device) (s w : List ℕ) (j : ℕ) (stream : List ℕ) (a : ℕ) (room : List ℕ) where
  abbrev G : Frame
  G = frame_of d (plan_of s)

  abbrev of_fill : Finding
  of_fill = fill_grounds G w j (length room) (length stream) a

  fill_by : Finding → Filling
  fill_by f = elim f [ Ok _ ↦ fills (Ok (bit_count G w j)) (filled_from (data_loads G w j) stream a) | Err r ↦ fills (Err r) room ]

  fill_merged : (f : Finding) → fill_by (f else of_fill) ≡ elim f [ Ok _ ↦ frame_fill G w j stream a room | Err r ↦ fills (Err r) room ]
  unfolding fill_by frame_fill
  fill_merged (Ok tt) = refl
  fill_merged (Err r) = refl

  fill_found : (f : Finding) → (grounds1to15 d s else of_fill) ≡ f → fill_by f ≡ fill_step d s w j stream a room
  unfolding fill_step
  fill_found f e = ap fill_by (sym e) ∙ fill_merged (grounds1to15 d s)

  pub fill_refused : (g place : ℕ) → refused_by g place ≡ measure d s w j (length room) (length stream) a → fills (refused_by g place) room ≡ fill_step d s w j stream a room
  unfolding measure fill_by
  fill_refused g place e = fill_found (refused_by g place) (told_refused _ (bit_count G w j) g place e)

  pub fill_counted : (need : ℕ) (left : List ℕ) → Ok need ≡ measure d s w j (length room) (length stream) a → left ≡ filled_from (data_loads G w j) stream a
      → fills (Ok need) left ≡ fill_step d s w j stream a room
  unfolding measure fill_by
  fill_counted need left e is =
      let t = told_count_lem _ (bit_count G w j) need e in
      (λ i. fills (Ok (t.1 i)) (is i)) ∙ fill_found (Ok tt) t.0

-- ---- the way back

module _ (d : Device) (s w : List ℕ) (j : ℕ) (ds : List ℕ) (a : ℕ) (stream : List ℕ) where
  abbrev H : Frame
  H = frame_of d (plan_of s)

  abbrev before_19 : Finding
  before_19 = fill_grounds H w j (length ds) (length stream) a

  unfill_by : Finding → Filling
  unfill_by f = elim f [ Ok _ ↦ fills (Ok (bit_count H w j)) (unfilled_into (data_loads H w j) ds stream a) | Err r ↦ fills (Err r) stream ]

  -- in stages: the plan's, then those before 19, then 19
  unfill_merged : (f g h : Finding) → unfill_by ((f else g) else h) ≡ elim f [ Ok _ ↦ unfill_by (g else h) | Err r ↦ fills (Err r) stream ]
  unfolding unfill_by
  unfill_merged (Ok tt) g h = refl
  unfill_merged (Err r) g h = refl

  unfill_found : (f g : Finding) → (grounds1to15 d s else before_19) ≡ f → ground19 H w j ds ≡ g → unfill_by (f else g) ≡ unfill_step d s w j ds a stream
  unfolding unfill_step frame_unfill unfill_grounds unfill_by
  unfill_found f g e q = (λ i. unfill_by (sym e i else sym q i)) ∙ unfill_merged (grounds1to15 d s) before_19 (ground19 H w j ds)

  pub unfill_refused : (g place : ℕ) → refused_by g place ≡ measure d s w j (length ds) (length stream) a → fills (refused_by g place) stream ≡ unfill_step d s w j ds a stream
  unfolding measure unfill_by
  unfill_refused g place e = unfill_found (refused_by g place) (ground19 H w j ds) (told_refused _ (bit_count H w j) g place e) refl

  -- what is put back where no ground before 19 holds
  pub unfill_put : (need : ℕ) (ls : List ℕ) → Ok need ≡ measure d s w j (length ds) (length stream) a → ls ≡ data_loads H w j → put_back ls ds need stream a ≡ unfill_step d s w j ds a stream
  unfolding measure unfill_by put_back ground19
  unfill_put need ls e is =
      let t = told_count_lem _ (bit_count H w j) need e in
      (λ i. elim (ground? 19 (lowest (λ k. ltb (load_limit (get_or (is i) k 0)) (get_or ds k 0)) (length ds))) [
        | Ok _ ↦ fills (Ok (t.1 i)) (unfilled_into (is i) ds stream a)
        | Err r ↦ fills (Err r) stream
      ])
      ∙ unfill_found (Ok tt) (ground19 H w j ds) t.0 refl

-- ---- what is measured

module _ (d : Device) (s w : List ℕ) (j m n a need : ℕ) (e : Ok need ≡ measure d s w j m n a) where
  -- the number of bits
  pub need_is : need ≡ bit_count (frame_of d (plan_of s)) w j
  unfolding measure
  need_is = (told_count_lem (grounds1to15 d s else fill_grounds (frame_of d (plan_of s)) w j m n a) (bit_count (frame_of d (plan_of s)) w j) need e).1

  -- no load is above 14
  pub loads_small : (ls : List ℕ) → ls ≡ data_loads (frame_of d (plan_of s)) w j → (c : ℕ) → c < length ls → get_or ls c 0 ≤ 14
  unfolding measure fill_grounds
  loads_small ls is c h =
      let t = (told_count_lem _ (bit_count (frame_of d (plan_of s)) w j) need e).0 in
      let f = (both_fine (ground25 (frame_of d (plan_of s)).width w) _ (both_fine (grounds1to15 d s) _ t).1).0 in
      rw is (loads.loads_small (frame_of d (plan_of s)) w j f c (omega (arith, ap length is)))

-- what the loops are given: the loads ls, what they add up to, and the bit at which they start in a stream of n bytes
pub record Taken (ls : List ℕ) (need start at n : ℕ) : Type 0 where
  pub small : (c : ℕ) → c < length ls → get_or ls c 0 ≤ 14
  pub sum : need ≡ total ls
  pub none : total ls ≡ 0 → at ≡ 0
  pub some : 0 < total ls → at ≡ start
  pub fits : at + total ls ≤ n * 8

pub taken : (d : Device) (s w : List ℕ) (j m n a need : ℕ) (loads : List ℕ) → Ok need ≡ measure d s w j m n a → Measured (frame_of d (plan_of s)) w j m n a loads
    → (at : ℕ) → (need ≡ 0 → at ≡ 0) → (0 < need → at ≡ a) → Taken (take m loads) need a at n
unfolding bit_count
taken d s w j m n a need loads e t at none some =
    let is = t.these in
    let sum : need ≡ total (take m loads) = need_is d s w j m n a need e ∙ sym (ap total is) in
    record {
      small = loads_small d s w j m n a need e (take m loads) is;
      sum = sum;
      none = λ z. none (sum ∙ z);
      some = λ z. some (omega (arith, sum, z));
      fits = start_fits (take m loads) a at (λ z. none (sum ∙ z)) (λ z. some (omega (arith, sum, z))) n (λ z. rw is (t.there (omega (arith, ap total is, z))));
    }
