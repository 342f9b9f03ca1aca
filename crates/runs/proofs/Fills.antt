-- Filling and the way back under an accepted plan and a profile: when they are not refused, and what they leave. Assumes nothing.
use Prim.Native.Nat.{ℕ, ◌-◌, ◌*◌, ◌≤◌, ◌<◌}
use mathlib.Core.Path.{◌≡◌, refl, sym, ap, ◌∙◌}
use mathlib.Core.Bool.{not}
use mathlib.Core.List.{List}
use native.Mathlib.Omega.{arith}
use lib.Dec.{ltb}
use lib.ListN.{length, get_or}
use borrow.Author.Tests.{lt-leb, leb-false, le-ltb, ltb-false, eq-eqb, eqb-true, not-false}
use Rattle.counting.specs.Search.{when}
use Rattle.counting.proofs.Laws.{none_lowest}
use Rattle.rules.specs.Refusals.{CountAnswer, Finding, refused_by}
use Rattle.std.specs.Prelude.{Ok, Err}
use Rattle.rules.specs.Grounds.{◌else◌, ground?}
use Rattle.rules.specs.Frame.{Frame, data_count}
use Rattle.rules.specs.Bits.{filled_from, unfilled_into}
use Rattle.rules.specs.Loads.{ground25, load_limit, data_loads, ground19}
use Rattle.rules.specs.Steps.{ground16, ground18}
use Rattle.rules.specs.Filling.{Filling, fills, bit_count, ground26, fill_grounds, unfill_grounds, frame_fill, frame_unfill}
use Rattle.rules.proofs.Findings.{both_fine, when_fine}
use Rattle.rules.proofs.Loads.{below_limit}
use Rattle.frame.proofs.Loads.{length_loads}
use Rattle.bits.proofs.FillLaws.{length_filled, filled_below}
use Rattle.runs.specs.Streams.{bits_taken}
use Rattle.runs.specs.Claims.{InputAt}
use Rattle.runs.proofs.Steps.{frame_entries}

module _ (F : Frame) (w : List ℕ) where
  module _ (j m n a : ℕ) where
    -- no ground of filling m cells at phase j from n bytes, starting at bit a
    pub fill_fine : ground25 F.width w ≡ Ok tt → j < F.phases → m ≡ data_count F j → bit_count F w j ≤ n * 8 - a → fill_grounds F w j m n a ≡ Ok tt
    unfolding fill_grounds ground16 ground18 ground26
    fill_fine listed hj hm hn = λ i.
        listed i
        else ground? 16 (when (lt-leb F.phases j hj i) 0)
        else ground? 18 (when (not (eq-eqb m (data_count F j) hm i)) 0)
        else ground? 26 (when (le-ltb (n * 8 - a) (bit_count F w j) hn i) 0)

    -- and what it says of them
    pub fill_passed : fill_grounds F w j m n a ≡ Ok tt → (j < F.phases) × (m ≡ data_count F j) × (bit_count F w j ≤ n * 8 - a)
    unfolding fill_grounds ground16 ground18 ground26
    fill_passed e =
        let f = (both_fine (ground25 F.width w) (ground16 F j else ground18 F j m else ground26 F w j n a) e).1 in
        let g = both_fine (ground16 F j) (ground18 F j m else ground26 F w j n a) f in
        let h = both_fine (ground18 F j m) (ground26 F w j n a) g.1 in (
          leb-false _ _ (when_fine 16 0 _ g.0),
          eqb-true m (data_count F j) (not-false _ (when_fine 18 0 _ h.0)),
          ltb-false _ _ (when_fine 26 0 _ h.1),
        )

  module _ (j : ℕ) (stream : List ℕ) (a : ℕ) (room : List ℕ) where
    fill_by : Finding → Filling
    fill_by f = elim f [ Ok _ ↦ fills (Ok (bit_count F w j)) (filled_from (data_loads F w j) stream a) | Err r ↦ fills (Err r) room ]

    -- filling that is not refused says how many bits it takes
    pub fills_count : fill_grounds F w j (length room) (length stream) a ≡ Ok tt → (frame_fill F w j stream a room).answer ≡ Ok (bit_count F w j)
    unfolding frame_fill fill_by
    fills_count e = ap (λ (f : Finding). (fill_by f).answer) e

    -- filling that said so
    module _ (n : ℕ) (left : List ℕ) (e : frame_fill F w j stream a room ≡ fills (Ok n) left) where
      told : (f : Finding) → fill_by f ≡ fills (Ok n) left → (f ≡ Ok tt) × (n ≡ bit_count F w j) × (left ≡ filled_from (data_loads F w j) stream a)
      unfolding fill_by
      told (Ok tt) q = (refl, ap (λ (r : Filling). bits_taken r.answer) (sym q), ap (λ (r : Filling). r.left) (sym q))
      told (Err r) q =
          let other : ◌≡◌ {A = CountAnswer} (Err r) (Ok n) = ap (λ (x : Filling). x.answer) q in
          let z : ◌≡◌ {A = ℕ} 0 1 = cc in
          absurd (omega arith)

      pub fill_told_lem : (fill_grounds F w j (length room) (length stream) a ≡ Ok tt) × (n ≡ bit_count F w j) × (left ≡ filled_from (data_loads F w j) stream a)
      unfolding frame_fill fill_by
      fill_told_lem = told (fill_grounds F w j (length room) (length stream) a) e

  -- cells filled from a stream: as many as there are data cells, each within the limit of its load
  pub filled_length : (j : ℕ) (stream : List ℕ) (a : ℕ) → length (filled_from (data_loads F w j) stream a) ≡ data_count F j
  filled_length j stream a = length_filled (data_loads F w j) stream a ∙ length_loads F w j

  pub filled_small : (j : ℕ) (stream : List ℕ) (a c : ℕ) → c < data_count F j → get_or (filled_from (data_loads F w j) stream a) c 0 ≤ load_limit (get_or (data_loads F w j) c 0)
  filled_small j stream a c h =
      below_limit (get_or (data_loads F w j) c 0) _ (filled_below (data_loads F w j) stream a c (rw (length_loads F w j) h))

  -- 19 finds none among them
  pub filled_19 : (j : ℕ) (stream : List ℕ) (a : ℕ) → ground19 F w j (filled_from (data_loads F w j) stream a) ≡ Ok tt
  unfolding ground19
  filled_19 j stream a =
      let ds : List ℕ = filled_from (data_loads F w j) stream a in
      ap (ground? 19)
      (none_lowest (λ c. ltb (load_limit (get_or (data_loads F w j) c 0)) (get_or ds c 0)) (length ds)
      (λ c h. le-ltb _ (get_or ds c 0) (filled_small j stream a c (omega (arith, filled_length j stream a)))))

  -- an emit step may be given them
  pub filled_input : (j : ℕ) (stream : List ℕ) (a n : ℕ) (room left : List ℕ) → frame_fill F w j stream a room ≡ fills (Ok n) left → InputAt F (frame_entries F) w j left
  filled_input j stream a n room left e =
      let is : left ≡ filled_from (data_loads F w j) stream a = (fill_told_lem j stream a room n left e).2 in
      rw is (record { whole = refl; many = filled_length j stream a; small = λ c h. filled_small j stream a c (omega (arith, filled_length j stream a)) })

  -- ---- the way back

  module _ (j : ℕ) (ds : List ℕ) (a : ℕ) (stream : List ℕ) where
    unfill_by : Finding → Filling
    unfill_by f = elim f [ Ok _ ↦ fills (Ok (bit_count F w j)) (unfilled_into (data_loads F w j) ds stream a) | Err r ↦ fills (Err r) stream ]

    pub unfill_accepted : unfill_grounds F w j ds (length stream) a ≡ Ok tt → frame_unfill F w j ds a stream ≡ fills (Ok (bit_count F w j)) (unfilled_into (data_loads F w j) ds stream a)
    unfolding frame_unfill unfill_by
    unfill_accepted e = ap unfill_by e

    pub unfill_refused : (n place : ℕ) → unfill_grounds F w j ds (length stream) a ≡ refused_by n place → frame_unfill F w j ds a stream ≡ fills (refused_by n place) stream
    unfolding frame_unfill unfill_by
    unfill_refused n place e = ap unfill_by e
