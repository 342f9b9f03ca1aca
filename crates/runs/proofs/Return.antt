-- The receiver hands the input back, and does not refuse the next symbol. Assumes nothing.
use Prim.Native.Nat.{ℕ, ◌+◌, ◌-◌, ◌%◌, ◌≤◌, ◌<◌}
use mathlib.Core.Path.{◌≡◌, refl, ap, ◌∙◌}
use mathlib.Core.Bool.{true, false, not, ◌||◌}
use mathlib.Core.List.{List, []}
use native.Mathlib.Nat.{mod-add-mod, add-mod_right, zero-add}
use native.Mathlib.Omega.{arith}
use lib.Dec.{ltb}
use lib.ListN.{length, get_or, length-take}
use lib.Seq.{get_or-take}
use borrow.Author.Tests.{lt-ltb, le-ltb, ltb-false, eq-eqb}
use Rattle.counting.specs.Search.{when}
use Rattle.counting.proofs.Bools.{by_test}
use Rattle.counting.proofs.Laws.{none_lowest}
use Rattle.counting.proofs.Lists.{get_d_tabulate}
use Rattle.std.specs.Prelude.{Ok, is_ok}
use Rattle.rules.specs.declared.ReceiverState.{ReceiverState}
use Rattle.rules.specs.Grounds.{◌else◌, ground?}
use Rattle.rules.specs.Frame.{Frame, cells, spot, data_count, Given, flush, data_list, input_cells, data_of, fits_role}
use Rattle.rules.specs.Loads.{ground25, limit_at}
use Rattle.rules.specs.Steps.{Emitter, Send}
use Rattle.rules.specs.Receive as receive
use Rattle.rules.specs.Receive.{Receiver, Arrival, out_phase, out_count, short_buffer, wrong_cell, ground20, frame_receive}
use Rattle.frame.specs.Counted.{phase_of}
use Rattle.frame.proofs.Cells.{Sound, data_back, length_line}
use Rattle.runs.specs.Run.{UnderProfile, input, sent, Outcome, warming, handed, refused, heard, outcomes, receiver_after}
use Rattle.runs.specs.Follow.{Follows}
use Rattle.runs.specs.Demand3.{data_cells, sent_number, Returned}
use Rattle.runs.proofs.Steps.{frame_entries, top, list_length, FreshIn}
use Rattle.runs.proofs.Hears.{fine_received, length_outcomes, ListensIn}
use Rattle.runs.proofs.Emit.{closed_cells, delay_below, length_sent, input_top}
use Rattle.runs.proofs.Grounds.{receiver_state, receive_grounds_at, receive_grounds_lem}
use Rattle.runs.proofs.Outcomes.{outcome_at, gathered_cells, closed_outcomes, outcomes_closed}
use Rattle.runs.proofs.Places.{sent_at, cell_stands}

-- ---- one more step

-- no ground refuses a step whose lengths and cells are all right
no_ground : (F : Frame) (j n : ℕ) (a : Arrival) → ground25 F.width a.profile ≡ Ok tt → length a.symbol ≡ F.width → short_buffer F (receiver_state F j n) a.buffer ≡ false
    → ((k : ℕ) → k < F.width → wrong_cell F a.profile (phase_of F j n) a.symbol k ≡ false) → receive_grounds_at F j n a ≡ Ok tt
unfolding receive_grounds_at ground20
no_ground F j n a hp hl hb hw = λ i.
    hp i
    else ground? 17 (when (not (eq-eqb (length a.symbol) F.width hl i) || hb i) 0)
    else ground? 20 (none_lowest (wrong_cell F a.profile (phase_of F j n) a.symbol) F.width hw i)

right_cell : (F : Frame) (w : List ℕ) (j : ℕ) (y : List ℕ) (k : ℕ) → fits_role (limit_at w k) (F.role j k) (get_or y k 0) ≡ true → wrong_cell F w j y k ≡ false
unfolding wrong_cell
right_cell F w j y k h = ap not h

-- the buffer does not matter while warming
enough : (F : Frame) (v : ReceiverState) (b : List ℕ) → (F.depth - 1 ≤ v.heard → out_count F v ≤ length b) → short_buffer F v b ≡ false
unfolding short_buffer receive.warming
enough F v b h =
    by_test (ltb v.heard (F.depth - 1)) (λ q. rw q refl)
    (λ q. rw q (le-ltb (length b) (out_count F v) (h (ltb-false v.heard (F.depth - 1) q))))

-- the phase of the input symbol that comes out M - 1 steps later
out_phase_lem : (F : Frame) → Sound F → (j t : ℕ) → out_phase F (phase_of F j (t + (F.depth - 1))) ≡ phase_of F j t
out_phase_lem F ok j t =
    mod-add-mod (j + (t + (F.depth - 1))) F.phases (F.phases - (F.depth - 1))
    ∙ ap (λ (x : ℕ). x % F.phases)
    (let e : j + (t + (F.depth - 1)) + (F.phases - (F.depth - 1)) ≡ j + t + F.phases = omega (arith, ok.depth_le) in e)
    ∙ add-mod_right (j + t) F.phases

-- unless step n is warming, it is to hand out the data of input n - (M - 1)
out_count_lem : (F : Frame) → Sound F → (j n : ℕ) → F.depth - 1 ≤ n → out_count F (receiver_state F j n) ≡ data_cells F j (n - (F.depth - 1))
out_count_lem F ok j n h =
    let q : n ≡ n - (F.depth - 1) + (F.depth - 1) = omega arith in
    ap (λ (x : ℕ). data_count F (out_phase F (phase_of F j x))) q ∙ ap (data_count F) (out_phase_lem F ok j (n - (F.depth - 1)))

-- ---- a receiver's run that follows an emitter's

module _ (F : Frame) (ok : Sound F) (j : ℕ) (e : Emitter) (fresh : FreshIn F j e) (steps : List Send) (v : Receiver) (listens : ListensIn F j v) (arrivals : List Arrival) where
  abbrev gs : List Given
  gs = input (frame_entries F) e steps

  abbrev ys : List (List ℕ)
  ys = sent (frame_entries F) e steps

  abbrev hs : List (List ℕ)
  hs = heard (frame_entries F) v arrivals

  -- the outcome of step number i
  outcome_at_lem : (i : ℕ) → i < length hs → get_or (outcomes (frame_entries F) v arrivals) i refused ≡ outcome_at F j 0 (λ i. gathered_cells F hs (i - (F.depth - 1))) i
  unfolding closed_outcomes
  outcome_at_lem i h = ap (λ (l : List Outcome). get_or l i refused) (outcomes_closed F ok j v listens arrivals) ∙ get_d_tabulate _ (length hs) refused i h

  warms : (i : ℕ) → i < length hs → i < F.depth - 1 → get_or (outcomes (frame_entries F) v arrivals) i refused ≡ warming
  unfolding outcome_at
  warms i h l = outcome_at_lem i h ∙ rw (zero-add i, lt-ltb i (F.depth - 1) l) refl

  module _ (follows : Follows ys hs) where
    no_more : length hs ≤ length gs
    no_more = omega (arith, ap length follows, length-take (length hs) ys, length_sent F e steps)

    heard_at : (i : ℕ) → i < length hs → get_or hs i [] ≡ get_or ys i []
    heard_at i h = ap (λ (l : List (List ℕ)). get_or l i []) follows ∙ get_or-take (length hs) ys i [] h

    -- cell p gathered by step t + M - 1 is that of input t
    out_cell : (t p : ℕ) → t + (F.depth - 1) < length hs → p < cells F
        → get_or (gathered_cells F hs t) p 0 ≡ get_or (input_cells F (phase_of F j t) (get_or gs t flush)) p 0
    unfolding gathered_cells
    out_cell t p h hp =
        let l : sent_number F t p < length hs = omega (arith, delay_below F ok p) in
        get_d_tabulate _ (cells F) 0 p hp
        ∙ ap (λ (y : List ℕ). get_or y (spot F p) 0) (heard_at (sent_number F t p) l)
        ∙ cell_stands F ok j e fresh steps t p hp (omega (arith, no_more))

    out_data : (t : ℕ) → t + (F.depth - 1) < length hs → data_of F (phase_of F j t) (gathered_cells F hs t) ≡ data_list F (phase_of F j t) (get_or gs t flush)
    out_data t h =
        data_back F (phase_of F j t) (get_or gs t flush) (gathered_cells F hs t)
        (list_length F top (phase_of F j t) (get_or gs t flush) (input_top F j e fresh steps t (omega (arith, no_more))))
        (λ p hp. out_cell t p h hp)

    back : (t : ℕ) → t + (F.depth - 1) < length hs
        → get_or (outcomes (frame_entries F) v arrivals) (t + (F.depth - 1)) refused ≡ handed (data_cells F j t) (data_list F (phase_of F j t) (get_or gs t flush))
    unfolding outcome_at
    back t h =
        let q : t + (F.depth - 1) - (F.depth - 1) ≡ t = omega arith in
        outcome_at_lem (t + (F.depth - 1)) h
        ∙ rw (zero-add (t + (F.depth - 1)), le-ltb (t + (F.depth - 1)) (F.depth - 1) (omega arith), out_phase_lem F ok j t, q) (ap (handed (data_cells F j t)) (out_data t h))

    module _ (w : List ℕ) (listed : ground25 F.width w ≡ Ok tt)
        (fitting : (n k : ℕ) → n < length ys → k < F.width → fits_role (limit_at w k) (F.role (phase_of F j n) k) (get_or (get_or ys n []) k 0) ≡ true) where
      next : (a : Arrival) → a.profile ≡ w → length hs < length ys → a.symbol ≡ get_or ys (length hs) []
          → (F.depth - 1 ≤ length hs → data_cells F j (length hs - (F.depth - 1)) ≤ length a.buffer)
          → is_ok (frame_receive F (receiver_after (frame_entries F) v arrivals) a).answer ≡ true
      next a under h is room =
          let n : ℕ = length hs in
          let l : n < length gs = rw (length_sent F e steps) at h in
          let y : length a.symbol ≡ F.width = ap length (is ∙ sent_at F ok j e fresh steps n l) ∙ length_line F ok.key_inj (closed_cells F j gs n) in
          fine_received F (receiver_after (frame_entries F) v arrivals) a
          (receive_grounds_lem F ok j v listens arrivals a
          ∙ no_ground F j n a (rw under listed) y
          (enough F (receiver_state F j n) a.buffer (λ m. let c : F.depth - 1 ≤ n = omega (arith, m) in rw (out_count_lem F ok j n c) (room c)))
          (λ k hk. rw under (right_cell F w (phase_of F j n) a.symbol k (rw is (fitting n k h hk)))))

-- from a fresh start, if the sent symbols of steps under one profile fit their roles
pub returned : (F : Frame) → Sound F → (j : ℕ) (e : Emitter) → FreshIn F j e → (steps : List Send) (v : Receiver) → ListensIn F j v → (arrivals : List Arrival)
    → ((w : List ℕ) → UnderProfile w steps → (n k : ℕ) → n < length (sent (frame_entries F) e steps) → k < F.width
    → fits_role (limit_at w k) (F.role (phase_of F j n) k) (get_or (get_or (sent (frame_entries F) e steps) n []) k 0) ≡ true)
    → Follows (sent (frame_entries F) e steps) (heard (frame_entries F) v arrivals)
    → Returned F (frame_entries F) j steps (input (frame_entries F) e steps) (sent (frame_entries F) e steps) v arrivals
returned F ok j e fresh steps v listens arrivals fitting follows = record {
  each = length_outcomes F v arrivals;
  warms = warms F ok j e fresh steps v listens arrivals;
  back = back F ok j e fresh steps v listens arrivals follows;
  next = λ w listed under a is u b. next F ok j e fresh steps v listens arrivals follows w listed (fitting w under) a is;
}
