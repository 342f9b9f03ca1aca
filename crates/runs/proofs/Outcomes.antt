-- The closed form of a receiver's run: the outcomes of its steps from a fresh start are a function of the frame, the starting phase and the symbols heard alone. Assumes nothing.
use Prim.Native.Nat.{ℕ, suc, ◌+◌, ◌-◌, ◌≤◌, ◌<◌}
use mathlib.Core.Path.{◌≡◌, refl, sym, ap, ap₂, ◌∙◌}
use mathlib.Core.List.{List, [], ◌∷◌, map}
use native.Mathlib.Nat.{mod-lt, mod-eq_of_lt, mod-add-mod, add-zero}
use native.Mathlib.Omega.{arith}
use lib.Dec.{ltb}
use lib.ListN.{length, get_or, length-map}
use lib.Seq.{length-sets}
use borrow.Author.Tests.{le-ltb, ltb-false}
use Rattle.counting.specs.Search.{pick, tabulate}
use Rattle.counting.proofs.Bools.{by_test}
use Rattle.counting.proofs.Lists.{is_tabulate, tabulate_cong, get_or-map_in}
use Rattle.rules.specs.Frame.{Frame, cells, spot, next_phase, data_count, data_of, line_cells}
use Rattle.rules.specs.Places.{receiver_delay}
use Rattle.rules.specs.Store.{receiver_places, filler_store}
use Rattle.rules.specs.Receive as receive
use Rattle.rules.specs.Receive.{Receiver, Arrival, out_phase, receive_grounds, heard_state, heard_store}
use Rattle.places.specs.Sent.{places_sent}
use Rattle.places.proofs.Kept.{late, length_cells}
use Rattle.frame.specs.Counted.{phase_of}
use Rattle.frame.proofs.Cells.{Sound, line_cell}
use Rattle.runs.specs.Run.{accepted_steps, Outcome, warming, handed, heard, outcomes}
use Rattle.runs.specs.Demand3.{sent_number}
use Rattle.rules.proofs.Findings.{by_finding}
use Rattle.runs.proofs.Steps.{frame_entries}
use Rattle.runs.proofs.Hears.{next_heard, outcome_with, heard_fine, heard_ground, outcome_fine, outcome_ground, fresh_receiver, ListensIn}
use Rattle.runs.proofs.Emit.{delay_below}

-- ---- the outcome of each step

module _ (F : Frame) where
  -- the outcome of step i, from the phase j and with h symbols heard before, where step i takes the cells z i from the store
  unfoldable pub outcome_at : ℕ → ℕ → (ℕ → List ℕ) → ℕ → Outcome
  outcome_at j h z i =
      pick (ltb (h + i) (F.depth - 1)) warming (handed (data_count F (out_phase F (phase_of F j i))) (data_of F (out_phase F (phase_of F j i)) (z i)))

  -- the number of symbols heard, one step on
  heard_on : (h i : ℕ) → ltb (pick (ltb h (F.depth - 1)) (h + 1) h + i) (F.depth - 1) ≡ ltb (h + suc i) (F.depth - 1)
  heard_on h i =
      by_test (ltb h (F.depth - 1))
      (λ q. rw q (ap (λ (x : ℕ). ltb x (F.depth - 1)) (let e : h + 1 + i ≡ h + suc i = omega arith in e)))
      (λ q.
      let l : F.depth - 1 ≤ h = ltb-false h (F.depth - 1) q in
      rw q (le-ltb (h + i) (F.depth - 1) (omega arith) ∙ sym (le-ltb (h + suc i) (F.depth - 1) (omega arith))))

  outcome_first : (j h : ℕ) (z : ℕ → List ℕ) → j < F.phases
      → pick (ltb h (F.depth - 1)) warming (handed (data_count F (out_phase F j)) (data_of F (out_phase F j) (z 0))) ≡ outcome_at j h z 0
  unfolding outcome_at
  outcome_first j h z hj = rw (add-zero h, add-zero j, mod-eq_of_lt hj) refl

  outcome_rest : (j h : ℕ) (z : ℕ → List ℕ) (i : ℕ) → outcome_at (next_phase F j) (pick (ltb h (F.depth - 1)) (h + 1) h) (λ i. z (suc i)) i ≡ outcome_at j h z (suc i)
  unfolding outcome_at
  outcome_rest j h z i =
      let e : j + suc i ≡ j + 1 + i = omega arith in
      rw (heard_on h i, e, ← mod-add-mod (j + 1) F.phases i) refl

  -- the cells that steps take from the places of the store s, given the symbols ys
  taken : List ℕ → List (List ℕ) → ℕ → List ℕ
  taken s ys i = get_or (places_sent (receiver_delay F.depth) (cells F) s (map (line_cells F) ys)) i []

  outcomes_taken : (v : Receiver) (steps : List Arrival) → v.state.phase < F.phases
      → outcomes (frame_entries F) v steps
      ≡ tabulate (outcome_at v.state.phase v.state.heard (taken v.store (heard (frame_entries F) v steps))) (length (heard (frame_entries F) v steps))
  unfolding tabulate taken places_sent next_heard heard_state heard_store receive.handed receive.warming outcome_with
  outcomes_taken v [] hj = unfold outcomes heard accepted_steps in refl
  outcomes_taken v (a ∷ rest) hj =
      by_finding (receive_grounds F v a)
      (λ g.
      let w : Receiver = next_heard F v a.symbol in
      let j : ℕ = v.state.phase in
      let h : ℕ = v.state.heard in
      let ys : List (List ℕ) = heard (frame_entries F) w rest in
      let z : ℕ → List ℕ = taken v.store (a.symbol ∷ ys) in
      rw (outcome_fine F v a rest g, heard_fine F v a rest g)
      (ap₂ (λ (x : Outcome) (l : List Outcome). x ∷ l) (outcome_first j h z hj)
      (outcomes_taken w rest (mod-lt (j + 1) (omega arith))
      ∙ tabulate_cong (outcome_at (next_phase F j) (pick (ltb h (F.depth - 1)) (h + 1) h) (taken (heard_store F v a.symbol) ys)) (λ i. outcome_at j h z (suc i)) (length ys)
      (λ i l. outcome_rest j h z i))))
      (λ n place g. rw (outcome_ground F v a rest n place g, heard_ground F v a rest n place g) (outcomes_taken v rest hj))

-- ---- the closed form

-- the cells of input t in the symbols ys: cell p stands p mod M symbols later on the subcarrier of its rank
unfoldable pub gathered_cells : Frame → List (List ℕ) → ℕ → List ℕ
gathered_cells F ys t = tabulate (λ p. get_or (get_or ys (sent_number F t p) []) (spot F p) 0) (cells F)

-- the outcomes of a run from a fresh start at phase j whose accepted steps were given the symbols ys: step i gathers the cells of input i - (M - 1)
unfoldable pub closed_outcomes : Frame → ℕ → List (List ℕ) → List Outcome
closed_outcomes F j ys = tabulate (outcome_at F j 0 (λ i. gathered_cells F ys (i - (F.depth - 1)))) (length ys)

-- what a step takes while it is warming has no part in its outcome
outcomes_gathered : (F : Frame) (j : ℕ) (ys : List (List ℕ)) (z : ℕ → List ℕ) → ((i : ℕ) → F.depth - 1 ≤ i → i < length ys → z i ≡ gathered_cells F ys (i - (F.depth - 1)))
    → tabulate (outcome_at F j 0 z) (length ys) ≡ closed_outcomes F j ys
unfolding closed_outcomes outcome_at
outcomes_gathered F j ys z is =
    tabulate_cong (outcome_at F j 0 z) (outcome_at F j 0 (λ i. gathered_cells F ys (i - (F.depth - 1)))) (length ys)
    (λ i l.
    by_test (ltb (0 + i) (F.depth - 1)) (λ q. rw q refl)
    (λ q. rw (q, is i (let h : F.depth - 1 ≤ i = omega (arith, ltb-false (0 + i) (F.depth - 1) q) in h) l) refl))

-- from M - 1 on a step takes the cells that were gathered, whatever the store s held at the start
module _ (F : Frame) (ok : Sound F) (ys : List (List ℕ)) (s : List ℕ) (fits : receiver_places F ≤ length s) (i : ℕ) (h : F.depth - 1 ≤ i) (l : i < length ys) where
  taken_cell : (p : ℕ) → p < cells F → get_or (taken F s ys i) p 0 ≡ get_or (get_or ys (sent_number F (i - (F.depth - 1)) p) []) (spot F p) 0
  unfolding taken receiver_places
  taken_cell p hp =
      let k : ℕ = sent_number F (i - (F.depth - 1)) p in
      let q : i - receiver_delay F.depth p ≡ k = omega (arith, delay_below F ok p) in
      late (receiver_delay F.depth) (cells F) (map (line_cells F) ys) s fits i p (rw length-map l) hp (omega (arith, h))
      ∙ rw q (ap (λ (x : List ℕ). get_or x p 0) (get_or-map_in (line_cells F) ys k [] [] (omega (arith, delay_below F ok p))) ∙ line_cell F (get_or ys k []) p hp)

  taken_gathered : taken F s ys i ≡ gathered_cells F ys (i - (F.depth - 1))
  unfolding taken gathered_cells
  taken_gathered =
      let n : length (taken F s ys i) ≡ cells F = length_cells (receiver_delay F.depth) (cells F) s (map (line_cells F) ys) i (rw length-map l) in
      is_tabulate (taken F s ys i) (cells F) (λ p. get_or (get_or ys (sent_number F (i - (F.depth - 1)) p) []) (spot F p) 0) n taken_cell

-- a run from a fresh start
module _ (F : Frame) (ok : Sound F) (j : ℕ) where
  lent_closed : (lent : List ℕ) → j < F.phases → receiver_places F ≤ length lent → (arrivals : List Arrival)
      → outcomes (frame_entries F) (fresh_receiver F j lent) arrivals ≡ closed_outcomes F j (heard (frame_entries F) (fresh_receiver F j lent) arrivals)
  unfolding fresh_receiver filler_store
  lent_closed lent hj fits arrivals =
      let ys : List (List ℕ) = heard (frame_entries F) (fresh_receiver F j lent) arrivals in
      outcomes_taken F (fresh_receiver F j lent) arrivals hj
      ∙ outcomes_gathered F j ys (taken F (filler_store F lent) ys) (taken_gathered F ok ys (filler_store F lent) (rw length-sets fits))

  pub outcomes_closed : (v : Receiver) → ListensIn F j v → (arrivals : List Arrival) → outcomes (frame_entries F) v arrivals ≡ closed_outcomes F j (heard (frame_entries F) v arrivals)
  outcomes_closed v fresh arrivals = rw fresh.is_fresh (lent_closed fresh.lent fresh.phase_in fresh.fits arrivals)
