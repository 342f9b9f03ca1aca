-- Two flushed runs from fresh starts at one phase send the same symbols exactly when their inputs are the same. Assumes nothing.
use Prim.Native.Nat.{ℕ, ◌+◌, ◌-◌, ◌≤◌, ◌<◌}
use mathlib.Core.Path.{◌≡◌, refl, sym, ap, ◌∙◌}
use mathlib.Core.Logic.{by_cases, ◌↔◌}
use mathlib.Core.List.{List, []}
use native.Mathlib.Nat.{mod-lt}
use native.Mathlib.Decide.{dec_lt}
use native.Mathlib.Omega.{arith}
use lib.ListN.{length, get_or, get_or-replicate}
use lib.Seq.{ext_get_or}
use Rattle.counting.specs.Search.{select}
use Rattle.rules.specs.Frame.{Frame, cells, spot, delay, is_data, data_count, Given, flush, symbol, data_list, input_cells, filler}
use Rattle.rules.specs.Steps.{Emitter, Send}
use Rattle.frame.specs.Counted.{phase_of}
use Rattle.frame.proofs.Cells.{Sound, data_cell_lem, data_cell_at}
use Rattle.runs.specs.Run.{input, sent}
use Rattle.runs.specs.Follow.{Flushed}
use Rattle.runs.specs.Demand3.{sent_number}
use Rattle.runs.proofs.Steps.{frame_entries, Within, top, list_length, FreshIn}
use Rattle.runs.proofs.Emit.{closed_sent, delay_below, length_sent, sent_closed, input_top}
use Rattle.runs.proofs.Places.{cell_stands}

-- ---- one step: the cells of an input symbol tell what was given

module _ (F : Frame) (j : ℕ) (some : 1 ≤ data_count F j) where
  -- a flush is no data symbol: filler is no data
  differ : (ds : List ℕ) → Within F top j (symbol ds) → data_list F j flush ≡ data_list F j (symbol ds) → ⊥
  unfolding data_list
  differ ds h e =
      let v : get_or ds 0 0 ≡ filler = ap (λ (l : List ℕ). get_or l 0 0) (sym e) ∙ get_or-replicate (data_count F j) 0 filler 0 some in
      let l : 0 < length ds = omega (arith, h.0) in
      omega (arith, h.1 0 l)

  list_inj : (g g' : Given) → Within F top j g → Within F top j g' → data_list F j g ≡ data_list F j g' → g ≡ g'
  list_inj flush flush h h' e = refl
  list_inj flush (symbol ds) h h' e = absurd (differ ds h' e)
  list_inj (symbol ds) flush h h' e = absurd (differ ds h (sym e))
  list_inj (symbol ds) (symbol ds') h h' e = unfold data_list in ap symbol e

  -- input symbols with the same cells were given the same
  given_inj : (g g' : Given) → Within F top j g → Within F top j g'
      → ((q : ℕ) → q < cells F → get_or (input_cells F j g) q 0 ≡ get_or (input_cells F j g') q 0) → g ≡ g'
  given_inj g g' h h' same =
      let n : length (data_list F j g) ≡ data_count F j = list_length F top j g h in
      list_inj g g' h h'
      (ext_get_or 0 (data_list F j g) (data_list F j g') (n ∙ sym (list_length F top j g' h'))
      (λ c l.
      let l' : c < data_count F j = omega arith in
      sym (data_cell_at F j c g l') ∙ same (select (is_data F j) (cells F) c) (data_cell_lem F j c l').below ∙ data_cell_at F j c g' l'))

-- ---- two runs

module _ (F : Frame) (ok : Sound F) (some : (j : ℕ) → j < F.phases → 1 ≤ data_count F j) (j : ℕ) (e e' : Emitter) (fresh : FreshIn F j e) (fresh' : FreshIn F j e')
    (steps steps' : List Send) where
  -- an input of which the runs reach every place
  same_given : (i : ℕ) → sent (frame_entries F) e steps ≡ sent (frame_entries F) e' steps'
      → i + (F.depth - 1) < length (input (frame_entries F) e steps) → i + (F.depth - 1) < length (input (frame_entries F) e' steps')
      → get_or (input (frame_entries F) e steps) i flush ≡ get_or (input (frame_entries F) e' steps') i flush
  same_given i same l l' =
      given_inj F (phase_of F j i) (some (phase_of F j i) (mod-lt (j + i) (omega (arith, fresh.phase_in))))
      (get_or (input (frame_entries F) e steps) i flush) (get_or (input (frame_entries F) e' steps') i flush)
      (input_top F j e fresh steps i (omega arith)) (input_top F j e' fresh' steps' i (omega arith))
      (λ q hq.
      let d : delay F q < F.depth = delay_below F ok q in
      sym (cell_stands F ok j e fresh steps i q hq (omega arith))
      ∙ ap (λ (ys : List (List ℕ)). get_or (get_or ys (sent_number F i q) []) (spot F q) 0) same
      ∙ cell_stands F ok j e' fresh' steps' i q hq (omega arith))

  pub unique : Flushed F.depth (input (frame_entries F) e steps) → Flushed F.depth (input (frame_entries F) e' steps')
      → (sent (frame_entries F) e steps ≡ sent (frame_entries F) e' steps') ↔ (input (frame_entries F) e steps ≡ input (frame_entries F) e' steps')
  unique flushed flushed' = (
    λ same.
        let n : length (input (frame_entries F) e steps) ≡ length (input (frame_entries F) e' steps') =
        sym (length_sent F e steps) ∙ ap length same ∙ length_sent F e' steps' in
        ext_get_or flush (input (frame_entries F) e steps) (input (frame_entries F) e' steps') n
        (λ i h.
        by_cases (dec_lt (i + (F.depth - 1)) (length (input (frame_entries F) e steps)))
        (λ c. same_given i same c (omega arith))
        (λ c. flushed.last i (omega arith) h ∙ sym (flushed'.last i (omega arith) (omega arith)))),
    λ same. sent_closed F j e fresh steps ok ∙ ap (closed_sent F j) same ∙ sym (sent_closed F j e' fresh' steps' ok),
  )
