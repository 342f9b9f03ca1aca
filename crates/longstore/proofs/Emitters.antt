-- An emitter with the short store and one with the long store, started at the same phase, do the same. Assumes nothing.
use Prim.Native.Nat.{ℕ, zero, suc, ◌+◌, ◌-◌, ◌*◌, ◌/◌, ◌%◌, ◌≤◌, ◌<◌}
use mathlib.Core.Path.{◌≡◌, refl, sym, ap, subst, ◌∙◌}
use mathlib.Core.Bool.{not, ◌||◌}
use mathlib.Core.List.{List, map}
use native.Mathlib.Nat.{mod-eq_of_lt, not-suc-le-zero, zero-add}
use native.Mathlib.Omega.{arith}
use lib.Arith.{digits_div, digits_mod, digits_lt}
use lib.Dec.{leb, ltb, eqb}
use lib.ListN.{length, get_or}
use lib.Seq.{length-sets}
use borrow.Author.Tests.{lt-leb, le-ltb}
use Rattle.counting.specs.Search.{when, tabulate}
use Rattle.counting.proofs.Bools.{or_false}
use Rattle.counting.proofs.Lists.{length_tabulate, get_d_tabulate, get_or-sets_0}
use Rattle.rules.specs.Refusals.{refused_step, Finding, refused_by}
use Rattle.std.specs.Prelude.{Ok, Err, is_ok}
use Rattle.rules.specs.Grounds.{◌else◌, ground?}
use Rattle.rules.specs.Frame.{Frame, cells, delay, next_phase, phase_back, Given, flush, input_cells, line_symbol}
use Rattle.rules.specs.Store.{emitter_places, fresh_store}
use Rattle.rules.specs.Steps.{Emitter, Send, Sending, refused, ground16, short_store, ground17, profile_ground, given_grounds, send_grounds, next_state, sent_store, sent_symbol, accepted, frame_step, start_grounds}
use Rattle.frame.proofs.Cells.{Sound, length_input}
use Rattle.runs.specs.Results.{send_result}
use Rattle.runs.specs.Run.{emitter_left, sendings, input, sent}
use Rattle.runs.proofs.Steps.{frame_entries, as_given, not_refused, FreshIn, fresh_emitter}
use Rattle.runs.proofs.Results.{same_results, same_accepted}
use Rattle.runs.proofs.Emit.{delay_below, fresh_at, closed_sent, sent_closed}
use Rattle.longstore.specs.Store as long-store
use Rattle.longstore.specs.Store.{cell_at, fresh_cell}
use Rattle.longstore.specs.Steps as long
use Rattle.longstore.specs.Run as long-run
use Rattle.longstore.specs.Run.{emitter_without_row}
use Rattle.longstore.specs.Same.{long_send_result, SameSent}
use Rattle.longstore.proofs.Rows.{Agree, row_back, same_cells, agree_next}
use Rattle.longstore.proofs.Entries.{long_frame}

-- ---- one step

-- the states are the same but for the row, and the stores hold the same
record Alike (F : Frame) (e : Emitter) (l : long.Emitter) : Type 0 where
  state : e.state ≡ emitter_without_row l.state
  stores : Agree (delay F) F.depth (cells F) l.state.row e.store l.store

-- the results of a step are the same, and what it leaves is alike
abbrev SameStep : Frame → Sending → long.Sending → Type 0
SameStep F r q = (send_result r ≡ long_send_result q) × Alike F (emitter_left r) (long-run.emitter_left q)

module _ (F : Frame) (ok : Sound F) (e : Emitter) (l : long.Emitter) (a : Send) (alike : Alike F e l) where
  same_grounds : send_grounds F e a ≡ long.send_grounds F l a
  unfolding send_grounds ground16 ground17 short_store emitter_places long.send_grounds long.state_ground16 long.ground17 long.short_store
  same_grounds =
      let j : leb F.phases e.state.phase ≡ (leb F.phases l.state.phase || leb F.depth l.state.row) =
      rw (alike.state, lt-leb F.depth l.state.row alike.stores.row_in) (sym (or_false (leb F.phases l.state.phase))) in
      let s : ltb (length e.store) (emitter_places F) ≡ ltb (length l.store) (F.depth * cells F) =
      le-ltb (length e.store) (emitter_places F) alike.stores.places_fit ∙ sym (le-ltb (length l.store) (F.depth * cells F) alike.stores.rows_fit) in
      λ i.
      profile_ground F a.profile a.given
      else ground? 16 (when (j i) 0)
      else ground? 17 (when (s i || not (eqb (length a.room) F.width)) 0)
      else given_grounds F a.profile (alike.state i).phase a.given

  same_symbol : sent_symbol F e a.given ≡ long.sent_symbol F l a.given
  unfolding sent_symbol long.sent_symbol long.sent_store
  same_symbol =
      rw alike.state
      (ap (line_symbol F)
      (same_cells (delay F) F.depth (cells F) (delay_below F ok) l.state.row e.store l.store (input_cells F l.state.phase a.given) (length_input F l.state.phase a.given) alike.stores))

  same_store : Agree (delay F) F.depth (cells F) (long.next_state F l.state).row (sent_store F e a.given) (long.sent_store F l a.given)
  unfolding sent_store long.sent_store long.next_state
  same_store =
      rw alike.state
      (agree_next (delay F) F.depth (cells F) (delay_below F ok) l.state.row e.store l.store (input_cells F l.state.phase a.given) (length_input F l.state.phase a.given) alike.stores)

  -- the step that finds f, with either store
  after : Finding → Sending
  after f = elim f [ Ok _ ↦ accepted F e a.given | Err r ↦ refused e a r ]

  long_after : Finding → long.Sending
  long_after f = elim f [ Ok _ ↦ long.accepted F l a.given | Err r ↦ long.refused l a r ]

  same_after : (f : Finding) → SameStep F (after f) (long_after f)
  unfolding after accepted next_state long_after long.accepted long.next_state
  same_after (Ok tt) = (
    λ i. (Ok (record { phase = next_phase F (alike.state i).phase }), same_symbol i),
    record { state = λ i. record { phase = next_phase F (alike.state i).phase }; stores = same_store },
  )
  same_after (Err r) = (λ i. (refused_step r (alike.state i), a.room), alike)

  same_step : SameStep F (frame_step F e a) (long.frame_step F l a)
  unfolding frame_step after long.frame_step long_after
  same_step = subst (λ (f : Finding). SameStep F (after (send_grounds F e a)) (long_after f)) same_grounds (same_after (send_grounds F e a))

-- ---- a fresh start

module _ (F : Frame) (ok : Sound F) (j : ℕ) (lent : List ℕ) (fits : F.depth * cells F ≤ length lent) where
  -- row k of the long store
  long_fresh_at : (k p : ℕ) → 0 < k → k < F.depth → p < cells F
      → cell_at (cells F) (long-store.fresh_store F j lent) k p ≡ get_or (input_cells F (phase_back F j (F.depth - k)) flush) p 0
  unfolding long-store.fresh_store cell_at fresh_cell
  long_fresh_at zero p z h hp = absurd (not-suc-le-zero z)
  long_fresh_at (suc k) p z h hp =
      let f : ℕ → ℕ = λ i. fresh_cell F j (i / cells F) (i % cells F) in
      let l : suc k * cells F + p < F.depth * cells F = digits_lt h hp in
      get_or-sets_0 lent (tabulate f (F.depth * cells F)) 0 (suc k * cells F + p) (rw length_tabulate l) (rw length_tabulate fits)
      ∙ get_d_tabulate f (F.depth * cells F) 0 (suc k * cells F + p) l
      ∙ rw (digits_div (suc k) hp, digits_mod (suc k) hp) refl

  -- the row e back from row 0
  long_fresh_back : (e p : ℕ) → 0 < e → e < F.depth → p < cells F
      → cell_at (cells F) (long-store.fresh_store F j lent) (row_back F.depth 0 e) p ≡ get_or (input_cells F (phase_back F j e) flush) p 0
  long_fresh_back e p pos he hp =
      let k : F.depth - (F.depth - e) ≡ e = omega arith in
      rw (zero-add (F.depth - e), mod-eq_of_lt (let h : F.depth - e < F.depth = omega arith in h))
      (rw k at (long_fresh_at (F.depth - e) p (omega arith) (omega arith) hp))

  lent_alike : (e : Emitter) → FreshIn F j e → Alike F e (record { state = record { phase = j; row = 0 }; store = long-store.fresh_store F j lent })
  unfolding fresh_emitter fresh_store emitter_places long-store.fresh_store
  lent_alike e fresh =
      rw fresh.is_fresh
      (record {
        state = refl;
        stores = record {
          row_in = ok.depth_pos;
          places_fit = rw length-sets fresh.fits;
          rows_fit = rw length-sets fits;
          same = λ p i hp hi.
              fresh_at F ok j fresh.phase_in fresh.lent fresh.fits p i hp hi
              ∙ sym (long_fresh_back (delay F p - i) p (omega arith) (omega (arith, delay_below F ok p)) hp);
        };
      })

-- the emitter that an answer and a store make, u where the answer refuses
emitter_in : long.Emitter → long.Starting → long.Emitter
emitter_in u x = elim x.answer [ Ok e ↦ record { state = e; store = x.store } | Err _ ↦ u ]

fresh_alike : (F : Frame) → Sound F → (j : ℕ) (e : Emitter) (l : long.Emitter) → FreshIn F j e → (lent : List ℕ)
    → long.frame_start F j lent ≡ long.starts (Ok l.state) l.store → Alike F e l
unfolding emitter_in start_grounds short_store long.frame_start long.start_grounds long.short_store
fresh_alike F ok j e l fresh lent start =
    let r = not_refused F (F.depth * cells F) j lent (long.starts (Ok (record { phase = j; row = 0 })) (long-store.fresh_store F j lent))
    (λ n place. long.starts (refused_by n place) lent) (λ (x : long.Starting). is_ok x.answer) (long.starts (Ok l.state) l.store) start refl (λ n place. refl) in
    subst (λ (x : long.Starting). Alike F e (emitter_in l x)) r.1 (lent_alike F ok j lent r.0.fits e fresh)

-- ---- a run

module _ (F : Frame) (ok : Sound F) (j : ℕ) (e : Emitter) (l : long.Emitter) (fresh : FreshIn F j e) (long-fresh : long-run.Fresh (long_frame F) j l) where
  alike : Alike F e l
  alike = fresh_alike F ok j e l fresh long-fresh.lent long-fresh.start

  same_inputs : (steps : List Send) → input (frame_entries F) e steps ≡ long-run.input (long_frame F) l steps
  unfolding input long-run.input
  same_inputs steps =
      ap (λ (given : Send → Given). map (λ x. given x.0) (sendings (frame_entries F) e steps)) (λ i a. as_given a.given i)
      ∙ same_accepted (frame_step F) emitter_left send_result (long.frame_step F) long-run.emitter_left long_send_result (Alike F) (same_step F ok) (λ r. is_ok r.0) (λ a r. a.given) e l steps alike

  same_sent : (steps : List Send) → sent (frame_entries F) e steps ≡ long-run.sent (long_frame F) l steps
  unfolding sent long-run.sent
  same_sent steps =
      same_accepted (frame_step F) emitter_left send_result (long.frame_step F) long-run.emitter_left long_send_result (Alike F) (same_step F ok) (λ r. is_ok r.0) (λ a r. r.1) e l steps alike

  pub emitter_alike : SameSent (frame_entries F) (long_frame F) e l
  emitter_alike = record {
    each_step = λ steps. same_results (frame_step F) emitter_left send_result (long.frame_step F) long-run.emitter_left long_send_result (Alike F) (same_step F ok) e l steps alike;
    inputs = same_inputs;
    symbols = λ steps steps' is.
        sent_closed F j e fresh steps ok ∙ ap (closed_sent F j) (is ∙ sym (same_inputs steps')) ∙ sym (sent_closed F j e fresh steps' ok) ∙ same_sent steps';
  }
