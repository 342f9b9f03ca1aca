-- A receiver with the short store and one with the long store, started at the same phase, do the same. Assumes nothing.
use Prim.Native.Nat.{ℕ, ◌+◌, ◌-◌, ◌*◌, ◌≤◌, ◌<◌}
use mathlib.Core.Path.{◌≡◌, refl, sym, ap, subst, ◌∙◌}
use mathlib.Core.Bool.{not, ◌||◌}
use mathlib.Core.List.{List}
use native.Mathlib.Nat.{mod-lt}
use native.Mathlib.Omega.{arith}
use lib.Arith.{digits_lt}
use lib.Dec.{leb, ltb, eqb}
use lib.ListN.{length, get_or, replicate, length-replicate, get_or-replicate}
use lib.Seq.{sets, length-sets}
use borrow.Author.Tests.{lt-leb, le-ltb}
use Rattle.counting.specs.Search.{when}
use Rattle.counting.proofs.Bools.{or_false, by_test}
use Rattle.counting.proofs.Lists.{get_or-sets_0}
use Rattle.rules.specs.declared.Heard.TheVariants.{Warming, Data}
use Rattle.rules.specs.Refusals.{refused_step, Finding, refused_by}
use Rattle.std.specs.Prelude.{Ok, Err, is_ok}
use Rattle.rules.specs.Grounds.{◌else◌, ground?}
use Rattle.rules.specs.Frame.{Frame, cells, filler, line_cells, data_of}
use Rattle.rules.specs.Places.{receiver_delay, places_before}
use Rattle.rules.specs.Store.{receiver_places, filler_store}
use Rattle.rules.specs.Steps.{short_store, start_grounds}
use Rattle.rules.specs.Loads.{ground25}
use Rattle.rules.specs.Receive.{Receiver, Arrival, Receiving, turned_away, warming, out_phase, out_count, short_buffer, receiver_ground16, receiver_ground17, ground20, receive_grounds, heard_state, heard_store, handed, received, frame_receive}
use Rattle.frame.proofs.Cells.{Sound, length_line_cells}
use Rattle.places.proofs.Kept.{start_grow}
use Rattle.runs.specs.Results.{receive_result}
use Rattle.runs.specs.Run.{receiver_left, outcome_of, heard, outcomes}
use Rattle.runs.proofs.Steps.{frame_entries, not_refused}
use Rattle.runs.proofs.Hears.{ListensIn, fresh_receiver}
use Rattle.runs.proofs.Results.{same_results, same_accepted}
use Rattle.runs.proofs.Outcomes.{closed_outcomes, outcomes_closed}
use Rattle.longstore.specs.Store as long-store
use Rattle.longstore.specs.Store.{cell_at}
use Rattle.longstore.specs.Steps as long-steps
use Rattle.longstore.specs.Receive as long
use Rattle.longstore.specs.Run as long-run
use Rattle.longstore.specs.Run.{receiver_without_row}
use Rattle.longstore.specs.Same.{long_receive_result, SameReceived}
use Rattle.longstore.proofs.Rows.{Agree, row_back, same_cells, agree_next}
use Rattle.longstore.proofs.Entries.{long_frame}

-- ---- one step

-- the states are the same but for the row, and the stores hold the same
record Alike (F : Frame) (v : Receiver) (l : long.Receiver) : Type 0 where
  state : v.state ≡ receiver_without_row l.state
  stores : Agree (receiver_delay F.depth) F.depth (cells F) l.state.row v.store l.store

-- the results of a step are the same, and what it leaves is alike
abbrev SameStep : Frame → Receiving → long.Receiving → Type 0
SameStep F r q = (receive_result r ≡ long_receive_result q) × Alike F (receiver_left r) (long-run.receiver_left q)

below : (F : Frame) → Sound F → (p : ℕ) → receiver_delay F.depth p < F.depth
below F ok p = omega (arith, ok.depth_pos)

module _ (F : Frame) (ok : Sound F) (v : Receiver) (l : long.Receiver) (a : Arrival) (alike : Alike F v l) where
  same_grounds : receive_grounds F v a ≡ long.receive_grounds F l a
  unfolding receive_grounds receiver_ground16 receiver_ground17 short_store receiver_places short_buffer warming
      long.receive_grounds long.receiver_ground16 long.receiver_ground17 long-steps.short_store long.short_buffer long.warming
  same_grounds =
      let j : leb F.phases v.state.phase ≡ (leb F.phases l.state.phase || leb F.depth l.state.row) =
      rw (alike.state, lt-leb F.depth l.state.row alike.stores.row_in) (sym (or_false (leb F.phases l.state.phase))) in
      let s : ltb (length v.store) (receiver_places F) ≡ ltb (length l.store) (F.depth * cells F) =
      le-ltb (length v.store) (receiver_places F) alike.stores.places_fit ∙ sym (le-ltb (length l.store) (F.depth * cells F) alike.stores.rows_fit) in
      λ i.
      ground25 F.width a.profile
      else ground? 16 (when (j i || leb F.depth (alike.state i).heard) 0)
      else ground? 17 (when (s i || not (eqb (length a.symbol) F.width) || short_buffer F (alike.state i) a.buffer) 0)
      else ground20 F a.profile (alike.state i).phase a.symbol

  same_handed : handed F v a.symbol ≡ long.handed F l a.symbol
  unfolding handed long.handed long.heard_store
  same_handed =
      rw alike.state
      (ap (data_of F (out_phase F l.state.phase))
      (same_cells (receiver_delay F.depth) F.depth (cells F) (below F ok) l.state.row v.store l.store (line_cells F a.symbol) (length_line_cells F a.symbol) alike.stores))

  same_state : heard_state F v.state ≡ receiver_without_row (long.heard_state F l.state)
  unfolding heard_state warming long.heard_state long.warming
  same_state = ap (heard_state F) alike.state

  left_alike : Alike F (record { state = heard_state F v.state; store = heard_store F v a.symbol }) (record { state = long.heard_state F l.state; store = long.heard_store F l a.symbol })
  unfolding heard_store long.heard_store long.heard_state
  left_alike = record {
    state = same_state;
    stores =
        agree_next (receiver_delay F.depth) F.depth (cells F) (below F ok) l.state.row v.store l.store (line_cells F a.symbol) (length_line_cells F a.symbol) alike.stores;
  }

  same_received : SameStep F (received F v a) (long.received F l a)
  unfolding received long.received
  same_received =
      let w : long.warming F l.state ≡ warming F v.state = unfold warming long.warming in sym (ap (warming F) alike.state) in
      by_test (warming F v.state)
      (λ q. rw (q, w ∙ q) (λ i. (Ok (Warming (same_state i)), a.buffer), left_alike))
      (λ q. rw (q, w ∙ q) (λ i. (Ok (Data (same_state i) (out_count F (alike.state i))), sets a.buffer 0 (same_handed i)), left_alike))

  -- the step that finds f, with either store
  after : Finding → Receiving
  after f = elim f [ Ok _ ↦ received F v a | Err r ↦ turned_away v a r ]

  long_after : Finding → long.Receiving
  long_after f = elim f [ Ok _ ↦ long.received F l a | Err r ↦ long.turned_away l a r ]

  same_after : (f : Finding) → SameStep F (after f) (long_after f)
  unfolding after long_after
  same_after (Ok tt) = same_received
  same_after (Err r) = (λ i. (refused_step r (alike.state i), a.buffer), alike)

  same_step : SameStep F (frame_receive F v a) (long.frame_receive F l a)
  unfolding frame_receive after long.frame_receive long_after
  same_step = subst (λ (f : Finding). SameStep F (after (receive_grounds F v a)) (long_after f)) same_grounds (same_after (receive_grounds F v a))

-- ---- a fresh start: filler in every place and row

place_filler : (F : Frame) (lent : List ℕ) (k : ℕ) → receiver_places F ≤ length lent → k < receiver_places F → get_or (filler_store F lent) k 0 ≡ filler
unfolding filler_store
place_filler F lent k fits h =
    get_or-sets_0 lent (replicate (receiver_places F) filler) 0 k (rw length-replicate h) (rw length-replicate fits) ∙ get_or-replicate (receiver_places F) k filler 0 h

row_filler : (F : Frame) (lent : List ℕ) (r p : ℕ) → F.depth * cells F ≤ length lent → r < F.depth → p < cells F → cell_at (cells F) (long-store.filler_store F lent) r p ≡ filler
unfolding long-store.filler_store cell_at
row_filler F lent r p fits hr hp =
    let h : r * cells F + p < F.depth * cells F = digits_lt hr hp in
    get_or-sets_0 lent (replicate (F.depth * cells F) filler) 0 (r * cells F + p) (rw length-replicate h) (rw length-replicate fits)
    ∙ get_or-replicate (F.depth * cells F) (r * cells F + p) filler 0 h

lent_alike : (F : Frame) → Sound F → (j : ℕ) (lent : List ℕ) → F.depth * cells F ≤ length lent → (v : Receiver) → ListensIn F j v
    → Alike F v (record { state = record { phase = j; row = 0; heard = 0 }; store = long-store.filler_store F lent })
unfolding fresh_receiver filler_store receiver_places long-store.filler_store
lent_alike F ok j lent fits v fresh =
    rw fresh.is_fresh
    (record {
      state = refl;
      stores = record {
        row_in = ok.depth_pos;
        places_fit = rw length-sets fresh.fits;
        rows_fit = rw length-sets fits;
        same = λ p i hp hi.
            place_filler F fresh.lent (places_before (receiver_delay F.depth) p + i) fresh.fits (omega (arith, start_grow (receiver_delay F.depth) p (cells F) hp))
            ∙ sym (row_filler F lent (row_back F.depth 0 (receiver_delay F.depth p - i)) p fits (mod-lt _ ok.depth_pos) hp);
      };
    })

-- the receiver that an answer and a store make, u where the answer refuses
receiver_in : long.Receiver → long.Listening → long.Receiver
receiver_in u x = elim x.answer [ Ok v ↦ record { state = v; store = x.store } | Err _ ↦ u ]

fresh_alike : (F : Frame) → Sound F → (j : ℕ) (v : Receiver) (l : long.Receiver) → ListensIn F j v → (lent : List ℕ)
    → long.frame_listen F j lent ≡ long.listens (Ok l.state) l.store → Alike F v l
unfolding receiver_in start_grounds short_store long.frame_listen long-steps.start_grounds long-steps.short_store
fresh_alike F ok j v l fresh lent start =
    let r = not_refused F (F.depth * cells F) j lent (long.listens (Ok (record { phase = j; row = 0; heard = 0 })) (long-store.filler_store F lent))
    (λ n place. long.listens (refused_by n place) lent) (λ (x : long.Listening). is_ok x.answer) (long.listens (Ok l.state) l.store) start refl (λ n place. refl) in
    subst (λ (x : long.Listening). Alike F v (receiver_in l x)) r.1 (lent_alike F ok j lent r.0.fits v fresh)

-- ---- a run

module _ (F : Frame) (ok : Sound F) (j : ℕ) (v : Receiver) (l : long.Receiver) (fresh : ListensIn F j v) (long-fresh : long-run.FreshReceiver (long_frame F) j l) where
  alike : Alike F v l
  alike = fresh_alike F ok j v l fresh long-fresh.lent long-fresh.start

  same_heard : (steps : List Arrival) → heard (frame_entries F) v steps ≡ long-run.heard (long_frame F) l steps
  unfolding heard long-run.heard
  same_heard steps =
      same_accepted (frame_receive F) receiver_left receive_result (long.frame_receive F) long-run.receiver_left long_receive_result (Alike F) (same_step F ok)
      (λ r. is_ok r.0) (λ a r. a.symbol) v l steps alike

  same_outcomes : (steps : List Arrival) → outcomes (frame_entries F) v steps ≡ long-run.outcomes (long_frame F) l steps
  unfolding outcomes long-run.outcomes
  same_outcomes steps =
      same_accepted (frame_receive F) receiver_left receive_result (long.frame_receive F) long-run.receiver_left long_receive_result (Alike F) (same_step F ok)
      (λ r. is_ok r.0) (λ a r. outcome_of r.0 r.1) v l steps alike

  pub receiver_alike : SameReceived (frame_entries F) (long_frame F) v l
  receiver_alike = record {
    each_step = λ steps. same_results (frame_receive F) receiver_left receive_result (long.frame_receive F) long-run.receiver_left long_receive_result (Alike F) (same_step F ok) v l steps alike;
    accepted = same_heard;
    handed_out = λ steps steps' is.
        outcomes_closed F ok j v fresh steps ∙ ap (closed_outcomes F j) (is ∙ sym (same_heard steps')) ∙ sym (outcomes_closed F ok j v fresh steps') ∙ same_outcomes steps';
  }
