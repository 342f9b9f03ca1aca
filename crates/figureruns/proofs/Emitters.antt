-- The first and the second emitter, started at the same phase, do the same. Assumes nothing.
use Prim.Native.Nat.{ℕ, ◌+◌, ◌-◌, ◌*◌, ◌/◌, ◌%◌, ◌≤◌, ◌<◌}
use mathlib.Core.Path.{◌≡◌, refl, sym, ap, subst, ◌∙◌}
use mathlib.Core.Bool.{not, ◌||◌}
use mathlib.Core.List.{List, map}
use native.Mathlib.Nat.{mod-lt, div-add-mod'}
use native.Mathlib.Omega.{arith}
use lib.Arith.{digits_div, digits_mod}
use lib.Dec.{leb, ltb, eqb}
use lib.ListN.{length, get_or, replicate}
use lib.Seq.{length-sets}
use borrow.Author.Tests.{le-ltb, lt-ltb}
use Rattle.counting.specs.Search.{when}
use Rattle.rules.specs.Refusals.{refused_step, Finding}
use Rattle.std.specs.Prelude.{Ok, Err, is_ok}
use Rattle.rules.specs.Grounds.{◌else◌, ground?}
use Rattle.rules.specs.Frame.{Frame, cells, delay, next_phase, phase_back, Given, flush, input_cells, line_symbol, filler}
use Rattle.rules.specs.Store.{emitter_places, fresh_store}
use Rattle.rules.specs.Steps as first
use Rattle.rules.specs.Steps.{Emitter, Send, Sending, refused, ground16, short_store, ground17, profile_ground, given_grounds, send_grounds, next_state}
use Rattle.frame.proofs.Cells.{Sound}
use Rattle.figure.specs.Figure.{thrown_away}
use Rattle.figure.specs.Steps as second
use Rattle.figure.specs.Steps.{J, literal_places, ground27, figure_grounds, fresh_place, fresh_literal}
use Rattle.figure.proofs.Sizes.{enough}
use Rattle.figure.proofs.Turns.{turn_below, below_times}
use Rattle.figure.proofs.Fresh as second-fresh
use Rattle.runs.specs.Results.{send_result}
use Rattle.runs.specs.Run.{Entries, emitter_left, sendings, input, sent, emitter_after}
use Rattle.runs.proofs.Results.{same_results, same_accepted, alike_after}
use Rattle.runs.proofs.Steps.{frame_entries, as_given, FreshIn, fresh_emitter}
use Rattle.runs.proofs.Emit.{fresh_at, closed_sent, sent_closed}
use Rattle.figureruns.specs.Same.{with_emitter, SameSent}
use Rattle.figureruns.proofs.Stores.{Agree, line_place, same_cells, agree_next, all_filler}

-- the second emitter's entries under an accepted plan whose frame is F
abbrev pub figure_frame : Frame → Entries
figure_frame F = with_emitter (second.frame_start F) (second.frame_step F) (frame_entries F)

-- ---- one step

-- the states are the same, and the stores hold the same
record Alike (F : Frame) (e g : Emitter) : Type 0 where
  state : e.state ≡ g.state
  stores : Agree F.depth (cells F) e.store g.store

-- the results of a step are the same, and what it leaves is alike
abbrev SameStep : Frame → Sending → Sending → Type 0
SameStep F r q = (send_result r ≡ send_result q) × Alike F (emitter_left r) (emitter_left q)

module _ (F : Frame) (ok : Sound F) (e g : Emitter) (a : Send) (alike : Alike F e g) where
  same_grounds : send_grounds F e a ≡ figure_grounds F g a
  unfolding send_grounds ground16 ground17 short_store emitter_places figure_grounds ground27 literal_places
  same_grounds =
      let s : ltb (length e.store) (emitter_places F) ≡ ltb (length g.store) 0 =
      le-ltb (length e.store) (emitter_places F) alike.stores.places_fit ∙ sym (le-ltb (length g.store) 0 (omega arith)) in
      (λ i.
      profile_ground F a.profile a.given
      else ground? 16 (when (leb F.phases (alike.state i).phase) 0)
      else ground? 17 (when (s i || not (eqb (length a.room) F.width)) 0)
      else given_grounds F a.profile (alike.state i).phase a.given)
      ∙ sym
      (λ i.
      profile_ground F a.profile a.given
      else ground? 16 (when (leb F.phases g.state.phase) 0)
      else ground? 17 (when (ltb (length g.store) 0 || not (eqb (length a.room) F.width)) 0)
      else ground? 27 (when (le-ltb (length g.store) (literal_places F) alike.stores.lines_fit i) 0)
      else given_grounds F a.profile g.state.phase a.given)

  same_symbol : first.sent_symbol F e a.given ≡ second.sent_symbol F g a.given
  unfolding first.sent_symbol second.sent_symbol
  same_symbol =
      rw alike.state
      (ap (line_symbol F) (same_cells F.depth (cells F) ok.depth_pos e.store g.store (input_cells F g.state.phase a.given) alike.stores))

  same_store : Agree F.depth (cells F) (first.sent_store F e a.given) (second.sent_store F g a.given)
  unfolding first.sent_store second.sent_store
  same_store = rw alike.state (agree_next F.depth (cells F) ok.depth_pos e.store g.store (input_cells F g.state.phase a.given) alike.stores)

  -- the step that finds f, of either emitter
  first_after : Finding → Sending
  first_after f = elim f [ Ok _ ↦ first.accepted F e a.given | Err r ↦ refused e a r ]

  second_after : Finding → Sending
  second_after f = elim f [ Ok _ ↦ second.accepted F g a.given | Err r ↦ refused g a r ]

  same_after : (f : Finding) → SameStep F (first_after f) (second_after f)
  unfolding first_after first.accepted next_state second_after second.accepted
  same_after (Ok tt) = (
    λ i. (Ok (record { phase = next_phase F (alike.state i).phase }), same_symbol i),
    record { state = λ i. record { phase = next_phase F (alike.state i).phase }; stores = same_store },
  )
  same_after (Err r) = (λ i. (refused_step r (alike.state i), a.room), alike)

  same_step : SameStep F (first.frame_step F e a) (second.frame_step F g a)
  unfolding first.frame_step first_after second.frame_step second_after
  same_step = subst (λ (f : Finding). SameStep F (first_after (send_grounds F e a)) (second_after f)) same_grounds (same_after (send_grounds F e a))

-- ---- a fresh start

module _ (F : Frame) (ok : Sound F) (j : ℕ) (lent : List ℕ) (fits : literal_places F ≤ length lent) where
  -- cell p of the symbol that comes out i symbols on
  literal_cell : (p i : ℕ) → p < J F * F.depth → i < p % F.depth → get_or (fresh_literal F j lent) (line_place F.depth (cells F) p i) 0 ≡ fresh_place F j (p % F.depth) (i * J F + p / F.depth)
  literal_cell p i hp hi =
      second-fresh.fresh_at F j lent fits (p % F.depth) (i * J F + p / F.depth) (mod-lt p ok.depth_pos)
      (below_times i (p / F.depth) (J F) (p % F.depth) hi (turn_below F.depth (J F) p ok.depth_pos hp))

  literal_own : (p i : ℕ) → p < cells F → i < p % F.depth
      → get_or (fresh_literal F j lent) (line_place F.depth (cells F) p i) 0 ≡ get_or (input_cells F (phase_back F j (delay F p - i)) flush) p 0
  unfolding fresh_place
  literal_own p i hp hi =
      let hp' : p < J F * F.depth = omega (arith, enough (cells F) F.depth ok.depth_pos) in
      let k : p / F.depth < J F = turn_below F.depth (J F) p ok.depth_pos hp' in
      literal_cell p i hp' hi ∙ rw (digits_div i k, digits_mod i k, div-add-mod' p F.depth, lt-ltb p (cells F) hp) refl

  literal_dummy : (p i : ℕ) → cells F ≤ p → p < J F * F.depth → i < p % F.depth → get_or (fresh_literal F j lent) (line_place F.depth (cells F) p i) 0 ≡ filler
  unfolding fresh_place
  literal_dummy p i hn hp hi =
      let k : p / F.depth < J F = turn_below F.depth (J F) p ok.depth_pos hp in
      literal_cell p i hp hi ∙ rw (digits_mod i k, div-add-mod' p F.depth, le-ltb p (cells F) hn) refl

  lent_alike : (e : Emitter) → FreshIn F j e → Alike F e (record { state = record { phase = j }; store = fresh_literal F j lent })
  unfolding fresh_emitter fresh_store emitter_places fresh_literal literal_places
  lent_alike e fresh =
      rw fresh.is_fresh
      (record {
        state = refl;
        stores = record {
          places_fit = rw length-sets fresh.fits;
          lines_fit = rw length-sets fits;
          same = λ p i hp hi. fresh_at F ok j fresh.phase_in fresh.lent fresh.fits p i hp hi ∙ sym (literal_own p i hp hi);
          dummies = literal_dummy;
        };
      })

-- ---- a run

-- g is a fresh second emitter, in a literal store that is long enough
pub record SecondIn (F : Frame) (j : ℕ) (g : Emitter) : Type 0 where
  pub lent : List ℕ
  pub phase_in : j < F.phases
  pub fits : literal_places F ≤ length lent
  pub is_fresh : g ≡ record { state = record { phase = j }; store = fresh_literal F j lent }

module _ (F : Frame) (ok : Sound F) (j : ℕ) (e g : Emitter) (fresh : FreshIn F j e) (second_in : SecondIn F j g) where
  alike : Alike F e g
  alike = rw second_in.is_fresh (lent_alike F ok j second_in.lent second_in.fits e fresh)

  same_inputs : (steps : List Send) → input (frame_entries F) e steps ≡ input (figure_frame F) g steps
  unfolding input
  same_inputs steps =
      ap (λ (given : Send → Given). map (λ x. given x.0) (sendings (frame_entries F) e steps)) (λ i a. as_given a.given i)
      ∙ same_accepted (first.frame_step F) emitter_left send_result (second.frame_step F) emitter_left send_result (Alike F) (same_step F ok) (λ r. is_ok r.0) (λ a r. a.given) e g steps alike
      ∙ sym (ap (λ (given : Send → Given). map (λ x. given x.0) (sendings (figure_frame F) g steps)) (λ i a. as_given a.given i))

  same_sent : (steps : List Send) → sent (frame_entries F) e steps ≡ sent (figure_frame F) g steps
  unfolding sent
  same_sent steps =
      same_accepted (first.frame_step F) emitter_left send_result (second.frame_step F) emitter_left send_result (Alike F) (same_step F ok) (λ r. is_ok r.0) (λ a r. r.1) e g steps alike

  pub emitters_alike : SameSent (frame_entries F) (figure_frame F) e g
  emitters_alike = record {
    each_step = λ steps. same_results (first.frame_step F) emitter_left send_result (second.frame_step F) emitter_left send_result (Alike F) (same_step F ok) e g steps alike;
    inputs = same_inputs;
    symbols = same_sent;
    by_input = λ steps steps' is.
        sent_closed F j e fresh steps ok ∙ ap (closed_sent F j) (is ∙ sym (same_inputs steps')) ∙ sym (sent_closed F j e fresh steps' ok) ∙ same_sent steps';
  }

  after_alike : (steps : List Send) → Alike F (emitter_after (frame_entries F) e steps) (emitter_after (figure_frame F) g steps)
  after_alike steps = alike_after (first.frame_step F) emitter_left send_result (second.frame_step F) emitter_left send_result (Alike F) (same_step F ok) e g steps alike

  pub filler_thrown : (steps : List Send) (x : List ℕ)
      → thrown_away F.depth (cells F) (emitter_after (figure_frame F) g steps).store x ≡ replicate (J F * F.depth - cells F) filler
  filler_thrown steps x = all_filler F.depth (cells F) ok.depth_pos _ _ x (after_alike steps).stores
