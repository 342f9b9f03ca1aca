-- A step under an accepted plan: it is sent exactly if no ground refuses it, and else changes nothing; and what a fresh start leaves. Assumes nothing.
use Prim.Native.Nat.{ℕ, ◌≤◌, ◌<◌}
use mathlib.Core.Path.{◌≡◌, refl, sym, ap, ◌∙◌, subst}
use mathlib.Core.Logic.{◌↔◌}
use mathlib.Core.Bool.{Bool, true, false, false≢true}
use mathlib.Core.List.{List, ◌∷◌}
use native.Mathlib.Omega.{arith}
use lib.Dec.{ltb}
use lib.ListN.{length, get_or, length-replicate}
use borrow.Author.Tests.{ltb-false, leb-false, eqb-true, not-false}
use Rattle.counting.specs.Search.{when, select}
use Rattle.counting.proofs.Laws.{lowest_none}
use Rattle.rules.specs.declared.Device.{Device}
use Rattle.rules.specs.Refusals.{refusal, Finding, refused_by}
use Rattle.std.specs.Prelude.{Ok, Err, is_ok}
use Rattle.rules.specs.Plan.{plan_of}
use Rattle.rules.specs.Grounds.{ground?, grounds1to15}
use Rattle.rules.specs.Frame.{Frame, frame_of, cells, spot, is_data, data_count, Given, flush, symbol, data_list, filler, top_data}
use Rattle.rules.specs.Loads.{load_limit, limit_at, data_loads, ground19}
use Rattle.rules.specs.Filling.{fills, frame_fill, frame_unfill, fill_step, unfill_step}
use Rattle.rules.specs.Store.{emitter_places, fresh_store}
use Rattle.rules.specs.Steps.{Emitter, Send, Sending, Starting, starts, refused, ground16, short_store, ground17, profile_ground, ground18, given_grounds, send_grounds, next_state, sent_store, sent_symbol, accepted, frame_step, start_grounds, frame_start, send_step, start_step}
use Rattle.rules.specs.Receive.{listens, turned_away, frame_receive, frame_listen, hear_step, listen_step}
use Rattle.rules.proofs.Findings.{both_fine, when_fine, no_place, by_finding}
use Rattle.rules.proofs.Loads.{loaded, limit_top}
use Rattle.frame.proofs.Loads.{load_at}
use Rattle.runs.specs.Run.{accepted_steps, Entries, cell_entries, read_given, state_of, emitter_left, input, sent, Fresh}

-- ---- what was given to an accepted step

-- what a step is given at phase j is a flush, or N_D numbers, each up to the limit of the subcarrier it is sent on
abbrev pub Within : Frame → (ℕ → ℕ) → ℕ → Given → Type 0
Within F limit j flush = Unit {0}
Within F limit j (symbol ds) = (length ds ≡ data_count F j) × ((c : ℕ) → c < length ds → get_or ds c 0 ≤ limit (spot F (select (is_data F j) (cells F) c)))

-- every subcarrier has the limit 16383
abbrev pub top : ℕ → ℕ
top k = top_data

module _ (F : Frame) (w : List ℕ) (j : ℕ) where
  pub given_within : (g : Given) → given_grounds F w j g ≡ Ok tt → Within F (limit_at w) j g
  unfolding given_grounds ground18 ground19
  given_within flush e = tt
  given_within (symbol ds) e =
      let f = both_fine (ground18 F j (length ds)) (ground19 F w j ds) e in
      let number : length ds ≡ data_count F j = eqb-true (length ds) (data_count F j) (not-false _ (when_fine 18 0 _ f.0)) in (
        number,
        λ c h.
            let fits : get_or ds c 0 ≤ load_limit (get_or (data_loads F w j) c 0) =
            ltb-false _ _ (lowest_none (λ i. ltb (load_limit (get_or (data_loads F w j) i 0)) (get_or ds i 0)) (length ds) (no_place 19 _ f.1) c h) in
            subst (λ (l : ℕ). get_or ds c 0 ≤ load_limit l) (load_at F w j c (omega arith)) fits,
      )

  -- under a profile that 25 does not refuse no number is above 16383
  pub within_top : (g : Given) → profile_ground F w g ≡ Ok tt → Within F (limit_at w) j g → Within F top j g
  unfolding profile_ground
  within_top flush e h = tt
  within_top (symbol ds) e h = (
    h.0,
    λ c l.
        let k : ℕ = spot F (select (is_data F j) (cells F) c) in
        omega (arith, h.1 c l, limit_top (get_or w k 0) ((loaded F.width w e).small k)),
  )

pub list_length : (F : Frame) (limit : ℕ → ℕ) (j : ℕ) (g : Given) → Within F limit j g → length (data_list F j g) ≡ data_count F j
unfolding data_list
list_length F limit j flush h = length-replicate (data_count F j) filler
list_length F limit j (symbol ds) h = h.0

-- ---- one step

-- the entries under an accepted plan whose frame is F
abbrev pub frame_entries : Frame → Entries
frame_entries F = record {
  start = frame_start F;
  send = frame_step F;
  listen = frame_listen F;
  hear = frame_receive F;
  fill = frame_fill F;
  unfill = frame_unfill F;
  whole = λ x. true;
  read = λ x. x;
}

pub as_given : (g : Given) → read_given (λ x. x) g ≡ g
as_given flush = refl
as_given (symbol ds) = refl

-- the emitter after an accepted step
unfoldable pub next : Frame → Emitter → Given → Emitter
next F e g = record { state = next_state F e.state; store = sent_store F e g }

module _ (F : Frame) (e : Emitter) (a : Send) where
  pub fine_given : send_grounds F e a ≡ Ok tt → (profile_ground F a.profile a.given ≡ Ok tt) × (given_grounds F a.profile e.state.phase a.given ≡ Ok tt)
  unfolding send_grounds
  fine_given h =
      let f = both_fine (profile_ground F a.profile a.given) _ h in
      (f.0, (both_fine (ground17 F (emitter_places F) e.store a.room) _ (both_fine (ground16 F e.state.phase) _ f.1).1).1)

  pub step_fine : send_grounds F e a ≡ Ok tt → frame_step F e a ≡ accepted F e a.given
  unfolding frame_step
  step_fine h = ap (λ (f : Finding). elim f [ Ok _ ↦ accepted F e a.given | Err r ↦ refused e a r ]) h

  pub step_ground : (n place : ℕ) → send_grounds F e a ≡ refused_by n place → frame_step F e a ≡ refused e a (refusal n place)
  unfolding frame_step
  step_ground n place h = ap (λ (f : Finding). elim f [ Ok _ ↦ accepted F e a.given | Err r ↦ refused e a r ]) h

  -- a step is sent exactly if no ground refuses it
  pub sent_fine : (is_ok (frame_step F e a).answer ≡ true) ↔ (send_grounds F e a ≡ Ok tt)
  unfolding accepted
  sent_fine = (
    λ t. by_finding (send_grounds F e a) (λ h. h)
        (λ n place h. absurd (false≢true (sym (ap (λ (r : Sending). is_ok r.answer) (step_ground n place h)) ∙ t))),
    λ h. ap (λ (r : Sending). is_ok r.answer) (step_fine h),
  )

  -- a refused step leaves the store, the lent symbol and the state as they were
  pub unchanged : (is_ok (frame_step F e a).answer ≡ false)
      → (state_of (frame_step F e a).answer ≡ e.state) × ((frame_step F e a).store ≡ e.store) × ((frame_step F e a).symbol ≡ a.room)
  unfolding accepted
  unchanged t =
      by_finding (send_grounds F e a)
      (λ h. absurd (false≢true (sym t ∙ ap (λ (r : Sending). is_ok r.answer) (step_fine h))))
      (λ n place h.
      let s : frame_step F e a ≡ refused e a (refusal n place) = step_ground n place h in
      (ap (λ (r : Sending). state_of r.answer) s, ap (λ (r : Sending). r.store) s, ap (λ (r : Sending). r.symbol) s))

  pub left_sent : send_grounds F e a ≡ Ok tt → emitter_left (frame_step F e a) ≡ next F e a.given
  unfolding accepted next
  left_sent h = ap emitter_left (step_fine h)

  pub away : (n place : ℕ) → send_grounds F e a ≡ refused_by n place → (is_ok (frame_step F e a).answer ≡ false) × (emitter_left (frame_step F e a) ≡ e)
  away n place h = (ap (λ (r : Sending). is_ok r.answer) (step_ground n place h), ap emitter_left (step_ground n place h))

  module _ (rest : List Send) where
    pub input_sent : send_grounds F e a ≡ Ok tt → input (frame_entries F) e (a ∷ rest) ≡ a.given ∷ input (frame_entries F) (next F e a.given) rest
    unfolding input accepted_steps accepted next
    input_sent h = rw (step_fine h) (ap (λ (g : Given). g ∷ input (frame_entries F) (next F e a.given) rest) (as_given a.given))

    pub input_ground : (n place : ℕ) → send_grounds F e a ≡ refused_by n place → input (frame_entries F) e (a ∷ rest) ≡ input (frame_entries F) e rest
    unfolding input accepted_steps
    input_ground n place h = rw (step_ground n place h) refl

    pub sent_symbol_lem : send_grounds F e a ≡ Ok tt → sent (frame_entries F) e (a ∷ rest) ≡ sent_symbol F e a.given ∷ sent (frame_entries F) (next F e a.given) rest
    unfolding sent accepted_steps accepted next
    sent_symbol_lem h = rw (step_fine h) refl

    pub sent_ground : (n place : ℕ) → send_grounds F e a ≡ refused_by n place → sent (frame_entries F) e (a ∷ rest) ≡ sent (frame_entries F) e rest
    unfolding sent accepted_steps
    sent_ground n place h = rw (step_ground n place h) refl

-- ---- a fresh start

-- the emitter that a fresh start at phase j leaves in the lent store
unfoldable pub fresh_emitter : Frame → ℕ → List ℕ → Emitter
fresh_emitter F j lent = record { state = record { phase = j }; store = fresh_store F j lent }

-- e is one, in a store that is long enough
pub record FreshIn (F : Frame) (j : ℕ) (e : Emitter) : Type 0 where
  pub lent : List ℕ
  pub phase_in : j < F.phases
  pub fits : emitter_places F ≤ length lent
  pub is_fresh : e ≡ fresh_emitter F j lent

-- what no ground of a fresh start leaves, of a store that needs so many places
pub record Startable (F : Frame) (places j : ℕ) (lent : List ℕ) : Type 0 where
  pub phase_in : j < F.phases
  pub fits : places ≤ length lent

startable : (F : Frame) (places j : ℕ) (lent : List ℕ) → start_grounds F places j lent ≡ Ok tt → Startable F places j lent
unfolding start_grounds ground16 short_store
startable F places j lent h =
    let long : Finding = ground? 17 (when (short_store places lent) 0) in
    record {
      phase_in = leb-false _ _ (when_fine 16 0 _ (both_fine _ long h).0);
      fits = ltb-false _ _ (when_fine 17 0 _ (both_fine (ground16 F j) long h).1);
    }

-- a fresh start, of an emitter or a receiver, that was not refused: no ground holds, and it left what it makes
pub not_refused : {T : Type 0} (F : Frame) (places j : ℕ) (lent : List ℕ) (made : T) (away : ℕ → ℕ → T) (started : T → Bool) (x : T)
    → elim (start_grounds F places j lent) [ Ok _ ↦ made | Err r ↦ away r.number r.place ] ≡ x → started x ≡ true → ((n place : ℕ) → started (away n place) ≡ false)
    → Startable F places j lent × (made ≡ x)
not_refused {T} F places j lent made away started x e was never =
    let left : Finding → T = λ f. elim f [ Ok _ ↦ made | Err r ↦ away r.number r.place ] in
    by_finding (start_grounds F places j lent)
    (λ h. (startable F places j lent h, sym (ap left h) ∙ e))
    (λ n place h. absurd (false≢true (sym (never n place) ∙ ap started (sym (ap left h) ∙ e) ∙ was)))

-- the emitter that an answer and a store make, u where the answer refuses
emitter_in : Emitter → Starting → Emitter
emitter_in u x = elim x.answer [ Ok e ↦ record { state = e; store = x.store } | Err _ ↦ u ]

started : (F : Frame) (j : ℕ) (lent : List ℕ) (e : Emitter) → frame_start F j lent ≡ starts (Ok e.state) e.store → FreshIn F j e
unfolding frame_start emitter_in fresh_emitter
started F j lent e s =
    let r = not_refused F (emitter_places F) j lent (starts (Ok (record { phase = j })) (fresh_store F j lent)) (λ n place. starts (refused_by n place) lent)
    (λ (x : Starting). is_ok x.answer) (starts (Ok e.state) e.store) s refl (λ n place. refl) in
    record { lent = lent; phase_in = r.0.phase_in; fits = r.0.fits; is_fresh = sym (ap (emitter_in e) r.1) }

pub fresh_in : (F : Frame) (j : ℕ) (e : Emitter) → Fresh (frame_entries F) j e → FreshIn F j e
fresh_in F j e f = started F j f.lent e f.start

-- ---- a plan's bytes that no ground of 1 to 15 refuses

-- its entries are those of its frame
pub frame_entries_lem : (d : Device) (s : List ℕ) → grounds1to15 d s ≡ Ok tt → cell_entries d s ≡ frame_entries (frame_of d (plan_of s))
unfolding start_step send_step listen_step hear_step fill_step unfill_step
frame_entries_lem d s fine = λ i. record {
  start = λ j lent. elim (fine i) [ Ok _ ↦ frame_start (frame_of d (plan_of s)) j lent | Err r ↦ starts (Err r) lent ];
  send = λ e a. elim (fine i) [ Ok _ ↦ frame_step (frame_of d (plan_of s)) e a | Err r ↦ refused e a r ];
  listen = λ j lent. elim (fine i) [ Ok _ ↦ frame_listen (frame_of d (plan_of s)) j lent | Err r ↦ listens (Err r) lent ];
  hear = λ v a. elim (fine i) [ Ok _ ↦ frame_receive (frame_of d (plan_of s)) v a | Err r ↦ turned_away v a r ];
  fill = λ w j b a room. elim (fine i) [ Ok _ ↦ frame_fill (frame_of d (plan_of s)) w j b a room | Err r ↦ fills (Err r) room ];
  unfill = λ w j ds a b. elim (fine i) [ Ok _ ↦ frame_unfill (frame_of d (plan_of s)) w j ds a b | Err r ↦ fills (Err r) b ];
  whole = λ x. true;
  read = λ x. x;
}
