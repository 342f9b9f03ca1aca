-- What a sending step of either emitter answers and leaves: one law for a refusal, and one for an accepted step of each emitter. Assumes nothing.
use mathlib.Core.Path.{◌≡◌, refl, sym, ap, ◌∙◌}
use mathlib.Core.Bool.{Bool, true, false}
use mathlib.Core.List.{List}
use Prim.Native.Nat.{ℕ, ◌+◌, ◌%◌, ◌≤◌}
use lib.ListN.{length}
use borrow.Author.Tests.{ltb-false}
use Rattle.counting.specs.Search.{pick}
use Rattle.rules.specs.declared.Device.{Device}
use Rattle.rules.specs.Refusals.{Finding, SendAnswer, refusal, refused_by, refused_step}
use Rattle.std.specs.Prelude.{Ok, Err}
use Rattle.rules.specs.declared.EmitterState.{EmitterState}
use Rattle.rules.specs.Device.{phases}
use Rattle.rules.specs.Plan.{plan_of}
use Rattle.rules.specs.Grounds.{◌else◌, grounds1to15}
use Rattle.rules.specs.Frame.{Frame, frame_of, cells, input_cells, line_symbol}
use Rattle.rules.specs.Places.{emitter_delay, oldest, moved}
use Rattle.rules.specs.Steps as first
use Rattle.rules.specs.Steps.{Emitter, Send, Sending, leaves, ground16, short_store, ground17, profile_ground, given_grounds, next_state, send_step}
use Rattle.rules.proofs.Findings.{both_fine, when_fine}
use Rattle.rules.proofs.Answered.{accepted_is, refused_is}
use Rattle.steps.proofs.Lent.{Lent, lent}
use Rattle.figure.specs.Figure.{figure_store, figure_cells}
use Rattle.figure.specs.Steps as second
use Rattle.figure.specs.Steps.{ground27, figure_send_step}
use Rattle.figure.specs.Needs.{places17, places27, step_grounds, step_of}
use Rattle.figure.proofs.Needs.{first_step, second_step}
use Rattle.sendgrounds.specs.Opening.{send_finding, send_verdict}

-- ---- a step as a function of what it finds

module _ (d : Device) (s : List ℕ) (e : Emitter) (a : Send) where
  abbrev F : Frame
  F = frame_of d (plan_of s)

  -- where nothing is found it sends, as either emitter does
  sends : Bool → Sending
  sends literal = pick literal (second.accepted F e a.given) (first.accepted F e a.given)

  after : Bool → Finding → Sending
  after literal f = elim f [ Ok _ ↦ sends literal | Err r ↦ first.refused e a r ]

  merged : (literal : Bool) (f g : Finding) → after literal (f else g) ≡ elim f [ Ok _ ↦ after literal g | Err r ↦ first.refused e a r ]
  unfolding after
  merged literal (Ok tt) g = refl
  merged literal (Err r) g = refl

  step_is : (literal : Bool) → after literal (send_finding literal d s e a) ≡ step_of literal d s e a
  unfolding send_finding after sends send_step first.frame_step figure_send_step second.frame_step
  step_is false = ap (λ (f : Finding). after false (grounds1to15 d s else f)) (first_step F e a) ∙ merged false (grounds1to15 d s) (first.send_grounds F e a)
  step_is true = ap (λ (f : Finding). after true (grounds1to15 d s else f)) (second_step F e a) ∙ merged true (grounds1to15 d s) (second.figure_grounds F e a)

-- ---- what a return has to show of its answer, the store and the symbol

module _ (literal : Bool) (d : Device) (s : List ℕ) (e : Emitter) (a : Send) where
  abbrev pub Shown : SendAnswer → List ℕ → List ℕ → Type 0
  Shown r store out = leaves r store out ≡ step_of literal d s e a

  -- a refused step hands the state back and leaves the rest as it was
  pub refused : (n place : ℕ) → refused_by n place ≡ send_verdict literal d s e a → Shown (refused_step (refusal n place) e.state) e.store a.room
  unfolding send_verdict after
  refused n place h = sym (ap (after d s e a literal) (refused_is (send_finding literal d s e a) n place (cells (F d s e a)) h)) ∙ step_is d s e a literal

  module _ (n : ℕ) (h : Ok n ≡ send_verdict literal d s e a) where
    passed : (send_finding literal d s e a ≡ Ok tt) × (n ≡ cells (F d s e a))
    unfolding send_verdict
    passed = accepted_is (send_finding literal d s e a) n (cells (F d s e a)) h

    -- grounds 16 and 17 are passed, and 27
    pub fit : Lent (F d s e a) e.state.phase (places17 literal (F d s e a)) e.store a.room × (places27 literal (F d s e a) ≤ length e.store)
    unfolding send_finding step_grounds ground27 short_store
    fit =
        let G : Frame = F d s e a in
        let lines : Finding = ground27 (places27 literal G) e.store in
        let given : Finding = given_grounds G a.profile e.state.phase a.given in
        let of17 : Finding = ground17 G (places17 literal G) e.store a.room in
        let late = both_fine (ground16 G e.state.phase) (of17 else lines else given)
        (both_fine (profile_ground G a.profile a.given) (ground16 G e.state.phase else of17 else lines else given)
        (both_fine (grounds1to15 d s) (profile_ground G a.profile a.given else ground16 G e.state.phase else of17 else lines else given) passed.0).1).1 in
        let after17 = both_fine of17 (lines else given) late.1 in (
          lent G e.state.phase (places17 literal G) e.store a.room (λ i. sym late.0 i else sym after17.0 i),
          ltb-false (length e.store) (places27 literal G) (when_fine 27 0 _ (both_fine lines given after17.1).0),
        )

    -- an accepted step: the phase has gone up, and what either emitter sends is sent
    accepted_step : (st out : List ℕ) (r : EmitterState) → leaves (Ok r) st out ≡ sends d s e a literal → Shown (Ok r) st out
    unfolding after
    accepted_step st out r is = is ∙ sym (ap (after d s e a literal) passed.0) ∙ step_is d s e a literal

module _ (d : Device) (s : List ℕ) (e : Emitter) (a : Send) (n : ℕ) where
  -- the first emitter: of each cell the oldest placed, the input cell stored
  pub sent : Ok n ≡ send_verdict false d s e a → (m k : ℕ) (x st out : List ℕ) (r : EmitterState) → m ≡ (plan_of s).depth → k ≡ n
      → x ≡ input_cells (F d s e a) e.state.phase a.given
      → st ≡ moved (emitter_delay m) k e.store x
      → out ≡ line_symbol (F d s e a) (oldest (emitter_delay m) k e.store x)
      → r ≡ record { phase = (e.state.phase + 1) % phases }
      → leaves (Ok r) st out ≡ send_step d s e a
  unfolding sends first.accepted first.sent_symbol first.sent_store next_state frame_of
  sent h m k x st out r em ek ex es eo er =
      let all = ek ∙ (passed false d s e a n h).1 in
      let put : st ≡ first.sent_store (F d s e a) e a.given = es ∙ (λ i. moved (emitter_delay (em i)) (all i) e.store (ex i)) in
      let out_is : out ≡ first.sent_symbol (F d s e a) e a.given = eo ∙ (λ i. line_symbol (F d s e a) (oldest (emitter_delay (em i)) (all i) e.store (ex i))) in
      let next : r ≡ next_state (F d s e a) e.state = er in
      accepted_step false d s e a n h st out r (λ i. leaves (Ok (next i)) (put i) (out_is i))

  -- the second: the input symbol has gone through the lines, and the cells that came out are placed
  pub sent_through : Ok n ≡ send_verdict true d s e a → (m k : ℕ) (x st out : List ℕ) (r : EmitterState) → m ≡ (plan_of s).depth → k ≡ n
      → x ≡ input_cells (F d s e a) e.state.phase a.given
      → st ≡ figure_store m k e.store x
      → out ≡ line_symbol (F d s e a) (figure_cells m k e.store x)
      → r ≡ record { phase = (e.state.phase + 1) % phases }
      → leaves (Ok r) st out ≡ figure_send_step d s e a
  unfolding sends second.accepted second.sent_symbol second.sent_store next_state frame_of
  sent_through h m k x st out r em ek ex es eo er =
      let all = ek ∙ (passed true d s e a n h).1 in
      let put : st ≡ second.sent_store (F d s e a) e a.given = es ∙ (λ i. figure_store (em i) (all i) e.store (ex i)) in
      let out_is : out ≡ second.sent_symbol (F d s e a) e a.given = eo ∙ (λ i. line_symbol (F d s e a) (figure_cells (em i) (all i) e.store (ex i))) in
      let next : r ≡ next_state (F d s e a) e.state = er in
      accepted_step true d s e a n h st out r (λ i. leaves (Ok (next i)) (put i) (out_is i))
