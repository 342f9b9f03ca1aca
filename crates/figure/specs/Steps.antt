-- What the second emitter's entries answer and leave, on the literal store of the figure (document 02, request 09): grounds 1 to 15 and 25, then 16, 17
-- without the store's part, 27, 18 and 19. State, answers and what a step is given are those of the first emitter (crate rules, specs/Steps).
-- A refused step changes nothing and hands the state back. Assumes nothing.
use Rattle.std.specs.Prelude.{ℕ, ◌+◌, ◌-◌, ◌*◌, ◌/◌, ◌%◌, List, [], ltb, get_or, Ok, Err}
use Rattle.std.proofs.lemmas.List.Edits.{sets}
use Rattle.counting.specs.Search.{pick, when, tabulate}
use Rattle.rules.specs.declared.Device.{Device}
use Rattle.rules.specs.Refusals.{Finding}
use Rattle.rules.specs.declared.EmitterState.{EmitterState}
use Rattle.rules.specs.Plan.{plan_of}
use Rattle.rules.specs.Grounds.{◌else◌, ground?, grounds1to15}
use Rattle.rules.specs.Frame.{Frame, frame_of, cells, phase_back, Given, flush, symbol, input_cells, line_symbol, filler}
use Rattle.rules.specs.Places.{joined}
use Rattle.rules.specs.Steps.{Emitter, Send, Sending, leaves, refused, Starting, starts, short_store, ground16, ground17, profile_ground, given_grounds, next_state}
use Rattle.figure.specs.Figure.{ceiling, line_begins, figure_store, figure_cells}

-- 27: the literal store is shorter than its places
unfoldable pub ground27 : ℕ → List ℕ → Finding
ground27 places s = ground? 27 (when (short_store places s) 0)

module _ (F : Frame) where
  -- J, the ceiling of N_I / M
  abbrev pub J : ℕ
  J = ceiling (cells F) F.depth

  -- the length of the literal store, J * M * (M - 1) / 2
  unfoldable pub literal_places : ℕ
  literal_places = line_begins J F.depth

  -- the grounds of an emit or flush step under an accepted plan; by 17 the literal store needs no place
  unfoldable pub figure_grounds : Emitter → Send → Finding
  figure_grounds e a =
      profile_ground F a.profile a.given
      else ground16 F e.state.phase
      else ground17 F 0 e.store a.room
      else ground27 literal_places e.store
      else given_grounds F a.profile e.state.phase a.given

  -- the store after the step: the input symbol has gone through the lines
  unfoldable pub sent_store : Emitter → Given → List ℕ
  sent_store e g = figure_store F.depth (cells F) e.store (input_cells F e.state.phase g)

  -- the symbol sent: the cells that came out, without those of the dummies
  unfoldable pub sent_symbol : Emitter → Given → List ℕ
  sent_symbol e g = line_symbol F (figure_cells F.depth (cells F) e.store (input_cells F e.state.phase g))

  unfoldable pub accepted : Emitter → Given → Sending
  accepted e g = leaves (Ok (next_state F e.state)) (sent_store e g) (sent_symbol e g)

  -- a step under an accepted plan
  unfoldable pub frame_step : Emitter → Send → Sending
  frame_step e a = elim (figure_grounds e a) [ Ok _ ↦ accepted e a.given | Err r ↦ refused e a r ]

  -- Place i of line r of a fresh literal store at phase j. A line holds J cells of each of the symbols r to 1 steps back, the oldest first: those of cells r,
  -- M + r, 2 * M + r and so on. The symbol b steps back is at phase (phase - b) mod 128, filler in every data cell; its dummies are filler.
  unfoldable pub fresh_place : ℕ → ℕ → ℕ → ℕ
  fresh_place j r i =
      pick (ltb (i % J * F.depth + r) (cells F))
      (get_or (input_cells F (phase_back F j (r - i / J)) flush) (i % J * F.depth + r) 0)
      filler

  -- the lent store s filled so, line after line; cells past its length are untouched
  unfoldable pub fresh_literal : ℕ → List ℕ → List ℕ
  fresh_literal j s = sets s 0 (joined (λ r. tabulate (fresh_place j r) (r * J)) F.depth)

  -- the grounds of a fresh start under an accepted plan
  unfoldable pub figure_start_grounds : ℕ → List ℕ → Finding
  figure_start_grounds j s = ground16 F j else ground27 literal_places s

  -- a fresh start under an accepted plan: the store filled
  unfoldable pub frame_start : ℕ → List ℕ → Starting
  frame_start j s =
      elim (figure_start_grounds j s) [
        | Ok _ ↦ starts (Ok (record { phase = j })) (fresh_literal j s)
        | Err r ↦ starts (Err r) s
      ]

module _ (d : Device) (s : List ℕ) where
  -- an emit or flush step of any bytes as a plan
  unfoldable pub figure_send_step : Emitter → Send → Sending
  figure_send_step e a = elim (grounds1to15 d s) [ Ok _ ↦ frame_step (frame_of d (plan_of s)) e a | Err r ↦ refused e a r ]

  -- emit: the load profile, the state, the lent literal store, the data and the lent symbol
  unfoldable pub figure_emit_step : List ℕ → EmitterState → List ℕ → List ℕ → List ℕ → Sending
  figure_emit_step w e store ds room = figure_send_step (record { state = e; store = store }) (record { given = symbol ds; profile = w; room = room })

  -- flush: the same without profile and data
  unfoldable pub figure_flush_step : EmitterState → List ℕ → List ℕ → Sending
  figure_flush_step e store room = figure_send_step (record { state = e; store = store }) (record { given = flush; profile = []; room = room })

  -- fresh second emitter: the starting phase and the lent literal store
  unfoldable pub figure_start_step : ℕ → List ℕ → Starting
  figure_start_step j store =
      elim (grounds1to15 d s) [ Ok _ ↦ frame_start (frame_of d (plan_of s)) j store | Err r ↦ starts (Err r) store ]
