-- From a fresh start the second emitter does what the first does (document 02, request 09). Runs are those of crate runs. Statements only.
-- Assumes nothing.
use Rattle.std.specs.Prelude.{ℕ, ◌-◌, ◌*◌, ◌/◌, ◌≤◌, ◌<◌, ◌≡◌, true, List, length, replicate, is_ok}
use Rattle.rules.specs.declared.Device.{Device}
use Rattle.rules.specs.Plan.{plan_of}
use Rattle.rules.specs.Frame.{Frame, frame_of, cells, filler}
use Rattle.rules.specs.Steps.{Emitter, Send, Sending, Starting}
use Rattle.figure.specs.Figure.{thrown_away}
use Rattle.figure.specs.Steps.{J, literal_places, figure_send_step, figure_start_step}
use Rattle.runs.specs.Run.{Entries, cell_entries, emitter_left, input, sent, emitter_after, Fresh}
use Rattle.runs.specs.Results.{results, send_result}

-- the entries E with another emitter: its fresh start, and its emit or flush step
abbrev pub with_emitter : (ℕ → List ℕ → Starting) → (Emitter → Send → Sending) → Entries → Entries
with_emitter start send E = record {
  start = start;
  send = send;
  listen = E.listen;
  hear = E.hear;
  fill = E.fill;
  unfill = E.unfill;
  whole = E.whole;
  read = E.read;
}

-- the second emitter's entries, for the device d and a plan's bytes s; the others are the first's
abbrev pub figure_entries : Device → List ℕ → Entries
figure_entries d s = with_emitter (figure_start_step d s) (figure_send_step d s) (cell_entries d s)

-- two emitters, e of the entries E and g of the entries G
pub record SameSent (E G : Entries) (e g : Emitter) : Type 0 where
  -- each step has the same result: sent with the same next phase and symbol, or refused with the same ground and place
  pub each_step : (steps : List Send) → results E.send emitter_left send_result e steps ≡ results G.send emitter_left send_result g steps
  -- so the same steps have the same input
  pub inputs : (steps : List Send) → input E e steps ≡ input G g steps
  -- and send the same symbols
  pub symbols : (steps : List Send) → sent E e steps ≡ sent G g steps
  -- and runs with the same input, whatever their steps, send the same symbols
  pub by_input : (steps steps' : List Send) → input E e steps ≡ input G g steps' → sent E e steps ≡ sent G g steps'

-- the entries E of the first emitter, and G of the second, under the plan whose frame is F
pub record SameEmitters (F : Frame) (E G : Entries) : Type 0 where
  -- from fresh starts at the same phase
  pub emitted : (j : ℕ) (e g : Emitter) → Fresh E j e → Fresh G j g → SameSent E G e g
  -- the dummies never show: after any steps from a fresh start, whatever symbol x comes next, all that is thrown away is filler
  pub thrown : (j : ℕ) (g : Emitter) → Fresh G j g → (steps : List Send) (x : List ℕ)
      → thrown_away F.depth (cells F) (emitter_after G g steps).store x ≡ replicate (J F * F.depth - cells F) filler
  -- the lengths of the delay lines add up to J * M * (M - 1) / 2
  pub lengths : literal_places F ≡ J F * F.depth * (F.depth - 1) / 2
  -- and no fresh start of the second emitter, at a phase below 128 and in so many cells, is refused
  pub started : (j : ℕ) (lent : List ℕ) → j < F.phases → literal_places F ≤ length lent → is_ok (G.start j lent).answer ≡ true

-- the claim, for the device d and a plan's bytes s
abbrev pub SameAsFigure : Device → List ℕ → Type 0
SameAsFigure d s = SameEmitters (frame_of d (plan_of s)) (cell_entries d s) (figure_entries d s)
