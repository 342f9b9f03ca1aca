-- A run: a list of steps under one plan, refused ones included (document 01, "Cells and interleaving"). Assumes nothing.
use Rattle.std.specs.Prelude.{ℕ, ◌≡◌, Bool, true, false, List, [], ◌∷◌, map, take, Result, Ok, Err, is_ok}
use Rattle.counting.specs.Search.{pick}
use Rattle.rules.specs.declared.Device.{Device}
use Rattle.rules.specs.declared.RefusedStep.{RefusedStep}
use Rattle.rules.specs.declared.Heard.{Heard}
use Rattle.rules.specs.declared.Heard.TheVariants.{Warming, Data}
use Rattle.rules.specs.Refusals.{ReceiveAnswer}
use Rattle.rules.specs.Frame.{Given, flush, symbol}
use Rattle.rules.specs.Steps.{Emitter, Send, Sending, Starting, starts, start_step, send_step}
use Rattle.rules.specs.Filling.{Filling, fill_step, unfill_step}
use Rattle.rules.specs.Receive.{Receiver, Arrival, Receiving, Listening, listens, listen_step, hear_step}

-- ---- any run: how steps go, which are accepted, and what the next one is given

module _ {E A R : Type 0} (step : E → A → R) (ok : R → Bool) (left : R → E) where
  -- the accepted steps in order: what each was given, and what came of it
  unfoldable pub accepted_steps : E → List A → List (A × R)
  accepted_steps e [] = []
  accepted_steps e (a ∷ rest) = pick (ok (step e a)) ((a, step e a) ∷ accepted_steps (left (step e a)) rest) (accepted_steps (left (step e a)) rest)

module _ {E A R : Type 0} (step : E → A → R) (left : R → E) where
  -- what one more step is given
  unfoldable pub after_steps : E → List A → E
  after_steps e [] = e
  after_steps e (a ∷ rest) = after_steps (left (step e a)) rest

-- ---- what a run steps through

-- the entries that a caller uses, as functions, and how they take a list of the caller's numbers: whether it is one of whole cells, and its cells
pub record Entries : Type 0 where
  pub start : ℕ → List ℕ → Starting
  pub send : Emitter → Send → Sending
  pub listen : ℕ → List ℕ → Listening
  pub hear : Receiver → Arrival → Receiving
  pub fill : List ℕ → ℕ → List ℕ → ℕ → List ℕ → Filling
  pub unfill : List ℕ → ℕ → List ℕ → ℕ → List ℕ → Filling
  pub whole : List ℕ → Bool
  pub read : List ℕ → List ℕ

-- the entries over cells, for the device d and a plan's bytes s: a number is a cell
abbrev pub cell_entries : Device → List ℕ → Entries
cell_entries d s = record {
  start = start_step d s;
  send = send_step d s;
  listen = listen_step d s;
  hear = hear_step d s;
  fill = fill_step d s;
  unfill = unfill_step d s;
  whole = λ x. true;
  read = λ x. x;
}

-- what a step was given, in cells
abbrev pub read_given : (List ℕ → List ℕ) → Given → Given
read_given read flush = flush
read_given read (symbol ds) = symbol (read ds)

-- ---- runs under one profile

-- a step that is given a load profile is given w; a flush is given none
abbrev pub GivenProfile : List ℕ → Send → Type 0
GivenProfile w a = (ds : List ℕ) → a.given ≡ symbol ds → a.profile ≡ w

-- an emitter's run is under one profile, w: the same wherever one is given (document 02, request 07)
abbrev pub UnderProfile : List ℕ → List Send → Type 0
UnderProfile w [] = Unit {0}
UnderProfile w (a ∷ rest) = GivenProfile w a × UnderProfile w rest

-- ---- an emitter's run

-- the state that an answer returns
abbrev pub state_of : {S : Type 0} → Result S (RefusedStep S) → S
state_of (Ok e) = e
state_of (Err r) = r.state

-- the next step is given the state that this one returned and the store as it left it
abbrev pub emitter_left : Sending → Emitter
emitter_left r = record { state = state_of r.answer; store = r.store }

module _ (E : Entries) (e : Emitter) (steps : List Send) where
  abbrev pub sendings : List (Send × Sending)
  sendings = accepted_steps E.send (λ r. is_ok r.answer) emitter_left e steps

  -- the run's input: what its accepted steps were given
  unfoldable pub input : List Given
  input = map (λ x. read_given E.read x.0.given) sendings

  -- the symbols sent: each accepted step sends one
  unfoldable pub sent : List (List ℕ)
  sent = map (λ x. E.read x.1.symbol) sendings

  -- the emitter after the steps
  abbrev pub emitter_after : Emitter
  emitter_after = after_steps E.send emitter_left e steps

-- e is what a fresh start at phase j left, in some lent store
pub record Fresh (E : Entries) (j : ℕ) (e : Emitter) : Type 0 where
  pub lent : List ℕ
  pub start : E.start j lent ≡ starts (Ok e.state) e.store

-- ---- a receiver's run

abbrev pub state_heard : {S : Type 0} → Result (Heard S) (RefusedStep S) → S
state_heard (Ok (Warming v)) = v
state_heard (Ok (Data v n)) = v
state_heard (Err r) = r.state

abbrev pub receiver_left : Receiving → Receiver
receiver_left r = record { state = state_heard r.answer; store = r.store }

-- the outcome of a receive step for its caller: warming, or data with a count and that many cells from the start of the buffer
pub data Outcome : Type 0 where
  warming : Outcome
  handed : ℕ → List ℕ → Outcome
  refused : Outcome

abbrev pub outcome_of : ReceiveAnswer → List ℕ → Outcome
outcome_of (Ok (Warming v)) buffer = warming
outcome_of (Ok (Data v n)) buffer = handed n (take n buffer)
outcome_of (Err r) buffer = refused

module _ (E : Entries) (v : Receiver) (steps : List Arrival) where
  abbrev pub receivings : List (Arrival × Receiving)
  receivings = accepted_steps E.hear (λ r. is_ok r.answer) receiver_left v steps

  -- the symbols that the accepted steps were given
  unfoldable pub heard : List (List ℕ)
  heard = map (λ x. E.read x.0.symbol) receivings

  -- their outcomes
  unfoldable pub outcomes : List Outcome
  outcomes = map (λ x. outcome_of x.1.answer (E.read x.1.buffer)) receivings

  -- the receiver after the steps
  abbrev pub receiver_after : Receiver
  receiver_after = after_steps E.hear receiver_left v steps

-- v is what a receiver's fresh start at phase j left, in some lent store
pub record FreshReceiver (E : Entries) (j : ℕ) (v : Receiver) : Type 0 where
  pub lent : List ℕ
  pub start : E.listen j lent ≡ listens (Ok v.state) v.store
