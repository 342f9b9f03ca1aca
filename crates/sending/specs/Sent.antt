-- A sending step by its kind: a flush, or an emit step. Assumes nothing.
use Rattle.std.specs.Prelude.{ℕ, Bool, true, false, List}
use Rattle.rules.specs.declared.Device.{Device}
use Rattle.rules.specs.declared.EmitterState.{EmitterState}
use Rattle.rules.specs.Frame.{Given, flush, symbol}
use Rattle.rules.specs.Steps.{Emitter, Send, Sending, send_step}

-- what it is given: a flush, or the data symbol ds
abbrev pub given_by : Bool → List ℕ → Given
given_by true ds = flush
given_by false ds = symbol ds

abbrev pub at : EmitterState → List ℕ → Emitter
at e store = record { state = e; store = store }

abbrev pub giving : Given → List ℕ → List ℕ → Send
giving g w room = record { given = g; profile = w; room = room }

-- what it answers and leaves: the plan, the profile, the kind, the state, the lent store, the data and the lent symbol
abbrev pub step_by : Device → List ℕ → List ℕ → Bool → EmitterState → List ℕ → List ℕ → List ℕ → Sending
step_by d s w flushing e store ds room = send_step d s (at e store) (giving (given_by flushing ds) w room)
