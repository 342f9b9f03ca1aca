-- The numbers of each answer, in the order in which they go into a checksum: 1 for an answer that is none of the others, 3 for data, 2 for a
-- refusal, then what the answer says. Assumes nothing.
use Rattle.std.specs.Prelude.{ℕ, List, [], ◌∷◌, ◌++◌, Ok, Err}
use Rattle.rules.specs.declared.Refusal.{Refusal}
use Rattle.rules.specs.declared.ReceiverState.{ReceiverState}
use Rattle.rules.specs.declared.Heard.TheVariants.{Warming, Data}
use Rattle.rules.specs.Refusals.{CountAnswer, StartAnswer, ListenAnswer, SendAnswer, ReceiveAnswer}

-- a refusal: its number and place
abbrev pub refusal_numbers : Refusal → List ℕ
refusal_numbers r = 2 ∷ r.number ∷ r.place ∷ []

-- a receiver's state
abbrev pub state_numbers : ReceiverState → List ℕ
state_numbers v = v.phase ∷ v.heard ∷ []

-- N_D
abbrev pub count_numbers : CountAnswer → List ℕ
count_numbers (Ok n) = 1 ∷ n ∷ []
count_numbers (Err r) = refusal_numbers r

-- a fresh emitter's state
abbrev pub start_numbers : StartAnswer → List ℕ
start_numbers (Ok e) = 1 ∷ e.phase ∷ []
start_numbers (Err r) = refusal_numbers r

-- a fresh receiver's state
abbrev pub listen_numbers : ListenAnswer → List ℕ
listen_numbers (Ok v) = 1 ∷ state_numbers v
listen_numbers (Err r) = refusal_numbers r

-- the emitter's next state, or the refusal and the state as it was given
abbrev pub send_numbers : SendAnswer → List ℕ
send_numbers (Ok e) = 1 ∷ e.phase ∷ []
send_numbers (Err r) = refusal_numbers r.refusal ++ (r.state.phase ∷ [])

-- the receiver's next state, before it the count of data cells handed out; or the refusal and the state as it was given
abbrev pub receive_numbers : ReceiveAnswer → List ℕ
receive_numbers (Ok (Warming v)) = 1 ∷ state_numbers v
receive_numbers (Ok (Data v n)) = 3 ∷ n ∷ state_numbers v
receive_numbers (Err r) = refusal_numbers r.refusal ++ state_numbers r.state
