-- The calls for a C host (requests 01, 04, 05, 07, 08 and 10): too short an answer buffer is ground 21 and leaves all as it is; else a call returns and
-- leaves what the entry beneath it answers and leaves. Assumes nothing.
use Rattle.std.specs.Prelude.{ℕ, List, Float}
use Rattle.counting.specs.Search.{pick}
use Rattle.rules.specs.declared.Device.{Device}
use Rattle.rules.specs.Grounds.{verdict}
use Rattle.rules.specs.Answers.{role_answer}
use Rattle.rules.specs.Steps.{Starting, Sending, data_count_answer}
use Rattle.rules.specs.Receive.{Listening, Receiving}
use Rattle.rules.specs.Filling.{Filling}
use Rattle.exclusion.specs.Trial.{trial_of_numbers}
use Rattle.reasons.specs.Reasons.{why_answer}
use Rattle.bytecells.specs.ByteSteps.{start_bytes, listen_bytes, emit_bytes, flush_bytes, receive_bytes, fill_bytes, unfill_bytes}
use Rattle.bytelamp.specs.ByteLamp.{ByteListing, ByteHearing, pilots_bytes, lamp_bytes}
use Rattle.modulator.specs.Symbols.{Modulating}
use Rattle.bytemodulate.specs.ByteSymbols.{modulate_bytes}
use Rattle.answerbytes.specs.declared.Told.{Told}
use Rattle.answerbytes.specs.Layout.{short, written}
use Rattle.answers.specs.Answer.{told_role, told_why, told_count, told_start, told_listen, told_send, told_receive, told_modulate}

-- what a call returns, and what it leaves in the answer buffer
pub record Said : Type 0 where
  pub number : ℕ
  pub answer : List ℕ

abbrev pub says : ℕ → List ℕ → Said
says n a = record { number = n; answer = a }

-- a call that is told t
abbrev pub telling : List ℕ → Told → Said
telling a t = pick (short a) (says 21 a) (says t.number (written a t))

-- the same, with the lent store
pub record StoreSaid : Type 0 where
  pub said : Said
  pub store : List ℕ

abbrev pub says_store : ℕ → List ℕ → List ℕ → StoreSaid
says_store n st a = record { said = says n a; store = st }

-- the same, with the lent store and the lent symbol or data buffer
pub record StepSaid : Type 0 where
  pub said : Said
  pub store : List ℕ
  pub cells : List ℕ

abbrev pub says_step : ℕ → List ℕ → List ℕ → List ℕ → StepSaid
says_step n st y a = record { said = says n a; store = st; cells = y }

-- the same, with the numbers of the lent modulator symbol
pub record NumbersSaid : Type 0 where
  pub said : Said
  pub numbers : List Float

abbrev pub says_numbers : ℕ → List Float → List ℕ → NumbersSaid
says_numbers n l a = record { said = says n a; numbers = l }

-- the same, with the lent data, stream or list of pilots
pub record FillSaid : Type 0 where
  pub said : Said
  pub left : List ℕ

abbrev pub says_fill : ℕ → List ℕ → List ℕ → FillSaid
says_fill n l a = record { said = says n a; left = l }

-- the same, with the lamp's record and the lent lights
pub record LampSaid : Type 0 where
  pub said : Said
  pub counts : List ℕ
  pub lights : List ℕ

abbrev pub says_lamp : ℕ → List ℕ → List ℕ → List ℕ → LampSaid
says_lamp n r l a = record { said = says n a; counts = r; lights = l }

-- what a call says of what the entry beneath it answered and left
abbrev pub start_told : Starting → List ℕ → StoreSaid
start_told r a = says_store (told_start r.answer).number r.store (written a (told_start r.answer))

abbrev pub listen_told : Listening → List ℕ → StoreSaid
listen_told r a = says_store (told_listen r.answer).number r.store (written a (told_listen r.answer))

abbrev pub send_told : Sending → List ℕ → StepSaid
send_told r a = says_step (told_send r.answer).number r.store r.symbol (written a (told_send r.answer))

abbrev pub receive_told : Receiving → List ℕ → StepSaid
receive_told r a = says_step (told_receive r.answer).number r.store r.buffer (written a (told_receive r.answer))

abbrev pub modulate_told : Modulating → List ℕ → NumbersSaid
modulate_told r a = says_numbers (told_modulate r.answer).number r.numbers (written a (told_modulate r.answer))

abbrev pub fill_told : Filling → List ℕ → FillSaid
fill_told r a = says_fill (told_count r.answer).number r.left (written a (told_count r.answer))

abbrev pub list_told : ByteListing → List ℕ → FillSaid
list_told r a = says_fill (told_count r.answer).number r.list (written a (told_count r.answer))

abbrev pub lamp_told : ByteHearing → List ℕ → LampSaid
lamp_told r a = says_lamp (told_count r.answer).number r.counts r.lights (written a (told_count r.answer))

module _ (d : Device) (s : List ℕ) where
  unfoldable pub judge_call : List ℕ → Said
  judge_call a = telling a (told_count (verdict d s))

  -- the first and the last number of the range
  unfoldable pub try_call : ℕ → ℕ → List ℕ → Said
  try_call first last a = telling a (told_count (trial_of_numbers d s first last))

  -- the subcarrier and the phase
  unfoldable pub role_call : ℕ → ℕ → List ℕ → Said
  role_call k j a = telling a (told_role (role_answer d s k j))

  unfoldable pub why_call : ℕ → ℕ → List ℕ → Said
  why_call k j a = telling a (told_why (why_answer d s k j))

  -- the phase
  unfoldable pub count_call : ℕ → List ℕ → Said
  count_call j a = telling a (told_count (data_count_answer d s j))

  -- the starting phase and the lent store
  unfoldable pub start_call : ℕ → List ℕ → List ℕ → StoreSaid
  start_call j store a = pick (short a) (says_store 21 store a) (start_told (start_bytes d s j store) a)

  unfoldable pub listen_call : ℕ → List ℕ → List ℕ → StoreSaid
  listen_call j store a = pick (short a) (says_store 21 store a) (listen_told (listen_bytes d s j store) a)

  -- the load profile, the phase, the lent store, the data and the lent symbol
  unfoldable pub emit_call : List ℕ → ℕ → List ℕ → List ℕ → List ℕ → List ℕ → StepSaid
  emit_call w j store ds room a = pick (short a) (says_step 21 store room a) (send_told (emit_bytes d s w (record { phase = j }) store ds room) a)

  -- the same without profile and data
  unfoldable pub flush_call : ℕ → List ℕ → List ℕ → List ℕ → StepSaid
  flush_call j store room a = pick (short a) (says_step 21 store room a) (send_told (flush_bytes d s (record { phase = j }) store room) a)

  -- the load profile, the phase and heard, the lent store, the arriving symbol and the lent data buffer
  unfoldable pub receive_call : List ℕ → ℕ → ℕ → List ℕ → List ℕ → List ℕ → List ℕ → StepSaid
  receive_call w j h store y b a =
      pick (short a) (says_step 21 store b a) (receive_told (receive_bytes d s w (record { phase = j; heard = h }) store y b) a)

  -- the load profile, the phase, the stream, the start and the lent data
  unfoldable pub fill_call : List ℕ → ℕ → List ℕ → ℕ → List ℕ → List ℕ → FillSaid
  fill_call w j stream start room a = pick (short a) (says_fill 21 room a) (fill_told (fill_bytes d s w j stream start room) a)

  -- the load profile, the phase, the data, the start and the lent stream
  unfoldable pub unfill_call : List ℕ → ℕ → List ℕ → ℕ → List ℕ → List ℕ → FillSaid
  unfill_call w j ds start stream a = pick (short a) (says_fill 21 stream a) (fill_told (unfill_bytes d s w j ds start stream) a)

  -- the lent list of pilots
  unfoldable pub pilots_call : List ℕ → List ℕ → FillSaid
  pilots_call l a = pick (short a) (says_fill 21 l a) (list_told (pilots_bytes d s l) a)

  -- the symbol, the lamp's record and the lent lights
  unfoldable pub lamp_call : List ℕ → List ℕ → List ℕ → List ℕ → LampSaid
  lamp_call y r l a = pick (short a) (says_lamp 21 r l a) (lamp_told (lamp_bytes d s y r l) a)

-- no plan: the symbol on the line, the load of each subcarrier, the sign of each subcarrier's pilot and the lent modulator symbol
unfoldable pub modulate_call : Device → List ℕ → List ℕ → List ℕ → List Float → List ℕ → NumbersSaid
modulate_call d symbol loads minus l a = pick (short a) (says_numbers 21 l a) (modulate_told (modulate_bytes symbol loads minus d l) a)
