-- What a C host reads from a call's number and from the value in its answer buffer (requests 01, 04, 05, 07, 08 and 10). Statements only. Assumes nothing.
use Rattle.std.specs.Prelude.{ℕ, ◌+◌, ◌*◌, ◌≡◌, ◌↔◌, Bool, true, false, List, get_or, Float, Ok, Err, is_ok}
use Rattle.rules.specs.declared.Device.{Device}
use Rattle.rules.specs.declared.EmitterState.{EmitterState}
use Rattle.rules.specs.declared.ReceiverState.{ReceiverState}
use Rattle.rules.specs.declared.Heard.TheVariants.{Warming, Data}
use Rattle.rules.specs.Refusals.{ReceiveAnswer}
use Rattle.rules.specs.Grounds.{verdict}
use Rattle.rules.specs.Answers.{role_answer}
use Rattle.rules.specs.Steps.{data_count_answer}
use Rattle.bytecells.specs.ByteSteps.{start_bytes, listen_bytes, emit_bytes, flush_bytes, receive_bytes, fill_bytes, unfill_bytes}
use Rattle.bytelamp.specs.ByteLamp.{pilots_bytes, lamp_bytes}
use Rattle.bytemodulate.specs.ByteSymbols.{modulate_bytes}
use Rattle.answerbytes.specs.Layout.{short}
use Rattle.exclusion.specs.Trial.{trial_of_numbers}
use Rattle.reasons.specs.Reasons.{why_answer}
use Rattle.headend.specs.Calls.{judge_call, try_call, role_call, why_call, count_call, start_call, listen_call, emit_call, flush_call, receive_call, fill_call, unfill_call, pilots_call, lamp_call, modulate_call}

abbrev pub is_warming : ReceiveAnswer → Bool
is_warming (Ok (Warming v)) = true
is_warming (Ok (Data v n)) = false
is_warming (Err r) = false

-- a number in an answer buffer: four bytes from byte i on, high byte first
unfoldable pub number_in : List ℕ → ℕ → ℕ
number_in a i = get_or a i 0 * 16777216 + get_or a (i + 1) 0 * 65536 + get_or a (i + 2) 0 * 256 + get_or a (i + 3) 0

-- the value: the last of four such numbers
abbrev pub value_in : List ℕ → ℕ
value_in a = number_in a 12

-- A call returns 0 exactly if nothing refuses: the answer buffer a is long enough, and the entry beneath the call does not refuse.
pub record ZeroIsAccepted (d : Device) (s : List ℕ) : Type 0 where
  pub judged : (a : List ℕ) → ((judge_call d s a).number ≡ 0) ↔ ((short a ≡ false) × (is_ok (verdict d s) ≡ true))
  pub tried : (first last : ℕ) (a : List ℕ) → ((try_call d s first last a).number ≡ 0) ↔ ((short a ≡ false) × (is_ok (trial_of_numbers d s first last) ≡ true))
  pub role : (k j : ℕ) (a : List ℕ) → ((role_call d s k j a).number ≡ 0) ↔ ((short a ≡ false) × (is_ok (role_answer d s k j) ≡ true))
  pub reasoned : (k j : ℕ) (a : List ℕ) → ((why_call d s k j a).number ≡ 0) ↔ ((short a ≡ false) × (is_ok (why_answer d s k j) ≡ true))
  pub counted : (j : ℕ) (a : List ℕ) → ((count_call d s j a).number ≡ 0) ↔ ((short a ≡ false) × (is_ok (data_count_answer d s j) ≡ true))
  pub started : (j : ℕ) (store a : List ℕ) → ((start_call d s j store a).said.number ≡ 0) ↔ ((short a ≡ false) × (is_ok (start_bytes d s j store).answer ≡ true))
  pub listens : (j : ℕ) (store a : List ℕ) → ((listen_call d s j store a).said.number ≡ 0) ↔ ((short a ≡ false) × (is_ok (listen_bytes d s j store).answer ≡ true))
  pub emitted : (w : List ℕ) (e : EmitterState) (store ds room a : List ℕ)
      → ((emit_call d s w e.phase store ds room a).said.number ≡ 0) ↔ ((short a ≡ false) × (is_ok (emit_bytes d s w e store ds room).answer ≡ true))
  pub flushed : (e : EmitterState) (store room a : List ℕ)
      → ((flush_call d s e.phase store room a).said.number ≡ 0) ↔ ((short a ≡ false) × (is_ok (flush_bytes d s e store room).answer ≡ true))
  pub received : (w : List ℕ) (v : ReceiverState) (store y b a : List ℕ)
      → ((receive_call d s w v.phase v.heard store y b a).said.number ≡ 0) ↔ ((short a ≡ false) × (is_ok (receive_bytes d s w v store y b).answer ≡ true))
  pub filled : (w : List ℕ) (j : ℕ) (stream : List ℕ) (start : ℕ) (room a : List ℕ)
      → ((fill_call d s w j stream start room a).said.number ≡ 0) ↔ ((short a ≡ false) × (is_ok (fill_bytes d s w j stream start room).answer ≡ true))
  pub unfilled : (w : List ℕ) (j : ℕ) (ds : List ℕ) (start : ℕ) (stream a : List ℕ)
      → ((unfill_call d s w j ds start stream a).said.number ≡ 0) ↔ ((short a ≡ false) × (is_ok (unfill_bytes d s w j ds start stream).answer ≡ true))
  pub listed : (l a : List ℕ) → ((pilots_call d s l a).said.number ≡ 0) ↔ ((short a ≡ false) × (is_ok (pilots_bytes d s l).answer ≡ true))
  pub heard : (y r l a : List ℕ) → ((lamp_call d s y r l a).said.number ≡ 0) ↔ ((short a ≡ false) × (is_ok (lamp_bytes d s y r l).answer ≡ true))
  -- this one is given no plan
  pub modulated : (y loads minus : List ℕ) (l : List Float) (a : List ℕ)
      → ((modulate_call d y loads minus l a).said.number ≡ 0) ↔ ((short a ≡ false) × (is_ok (modulate_bytes y loads minus d l).answer ≡ true))

-- A receive call that returns 0 leaves the value 0 exactly if it answers warming.
abbrev pub ZeroIsWarming : Device → List ℕ → Type 0
ZeroIsWarming d s =
    (w : List ℕ) (v : ReceiverState) (store y b a : List ℕ) → (receive_call d s w v.phase v.heard store y b a).said.number ≡ 0
    → (value_in (receive_call d s w v.phase v.heard store y b a).said.answer ≡ 0) ↔ (is_warming (receive_bytes d s w v store y b).answer ≡ true)
