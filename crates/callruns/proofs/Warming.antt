-- A receive call that returns 0 leaves the value 0 exactly if it answers warming: N_D is at least 1. Assumes nothing.
use Prim.Native.Nat.{ℕ, ◌+◌, ◌/◌, ◌%◌, ◌≤◌, ◌<◌}
use mathlib.Core.Path.{◌≡◌, refl, sym, ap, ◌∙◌}
use mathlib.Core.Bool.{Bool, true, false, ◌||◌, false≢true}
use mathlib.Core.List.{List}
use native.Mathlib.Nat.{mod-lt}
use native.Mathlib.Omega.{arith}
use lib.Dec.{eqb}
use lib.ListN.{length, get_or}
use borrow.Author.Tests.{eqb-true, eq-eqb, ne_eqb, ltb-false}
use Rattle.counting.specs.Search.{pick}
use Rattle.counting.proofs.Bools.{by_test}
use Rattle.counting.proofs.Lists.{get_or-sets_0}
use Rattle.rules.specs.declared.Device.{Device}
use Rattle.rules.specs.declared.Refusal.{Refusal}
use Rattle.rules.specs.Refusals.{Finding}
use Rattle.std.specs.Prelude.{Ok, Err, is_ok}
use Rattle.rules.specs.declared.ReceiverState.{ReceiverState}
use Rattle.rules.specs.Plan.{plan_of}
use Rattle.rules.specs.Grounds.{grounds1to15}
use Rattle.rules.specs.Frame.{Frame, frame_of}
use Rattle.rules.specs.Receive as receive
use Rattle.rules.specs.Receive.{Receiver, Arrival, Receiving, turned_away, out_phase, out_count, receive_grounds, received, frame_receive, hear_step, receive_step}
use Rattle.facts.specs.Roomy.{Roomy}
use Rattle.facts.proofs.Data.{some_data}
use Rattle.bytecells.specs.Octets.{cells_of, odd}
use Rattle.bytecells.specs.ByteSteps.{receive_bytes}
use Rattle.answerbytes.specs.declared.Told.{Told}
use Rattle.answerbytes.specs.Layout.{four, layout, short, written}
use Rattle.answers.specs.Answer.{told_receive}
use Rattle.headend.specs.Calls.{says, StepSaid, says_step, receive_told, receive_call}
use Rattle.callruns.specs.Host.{is_warming, number_in, value_in, ZeroIsWarming}
use Rattle.callruns.specs.CallEntries.{told_in}
use Rattle.callruns.proofs.Zeros.{zero_is_accepted}

-- ---- the value in the buffer

byte_at : (a : List ℕ) (t : Told) (i : ℕ) → 16 ≤ length a → i < 16 → get_or (written a t) i 0 ≡ get_or (layout t) i 0
unfolding written layout four
byte_at a t i h l = get_or-sets_0 a (layout t) 0 i l h

-- the number whose four bytes stand from byte i on
word_at : (a : List ℕ) (t : Told) (i x : ℕ) → 16 ≤ length a → i + 3 < 16
    → get_or (layout t) i 0 ≡ x / 16777216 → get_or (layout t) (i + 1) 0 ≡ x / 65536 % 256 → get_or (layout t) (i + 2) 0 ≡ x / 256 % 256 → get_or (layout t) (i + 3) 0 ≡ x % 256
    → number_in (written a t) i ≡ x
unfolding number_in
word_at a t i x h l e0 e1 e2 e3 =
    let b0 : get_or (written a t) i 0 ≡ x / 16777216 = byte_at a t i h (omega arith) ∙ e0 in
    let b1 : get_or (written a t) (i + 1) 0 ≡ x / 65536 % 256 = byte_at a t (i + 1) h (omega arith) ∙ e1 in
    let b2 : get_or (written a t) (i + 2) 0 ≡ x / 256 % 256 = byte_at a t (i + 2) h (omega arith) ∙ e2 in
    let b3 : get_or (written a t) (i + 3) 0 ≡ x % 256 = byte_at a t (i + 3) h (omega arith) ∙ e3 in
    rw (b0, b1, b2, b3) (omega arith)

value_is : (a : List ℕ) (t : Told) → 16 ≤ length a → value_in (written a t) ≡ t.value
unfolding layout four
value_is a t h = word_at a t 12 t.value h (omega arith) refl refl refl refl

-- what was written is what is told
pub told_back : (a : List ℕ) (t : Told) → 16 ≤ length a → told_in (says t.number (written a t)) ≡ t
unfolding layout four
told_back a t h = λ i. record {
  number = t.number;
  place = word_at a t 0 t.place h (omega arith) refl refl refl refl i;
  phase = word_at a t 4 t.phase h (omega arith) refl refl refl refl i;
  heard = word_at a t 8 t.heard h (omega arith) refl refl refl refl i;
  value = word_at a t 12 t.value h (omega arith) refl refl refl refl i;
}

pub long : (a : List ℕ) → short a ≡ false → 16 ≤ length a
unfolding short
long a e = ltb-false (length a) 16 e

-- ---- the value of an answer

-- an answer that does not refuse has the value 0 exactly if it is warming
unfoldable pub Tells : Receiving → Type 0
Tells r = is_ok r.answer ≡ true → eqb (told_receive r.answer).value 0 ≡ is_warming r.answer

-- what is made where nothing is found, and what else
by_ground : (f : Finding) (made : Receiving) (away : Refusal → Receiving) → (f ≡ Ok tt → Tells made) → ((r : Refusal) → is_ok (away r).answer ≡ false)
    → Tells (elim f [ Ok _ ↦ made | Err r ↦ away r ])
unfolding Tells
by_ground (Ok tt) made away hm ha t = hm refl t
by_ground (Err r) made away hm ha t = absurd (false≢true (sym (ha r) ∙ t))

module _ (d : Device) (s : List ℕ) (roomy : Roomy d) where
  some_out : grounds1to15 d s ≡ Ok tt → (v : ReceiverState) → 1 ≤ out_count (frame_of d (plan_of s)) v
  unfolding frame_of
  some_out fine v = some_data d s roomy fine (out_phase (frame_of d (plan_of s)) v.phase) (mod-lt _ (omega arith))

  received_tells : grounds1to15 d s ≡ Ok tt → (v : Receiver) (a : Arrival) → Tells (received (frame_of d (plan_of s)) v a)
  unfolding Tells received
  received_tells fine v a =
      by_test (receive.warming (frame_of d (plan_of s)) v.state)
      (λ q. rw q (λ t. refl))
      (λ q. rw q (λ t. ne_eqb (out_count (frame_of d (plan_of s)) v.state) 0 (λ e. omega (arith, e, some_out fine v.state))))

  hear_tells : (v : Receiver) (a : Arrival) → Tells (hear_step d s v a)
  unfolding hear_step frame_receive
  hear_tells v a =
      let F : Frame = frame_of d (plan_of s) in
      by_ground (grounds1to15 d s) (frame_receive F v a) (turned_away v a)
      (λ fine. by_ground (receive_grounds F v a) (received F v a) (turned_away v a) (λ e. received_tells fine v a) (λ r. refl))
      (λ r. refl)

  pub bytes_tell : (w : List ℕ) (v : ReceiverState) (store y b : List ℕ) → Tells (receive_bytes d s w v store y b)
  unfolding Tells receive_bytes receive_step
  bytes_tell w v store y b =
      by_test (odd store || odd y || odd b) (λ q. rw q (λ t. absurd (false≢true t)))
      (λ q. rw q (hear_tells (record { state = v; store = cells_of store }) (record { profile = w; symbol = cells_of y; buffer = cells_of b })))

  pub zero_is_warming : ZeroIsWarming d s
  unfolding receive_call
  zero_is_warming w v store y b a e =
      let fine = ((zero_is_accepted d s).received w v store y b a).0 e in
      let r : Receiving = receive_bytes d s w v store y b in
      let told : eqb (told_receive r.answer).value 0 ≡ is_warming r.answer = unfold Tells in bytes_tell w v store y b fine.1 in
      let left : pick (short a) (says_step 21 store b a) (receive_told r a) ≡ receive_told r a = ap (λ (t : Bool). pick t (says_step 21 store b a) (receive_told r a)) fine.0 in
      let is : value_in (pick (short a) (says_step 21 store b a) (receive_told r a)).said.answer ≡ (told_receive r.answer).value =
      ap (λ (x : StepSaid). value_in x.said.answer) left ∙ value_is a (told_receive r.answer) (long a fine.0) in (
        λ z. sym told ∙ eq-eqb (told_receive r.answer).value 0 (sym is ∙ z),
        λ z. is ∙ eqb-true (told_receive r.answer).value 0 (told ∙ z),
      )
