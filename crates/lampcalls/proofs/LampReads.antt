-- What a C host takes from a call of the lamp is what the lamp answers and leaves. Assumes nothing.
use Rattle.std.specs.Prelude.{is_ok}
use Prim.Native.Nat.{ℕ, ◌%◌, ◌≤◌}
use mathlib.Core.Path.{◌≡◌, refl, sym, ap, ◌∙◌, subst}
use mathlib.Core.Bool.{Bool, false}
use mathlib.Core.List.{List}
use native.Mathlib.Omega.{arith}
use lib.Dec.{eqb}
use lib.ListN.{length, take, replicate}
use borrow.Author.Tests.{ltb-false, ne_eqb}
use Rattle.counting.specs.Search.{pick}
use Rattle.counting.proofs.Lists.{take-sets, length_tabulate}
use Rattle.rules.specs.Refusals.{refusal}
use Rattle.rules.specs.declared.Device.{Device}
use Rattle.rules.specs.Fits.{Fits}
use Rattle.rules.specs.Plan.{plan_of}
use Rattle.rules.proofs.Findings.{by_finding}
use Rattle.bytecells.specs.Octets.{bytes_of, odd}
use Rattle.bytecells.proofs.OctetLaws.{length_bytes, cells_bytes}
use Rattle.pilots.specs.Pilots.{pilots_most, continuous_pilots}
use Rattle.lamprecord.specs.Record.{lamp_cap, lights}
use Rattle.lampgrounds.specs.declared.LampAnswer.{LampAnswer}
use Rattle.lampgrounds.specs.Steps.{Hearing, leaves_record, lamp_finding, lamp_hears, lamp_step}
use Rattle.lampgrounds.proofs.Heard.{step_fine, step_refused}
use Rattle.lamp.specs.Claims.{StepClaims, RunClaims}
use Rattle.lamp.proofs.Runs.{lamp_claims}
use Rattle.bytelamp.specs.ByteLamp.{ByteHearing, put_if, with_lights, short_lights, lamp_bytes}
use Rattle.bytelamp.proofs.Bytes.{lamp_left}
use Rattle.answerbytes.specs.Layout.{short}
use Rattle.answers.specs.Answer.{told_count}
use Rattle.headend.specs.Calls.{says_lamp, lamp_told, lamp_call}
use Rattle.callruns.specs.CallEntries.{told_in, count_of}
use Rattle.callruns.proofs.Numbers.{lamp_zero}
use Rattle.callruns.proofs.Warming.{told_back, long}
use Rattle.callruns.proofs.Calls.{count_back}
use Rattle.lampcalls.specs.LampRead.{lamp_of, call_step, LampIsRead}

-- the bytes of cells are no odd number
even_bytes : (y : List ℕ) → odd (bytes_of y) ≡ false
unfolding odd
even_bytes y = ne_eqb (length (bytes_of y) % 2) 1 (λ e. absurd (omega (arith, length_bytes y)))

-- the lights of an answer that are taken: all of them, and zeros of a refusal
taken : LampAnswer → List ℕ → List ℕ
taken m l = pick (is_ok m.answer) (take pilots_most (put_if m.answer m.lights l)) (replicate pilots_most 0)

module _ (d : Device) (s l : List ℕ) (room : pilots_most ≤ length l) (r y : List ℕ) where
  lights_taken : taken (lamp_step d s r y).answer l ≡ (lamp_step d s r y).answer.lights
  unfolding taken lamp_hears lights
  lights_taken =
      by_finding (lamp_finding d s r (length y))
      (λ e. subst (λ (m : Hearing). taken m.answer l ≡ m.answer.lights) (step_fine d s r y e) (take-sets l _ pilots_most (length_tabulate _ pilots_most) room))
      (λ n place e. subst (λ (m : Hearing). taken m.answer l ≡ m.answer.lights) (step_refused d s r y (refusal n place) e) refl)

module _ (d : Device) (s l a : List ℕ) (lit : short_lights l ≡ false) (said : short a ≡ false) (r y : List ℕ) where
  abbrev step : Hearing
  step = lamp_step d s r y

  room : pilots_most ≤ length l
  unfolding short_lights
  room = ltb-false (length l) pilots_most lit

  -- over bytes
  bytes : lamp_bytes d s (bytes_of y) r l ≡ with_lights step l
  bytes = sym (lamp_left d s l (bytes_of y) r (even_bytes y) room) ∙ ap (λ (c : List ℕ). with_lights (lamp_step d s r c) l) (cells_bytes y)

  -- the call
  call : lamp_call d s (bytes_of y) r l a ≡ lamp_told (with_lights step l) a
  unfolding lamp_call
  call = ap (λ (b : Bool). pick b (says_lamp 21 r l a) (lamp_told (lamp_bytes d s (bytes_of y) r l) a)) said ∙ ap (λ (x : ByteHearing). lamp_told x a) bytes

  answer_read : count_of (told_in (lamp_told (with_lights step l) a).said) ≡ step.answer.answer
  answer_read = ap count_of (told_back a (told_count step.answer.answer) (long a said)) ∙ count_back step.answer.answer (lamp_zero d s r y)

  lights_read : pick (eqb (told_count step.answer.answer).number 0) (take pilots_most (put_if step.answer.answer step.answer.lights l)) (replicate pilots_most 0) ≡ step.answer.lights
  lights_read =
      ap (λ (b : Bool). pick b (take pilots_most (put_if step.answer.answer step.answer.lights l)) (replicate pilots_most 0)) (lamp_zero d s r y)
      ∙ unfold taken in lights_taken d s l room r y

  call_read : call_step d s l a r y ≡ step
  call_read = ap lamp_of call ∙ (λ i. leaves_record (record { answer = answer_read i; lights = lights_read i }) step.counts)

pub lamp_is_read : (d : Device) → Fits d → (s : List ℕ) → LampIsRead d s
lamp_is_read d fits s l a lit said =
    let same : lamp_step d s ≡ call_step d s l a = λ i r y. sym (call_read d s l a lit said r y) i in
    let claims = lamp_claims d fits s in
    record {
      read = call_read d s l a lit said;
      steps = subst StepClaims same claims.steps;
      runs = λ n e ys. subst (λ (step : List ℕ → List ℕ → Hearing). RunClaims lamp_cap (continuous_pilots d (plan_of s)) d.subcarriers step ys) same (claims.runs n e ys);
    }
