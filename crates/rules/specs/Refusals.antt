-- Answers and refusals (document 01, "The twenty grounds" and "Other entries"): what an entry answers where no ground holds, or the number
-- of the first ground that does, with its place. Assumes nothing.
use Rattle.std.specs.Prelude.{ℕ, Result, Err}
use Rattle.rules.specs.declared.Refusal.{Refusal}
use Rattle.rules.specs.declared.RefusedStep.{RefusedStep}
use Rattle.rules.specs.declared.Role.{Role}
use Rattle.rules.specs.declared.Reason.{Reason}
use Rattle.rules.specs.declared.EmitterState.{EmitterState}
use Rattle.rules.specs.declared.ReceiverState.{ReceiverState}
use Rattle.rules.specs.declared.Heard.{Heard}

-- what a look for grounds finds: nothing, or a refusal
abbrev pub Finding : Type 0
Finding = Result Unit Refusal

-- the verdict on a plan: N_I, or a refusal
abbrev pub Verdict : Type 0
Verdict = Result ℕ Refusal

abbrev pub RoleAnswer : Type 0
RoleAnswer = Result Role Refusal

abbrev pub WhyAnswer : Type 0
WhyAnswer = Result Reason Refusal

abbrev pub CountAnswer : Type 0
CountAnswer = Result ℕ Refusal

abbrev pub StartAnswer : Type 0
StartAnswer = Result EmitterState Refusal

abbrev pub ListenAnswer : Type 0
ListenAnswer = Result ReceiverState Refusal

abbrev pub SendAnswer : Type 0
SendAnswer = Result EmitterState (RefusedStep EmitterState)

abbrev pub ReceiveAnswer : Type 0
ReceiveAnswer = Result (Heard ReceiverState) (RefusedStep ReceiverState)

abbrev pub refusal : ℕ → ℕ → Refusal
refusal n place = record { number = n; place = place }

-- refused by ground n, at its place
abbrev pub refused_by : {T : Type 0} → ℕ → ℕ → Result T Refusal
refused_by n place = Err (refusal n place)

-- a refused step: the refusal, and the state as it was given
abbrev pub refused_step : {T S : Type 0} → Refusal → S → Result T (RefusedStep S)
refused_step r s = Err (record { refusal = r; state = s })
