-- What a C host reads from a call that says why a subcarrier has its role (request 08; docs/C-HOST.md). Statements only. Assumes nothing.
use Rattle.std.specs.Prelude.{ℕ, ◌≡◌, false, List, eqb, Ok}
use Rattle.counting.specs.Search.{pick}
use Rattle.rules.specs.declared.Device.{Device}
use Rattle.rules.specs.declared.Reason.{Reason}
use Rattle.rules.specs.declared.Reason.TheVariants.{ExcludedBy, PlcBy, PilotBelow, PilotAbove, PilotBy, ScatteredOnly, DataBut}
use Rattle.rules.specs.Refusals.{WhyAnswer, refused_by}
use Rattle.reasons.specs.Reasons.{why_answer}
use Rattle.answerbytes.specs.declared.Told.{Told}
use Rattle.answerbytes.specs.Layout.{short}
use Rattle.headend.specs.Calls.{why_call}
use Rattle.callruns.specs.CallEntries.{told_in}

-- the value says which of the seven it is; the place is the record or the distance, the phase the phase
abbrev pub reason_of : ℕ → ℕ → ℕ → Reason
reason_of value place phase =
    pick (eqb value 1) (ExcludedBy place)
    (pick (eqb value 2) (PlcBy place)
    (pick (eqb value 3) (PilotBelow place)
    (pick (eqb value 4) (PilotAbove place)
    (pick (eqb value 5) (PilotBy place)
    (pick (eqb value 6) (ScatteredOnly phase) (DataBut phase))))))

-- how a host takes what a call said: the number 0 is not refused
abbrev pub why_of : Told → WhyAnswer
why_of t = pick (eqb t.number 0) (Ok (reason_of t.value t.place t.phase)) (refused_by t.number t.place)

-- what it takes is the answer of `why`, of which crate reasons claims that it is true
abbrev pub WhyIsRead : Device → List ℕ → Type 0
WhyIsRead d s = (k j : ℕ) (a : List ℕ) → short a ≡ false → why_of (told_in (why_call d s k j a)) ≡ why_answer d s k j
