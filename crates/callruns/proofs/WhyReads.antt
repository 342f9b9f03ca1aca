-- What a C host takes from a why call is the answer of `why`. Assumes nothing.
use Prim.Native.Nat.{ℕ}
use mathlib.Core.Path.{◌≡◌, refl, ap, ◌∙◌}
use mathlib.Core.Bool.{Bool}
use mathlib.Core.List.{List}
use lib.Dec.{eqb}
use Rattle.counting.specs.Search.{pick}
use Rattle.rules.specs.declared.Device.{Device}
use Rattle.rules.specs.declared.Reason.TheVariants.{ExcludedBy, PlcBy, PilotBelow, PilotAbove, PilotBy, ScatteredOnly, DataBut}
use Rattle.rules.specs.Refusals.{WhyAnswer}
use Rattle.std.specs.Prelude.{Ok, Err, is_ok}
use Rattle.reasons.specs.Reasons.{why_answer}
use Rattle.answerbytes.specs.declared.Told.{Told}
use Rattle.answerbytes.specs.Layout.{short, written}
use Rattle.answers.specs.Answer.{told_why}
use Rattle.headend.specs.Calls.{Said, says, why_call}
use Rattle.callruns.specs.CallEntries.{told_in}
use Rattle.callruns.specs.WhyRead.{reason_of, why_of, WhyIsRead}
use Rattle.callruns.proofs.Numbers.{why_zero}
use Rattle.callruns.proofs.Warming.{told_back, long}

-- of an answer whose number is 0 exactly if it gives a reason
read_back : (w : WhyAnswer) → eqb (told_why w).number 0 ≡ is_ok w → why_of (told_why w) ≡ w
read_back (Ok (ExcludedBy i)) h = refl
read_back (Ok (PlcBy i)) h = refl
read_back (Ok (PilotBelow x)) h = refl
read_back (Ok (PilotAbove x)) h = refl
read_back (Ok (PilotBy i)) h = refl
read_back (Ok (ScatteredOnly q)) h = refl
read_back (Ok (DataBut q)) h = refl
read_back (Err r) h = ap (λ (b : Bool). pick b (Ok (reason_of 0 r.place 0)) (Err r)) h

pub why_is_read : (d : Device) (s : List ℕ) → WhyIsRead d s
unfolding why_call
why_is_read d s k j a e =
    let t : Told = told_why (why_answer d s k j) in
    let left : pick (short a) (says 21 a) (says t.number (written a t)) ≡ says t.number (written a t) = ap (λ (b : Bool). pick b (says 21 a) (says t.number (written a t))) e in
    ap (λ (x : Said). why_of (told_in x)) left ∙ ap why_of (told_back a t (long a e)) ∙ read_back (why_answer d s k j) (why_zero d s k j)
