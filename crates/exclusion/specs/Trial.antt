-- What one more excluded range would do to a plan (document 02, Req 05). Assumes nothing.
use Rattle.std.specs.Prelude.{ℕ, ◌+◌, ◌/◌, Bool, ◌||◌, List, ltb, length, Ok, Err}
use Rattle.counting.specs.Search.{pick, when}
use Rattle.rules.specs.declared.Device.{Device}
use Rattle.rules.specs.Refusals.{Verdict, refused_by}
use Rattle.rules.specs.Grounds.{◌else◌, ground?, grounds1to5, answer, verdict}
use Rattle.copies.specs.Copy.{plan_max, copy_with}

-- "A plan refused by 1 to 5 gives that refusal, else the copy's verdict is given, 1 included"
unfoldable pub trial_verdict : Device → List ℕ → ℕ → ℕ → Verdict
trial_verdict d s first last = elim (grounds1to5 d s) [ Ok _ ↦ verdict d (copy_with s first last) | Err r ↦ Err r ]

-- a record has two bytes for a number
abbrev pub number_max : ℕ
number_max = 65535

-- one of the two numbers is above what a record can hold
unfoldable pub too_large : ℕ → ℕ → Bool
too_large first last = ltb number_max first || ltb number_max last

-- Numbers of 32 bits, as a C host gives them: with one that no record can hold there is no copy, and the answer is what a copy with too
-- large a number would get: the plan's refusal by 1 to 5, else 1 where the copy is too long, else 4 at the new record.
unfoldable pub trial_of_numbers : Device → List ℕ → ℕ → ℕ → Verdict
trial_of_numbers d s first last =
    pick
    (too_large first last)
    (answer (grounds1to5 d s else ground? 1 (when (ltb plan_max (length s + 8)) 0) else refused_by 4 (length s / 8)) 0)
    (trial_verdict d s first last)
