-- What the entry on the way back answers (request 04): 22, then 24. Assumes nothing.
use Rattle.std.specs.Prelude.{ℕ, ◌^◌, Bool, false, ◌&&◌, eqb, ℤ, pos, negsuc, Option, Some, None, Result, Ok}
use Rattle.counting.specs.Search.{pick, lowest}
use Rattle.rules.specs.declared.Refusal.{Refusal}
use Rattle.rules.specs.Refusals.{refused_by}
use Rattle.points.specs.declared.Point.{Point}
use Rattle.points.specs.Points.{point_of, load_listed}

abbrev pub same_whole : ℤ → ℤ → Bool
same_whole (pos a) (pos b) = eqb a b
same_whole (pos a) (negsuc b) = false
same_whole (negsuc a) (pos b) = false
same_whole (negsuc a) (negsuc b) = eqb a b

-- the value makes the point
unfoldable pub makes : ℕ → Point → ℕ → Bool
makes m p v = same_whole (point_of m v).x p.x && same_whole (point_of m v).y p.y

-- the answer to which value: the value, or a refusal
abbrev pub ValueAnswer : Type 0
ValueAnswer = Result ℕ Refusal

-- the one value (proofs/ValueLaws, `one_value`), or 24: a point of no value
abbrev pub found : Option ℕ → ValueAnswer
found (Some v) = Ok v
found None = refused_by 24 0

unfoldable pub value_answer : ℕ → Point → ValueAnswer
value_answer m p = pick (load_listed m) (found (lowest (makes m p) (2 ^ m))) (refused_by 22 m)
