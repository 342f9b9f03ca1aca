-- What the entry on whole-number points answers (request 04): 22, then 23. Assumes nothing.
use Rattle.std.specs.Prelude.{ℕ, ◌^◌, ltb, Result, Ok}
use Rattle.counting.specs.Search.{pick}
use Rattle.rules.specs.declared.Refusal.{Refusal}
use Rattle.rules.specs.Refusals.{refused_by}
use Rattle.points.specs.declared.Point.{Point}
use Rattle.points.specs.Points.{point_of, load_listed}

-- the answer to which point: the point, or a refusal
abbrev pub PointAnswer : Type 0
PointAnswer = Result Point Refusal

-- 22: a load not listed, place the load; 23: a value not below 2 to the load, place the value
unfoldable pub point_answer : ℕ → ℕ → PointAnswer
point_answer m v = pick (load_listed m) (pick (ltb v (2 ^ m)) (Ok (point_of m v)) (refused_by 23 v)) (refused_by 22 m)
