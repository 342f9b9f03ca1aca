-- Every scaled point that is answered is near the value's point. Assumes nothing.
use Prim.Native.Nat.{ℕ, ◌^◌, ◌<◌, ◌≤◌}
use mathlib.Core.Path.{◌≡◌, refl, ap, subst}
use mathlib.Core.Bool.{true, false, not}
use lib.Dec.{T}
use lib.IntN.{ℤ}
use lib.Ieee.{Float, nan, inf, fin, binary32, to_bits, is_nan}
use Rattle.counting.proofs.Bools.{and_intro, and_left, and_right, conflict}
use Rattle.points.specs.declared.Point.{Point}
use Rattle.std.specs.Prelude.{Ok, Err}
use Rattle.rules.specs.Refusals.{refused_by}
use Rattle.points.specs.Points.{point_of, load_listed}
use Rattle.points.specs.Roots.{root}
use Rattle.points.specs.Answers.{PointAnswer, point_answer}
use Rattle.points.proofs.BackLaws.{answered, point_22, point_23, point_at, covered, at_most, small_x, small_y}
use Rattle.scaling.specs.declared.ScaledPoint.{ScaledPoint}
use Rattle.scaling.specs.Single.{near}
use Rattle.scaling.specs.Scale.{scaled, scaled_point, near_point, scaled_from, scaled_answer, near_answer}
use Rattle.scaling.proofs.Sweep.{all_near}

pub near_point_lem : (m v : ℕ) → load_listed m ≡ true → near_point m (point_of m v) (scaled_point m (point_of m v)) ≡ true
near_point_lem m v t =
    let p = point_of m v in
    and_intro (near (root m) p.x (to_bits binary32 (scaled m p.x))) (near (root m) p.y (to_bits binary32 (scaled m p.y)))
    (all_near m p.x (covered m t).some (at_most m t) (small_x m v t))
    (all_near m p.y (covered m t).some (at_most m t) (small_y m v t))

near_from : (m v : ℕ) (a : PointAnswer) → point_answer m v ≡ a → near_answer m v (scaled_from m a) ≡ true
near_from m v (Ok p) e =
    let k = answered m v p e in
    subst (λ (q : Point). near_point m (point_of m v) (scaled_point m q) ≡ true) k.same (near_point_lem m v k.load)
near_from m v (Err r) e = refl

pub near_scaled : (m v : ℕ) → near_answer m v (scaled_answer m v) ≡ true
unfolding scaled_answer
near_scaled m v = near_from m v (point_answer m v) refl

-- ---- the scaled answer, ground by ground

pub scaled_22 : (m v : ℕ) → load_listed m ≡ false → scaled_answer m v ≡ refused_by 22 m
unfolding scaled_answer
scaled_22 m v t = ap (scaled_from m) (point_22 m v t)

pub scaled_23 : (m v : ℕ) → load_listed m ≡ true → 2 ^ m ≤ v → scaled_answer m v ≡ refused_by 23 v
unfolding scaled_answer
scaled_23 m v t h = ap (scaled_from m) (point_23 m v t h)

pub scaled_at : (m v : ℕ) → load_listed m ≡ true → v < 2 ^ m → scaled_answer m v ≡ Ok (scaled_point m (point_of m v))
unfolding scaled_answer
scaled_at m v t h = ap (scaled_from m) (point_at m v t h)

-- ---- what is near is a number

pub is_number : (d : ℕ) (c : ℤ) (y : Float) → near d c (to_bits binary32 y) ≡ true → T (not (is_nan y))
unfolding near to_bits is_nan
is_number d c nan t = absurd (conflict false t refl)
is_number d c (inf s) t = tt
is_number d c (fin s n e) t = tt

pub numbers : (m : ℕ) (p : Point) (s : ScaledPoint) → near_point m p s ≡ true → T (not (is_nan s.x)) × T (not (is_nan s.y))
numbers m p s t =
    let a = near (root m) p.x (to_bits binary32 s.x) in
    let b = near (root m) p.y (to_bits binary32 s.y) in
    (is_number (root m) p.x s.x (and_left a b t), is_number (root m) p.y s.y (and_right a b t))
