-- What each ground finds in one band, from the comparison that the code makes. Assumes nothing.
use mathlib.Core.Path.{◌≡◌, ap}
use mathlib.Core.Bool.{Bool}
use Rattle.std.specs.Prelude.{Some, None}
use mathlib.Core.List.{List}
use Prim.Native.Nat.{ℕ, suc, ◌+◌, ◌-◌, ◌*◌, ◌≤◌, ◌<◌}
use native.Mathlib.Omega.{arith}
use borrow.Author.Tests.{le-leb, lt-leb, lt-ltb, le-ltb}
use Rattle.counting.specs.Search.{when, count}
use Rattle.counting.specs.Runs.{Singles}
use Rattle.counting.proofs.Laws.{count_add}
use Rattle.rules.specs.Plan.{Plan}
use Rattle.rules.specs.Bands.{width, excluded, excluded_in}
use Rattle.limits.specs.Answers.{narrow_in, wide_in, much_in}

-- as many are excluded in a band as it has singles
singles_count : (e : ℕ → Bool) (a b : ℕ) (x : List ℕ) (from to : ℕ) → Singles e a b x from to → count (λ i. e (a + i)) (suc b - a) ≡ to - from
singles_count e a b x from to s =
    let n : ℕ = suc b - a in
    let top : a + n ≡ suc b = omega (arith, s.rise) in
    omega (arith, count_add e a n, ap (count e) top, s.total, s.some)

-- grounds 9 and 10: v is the width
module _ (w a b v : ℕ) (e : v ≡ width a b) where
  pub narrow_yes : v < w → narrow_in w a b ≡ Some a
  unfolding narrow_in
  narrow_yes h = ap (λ (t : Bool). when t a) (lt-ltb (width a b) w (omega arith))

  pub narrow_no : w ≤ v → narrow_in w a b ≡ None
  unfolding narrow_in
  narrow_no h = ap (λ (t : Bool). when t a) (le-ltb (width a b) w (omega arith))

  pub wide_yes : w ≤ v → wide_in w a b ≡ Some a
  unfolding wide_in
  wide_yes h = ap (λ (t : Bool). when t a) (le-leb w (width a b) (omega arith))

  pub wide_no : v < w → wide_in w a b ≡ None
  unfolding wide_in
  wide_no h = ap (λ (t : Bool). when t a) (lt-leb w (width a b) (omega arith))

-- ground 12: v is the width
module _ (p : Plan) (a b : ℕ) (x : List ℕ) (from to : ℕ) (s : Singles (excluded p) a b x from to) (v : ℕ) (e : v ≡ width a b) where
  pub much_yes : v < 20 * (to - from) → much_in p a b ≡ Some a
  unfolding much_in excluded_in
  much_yes h = ap (λ (t : Bool). when t a) (lt-ltb (width a b) (20 * count (λ i. excluded p (a + i)) (suc b - a)) (omega (arith, singles_count (excluded p) a b x from to s)))

  pub much_no : 20 * (to - from) ≤ v → much_in p a b ≡ None
  unfolding much_in excluded_in
  much_no h = ap (λ (t : Bool). when t a) (le-ltb (width a b) (20 * count (λ i. excluded p (a + i)) (suc b - a)) (omega (arith, singles_count (excluded p) a b x from to s)))
