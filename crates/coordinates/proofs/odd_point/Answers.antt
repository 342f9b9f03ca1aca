-- `coordinates::odd_point` meets its contract: one number stands in a row of the upper bits, the other in one of the lower bits. Assumes nothing.
use Prim.Native.Nat.{suc, ◌+◌, ◌/◌, ◌%◌, ◌^◌, ◌≤◌}
use mathlib.Core.Path.{◌∙◌}
use native.Mathlib.Omega.{arith}
use lib.Dec.{eqb}
use lib.Ieee.{nan}
use lib.ListN.{get_or}
use lib.Pow.{pow_mono}
use Rattle.counting.proofs.Laws.{bit_le}
use Rattle.coordinates.specs.Table.{start}
use Rattle.coordinates.proofs.Reading.{Parts, parts, odd_x, odd_y}
use Rattle.coordinates.proofs.odd_point.Goals as goal
use Rattle.coordinates.proofs.odd_point.Goals.{After-power}

-- where the two numbers stand
room : (c : After-power) → Parts c.args.n (suc c.args.n) c.args.value c.power.result
room c = parts _ _ _ _ (omega (arith, c.requires.2)) c.requires.3 c.power.ensures

top : (c : After-power) → 2 ^ suc c.args.n ≤ 128
top c = pow_mono c.requires.2

pub overflow_add-x-2 : goal.overflow_add-x-2
overflow_add-x-2 c = record { fits = omega (arith, (room c).most, top c, (room c).high) }

pub overflow_cast-x : goal.overflow_cast-x
overflow_cast-x c = record { fits = omega (arith, (room c).most, top c, (room c).high) }

pub offset_bounds-t-at : goal.offset_bounds-t-at
offset_bounds-t-at c = record { fits = omega (arith, (room c).most, top c, (room c).high) }

pub bounds-t-at : goal.bounds-t-at
bounds-t-at c = omega (arith, (room c).most, top c, (room c).high, c.requires.2)

pub overflow_add-y-2 : goal.overflow_add-y-2
overflow_add-y-2 c = record { fits = omega (arith, c.moved_by.ensures, bit_le (eqb (c.args.value / 2 ^ c.args.n / 2 % 4) 0), (room (goal.at.overflow_add-y-2 c).After-power).low, (room (goal.at.overflow_add-y-2 c).After-power).most, c.requires.2) }

pub overflow_add-y-3 : goal.overflow_add-y-3
overflow_add-y-3 c = record { fits = omega (arith, c.moved_by.ensures, bit_le (eqb (c.args.value / 2 ^ c.args.n / 2 % 4) 0), (room (goal.at.overflow_add-y-3 c).After-power).low, (room (goal.at.overflow_add-y-3 c).After-power).most, c.requires.2) }

pub overflow_cast-y : goal.overflow_cast-y
overflow_cast-y c = record { fits = omega (arith, c.moved_by.ensures, bit_le (eqb (c.args.value / 2 ^ c.args.n / 2 % 4) 0), (room (goal.at.overflow_cast-y c).After-power).low, (room (goal.at.overflow_cast-y c).After-power).most, c.requires.2) }

pub offset_bounds-t-at-2 : goal.offset_bounds-t-at-2
offset_bounds-t-at-2 c = record { fits = omega (arith, c.moved_by.ensures, bit_le (eqb (c.args.value / 2 ^ c.args.n / 2 % 4) 0), (room (goal.at.offset_bounds-t-at-2 c).After-power).low, (room (goal.at.offset_bounds-t-at-2 c).After-power).most, c.requires.2) }

pub bounds-t-at-2 : goal.bounds-t-at-2
bounds-t-at-2 c = omega (arith, c.moved_by.ensures, bit_le (eqb (c.args.value / 2 ^ c.args.n / 2 % 4) 0), (room (goal.at.bounds-t-at-2 c).After-power).low, (room (goal.at.bounds-t-at-2 c).After-power).most, c.requires.2)

pub returns : goal.returns
returns c =
    let g = c in
    let n = g.args.n in
    let v = g.args.value in
    let t = g.args.t.now in
    let rows = g.requires.0.odd n g.requires.1 g.requires.2 in
    let ex = odd_x n v g.requires.1 g.requires.2 t rows g.requires.3 in
    let ey = (λ i. get_or t (start n + 256 + c.moved_by.ensures i + v % c.power.ensures i) nan) ∙ odd_y n v g.requires.1 g.requires.2 t rows in
    λ i. record { x = ex i; y = ey i }
