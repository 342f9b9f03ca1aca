-- `coordinates::even_point` meets its contract: both numbers stand in the row of the load. Assumes nothing.
use Prim.Native.Nat.{◌≤◌}
use native.Mathlib.Omega.{arith}
use Rattle.gray.proofs.GrayLaws.{small_power}
use Rattle.coordinates.proofs.Reading.{Parts, parts, even_x, even_y}
use Rattle.coordinates.proofs.even_point.Goals as goal
use Rattle.coordinates.proofs.even_point.Goals.{After-power-p}

-- where the two numbers stand
room : (c : After-power-p) → Parts c.args.n c.args.n c.args.value c.power-p.result
room c = parts _ _ _ _ c.requires.2 c.requires.3 c.power-p.ensures

few : (c : After-power-p) → c.args.n ≤ 7
few c = omega (arith, c.requires.2)

pub overflow_add-y : goal.overflow_add-y
overflow_add-y c = record { fits = omega (arith, (room c).most, small_power c.args.n (few c), (room c).high) }

pub overflow_cast-y : goal.overflow_cast-y
overflow_cast-y c = record { fits = omega (arith, (room c).most, small_power c.args.n (few c), (room c).high) }

pub offset_bounds-t-p : goal.offset_bounds-t-p
offset_bounds-t-p c = record { fits = omega (arith, (room c).most, small_power c.args.n (few c), (room c).high) }

pub bounds-t-p : goal.bounds-t-p
bounds-t-p c = omega (arith, (room c).most, small_power c.args.n (few c), (room c).high)

pub overflow_add-x : goal.overflow_add-x
overflow_add-x c = record { fits = omega (arith, (room (goal.at.overflow_add-x c).After-power-p).some, (room (goal.at.overflow_add-x c).After-power-p).most, (room (goal.at.overflow_add-x c).After-power-p).low) }

pub overflow_cast-x : goal.overflow_cast-x
overflow_cast-x c = record { fits = omega (arith, (room (goal.at.overflow_cast-x c).After-power-p).some, (room (goal.at.overflow_cast-x c).After-power-p).most, (room (goal.at.overflow_cast-x c).After-power-p).low) }

pub offset_bounds-t-p-2 : goal.offset_bounds-t-p-2
offset_bounds-t-p-2 c = record { fits = omega (arith, (room (goal.at.offset_bounds-t-p-2 c).After-power-p).some, (room (goal.at.offset_bounds-t-p-2 c).After-power-p).most, (room (goal.at.offset_bounds-t-p-2 c).After-power-p).low) }

pub bounds-t-p-2 : goal.bounds-t-p-2
bounds-t-p-2 c = omega (arith, (room (goal.at.bounds-t-p-2 c).After-power-p).some, (room (goal.at.bounds-t-p-2 c).After-power-p).most, (room (goal.at.bounds-t-p-2 c).After-power-p).low)

pub returns : goal.returns
returns c =
    let g = c in
    let n = g.args.n in
    let v = g.args.value in
    let ex = even_x n v _ g.requires.1 g.requires.2 c.power-p.ensures g.args.t.now g.requires.0 in
    let ey = even_y n v _ g.requires.1 g.requires.2 c.power-p.ensures g.args.t.now g.requires.0 g.requires.3 in
    λ i. record { x = ex i; y = ey i }
