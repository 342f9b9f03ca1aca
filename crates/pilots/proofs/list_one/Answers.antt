-- `pilots::list_one` meets its contract. Assumes nothing.
use Prim.Native.Nat.{◌+◌, ◌<◌}
use native.Mathlib.Omega.{arith}
use Rattle.pilots.specs.Pilots.{pilots_most}
use Rattle.pilots.proofs.Listing.{room_for, listed_other, listed_pilot}
use Rattle.pilots.proofs.list_one.Goals as goal
use Rattle.pilots.proofs.list_one.Goals.{Else-marks-k}

-- a pilot has a place in the list
room : (c : Else-marks-k) → c.args.n < pilots_most
room c =
    let s = c in
    omega (arith, s.requires.2, room_for s.args.marks.now s.args.k (s.args.k + 1) s.args.n (omega arith) c.if-marks-k.false s.requires.3.number)

pub returns-then-marks-k : goal.returns-then-marks-k
returns-then-marks-k c =
    let s = c in
    listed_other s.args.marks.now s.args.k s.args.n s.args.list.now c.if-marks-k.true s.requires.3

pub offset_bounds-list-n : goal.offset_bounds-list-n
offset_bounds-list-n c = omega (arith, room c)

pub bounds-list-n : goal.bounds-list-n
bounds-list-n c = room (goal.at.bounds-list-n c).Else-marks-k

pub overflow_add-result : goal.overflow_add-result
overflow_add-result c = omega (arith, room (goal.at.overflow_add-result c).Else-marks-k)

pub returns : goal.returns
returns c =
    let s = c in
    listed_pilot s.args.marks.now s.args.k s.args.n s.args.list.now c.if-marks-k.false (room (goal.at.returns c).Else-marks-k) s.requires.3
