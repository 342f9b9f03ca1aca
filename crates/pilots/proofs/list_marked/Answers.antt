-- `pilots::list_marked` meets its contract. Assumes nothing.
use Prim.Native.Nat.{◌+◌, ◌*◌, ◌≤◌}
use mathlib.Core.Path.{◌≡◌}
use native.Mathlib.Omega.{arith}
use Rattle.std.specs.Prelude.{Ok}
use Rattle.pilots.specs.Marked.{Listed}
use Rattle.pilots.proofs.Listing.{fewer_below, listed_none}
use Rattle.pilots.proofs.list_marked.Goals as goal

pub loop-b-init : goal.loop-b-init
loop-b-init c = listed_none _

pub list_block-n-requires : goal.list_block-n-requires
list_block-n-requires c =
    let b = c.loop-b.b in
    let h : 16 * b + 16 ≤ c.args.width = omega (arith, c.loop-b-test.true) in
    (omega arith, omega arith, omega (arith, c.requires.3, fewer_below c.args.marks.now (16 * b + 16) c.args.width h), c.loop-b.invariant)

pub loop-b-preserved : goal.loop-b-preserved
loop-b-preserved c =
    let e : 16 * c.loop-b.b + 16 ≡ 16 * (c.loop-b.b + 1) = omega arith in
    rw e at c.list_block-n.ensures

pub overflow_cast-result : goal.overflow_cast-result
overflow_cast-result c =
    let b = c.loop-b.b in
    omega (arith, c.requires.3, c.loop-b.invariant.number, fewer_below c.args.marks.now (16 * b) c.args.width (omega arith))

pub returns : goal.returns
returns c =
    let l = c.loop-b in
    let e : 16 * l.b ≡ c.args.width = omega arith in
    let f : Listed c.args.marks.now c.args.width l.n l.list = rw e at l.invariant in
    λ i. record { answer = Ok (f.number i); list = f.listed i }
