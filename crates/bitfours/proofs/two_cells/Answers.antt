-- `bitfours::two_cells` meets its contract. Assumes nothing.
use Prim.Native.Nat.{◌+◌, ◌*◌, ◌%◌, ◌^◌, ◌≤◌}
use mathlib.Core.Path.{◌≡◌, sym}
use native.Mathlib.Omega.{arith}
use lib.ListN.{get_or, take, drop}
use Rattle.rules.specs.Bits.{value, cell_bits}
use Rattle.bits.proofs.Windows.{up_exact, up_small}
use Rattle.bitfours.proofs.Fours.{same_part, total_two, value_two, value_cells}
use Rattle.bitfours.proofs.two_cells.Goals as goal

pub lowest-x-requires : goal.lowest-x-requires
lowest-x-requires c = c.requires.2 c.args.c (omega arith)

pub lowest-y-requires : goal.lowest-y-requires
lowest-y-requires c = c.requires.2 (c.args.c + 1) (omega arith)

pub overflow_shl-result : goal.overflow_shl-result
overflow_shl-result c = omega (arith, c.requires.2 c.args.c (omega arith))

pub overflow_add-result : goal.overflow_add-result
overflow_add-result c =
    let l : c.number.result ≤ 14 = omega (arith, c.requires.2 c.args.c (omega arith)) in
    let y = c.lowest-y in
    rw (up_exact y.result 14 c.number.result 32 y.ensures.1 (omega arith)) (omega (arith, up_small y.result 14 c.number.result 28 y.ensures.1 (omega arith)))

pub returns : goal.returns
returns c =
    let s = c in
    let ls = s.args.loads.now in
    let xs = s.args.cells.now in
    let i = s.args.c in
    let l : get_or ls i 0 ≤ 14 = s.requires.2 i (omega arith) in
    let m : get_or ls (i + 1) 0 ≤ 14 = s.requires.2 (i + 1) (omega arith) in
    let y = c.lowest-y in
    let e : (y.result * 2 ^ c.number.result) % 2 ^ 32 + c.lowest-x.result ≡ value (cell_bits (take 2 (drop i ls)) (take 2 (drop i xs))) =
    rw (up_exact y.result 14 c.number.result 32 y.ensures.1 (omega arith), y.ensures.0, c.number.ensures.0, c.lowest-x.ensures.0)
    (sym (value_two ls xs i s.requires.1 s.requires.0)) in
    (e, rw e (value_cells (take 2 (drop i ls)) (take 2 (drop i xs)) 28 (same_part ls xs i 2 s.requires.0) (omega (arith, total_two ls i s.requires.1))))
