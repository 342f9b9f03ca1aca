-- `bitfours::four_cells` meets its contract. Assumes nothing.
use Prim.Native.Nat.{◌+◌, ◌*◌, ◌%◌, ◌^◌, ◌<◌}
use mathlib.Core.Path.{◌≡◌, refl, sym}
use native.Mathlib.Omega.{arith}
use lib.ListN.{take, drop}
use Rattle.rules.specs.Bits.{value, cell_bits}
use Rattle.bits.proofs.Windows.{total_some, up_exact, up_small}
use Rattle.bitfours.proofs.Fours.{same_part, value_two_two, value_cells}
use Rattle.bitfours.proofs.four_cells.Goals as goal
use Rattle.bitfours.proofs.four_cells.Goals.{After-two_loads}

-- the bits of the four cells, which are at most 56
four : (c : After-two_loads) → let g = c.args in
    ((c.two_cells-y.result * 2 ^ c.two_loads.result) % 2 ^ 64 + c.two_cells-x.result ≡ value (cell_bits (take 4 (drop g.c g.loads.now)) (take 4 (drop g.c g.cells.now))))
    × (value (cell_bits (take 4 (drop g.c g.loads.now)) (take 4 (drop g.c g.cells.now))) < 2 ^ 56)
four c =
    let s = c in
    let ls = s.args.loads.now in
    let xs = s.args.cells.now in
    let i = s.args.c in
    let x = c.two_cells-x in
    let y = c.two_cells-y in
    let l = c.two_loads in (
      rw (up_exact y.result 28 l.result 64 y.ensures.1 (omega arith), y.ensures.0, l.ensures.0, x.ensures.0) (sym (value_two_two ls xs i s.requires.1 s.requires.0)),
      value_cells (take 4 (drop i ls)) (take 4 (drop i xs)) 56 (same_part ls xs i 4 s.requires.0) (total_some ls i 4 s.requires.2),
    )

pub overflow_add-result : goal.overflow_add-result
overflow_add-result c = rw (four c).0 (omega (arith, (four c).1))

pub overflow_add-result-2 : goal.overflow_add-result-2
overflow_add-result-2 c =
    let s = c in
    rw ((four c).0, up_exact _ 56 s.args.bit 64 (four c).1 (omega arith)) (omega (arith, s.requires.4, up_small _ 56 s.args.bit 63 (four c).1 (omega arith)))

pub returns : goal.returns
returns c = rw ((four c).0, up_exact _ 56 c.args.bit 64 (four c).1 (omega arith)) refl
