-- `bitfill::fill_two` meets its contract. Assumes nothing.
use Prim.Native.Nat.{ℕ, ◌+◌, ◌/◌, ◌%◌, ◌^◌}
use mathlib.Core.Path.{◌≡◌, ap₂}
use native.Mathlib.Omega.{arith}
use lib.ListN.{get_or, set, length-set}
use Rattle.bitfill.proofs.fill_two.Goals as goal

pub field-requires : goal.field-requires
field-requires c = (omega arith, omega (arith, c.requires.2 c.args.c (omega arith)))

pub field-requires-2 : goal.field-requires-2
field-requires-2 c = (omega (arith, c.requires.2 c.args.c (omega arith)), omega (arith, c.requires.2 (c.args.c + 1) (omega arith)))

pub bounds-cells-c-2 : goal.bounds-cells-c-2
bounds-cells-c-2 c = simp length-set (omega arith)

pub returns : goal.returns
returns c =
    let s = c in
    let g = s.args in
    let l : c.number-l.result ≡ get_or g.loads.now g.c 0 = c.number-l.ensures.0 in
    let m : c.number-m.result ≡ get_or g.loads.now (g.c + 1) 0 = c.number-m.ensures.0 in
    let x : c.field.result ≡ g.w / 2 ^ g.bit % 2 ^ get_or g.loads.now g.c 0 = rw l at c.field.ensures in
    let y : c.field-2.result ≡ g.w / 2 ^ (g.bit + get_or g.loads.now g.c 0) % 2 ^ get_or g.loads.now (g.c + 1) 0 = rw (l, m) at c.field-2.ensures in
    record { taken = (ap₂ ◌+◌ l m, omega (arith, l, m, s.requires.2 g.c (omega arith), s.requires.2 (g.c + 1) (omega arith))); filled = ap₂ (λ (u v : ℕ). set (set g.cells.now g.c u) (g.c + 1) v) x y }
