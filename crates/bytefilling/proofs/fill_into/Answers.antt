-- `bytefilling::fill_into` meets its contract. Assumes nothing.
use Prim.Native.Nat.{ℕ, ◌*◌}
use mathlib.Core.Path.{◌≡◌, sym, ap, ◌∙◌}
use mathlib.Core.List.{◌++◌}
use native.Mathlib.Omega.{arith}
use lib.ListN.{length, take, drop, replicate, length-append}
use lib.Seq.{take_at}
use Rattle.counting.proofs.Lists.{sets_all}
use Rattle.rules.specs.Fits.{capacity}
use Rattle.spots.proofs.Parts.{part_size}
use Rattle.bytecells.specs.Octets.{bytes_of}
use Rattle.bytecells.proofs.OctetLaws.{length_bytes}
use Rattle.bytefilling.proofs.fill_into.Goals as goal
use Rattle.bytefilling.proofs.fill_into.Goals.{After-fill_from}

-- the cells are as many as the loads, and are the first of the array
size : (c : After-fill_from) → length c.fill_from.new.cells ≡ length c.args.loads.now
size c = c.fill_from.auto.cells ∙ part_size _ c.requires.1

first : (c : After-fill_from) → take (length c.args.loads.now) (c.fill_from.new.cells ++ drop (length c.args.loads.now) (replicate capacity 0)) ≡ c.fill_from.new.cells
first c = take_at c.fill_from.new.cells _ _ (size c)

pub slice_bounds-cells-end : goal.slice_bounds-cells-end
slice_bounds-cells-end c = c.requires.1

pub slice_bounds-fill_from-end : goal.slice_bounds-fill_from-end
slice_bounds-fill_from-end c = sym (part_size _ c.requires.1)

pub fill_from-requires : goal.fill_from-requires
fill_from-requires c = let pre = c.requires in (sym (part_size _ pre.1), pre.2, pre.3, pre.4)

pub slice_bounds-cells-end-2 : goal.slice_bounds-cells-end-2
slice_bounds-cells-end-2 c = omega (arith, size (goal.at.slice_bounds-cells-end-2 c).After-fill_from, length-append c.fill_from.new.cells (drop (length c.args.loads.now) (replicate capacity 0)))

pub slice_bounds-write_cells-end : goal.slice_bounds-write_cells-end
slice_bounds-write_cells-end c = sym (ap length (first (goal.at.slice_bounds-write_cells-end c).After-fill_from) ∙ size (goal.at.slice_bounds-write_cells-end c).After-fill_from)

pub write_cells-requires : goal.write_cells-requires
write_cells-requires c = omega (arith, ap length (first (goal.at.write_cells-requires c).After-fill_from), size (goal.at.write_cells-requires c).After-fill_from, c.requires.0)

pub returns : goal.returns
returns c =
    let g = c in
    let k = c in
    c.write_cells.ensures ∙ sets_all g.args.input.now _ (sym g.requires.0 ∙ sym (length_bytes _ ∙ ap (λ (n : ℕ). 2 * n) (ap length (first (goal.at.returns c).After-fill_from) ∙ size (goal.at.returns c).After-fill_from)))
    ∙ ap bytes_of (first (goal.at.returns c).After-fill_from ∙ k.fill_from.ensures)
