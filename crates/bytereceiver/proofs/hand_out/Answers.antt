-- `bytereceiver::hand_out` meets its contract. Assumes nothing.
use Prim.Native.Nat.{ℕ, ◌≤◌}
use mathlib.Core.Path.{◌≡◌, sym, ap, ◌∙◌}
use mathlib.Core.List.{List, ◌++◌}
use native.Mathlib.Omega.{arith}
use lib.ListN.{length, take, drop, replicate, length-append}
use lib.Seq.{sets, take_at}
use Rattle.counting.specs.Search.{is_zero}
use Rattle.counting.proofs.Laws.{count_le}
use Rattle.rules.specs.Fits.{capacity}
use Rattle.spots.proofs.Parts.{part_size}
use Rattle.fill.specs.Flags.{taken_data}
use Rattle.bytecells.specs.Octets.{cells_of, bytes_of}
use Rattle.bytecells.proofs.OctetLaws.{put_bytes}
use Rattle.bytereceiver.proofs.Bytes.{taken_fills}
use Rattle.bytereceiver.proofs.hand_out.Goals as goal
use Rattle.bytereceiver.proofs.hand_out.Goals.{After-take_data, Start}

-- the data cells fit the array
low : (g : Start) → g.args.nd ≤ 4096
low g = omega (arith, g.requires.1, g.requires.3, count_le (is_zero g.args.flag.now) (length g.args.cells.now))

-- the data cells are as many, and are the first of the array
size : (c : After-take_data) → length c.take_data.new.buffer ≡ c.args.nd
size c = let g = c in c.take_data.auto.buffer ∙ part_size g.args.nd ((let it : g.args.nd ≤ 4096 = omega (arith, g.requires.1, g.requires.3, count_le (is_zero g.args.flag.now) (length g.args.cells.now)) in it))

first : (c : After-take_data) → take c.args.nd (c.take_data.new.buffer ++ drop c.args.nd (replicate capacity 0)) ≡ c.take_data.new.buffer
first c = take_at c.take_data.new.buffer _ _ (size c)

-- they fill the places that were lent
filled : (c : After-take_data) → c.take_data.new.buffer ≡ taken_data c.args.flag.now c.args.cells.now
filled c =
    let g = c in
    c.take_data.ensures ∙ taken_fills g.args.flag.now g.args.cells.now _ (g.requires.3 ∙ sym (part_size g.args.nd ((let it : g.args.nd ≤ 4096 = omega (arith, g.requires.1, g.requires.3, count_le (is_zero g.args.flag.now) (length g.args.cells.now)) in it))))

pub slice_bounds-given-end : goal.slice_bounds-given-end
slice_bounds-given-end c = low (goal.at.slice_bounds-given-end c).Start

pub slice_bounds-take_data-end : goal.slice_bounds-take_data-end
slice_bounds-take_data-end c = let g = c in sym (part_size g.args.nd (low (goal.at.slice_bounds-take_data-end c).Start))

pub take_data-requires : goal.take_data-requires
take_data-requires c = let g = c in (g.requires.1, g.requires.2, omega (arith, g.requires.3, part_size g.args.nd (low (goal.at.take_data-requires c).Start)))

pub slice_bounds-given-end-2 : goal.slice_bounds-given-end-2
slice_bounds-given-end-2 c = omega (arith, size (goal.at.slice_bounds-given-end-2 c).After-take_data, length-append c.take_data.new.buffer (drop c.args.nd (replicate capacity 0)))

pub slice_bounds-write_cells-end : goal.slice_bounds-write_cells-end
slice_bounds-write_cells-end c = sym (ap length (first (goal.at.slice_bounds-write_cells-end c).After-take_data) ∙ size (goal.at.slice_bounds-write_cells-end c).After-take_data)

pub write_cells-requires : goal.write_cells-requires
write_cells-requires c = omega (arith, ap length (first (goal.at.write_cells-requires c).After-take_data), size (goal.at.write_cells-requires c).After-take_data, c.requires.4)

pub returns : goal.returns
returns c =
    let g = c in
    c.write_cells.ensures ∙ put_bytes g.args.buffer.now 0 _ g.requires.0
    ∙ ap (λ (l : List ℕ). bytes_of (sets (cells_of g.args.buffer.now) 0 l)) (first (goal.at.returns c).After-take_data ∙ filled (goal.at.returns c).After-take_data)
