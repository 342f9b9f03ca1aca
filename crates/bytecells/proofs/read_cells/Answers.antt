-- `bytecells::read_cells` meets its contract: bytes read low byte first and swapped are read high byte first. Assumes nothing.
use Rattle.bytecells.proofs.OctetLaws.{swapped_cells}
use Rattle.bytecells.proofs.read_cells.Goals as goal

pub returns : goal.returns
returns c =
    let g = c in
    swapped_cells g.args.b.now _ _ _ c.octets.ensures g.requires c.read_pairs.ensures c.swap_cells.ensures
