-- `byteemitter::place` meets its contract. Assumes nothing.
use Prim.Native.Nat.{ℕ, ◌*◌}
use mathlib.Core.Path.{sym, ap, ◌∙◌}
use Rattle.counting.proofs.Lists.{sets_all}
use Rattle.bytecells.specs.Octets.{bytes_of}
use Rattle.bytecells.proofs.OctetLaws.{length_bytes}
use Rattle.byteemitter.proofs.place.Goals as goal

pub place-requires : goal.place-requires
place-requires c = let pre = c.requires in (pre.0, pre.1, pre.3, pre.4, sym pre.2, pre.6)

pub returns : goal.returns
returns c =
    let g = c in
    let placed = c.place in
    let out = placed.new.out in
    let size = g.requires.5 ∙ sym (length_bytes out ∙ ap (λ (n : ℕ). 2 * n) (placed.auto.out ∙ sym g.requires.2)) in
    c.write_cells.ensures ∙ sets_all g.args.symbol.now (bytes_of out) size ∙ ap bytes_of placed.ensures
