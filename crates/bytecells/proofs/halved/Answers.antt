-- `bytecells::halved` meets its contract. Assumes nothing.
use mathlib.Core.Path.{refl}
use Rattle.bytecells.specs.Octets.{odd}
use Rattle.bytecells.proofs.OctetLaws.{octets_whole, even_length}
use Rattle.bytecells.proofs.halved.Goals as goal

pub returns : goal.returns
unfolding odd
returns c =
    let b = c.args.b.now in
    (refl, λ e. octets_whole b c.octets.ensures (even_length b e))
