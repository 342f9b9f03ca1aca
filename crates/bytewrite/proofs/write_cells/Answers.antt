-- `bytewrite::write_cells` meets its contract. The loop has written the first i cells. Assumes nothing.
use Prim.Native.Nat.{ℕ, ◌*◌}
use mathlib.Core.Path.{ap, ◌∙◌}
use mathlib.Core.List.{List}
use native.Mathlib.Omega.{arith}
use lib.Seq.{sets, take_all}
use Rattle.bytecells.specs.Octets.{bytes_of}
use Rattle.bytecells.proofs.OctetLaws.{no_cell, next_cell_lem}
use Rattle.bytewrite.proofs.write_cells.Goals as goal

pub loop-i-init : goal.loop-i-init
loop-i-init c = no_cell c.args.b.now (2 * c.args.at)

pub loop-i-preserved : goal.loop-i-preserved
loop-i-preserved c =
    let a = c.args in
    let l = c.loop-i in
    next_cell_lem a.b.now l.b (2 * a.at) a.x.now l.i _ _ _ l.invariant (omega arith) (omega arith) c.high_byte.ensures c.low_byte.ensures

pub returns : goal.returns
returns c =
    let a = c.args in
    let l = c.loop-i in
    l.invariant ∙ ap (λ (y : List ℕ). sets a.b.now (2 * a.at) (bytes_of y)) (take_all l.i a.x.now (omega arith))
