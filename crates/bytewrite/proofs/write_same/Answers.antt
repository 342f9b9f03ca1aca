-- `bytewrite::write_same` meets its contract. The loop has written the first i cells. Assumes nothing.
use Prim.Native.Nat.{ℕ}
use mathlib.Core.Path.{◌≡◌, ap, ◌∙◌}
use mathlib.Core.List.{List}
use native.Mathlib.Omega.{arith}
use lib.ListN.{get_or, replicate, length-replicate, get_or-replicate}
use lib.Seq.{sets, take_all}
use Rattle.bytecells.specs.Octets.{bytes_of}
use Rattle.bytecells.proofs.OctetLaws.{no_cell, next_cell_lem}
use Rattle.bytewrite.proofs.write_same.Goals as goal

pub loop-i-init : goal.loop-i-init
loop-i-init c = no_cell c.args.b.now 0

pub loop-i-preserved : goal.loop-i-preserved
loop-i-preserved c =
    let a = c.args in
    let l = c.loop-i in
    let here : get_or (replicate a.n a.x) l.i 0 ≡ a.x = get_or-replicate a.n l.i a.x 0 (omega arith) in
    next_cell_lem a.b.now l.b 0 (replicate a.n a.x) l.i _ _ _ l.invariant (omega (arith, length-replicate a.n a.x)) (omega arith)
    (rw here c.high_byte.ensures) (rw here c.low_byte.ensures)

pub returns : goal.returns
returns c =
    let a = c.args in
    let l = c.loop-i in
    l.invariant ∙ ap (λ (y : List ℕ). sets a.b.now 0 (bytes_of y)) (take_all l.i (replicate a.n a.x) (omega (arith, length-replicate a.n a.x)))
