-- `carriers::take_all` meets its contract. Assumes nothing.
use native.Mathlib.Omega.{arith}
use native.Mathlib.Nat.{add-zero}
use Rattle.carriers.proofs.Blocks.{listed_few, listed_all}
use Rattle.carriers.proofs.take_all.Goals as goal

pub loop-i-init : goal.loop-i-init
loop-i-init c = let r = c.requires.3 in (listed_few _ _ _ _ r, rw (add-zero c.args.k, add-zero c.args.n) r)

pub loop-i-preserved : goal.loop-i-preserved
loop-i-preserved c =
    let l = c.loop-i in
    (l.invariant.0, listed_all _ _ _ l.i l.car c.loop-i-test.true c.requires.2 (omega arith) l.invariant.1)
