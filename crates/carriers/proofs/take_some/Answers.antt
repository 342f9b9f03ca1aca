-- `carriers::take_some` meets its contract. Assumes nothing.
use mathlib.Core.Path.{◌≡◌, ◌∙◌}
use native.Mathlib.Omega.{arith}
use Rattle.counting.specs.Search.{bit, is_zero}
use Rattle.carriers.proofs.Blocks.{listed_few, listed_next}
use Rattle.carriers.proofs.take_some.Goals as goal

pub loop-k-init : goal.loop-k-init
loop-k-init c = let r = c.requires.4 in (listed_few _ _ _ _ r, r)

pub loop-k-preserved : goal.loop-k-preserved
loop-k-preserved c =
    let l = c.loop-k in
    let one : c.wide-m.result ≡ bit (is_zero c.args.mark.now l.k) = unfold is_zero in (c.wide-m.ensures.0 ∙ c.one_if_zero.ensures.0) in
    (omega (arith, c.wide-m.ensures.0, c.one_if_zero.ensures.1), rw one (listed_next _ l.k l.m l.car (omega arith) l.invariant.1))
