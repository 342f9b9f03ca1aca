-- `carriers::block` meets its contract. Assumes nothing.
use mathlib.Core.Path.{sym, ◌∙◌}
use native.Mathlib.Omega.{arith}
use Rattle.carriers.proofs.Blocks.{listed_few, listed_over}
use Rattle.carriers.proofs.block.Goals as goal

pub overflow_add-result : goal.overflow_add-result
overflow_add-result c =
    let s = c in
    omega (arith, s.requires.0, listed_few s.args.mark.now s.args.k s.args.n s.args.car.now s.requires.3)

pub returns-then-z-eq0 : goal.returns-then-z-eq0
returns-then-z-eq0 c =
    let s = c in
    listed_over s.args.mark.now s.args.k s.args.n s.args.car.now (sym c.zeros-z.ensures ∙ c.if-z-eq0.true) s.requires.3
