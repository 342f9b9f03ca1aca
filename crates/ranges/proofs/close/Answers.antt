-- `ranges::close` meets its contract. Assumes nothing.
use mathlib.Core.Path.{◌∙◌}
use lib.ListN.{length-set}
use native.Mathlib.Omega.{arith}
use Rattle.ranges.proofs.SweepLaws.{close_some, close_none}
use Rattle.ranges.proofs.close.Goals as goal

pub returns-then-s-e : goal.returns-then-s-e
returns-then-s-e c =
    let g = c in (
      close_some _ _ g.requires.0 g.args.lo.now g.args.hi.now _ _ _ g.args.k g.requires.1 c.if-s-e.true (omega (arith, g.requires.1.many, g.requires.1.top, g.requires.2)) (omega (arith, g.requires.1.many, g.requires.1.top, g.requires.3)),
      length-set g.args.lo.now g.args.n g.args.s ∙ g.requires.2,
      length-set g.args.hi.now g.args.n g.args.e ∙ g.requires.3,
    )

pub returns : goal.returns
returns c =
    let g = c in
    (close_none _ _ g.requires.0 _ _ _ _ _ g.args.k g.requires.1 c.if-s-e.false, g.requires.2, g.requires.3)
