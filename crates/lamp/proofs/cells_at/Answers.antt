-- `lamp::cells_at` meets its contract. Assumes nothing.
use Prim.Native.Nat.{ℕ}
use mathlib.Core.Path.{ap, ◌∙◌}
use native.Mathlib.Omega.{arith}
use lib.ListN.{get_or}
use Rattle.counting.proofs.Lists.{laid_none, laid_next, laid_all}
use Rattle.pilots.specs.Pilots.{pilots_most}
use Rattle.lampgrounds.specs.Opening.{cells_at}
use Rattle.lamp.proofs.cells_at.Goals as goal

pub loop-i-init : goal.loop-i-init
loop-i-init c = laid_none _ _

pub loop-i-preserved : goal.loop-i-preserved
loop-i-preserved c =
    let l = c.loop-i in
    let y = c.args.symbol.now in
    laid_next _ pilots_most l.i l.cells _ l.invariant (omega arith) (c.cell_at.ensures ∙ ap (λ (k : ℕ). get_or y k 0) c.wide.ensures.0)

pub returns : goal.returns
returns c = let l = c.loop-i in unfold cells_at in (laid_all _ pilots_most l.i l.cells l.invariant (omega arith))
