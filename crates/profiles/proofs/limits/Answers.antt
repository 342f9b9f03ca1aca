-- `profiles::limits` meets its contract. The first k subcarriers have their limits. Assumes nothing.
use Prim.Native.Nat.{◌<◌}
use mathlib.Core.Path.{ap, ◌∙◌}
use native.Mathlib.Omega.{arith}
use Rattle.counting.specs.Search.{tabulate}
use Rattle.counting.proofs.Lists.{get_d_tabulate, laid_next, laid_all}
use Rattle.rules.specs.Loads.{point_load, load_limit}
use Rattle.profiles.proofs.limits.Goals as goal

pub loop-k-preserved : goal.loop-k-preserved
unfolding tabulate load_limit point_load
loop-k-preserved c =
    let l = c.loop-k in
    let small : c.load_index.result < 15 = omega (arith, c.load_index.ensures, c.requires.1 l.k) in
    laid_next _ _ l.k l.limits _ l.invariant (omega arith) (get_d_tabulate load_limit 15 0 c.load_index.result small ∙ ap load_limit c.load_index.ensures)

pub returns : goal.returns
returns c = laid_all _ _ _ _ c.loop-k.invariant (omega arith)
