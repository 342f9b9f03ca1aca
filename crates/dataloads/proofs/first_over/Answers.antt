-- `dataloads::first_over` meets its contract. The numbers before i are within the limits of their loads. Assumes nothing.
use Prim.Native.Nat.{◌≤◌, ◌<◌}
use mathlib.Core.Path.{◌≡◌, sym, ap, ◌∙◌}
use native.Mathlib.Numerals.{add-one}
use native.Mathlib.Omega.{arith}
use lib.Dec.{ltb}
use lib.ListN.{length, get_or}
use borrow.Author.Tests.{lt-ltb, le-ltb}
use Rattle.counting.specs.Search.{tabulate}
use Rattle.counting.proofs.Laws.{lowest_zero, lowest_on, lowest_here}
use Rattle.counting.proofs.Lists.{get_d_tabulate}
use Rattle.rules.specs.Loads.{point_load, load_limit}
use Rattle.dataloads.proofs.first_over.Goals as goal
use Rattle.dataloads.proofs.first_over.Goals.{After-wide}

-- a load is at most 14, and the table has its limit
small : (c : After-wide) → c.wide.result ≤ 14
small c = let g = c in omega (arith, c.wide.ensures.0, g.requires.2 c.loop-i.i (omega (arith, g.requires.1)))

limit : (c : After-wide) → let l = c.wide.result in get_or (tabulate load_limit 15) l 0 ≡ load_limit (get_or c.args.loads.now c.loop-i.i 0)
limit c = get_d_tabulate load_limit 15 0 c.wide.result (omega (arith, small c)) ∙ ap load_limit c.wide.ensures.0

pub loop-i-init : goal.loop-i-init
loop-i-init c = lowest_zero _

pub returns-then-limits-wide : goal.returns-then-limits-wide
unfolding tabulate load_limit point_load
returns-then-limits-wide c =
    let a = c.args in
    let l = c.loop-i in
    let over : load_limit (get_or a.loads.now l.i 0) < get_or a.ds.now l.i 0 = omega (arith, limit (goal.at.returns-then-limits-wide c).After-wide, c.if-limits-wide.true) in
    sym (lowest_here (λ k. ltb (load_limit (get_or a.loads.now k 0)) (get_or a.ds.now k 0)) l.i (length a.ds.now) (omega arith) l.invariant
    (lt-ltb _ _ over))

pub loop-i-preserved : goal.loop-i-preserved
unfolding tabulate load_limit point_load
loop-i-preserved c =
    let a = c.args in
    let l = c.loop-i in
    let fits : get_or a.ds.now l.i 0 ≤ load_limit (get_or a.loads.now l.i 0) = omega (arith, limit (goal.at.loop-i-preserved c).After-wide, c.if-limits-wide.false) in
    rw add-one (lowest_on (λ k. ltb (load_limit (get_or a.loads.now k 0)) (get_or a.ds.now k 0)) l.i l.invariant (le-ltb _ _ fits))
