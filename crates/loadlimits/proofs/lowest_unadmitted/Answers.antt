-- `loadlimits::lowest_unadmitted` meets its contract. Assumes nothing.
use Prim.Native.Nat.{ℕ}
use mathlib.Core.Path.{◌≡◌, sym, ap, ◌∙◌}
use mathlib.Core.Bool.{not}
use native.Mathlib.Numerals.{add-one}
use lib.ListN.{length, get_or}
use borrow.Author.Tests.{lt-ltb}
use Rattle.counting.proofs.Laws.{lowest_zero, lowest_on, lowest_here}
use Rattle.loadlimits.specs.Limits.{limit_of, admits, unadmitted}
use Rattle.loadlimits.proofs.lowest_unadmitted.Goals as goal
use Rattle.loadlimits.proofs.lowest_unadmitted.Goals.{After-admitted}

-- what the test has said of the cell of subcarrier k
said : (c : After-admitted) → let a = c.args in unadmitted a.symbol.now a.loads.now c.loop-k.k ≡ not c.admitted.result
unfolding unadmitted
said c =
    let i = c.index_of in
    let limit = c.requires.0.each i.result i.ensures.1 ∙ ap limit_of i.ensures.0 in
    ap not (sym (c.admitted.ensures ∙ ap (λ (n : ℕ). admits n (get_or c.args.symbol.now c.loop-k.k 0)) limit))

pub loop-k-init : goal.loop-k-init
loop-k-init c = lowest_zero _

pub returns-then-not-admitted : goal.returns-then-not-admitted
returns-then-not-admitted c =
    let a = c.args in
    let l = c.loop-k in
    let n = length a.symbol.now in
    let h = c.loop-k-test.true in
    rw (lt-ltb l.k n h) (sym (lowest_here (unadmitted a.symbol.now a.loads.now) l.k n h l.invariant (said (goal.at.returns-then-not-admitted c).After-admitted ∙ ap not c.if-not-admitted.true)))

pub loop-k-preserved : goal.loop-k-preserved
loop-k-preserved c =
    let a = c.args in
    let l = c.loop-k in
    rw add-one (lowest_on (unadmitted a.symbol.now a.loads.now) l.k l.invariant (said (goal.at.loop-k-preserved c).After-admitted ∙ ap not c.if-not-admitted.false))
