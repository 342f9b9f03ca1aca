-- `delay::pass` meets its contract. The next group begins with cell p, if there is such a cell. Assumes nothing.
use Prim.Native.Nat.{ℕ, ◌+◌, ◌≤◌, min}
use mathlib.Core.Path.{◌≡◌}
use mathlib.Core.Logic.{by_cases}
use native.Mathlib.Decide.{dec_lt}
use native.Mathlib.Omega.{arith}
use lib.ListN.{length}
use Rattle.delay.specs.Shift.{Least}
use Rattle.delay.proofs.Passing.{Passing, passing_first, passing_some, passing_at, passing_next, passing_end}
use Rattle.delay.proofs.pass.Goals as goal
use Rattle.delay.proofs.pass.Goals.{After-least-e, After-pass_group-passed}

pub loop-p-init : goal.loop-p-init
loop-p-init c = passing_first _ _ _ _ c.requires.0 _ _ 0 c.first_cell-p.ensures (omega arith, omega arith, λ h. omega arith)

-- cell p begins a group
begun : (c : After-least-e) → Passing c.args.emitter c.args.m c.args.store.now c.args.cells.now c.loop-p.store c.loop-p.cells c.loop-p.p c.loop-p.at c.loop-p.last
begun c = let here : min c.loop-p.p (length c.args.cells.now) ≡ c.loop-p.p = omega arith in rw here at c.loop-p.invariant

pub pass_group-passed-requires : goal.pass_group-passed-requires
pass_group-passed-requires c =
    let g = c in
    let l = c.loop-p in
    let e = c.least-e in
    let go = begun (goal.at.pass_group-passed-requires c).After-least-e in
    (passing_at _ _ _ _ g.requires.0 g.requires.1 g.requires.2 g.requires.3 l.store l.cells l.p l.at l.last go c.loop-p-test.true e.result e.ensures, passing_some _ _ _ _ g.requires.0 g.requires.1 g.requires.2 g.requires.3 l.store l.cells l.p l.at l.last go c.loop-p-test.true e.result e.ensures)

-- the next begins with cell q
next : (c : After-pass_group-passed) (q : ℕ) → Least (c.least-e.result + 1) (length c.args.cells.now) q
    → Passing c.args.emitter c.args.m c.args.store.now c.args.cells.now c.pass_group-passed.new.store c.pass_group-passed.new.cells q c.pass_group-passed.result.at c.pass_group-passed.result.last
next c q h =
    let g = c in
    let l = c.loop-p in
    let e = c.least-e in
    let r = c.pass_group-passed in
    let here : min l.p (length c.args.cells.now) ≡ l.p = omega arith in
    let go : Passing c.args.emitter c.args.m c.args.store.now c.args.cells.now l.store l.cells l.p l.at l.last = rw here at l.invariant in
    passing_next _ _ _ _ g.requires.0 g.requires.1 g.requires.2 g.requires.3 l.store l.cells l.p l.at l.last go c.loop-p-test.true e.result e.ensures
    _ _ r.result.at r.result.last (r.ensures.exchanged _ _ go.passed) q h

pub loop-p-preserved : goal.loop-p-preserved
loop-p-preserved c =
    let n = length c.args.cells.now in
    let after : min (c.loop-p.p + c.args.m) n ≡ c.loop-p.p + c.args.m = omega arith in
    rw after (next (goal.at.loop-p-preserved c).After-pass_group-passed (c.loop-p.p + c.args.m) (omega (arith, c.least-e.ensures.2), omega arith, λ h. omega (arith, c.least-e.ensures.2)))

pub returns : goal.returns
returns c =
    let l = c.loop-p in
    passing_end _ _ _ _ c.requires.0 l.store l.cells _ l.at l.last l.invariant (omega arith)

pub returns-2 : goal.returns-2
returns-2 c =
    let r = c.pass_group-passed in
    let e = c.least-e in
    let n = length c.args.cells.now in
    let end : n ≤ e.result + 1 = by_cases (dec_lt e.result n) (λ h. omega (arith, e.ensures.2 h)) (λ h. omega arith) in
    passing_end _ _ _ _ c.requires.0 r.new.store r.new.cells n r.result.at r.result.last
    (next (goal.at.returns-2 c).After-pass_group-passed n (end, omega arith, λ h. omega arith)) (omega arith)
