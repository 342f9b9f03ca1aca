-- `bytedelay::pass` meets its contract. The next group begins with cell p, if there is one. Assumes nothing.
use Prim.Native.Nat.{ℕ, ◌+◌, ◌-◌, ◌≤◌, ◌<◌}
use mathlib.Core.Path.{refl}
use mathlib.Core.Logic.{by_cases}
use native.Mathlib.Decide.{dec_lt}
use native.Mathlib.Omega.{arith}
use lib.ListN.{length}
use Rattle.rules.specs.Places.{places_before}
use Rattle.bytecells.specs.Octets.{cells_of}
use Rattle.bytecells.proofs.OctetLaws.{whole_length}
use Rattle.exchange.specs.Exchange.{end_delay}
use Rattle.delay.specs.Shift.{Least}
use Rattle.delay.proofs.Passing.{passing_first, passing_some, passing_at, passing_next, passing_end}
use Rattle.bytedelay.proofs.pass.Goals as goal

-- the lesser of cell p and the number of cells, when p is less, and when not
least_first : (p n : ℕ) → p < n → Least p n p
least_first p n h = (omega arith, omega arith, λ k. refl)

-- a group on is one cell past the end of the group
least_next : (p m n e q : ℕ) → 1 < m → Least (p + (m - 1)) n e → Least (p + m) n q → Least (e + 1) n q
least_next p m n e q some end to = (
  by_cases (dec_lt e n) (λ c. omega (arith, end.2 c)) (λ c. omega arith),
  to.1,
  λ h. by_cases (dec_lt e n) (λ c. omega (arith, end.2 c, to.2 h)) (λ c. absurd (omega (arith, to.2 h))),
)

pub loop-p-init : goal.loop-p-init
loop-p-init c = (λ q h. passing_first _ _ _ _ c.requires.1 _ q 0 c.first_cell-p.ensures h, c.requires.0)

pub pass_group-passed-requires : goal.pass_group-passed-requires
pass_group-passed-requires c =
    let g = c.requires in
    let l = c.loop-p in
    let e = c.least-e in
    let n = length c.args.cells.now in
    let long : places_before (end_delay c.args.emitter c.args.m) n ≤ length (cells_of c.args.store.now) = omega (arith, g.4, whole_length c.args.store.now g.0) in
    let here = l.invariant.0 l.p (least_first l.p n c.loop-p-test.true) in
    (l.invariant.1, passing_at _ _ _ _ g.1 g.2 g.3 long (cells_of l.store) l.cells l.p l.at l.last here c.loop-p-test.true e.result e.ensures, passing_some _ _ _ _ g.1 g.2 g.3 long (cells_of l.store) l.cells l.p l.at l.last here c.loop-p-test.true e.result e.ensures)

pub loop-p-preserved : goal.loop-p-preserved
loop-p-preserved c =
    let g = c.requires in
    let l = c.loop-p in
    let e = c.least-e in
    let r = c.pass_group-passed in
    let n = length c.args.cells.now in
    let long : places_before (end_delay c.args.emitter c.args.m) n ≤ length (cells_of c.args.store.now) = omega (arith, g.4, whole_length c.args.store.now g.0) in
    let here = l.invariant.0 l.p (least_first l.p n c.loop-p-test.true) in (
      λ q h. passing_next _ _ _ _ g.1 g.2 g.3 long (cells_of l.store) l.cells l.p l.at l.last here c.loop-p-test.true e.result e.ensures _ _ r.result.at r.result.last (r.ensures.passed.exchanged _ _ here.passed) q
          (least_next l.p c.args.m n e.result q g.1 e.ensures h),
      r.ensures.whole,
    )

pub returns-clause-passed : goal.returns-clause-passed
returns-clause-passed c =
    let l = c.loop-p in
    let n = length c.args.cells.now in
    passing_end _ _ _ _ c.requires.1 (cells_of l.store) l.cells n l.at l.last (l.invariant.0 n (omega arith, omega arith, λ h. absurd (omega arith))) (omega arith)

pub returns-2-clause-passed : goal.returns-2-clause-passed
returns-2-clause-passed c =
    let g = c.requires in
    let l = c.loop-p in
    let e = c.least-e in
    let r = c.pass_group-passed in
    let n = length c.args.cells.now in
    let long : places_before (end_delay c.args.emitter c.args.m) n ≤ length (cells_of c.args.store.now) = omega (arith, g.4, whole_length c.args.store.now g.0) in
    let here = l.invariant.0 l.p (least_first l.p n c.loop-p-test.true) in
    let last : Least (l.p + c.args.m) n n = (omega arith, omega arith, λ h. absurd (omega arith)) in
    passing_end _ _ _ _ g.1 _ _ n r.result.at r.result.last
    (passing_next _ _ _ _ g.1 g.2 g.3 long (cells_of l.store) l.cells l.p l.at l.last here c.loop-p-test.true e.result e.ensures _ _ r.result.at r.result.last (r.ensures.passed.exchanged _ _ here.passed) n
    (least_next l.p c.args.m n e.result n g.1 e.ensures last))
    (omega arith)
