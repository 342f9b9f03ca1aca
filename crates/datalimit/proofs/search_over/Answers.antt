-- `datalimit::search_over` meets its contract. The numbers of the first p cells are within their limits. Assumes nothing.
use Prim.Native.Nat.{◌+◌, ◌<◌}
use mathlib.Core.Path.{◌≡◌, refl, sym, ap, ◌∙◌}
use mathlib.Core.Bool.{◌&&◌}
use native.Mathlib.Omega.{arith}
use lib.Dec.{eqb}
use lib.ListN.{length, get_or}
use Rattle.counting.specs.Search.{sum, count, tabulate, is_zero}
use Rattle.counting.proofs.Bools.{and_left, and_right}
use Rattle.counting.proofs.Laws.{count_le, bit_le, count_step, lowest_zero, lowest_here}
use Rattle.rules.specs.Loads.{point_load, load_limit}
use Rattle.datalimit.specs.Over.{over_at}
use Rattle.datalimit.proofs.Over.{is_over, Input, over_number, number_below, passed_next}
use Rattle.datalimit.proofs.search_over.Goals as goal
use Rattle.datalimit.proofs.search_over.Goals.{After-over_data, At-loop-p}

-- what the test of cell p says
tested : (c : After-over_data) → c.over_data.result ≡ (is_zero c.args.flag.now c.loop-p.p && is_over c.args.profile.now c.args.kc.now c.args.x.now c.loop-p.p)
unfolding is_zero
tested c = rw c.cell_limit-limit.ensures at c.over_data.ensures

given : (c : At-loop-p) → Input c.args.profile.now c.args.flag.now c.args.x.now c.args.ds.now (length c.args.x.now)
given c = let start = c in record { small = start.requires.4; all = start.requires.5; cells = start.requires.6 }

pub loop-p-init : goal.loop-p-init
unfolding count sum
loop-p-init c = (refl, lowest_zero _)

pub cell_limit-limit-requires : goal.cell_limit-limit-requires
unfolding tabulate load_limit point_load
cell_limit-limit-requires c =
    let start = c in
    let h : c.loop-p.p < length c.args.x.now = omega arith in
    (refl, omega (arith, start.requires.1), omega (arith, start.requires.0), start.requires.3 c.loop-p.p h, start.requires.4)

pub overflow_cast-result : goal.overflow_cast-result
overflow_cast-result c = let l = c.loop-p in omega (arith, l.invariant.0, count_le (is_zero c.args.flag.now) l.p, c.requires.0)

pub returns-then-over_data : goal.returns-then-over_data
returns-then-over_data c =
    let a = c.args in
    let l = c.loop-p in
    let h : c.loop-p.p < length c.args.x.now = omega arith in
    let both = sym (tested (goal.at.returns-then-over_data c).After-over_data) ∙ c.if-over_data.true in
    let free = and_left (is_zero a.flag.now l.p) _ both in
    let g = given (goal.at.returns-then-over_data c).At-loop-p in
    sym (lowest_here (over_at a.profile.now a.kc.now a.flag.now (length a.x.now) a.ds.now) l.i (length a.ds.now)
    (omega (arith, l.invariant.0, number_below a.profile.now a.kc.now a.flag.now a.x.now a.ds.now _ g l.p h free))
    l.invariant.1
    (ap (over_at a.profile.now a.kc.now a.flag.now (length a.x.now) a.ds.now) l.invariant.0
    ∙ over_number a.profile.now a.kc.now a.flag.now a.x.now a.ds.now _ g l.p h free
    ∙ and_right (is_zero a.flag.now l.p) _ both))

pub overflow_add-i : goal.overflow_add-i
overflow_add-i c = let l = c.loop-p in omega (arith, l.invariant.0, count_le (is_zero c.args.flag.now) l.p, c.one_if_data-i.ensures, bit_le (eqb (get_or c.args.flag.now l.p 0) 0), c.requires.0)

pub loop-p-preserved : goal.loop-p-preserved
unfolding is_zero
loop-p-preserved c =
    let a = c.args in
    let l = c.loop-p in
    let h : c.loop-p.p < length c.args.x.now = omega arith in
    let next : l.i + c.one_if_data-i.result ≡ count (is_zero a.flag.now) (l.p + 1) = omega (arith, l.invariant.0, c.one_if_data-i.ensures, count_step (is_zero a.flag.now) l.p) in (
      next,
      rw next
          (passed_next a.profile.now a.kc.now a.flag.now a.x.now a.ds.now _ (given (goal.at.loop-p-preserved c).At-loop-p) l.p h (rw l.invariant.0 at l.invariant.1)
          (sym (tested (goal.at.loop-p-preserved c).After-over_data) ∙ c.if-over_data.false)),
    )
