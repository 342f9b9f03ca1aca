-- `arrivals::search_wrong` meets its contract. The loop has passed `place` cells, all of which fit. Assumes nothing.
use mathlib.Core.Path.{sym}
use mathlib.Core.Bool.{not}
use native.Mathlib.Numerals.{add-one}
use native.Mathlib.Omega.{arith}
use lib.ListN.{length}
use Rattle.counting.proofs.Laws.{lowest_zero, lowest_on, lowest_here}
use Rattle.arrivals.specs.Expected.{allowed_at}
use Rattle.arrivals.proofs.Expecting.{cell_wrong, cell_right}
use Rattle.arrivals.proofs.search_wrong.Goals as goal

pub loop-place-init : goal.loop-place-init
loop-place-init c = lowest_zero _

pub returns-then-cell_fits-eq0 : goal.returns-then-cell_fits-eq0
returns-then-cell_fits-eq0 c =
    let a = c.args in
    let l = c.loop-place in
    let wrong = cell_wrong a.limits.now a.marks.now a.symbol.now l.place c.cell_fits.result c.cell_fits.ensures c.if-cell_fits-eq0.true in
    sym (lowest_here (λ i. not (allowed_at a.limits.now a.marks.now a.symbol.now i)) l.place (length a.symbol.now) (omega arith) l.invariant wrong)

pub loop-place-preserved : goal.loop-place-preserved
loop-place-preserved c =
    let a = c.args in
    let l = c.loop-place in
    let right = cell_right a.limits.now a.marks.now a.symbol.now l.place c.cell_fits.result c.cell_fits.ensures c.if-cell_fits-eq0.false in
    rw add-one (lowest_on (λ i. not (allowed_at a.limits.now a.marks.now a.symbol.now i)) l.place l.invariant right)
