-- `arrivals::all_fit` meets its contract. The loop has counted among the first k cells. Assumes nothing.
use mathlib.Core.Path.{◌≡◌, refl, sym, ◌∙◌}
use native.Mathlib.Omega.{arith}
use lib.ListN.{length}
use borrow.Author.Tests.{eqb-true}
use Rattle.counting.specs.Search.{sum, count}
use Rattle.counting.proofs.Laws.{count_le, bit_le, count_step}
use Rattle.counting.proofs.Sums.{all_pass}
use Rattle.arrivals.proofs.Expecting.{allowed_under}
use Rattle.arrivals.proofs.all_fit.Goals as goal

pub loop-k-init : goal.loop-k-init
unfolding count sum
loop-k-init c = refl

pub overflow_add-n : goal.overflow_add-n
overflow_add-n c =
    let a = c.args in
    let l = c.loop-k in
    let t = allowed_under a.limit a.marks.now a.symbol.now in
    omega (arith, count_le t l.k, bit_le (t l.k), c.cell_fits-n.ensures, l.invariant)

pub loop-k-preserved : goal.loop-k-preserved
loop-k-preserved c =
    let a = c.args in
    let l = c.loop-k in
    rw c.cell_fits-n.ensures (omega (arith, count_step (allowed_under a.limit a.marks.now a.symbol.now) l.k, l.invariant))

pub returns : goal.returns
returns c t k h =
    let a = c.args in
    let l = c.loop-k in
    let end : l.k ≡ length a.symbol.now = omega arith in
    let all : count (allowed_under a.limit a.marks.now a.symbol.now) (length a.symbol.now) ≡ length a.symbol.now =
    sym (rw end at l.invariant) ∙ sym c.wide.ensures.0 ∙ eqb-true c.wide.result (length a.symbol.now) t in
    all_pass (allowed_under a.limit a.marks.now a.symbol.now) (length a.symbol.now) all k h
