-- `figurecheck::pair::first_apart` meets its contract. Assumes nothing.
use Rattle.std.proofs.Common.{not, length, sym, ap, ◌∙◌, add-one, eq-eqb, ne_eqb}
use Rattle.counting.proofs.Laws.{lowest_zero, lowest_on}
use Rattle.samples.proofs.FirstLaws.{first_here}
use Rattle.figurecheck.proofs.pair.first_apart.Invariants.{apart}
use Rattle.figurecheck.proofs.pair.first_apart.Goals as goal

pub loop-k-init : goal.loop-k-init
loop-k-init c = lowest_zero _

pub returns-then-cell-at : goal.returns-then-cell-at
returns-then-cell-at c =
    let a = c.args in
    let l = c.loop-k in
    first_here (apart a.first.now a.second.now) l.k (length a.first.now) c.loop-k-test.true l.invariant (ap not (ne_eqb _ _ (λ e. c.if-cell-at.true (e ∙ sym c.at.ensures))))

pub loop-k-preserved : goal.loop-k-preserved
loop-k-preserved c =
    let a = c.args in
    let l = c.loop-k in
    rw add-one (lowest_on (apart a.first.now a.second.now) l.k l.invariant (ap not (eq-eqb _ _ (c.if-cell-at.false ∙ c.at.ensures))))
