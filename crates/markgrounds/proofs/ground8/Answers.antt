-- `markgrounds::ground8` meets its contract. The loop has passed q of the kind 3 pilots, none of which clashes. Assumes nothing.
use mathlib.Core.Path.{◌≡◌, ap, ◌∙◌}
use mathlib.Core.Bool.{true, false}
use Rattle.std.specs.Prelude.{Some}
use lib.Dec.{eqb}
use lib.ListN.{get_or, length-set}
use borrow.Author.Tests.{eq-eqb, ne_eqb}
use Rattle.rules.specs.Plan.{plan_of}
use Rattle.rules.specs.Roles.{continuous_mark}
use Rattle.markgrounds.proofs.Clash.{clash_start, clash_here, clash_on, clash_end}
use Rattle.markgrounds.proofs.ground8.Goals as goal

pub loop-q-init : goal.loop-q-init
loop-q-init c = (c.requires.cells.long, clash_start _ _ _ _ _ _ c.requires)

pub returns-then-m-k-ne0 : goal.returns-then-m-k-ne0
returns-then-m-k-ne0 c =
    let l = c.loop-q in
    let a = c.args in
    let marked : eqb (get_or l.m (get_or a.pil.now l.q 0) 0) 0 ≡ false = rw c.wide-k.ensures.0 at (ne_eqb _ 0 c.if-m-k-ne0.true) in (
      ap Some c.from.ensures ∙ clash_here a.d (plan_of a.plan.now) a.pil.now a.rec.now a.np a.m.now c.requires l.m l.q l.invariant.1 c.loop-q-test.true marked,
      l.invariant.0,
    )

pub loop-q-preserved : goal.loop-q-preserved
loop-q-preserved c =
    let l = c.loop-q in
    let a = c.args in
    let clear : eqb (get_or l.m (get_or a.pil.now l.q 0) 0) 0 ≡ true = rw c.wide-k.ensures.0 at (eq-eqb _ 0 c.if-m-k-ne0.false) in (
      length-set l.m c.wide-k.result continuous_mark ∙ l.invariant.0,
      rw c.wide-k.ensures.0 (clash_on a.d (plan_of a.plan.now) a.pil.now a.rec.now a.np a.m.now c.requires l.m l.q l.invariant.1 c.loop-q-test.true clear),
    )

pub returns : goal.returns
returns c =
    let l = c.loop-q in
    let a = c.args in
    clash_end a.d (plan_of a.plan.now) a.pil.now a.rec.now a.np a.m.now c.requires l.m l.q l.invariant.1 c.loop-q-test.false
