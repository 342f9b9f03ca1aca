-- `points::load_listed` meets its contract. Assumes nothing.
use borrow.Author.Tests.{eq-eqb, ne_eqb, le-leb, lt-leb}
use mathlib.Core.Path.{refl}
use native.Mathlib.Omega.{arith}
use Rattle.points.specs.Points.{load_listed}
use Rattle.points.proofs.load_listed.Goals as goal

pub returns-then-load-eq1 : goal.returns-then-load-eq1
unfolding load_listed
returns-then-load-eq1 c = rw (eq-eqb c.args.load 1 c.if-load-eq1.true) refl

pub returns-then-load-eq2 : goal.returns-then-load-eq2
unfolding load_listed
returns-then-load-eq2 c = rw (ne_eqb c.args.load 1 c.if-load-eq1.false, eq-eqb c.args.load 2 c.if-load-eq2.true) refl

pub returns-then-load-eq4 : goal.returns-then-load-eq4
unfolding load_listed
returns-then-load-eq4 c = rw (ne_eqb c.args.load 1 c.if-load-eq1.false, ne_eqb c.args.load 2 c.if-load-eq2.false, eq-eqb c.args.load 4 c.if-load-eq4.true) refl

pub returns-then-load-lt6 : goal.returns-then-load-lt6
unfolding load_listed
returns-then-load-lt6 c =
    let m = c.args.load in
    rw (ne_eqb m 1 c.if-load-eq1.false, ne_eqb m 2 c.if-load-eq2.false, ne_eqb m 4 c.if-load-eq4.false, lt-leb 6 m (omega (arith, c.if-load-lt6.true))) refl

pub returns : goal.returns
unfolding load_listed
returns c =
    let m = c.args.load in
    rw (ne_eqb m 1 c.if-load-eq1.false, ne_eqb m 2 c.if-load-eq2.false, ne_eqb m 4 c.if-load-eq4.false, le-leb 6 m (omega (arith, c.if-load-lt6.false))) refl
