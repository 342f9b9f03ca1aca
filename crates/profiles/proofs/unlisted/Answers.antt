-- `profiles::unlisted` meets its contract. One line for each return. Assumes nothing.
use mathlib.Core.Path.{refl}
use borrow.Author.Tests.{eq-eqb, ne_eqb, le-leb, lt-leb}
use Rattle.rules.specs.Loads.{profile_load}
use Rattle.profiles.proofs.unlisted.Goals as goal

pub returns-then-load-eq0 : goal.returns-then-load-eq0
unfolding profile_load
returns-then-load-eq0 c = rw (eq-eqb _ _ c.if-load-eq0.true) refl

pub returns-then-load-eq4 : goal.returns-then-load-eq4
unfolding profile_load
returns-then-load-eq4 c = rw (ne_eqb _ _ c.if-load-eq0.false, eq-eqb _ _ c.if-load-eq4.true) refl

pub returns-then-load-lt6 : goal.returns-then-load-lt6
unfolding profile_load
returns-then-load-lt6 c = rw (ne_eqb _ _ c.if-load-eq0.false, ne_eqb _ _ c.if-load-eq4.false, lt-leb _ _ c.if-load-lt6.true) refl

pub returns-then-load-le14 : goal.returns-then-load-le14
unfolding profile_load
returns-then-load-le14 c = rw (ne_eqb _ _ c.if-load-eq0.false, ne_eqb _ _ c.if-load-eq4.false, le-leb _ _ c.if-load-lt6.false, le-leb _ _ c.if-load-le14.true) refl

pub returns-else-load-le14 : goal.returns-else-load-le14
unfolding profile_load
returns-else-load-le14 c = rw (ne_eqb _ _ c.if-load-eq0.false, ne_eqb _ _ c.if-load-eq4.false, le-leb _ _ c.if-load-lt6.false, lt-leb _ _ c.if-load-le14.false) refl
