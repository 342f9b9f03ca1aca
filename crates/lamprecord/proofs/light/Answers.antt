-- `lamprecord::light` meets its contract. Assumes nothing.
use mathlib.Core.Path.{refl}
use native.Mathlib.Omega.{arith}
use borrow.Author.Tests.{eq-eqb, ne_eqb, lt-ltb, le-ltb}
use Rattle.lamprecord.proofs.light.Goals as goal

pub returns-then-first-eq0 : goal.returns-then-first-eq0
returns-then-first-eq0 c = rw (le-ltb 0 c.args.first (omega arith)) refl

pub returns-then-c-first : goal.returns-then-c-first
returns-then-c-first c = rw (lt-ltb 0 c.args.first (omega arith), eq-eqb _ _ c.if-c-first.true) refl

pub returns-else-c-first : goal.returns-else-c-first
returns-else-c-first c = rw (lt-ltb 0 c.args.first (omega arith), ne_eqb _ _ c.if-c-first.false) refl
