-- `coordinates::moved_by` meets its contract. Assumes nothing.
use mathlib.Core.Path.{refl}
use borrow.Author.Tests.{eq-eqb, ne_eqb}
use Prim.Native.Nat.{◌/◌, ◌%◌}
use Rattle.coordinates.proofs.moved_by.Goals as goal

pub returns-then-high-eq0 : goal.returns-then-high-eq0
returns-then-high-eq0 c = rw (eq-eqb (c.args.high / 2 % 4) 0 c.if-high-eq0.true) refl

pub returns-else-high-eq0 : goal.returns-else-high-eq0
returns-else-high-eq0 c = rw (ne_eqb (c.args.high / 2 % 4) 0 c.if-high-eq0.false) refl
