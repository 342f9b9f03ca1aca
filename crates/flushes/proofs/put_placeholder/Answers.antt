-- `flushes::put_placeholder` meets its contract. Assumes nothing.
use mathlib.Core.Path.{refl}
use borrow.Author.Tests.{lt-ltb, le-ltb}
use Rattle.flushes.specs.Placeholders.{with_placeholder}
use Rattle.flushes.proofs.put_placeholder.Goals as goal

pub returns-then-i-delay : goal.returns-then-i-delay
unfolding with_placeholder
returns-then-i-delay c = rw (lt-ltb _ _ c.if-i-delay.true) refl

pub returns-else-i-delay : goal.returns-else-i-delay
unfolding with_placeholder
returns-else-i-delay c = rw (le-ltb _ _ c.if-i-delay.false) refl
