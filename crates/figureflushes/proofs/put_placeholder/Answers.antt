-- `figureflushes::put_placeholder` meets its contract. Assumes nothing.
use Prim.Native.Nat.{◌+◌, ◌*◌, ◌<◌}
use mathlib.Core.Path.{refl}
use native.Mathlib.Omega.{arith}
use borrow.Author.Tests.{lt-ltb, le-ltb}
use Rattle.figure.proofs.Turns.{below_times}
use Rattle.figureflushes.specs.Placeholders.{with_placeholder}
use Rattle.figureflushes.proofs.put_placeholder.Goals as goal
use Rattle.figureflushes.proofs.put_placeholder.Goals.{Then-i-delay}

-- the place lies within the line
inside : (c : Then-i-delay) → c.args.i * c.args.j + c.args.turn < c.args.delay * c.args.j
inside c = let a = c.args in below_times a.i a.turn a.j a.delay c.if-i-delay.true c.requires.0

pub overflow_mul-store : goal.overflow_mul-store
overflow_mul-store c = omega (arith, inside c)

pub overflow_add-store : goal.overflow_add-store
overflow_add-store c = omega (arith, inside c)

pub overflow_add-store-then-i-delay : goal.overflow_add-store-then-i-delay
overflow_add-store-then-i-delay c = omega (arith, inside c)

pub offset_bounds-store-begins : goal.offset_bounds-store-begins
offset_bounds-store-begins c = omega (arith, inside c)

pub bounds-store-begins : goal.bounds-store-begins
bounds-store-begins c = omega (arith, inside c)

pub returns-then-i-delay : goal.returns-then-i-delay
unfolding with_placeholder
returns-then-i-delay c = rw (lt-ltb _ _ c.if-i-delay.true) refl

pub returns-else-i-delay : goal.returns-else-i-delay
unfolding with_placeholder
returns-else-i-delay c = rw (le-ltb _ _ c.if-i-delay.false) refl
