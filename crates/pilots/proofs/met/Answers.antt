-- `pilots::met` meets its contract. Assumes nothing.
use native.Mathlib.Omega.{arith}
use borrow.Author.Tests.{ne_eqb}
use Rattle.pilots.proofs.met.Goals as goal

pub returns-then-x-eq-CONTINUOUS : goal.returns-then-x-eq-CONTINUOUS
returns-then-x-eq-CONTINUOUS c = λ z. absurd (omega arith)

pub returns : goal.returns
returns c = λ z. (z, ne_eqb _ _ c.if-x-eq-CONTINUOUS.false)
