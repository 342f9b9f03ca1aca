-- `exclusion::held` meets its contract. Assumes nothing.
use native.Mathlib.Omega.{arith}
use Rattle.exclusion.proofs.held.Goals as goal

pub returns-then-x-gt65535 : goal.returns-then-x-gt65535
returns-then-x-gt65535 c = omega arith

pub returns : goal.returns
returns c = omega arith
