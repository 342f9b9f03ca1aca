-- The step worked out in specs/Worked, by computing. Assumes nothing.
use mathlib.Core.Path.{refl}
use Rattle.rules.specs.Computes.{computes}
use Rattle.rules.specs.Worked.{EmitterWorked, ReceiverWorked}

pub emitter_worked : EmitterWorked
unfolding computes
emitter_worked a1 a2 b2 a3 b3 c3 x0 x1 x2 x3 = (refl, refl)

pub receiver_worked : ReceiverWorked
unfolding computes
receiver_worked a0 b0 c0 a1 b1 a2 x0 x1 x2 x3 = (refl, refl)
