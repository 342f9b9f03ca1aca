-- `modulator::pilot` meets its contract: the two constants are what their bits stand for. Assumes nothing.
use mathlib.Core.Path.{ap, sym}
use mathlib.Core.Bool.{Bool}
use lib.Ieee.{of_bits, neg}
use Rattle.modulator.specs.declared.OnLine.TheVariants.{Pilot}
use Rattle.modulator.specs.Lines.{amplitude}
use Rattle.modulator.proofs.pilot.Goals as goal

pub returns-then-minus : goal.returns-then-minus
unfolding of_bits neg
returns-then-minus c = ap (λ (b : Bool). Pilot (amplitude b)) (sym c.if-minus.true)

pub returns-else-minus : goal.returns-else-minus
unfolding of_bits
returns-else-minus c = ap (λ (b : Bool). Pilot (amplitude b)) (sym c.if-minus.false)
