-- `markgrounds::ground8` meets its contract. The loop has passed q of the kind 3 pilots, none of which clashes. Assumes nothing.
use mathlib.Core.Path.{◌≡◌}
use lib.ListN.{length}
use Rattle.rules.specs.Plan.{plan_of}
use Rattle.rules.specs.Fits.{capacity}
use Rattle.markgrounds.proofs.Clash.{ClashAt}
use Rattle.markgrounds.proofs.ground8.Given as goal

abbrev pub invariant-loop-q : goal.invariant-loop-q
invariant-loop-q l = (length l.m ≡ capacity) × ClashAt l.fn.d (plan_of l.plan) l.pil l.rec l.np l.m l.q
