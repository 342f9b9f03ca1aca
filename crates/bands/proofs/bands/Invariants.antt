-- `bands::bands` meets its contract. The loop keeps `Loop` of proofs/Step.antt. Assumes nothing.
use Rattle.rules.specs.Plan.{plan_of}
use Rattle.bands.proofs.Step.{Loop}
use Rattle.bands.proofs.bands.Given as goal

abbrev pub invariant-loop-i : goal.invariant-loop-i
invariant-loop-i l = Loop l.d (plan_of l.plan) l.lo l.hi l.n l.a l.b l.c l.x l.m l.nx l.s l.i
