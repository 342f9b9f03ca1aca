-- `limits::first_much` meets its contract. The loop keeps that no band before band j has too many excluded. Assumes nothing.
use Rattle.rules.specs.Plan.{plan_of}
use Rattle.limits.specs.Answers.{much_in}
use Rattle.limits.proofs.Searching.{Searched}
use Rattle.limits.proofs.first_much.Given as goal

abbrev pub invariant-loop-j : goal.invariant-loop-j
invariant-loop-j l = Searched (much_in (plan_of l.plan)) l.a l.b l.m l.j
