-- `limits::first_narrow` meets its contract. The loop keeps that no band before band j is narrower than w. Assumes nothing.
use Rattle.limits.specs.Answers.{narrow_in}
use Rattle.limits.proofs.Searching.{Searched}
use Rattle.limits.proofs.first_narrow.Given as goal

abbrev pub invariant-loop-j : goal.invariant-loop-j
invariant-loop-j l = Searched (narrow_in l.w) l.a l.b l.m l.j
