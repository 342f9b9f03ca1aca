-- `limits::first_wide` meets its contract. The loop keeps that no band before band j has width w or more. Assumes nothing.
use Rattle.limits.specs.Answers.{wide_in}
use Rattle.limits.proofs.Searching.{Searched}
use Rattle.limits.proofs.first_wide.Given as goal

abbrev pub invariant-loop-j : goal.invariant-loop-j
invariant-loop-j l = Searched (wide_in l.w) l.a l.b l.m l.j
