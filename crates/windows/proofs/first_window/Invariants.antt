-- `windows::first_window` meets its contract. The loop keeps that no band before band j has a full window. Assumes nothing.
use Rattle.rules.specs.Plan.{plan_of}
use Rattle.windows.specs.Windows.{window_in}
use Rattle.limits.proofs.Searching.{Searched}
use Rattle.windows.proofs.first_window.Given as goal

abbrev pub invariant-loop-j : goal.invariant-loop-j
invariant-loop-j l = Searched (window_in (plan_of l.plan) l.size l.most) l.a l.b l.m l.j
