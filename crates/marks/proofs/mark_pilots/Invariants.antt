-- `marks::mark_pilots` meets its contract. The loop has marked the pilots passed. Assumes nothing.
use lib.ListN.{take}
use Rattle.rules.specs.Roles.{one_of, continuous_mark}
use Rattle.marks.specs.Stages.{Stamped}
use Rattle.marks.proofs.mark_pilots.Given as goal

abbrev pub invariant-loop-x : goal.invariant-loop-x
invariant-loop-x l = Stamped continuous_mark (λ k. one_of k (take l.x-index l.x-items)) l.initial.m l.m
