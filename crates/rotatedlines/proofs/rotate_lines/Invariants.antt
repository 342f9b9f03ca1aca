-- `rotatedlines::rotate_lines` meets its contract. The lines before the one that is next are rotated. Assumes nothing.
use Rattle.rotatedlines.proofs.Rotated.{Rotates}
use Rattle.rotatedlines.proofs.rotate_lines.Given as goal

abbrev pub invariant-loop : goal.invariant-loop
invariant-loop l = Rotates l.j l.m l.initial.store l.store l.counter l.begin l.len
