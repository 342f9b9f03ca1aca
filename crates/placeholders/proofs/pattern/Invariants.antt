-- `placeholders::pattern` meets its contract. Assumes nothing.
use Prim.Native.Nat.{◌-◌}
use mathlib.Core.Path.{◌≡◌}
use lib.ListN.{take}
use lib.Seq.{sets}
use Rattle.placeholders.specs.Meets.{Wanted}
use Rattle.placeholders.proofs.Turns.{firstTurn}
use Rattle.placeholders.proofs.pattern.Given as goal

abbrev pub invariant-loop-d : goal.invariant-loop-d
invariant-loop-d l = l.want ≡ sets l.initial.want 0 (take l.d (firstTurn l.m l.base))

abbrev pub invariant-loop-len : goal.invariant-loop-len
invariant-loop-len l = Wanted l.m l.base l.len l.want

abbrev pub decreases-loop-len : goal.decreases-loop-len
decreases-loop-len l = 128 - l.len
