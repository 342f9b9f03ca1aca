-- `lampreport::put_all` meets its contract. The dark pilots of the first i are put. Assumes nothing.
use Prim.Native.Nat.{◌+◌, ◌*◌, ◌≤◌}
use mathlib.Core.Path.{◌≡◌}
use mathlib.Core.List.{◌++◌}
use lib.ListN.{take}
use Rattle.lampreport.specs.LampLine.{spaced, dark_pilots}
use Rattle.lampreport.proofs.put_all.Given as goal

abbrev pub invariant-loop-i : goal.invariant-loop-i
invariant-loop-i l = record {
  from : l.at ≤ l.end;
  few : l.end ≤ l.at + 11 * l.i;
  line : take l.end l.out ≡ take l.at l.initial.out ++ spaced (dark_pilots l.list l.lights l.i);
}
