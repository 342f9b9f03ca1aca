-- `placeholders::meet` meets its contract. Assumes nothing.
use mathlib.Core.Path.{◌≡◌}
use lib.ListN.{take}
use lib.Seq.{sets}
use Rattle.counting.specs.Search.{bit, count, tabulate}
use Rattle.placeholders.specs.Meets.{like}
use Rattle.placeholders.proofs.meet.Given as goal

abbrev pub invariant-loop-i : goal.invariant-loop-i
invariant-loop-i l = (l.flag ≡ sets l.initial.flag l.b (take l.i (tabulate (λ j. bit (like l.want l.kc l.b j)) l.k))) × (l.n ≡ count (like l.want l.kc l.b) l.i)
