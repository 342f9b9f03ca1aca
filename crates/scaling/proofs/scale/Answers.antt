-- `scaling::scale` meets its contract: a coordinate is one that a single holds exactly. Assumes nothing.
use mathlib.Core.Path.{sym, subst}
use lib.Dec.{T}
use lib.IntN.{ℤ}
use lib.Ieee.{binary32, in_float}
use mir.Syntax.{w32}
use mir.ValLaws.{to_z-of_z}
use Rattle.scaling.proofs.Sweep.{counts}
use Rattle.scaling.proofs.scale.Goals as goal

pub int_to_float-result : goal.int_to_float-result
int_to_float-result c = subst (λ (z : ℤ). T (in_float binary32 z)) (sym (to_z-of_z w32 c.args.c c.ranges.c)) (counts c.args.c c.requires)
