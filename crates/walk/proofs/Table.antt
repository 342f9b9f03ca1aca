-- The table of walks, by computation. Assumes nothing.
use mathlib.Core.Path.{refl}
use Rattle.counting.specs.Search.{first, lowest, tabulate}
use Rattle.rules.specs.Frame.{reversed}
use Rattle.walk.specs.Walk.{row_after, next_place, turned, unturned, next_cell, walked, walk_cell}
use Rattle.walk.specs.Table.{WalkTable}

pub walk_table : WalkTable
unfolding first lowest tabulate reversed row_after next_place turned unturned next_cell walked walk_cell
walk_table = (refl, refl, refl, refl, refl, refl, refl, refl, refl, refl, refl, refl)
