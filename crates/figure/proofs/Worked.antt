-- The symbol and the lengths worked out in specs/Worked, by computing. Assumes nothing.
use Prim.Native.Nat.{ℕ}
use mathlib.Core.Path.{refl}
use Rattle.counting.specs.Search.{sum, tabulate}
use Rattle.figure.specs.Figure.{ceiling, line_begins, delay_line, line_and, cell_out, store_after, commutator, cell_in, store_at, out_at, figure_store, figure_cells, thrown_away}
use Rattle.figure.specs.Worked.{FigureWorked, LengthsWorked}

pub figure_worked : (z1 z5 z9 y2 y6 z2 z6 x3 x7 y3 y7 z3 z7 a0 a1 a2 a3 a4 a5 a6 a7 a8 a9 : ℕ)
    → FigureWorked z1 z5 z9 y2 y6 z2 z6 x3 x7 y3 y7 z3 z7 a0 a1 a2 a3 a4 a5 a6 a7 a8 a9
unfolding sum tabulate ceiling line_begins delay_line line_and cell_out store_after commutator cell_in store_at out_at figure_store figure_cells thrown_away
figure_worked z1 z5 z9 y2 y6 z2 z6 x3 x7 y3 y7 z3 z7 a0 a1 a2 a3 a4 a5 a6 a7 a8 a9 = (refl, refl, refl)

pub lengths_worked : LengthsWorked
unfolding sum ceiling line_begins
lengths_worked = (refl, refl)
