-- One symbol through the delay lines worked out, ten cells at depth 4, so J is 3 and two dummies are added, whatever stands in the cells (document 02,
-- request 09; the picture and the tables of docs/FIGURE.md are of this symbol). Symbols x, y and z went in before a, and `z5` is cell 5 of symbol z. It
-- fixes what no claim about runs can tell, since an emitter agrees with itself in any order: line after line, the oldest first. Proved in
-- proofs/Worked.antt, held to the second model by tests/commutator.py. Assumes nothing.
use Rattle.std.specs.Prelude.{ℕ, ◌≡◌, List, [], ◌∷◌}
use Rattle.rules.specs.Frame.{filler}
use Rattle.figure.specs.Figure.{ceiling, line_begins, figure_store, figure_cells, thrown_away}

module _ (z1 z5 z9 y2 y6 z2 z6 x3 x7 y3 y7 z3 z7 a0 a1 a2 a3 a4 a5 a6 a7 a8 a9 : ℕ) where
  -- what goes in
  abbrev pub given : List ℕ
  given = a0 ∷ a1 ∷ a2 ∷ a3 ∷ a4 ∷ a5 ∷ a6 ∷ a7 ∷ a8 ∷ a9 ∷ []

  -- the lines before: line 1, line 2 and line 3; a dummy is filler
  abbrev pub before : List ℕ
  before = z1 ∷ z5 ∷ z9 ∷ y2 ∷ y6 ∷ filler ∷ z2 ∷ z6 ∷ filler ∷ x3 ∷ x7 ∷ filler ∷ y3 ∷ y7 ∷ filler ∷ z3 ∷ z7 ∷ filler ∷ []

  -- and afterwards
  abbrev pub afterwards : List ℕ
  afterwards = a1 ∷ a5 ∷ a9 ∷ z2 ∷ z6 ∷ filler ∷ a2 ∷ a6 ∷ filler ∷ y3 ∷ y7 ∷ filler ∷ z3 ∷ z7 ∷ filler ∷ a3 ∷ a7 ∷ filler ∷ []

  -- what is sent, and what is thrown away
  abbrev pub sent : List ℕ
  sent = a0 ∷ z1 ∷ y2 ∷ x3 ∷ a4 ∷ z5 ∷ y6 ∷ x7 ∷ a8 ∷ z9 ∷ []

  abbrev pub thrown : List ℕ
  thrown = filler ∷ filler ∷ []

  abbrev pub FigureWorked : Type 0
  FigureWorked = (figure_store 4 10 before given ≡ afterwards) × (figure_cells 4 10 before given ≡ sent) × (thrown_away 4 10 before given ≡ thrown)

-- the lengths of two literal stores: Plan A's, 425 cells at depth 4, and the longest, 3,745 cells at depth 32
abbrev pub LengthsWorked : Type 0
LengthsWorked = (line_begins (ceiling 425 4) 4 ≡ 642) × (line_begins (ceiling 3745 32) 32 ≡ 58528)
