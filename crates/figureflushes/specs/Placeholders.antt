-- The placeholders among the places of a fresh literal store: in line r, place i * J + q is that of cell q * M + r, sent i symbols on. Assumes nothing.
use Rattle.std.specs.Prelude.{ℕ, zero, suc, ◌+◌, ◌*◌, ◌/◌, ◌%◌, List, ltb, get_or, set}
use Rattle.counting.specs.Search.{pick}
use Rattle.rules.specs.Frame.{placeholder}
use Rattle.pattern.specs.Until.{symbols_until}
use Rattle.figure.specs.Figure.{line_begins}

-- the store s with the place of a cell that is sent i symbols on a placeholder, if there is such a place: the cell's line begins at `begins` and has
-- J places for each of the n symbols of its delay, and among these J the cell's is number `turn`
unfoldable pub with_placeholder : ℕ → ℕ → ℕ → ℕ → ℕ → List ℕ → List ℕ
with_placeholder begins turn J n i s = pick (ltb i n) (set s (begins + (i * J + turn)) placeholder) s

-- the store s with the placeholders of the cells below p, of m lines with J places for each symbol of delay: of each cell the place that is sent
-- when the pattern stands on its subcarrier
module _ (m J base : ℕ) (kc s : List ℕ) where
  unfoldable pub with_placeholders : ℕ → List ℕ
  with_placeholders zero = s
  with_placeholders (suc p) =
      with_placeholder (line_begins J (p % m)) (p / m) J (p % m) (symbols_until base (get_or kc p 0)) (with_placeholders p)
