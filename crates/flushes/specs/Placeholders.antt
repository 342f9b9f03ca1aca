-- The placeholders among the places of a fresh emitter's store: place i of a cell is sent i symbols on. Assumes nothing.
use Rattle.std.specs.Prelude.{ℕ, zero, suc, ◌+◌, List, ltb, get_or, set}
use Rattle.counting.specs.Search.{pick}
use Rattle.rules.specs.Frame.{placeholder}
use Rattle.rules.specs.Places.{emitter_delay, places_before}
use Rattle.pattern.specs.Until.{symbols_until}

-- the store s with place i of the n places from `at` on a placeholder, if there is such a place
unfoldable pub with_placeholder : ℕ → ℕ → ℕ → List ℕ → List ℕ
with_placeholder at n i s = pick (ltb i n) (set s (at + i) placeholder) s

-- the store s with the placeholders of the cells below p, at depth m: of each the place that is sent when the pattern stands on its subcarrier
module _ (m base : ℕ) (kc s : List ℕ) where
  unfoldable pub with_placeholders : ℕ → List ℕ
  with_placeholders zero = s
  with_placeholders (suc p) = with_placeholder (places_before (emitter_delay m) p) (emitter_delay m p) (symbols_until base (get_or kc p 0)) (with_placeholders p)
