-- What a search finds in the windows of one band, a to b. Assumes nothing.
use Rattle.std.specs.Prelude.{ℕ, suc, ◌+◌, ◌-◌, ltb, Option}
use Rattle.counting.specs.Search.{when, first}
use Rattle.rules.specs.Plan.{Plan}
use Rattle.rules.specs.Bands.{excluded_in}

-- grounds 13, 14: the lowest window of `size` inside a band that has more than `most` excluded
unfoldable pub window_in : Plan → ℕ → ℕ → ℕ → ℕ → Option ℕ
window_in p size most a b = first (λ i. when (ltb most (excluded_in p (a + i) size)) (a + i)) (suc (suc b) - a - size)
