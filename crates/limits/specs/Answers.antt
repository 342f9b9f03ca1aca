-- What a search finds in one band, a to b, and the bands of the lists one after the other. Assumes nothing.
use Rattle.std.specs.Prelude.{ℕ, suc, ◌-◌, ◌*◌, List, leb, ltb, get_or, Option}
use Rattle.counting.specs.Search.{when}
use Rattle.rules.specs.Plan.{Plan}
use Rattle.rules.specs.Bands.{width, excluded_in}

-- ground 9: a band narrower than w
unfoldable pub narrow_in : ℕ → ℕ → ℕ → Option ℕ
narrow_in w a b = when (ltb (width a b) w) a

-- ground 10: a band of width w or more
unfoldable pub wide_in : ℕ → ℕ → ℕ → Option ℕ
wide_in w a b = when (leb w (width a b)) a

-- ground 12: a band with too many excluded for its width
unfoldable pub much_in : Plan → ℕ → ℕ → Option ℕ
much_in p a b = when (ltb (width a b) (20 * excluded_in p a (suc b - a))) a

-- what f finds in band j of the lists
abbrev pub at_band : (ℕ → ℕ → Option ℕ) → List ℕ → List ℕ → ℕ → Option ℕ
at_band f a b j = f (get_or a j 0) (get_or b j 0)
