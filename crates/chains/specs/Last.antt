-- The last record of the chain (document 01, "The plan on paper"; document 02, Req 05: "the last chain record"). Assumes nothing.
use Rattle.std.specs.Prelude.{ℕ, List, [], ◌∷◌}
use Rattle.rules.specs.Plan.{Entry, chain}

-- the index of the last of some entries; i where there is none
unfoldable pub last_of : ℕ → List Entry → ℕ
last_of i [] = i
last_of i (e ∷ es) = last_of e.index es

-- the index of the last chain record
unfoldable pub last_index : List ℕ → ℕ
last_index s = last_of 0 (chain s)
