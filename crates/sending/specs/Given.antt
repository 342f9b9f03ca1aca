-- The input symbol that the data of a sending step make. Assumes nothing.
use Rattle.std.specs.Prelude.{◌≡◌, List, ℕ, Ok}
use Rattle.rules.specs.Refusals.{Finding}
use Rattle.rules.specs.Frame.{Frame, Given, input_cells}
use Rattle.rules.specs.Steps.{given_grounds}

-- the finding r is that of grounds 18 and 19 under the profile w at phase j and, where they find none, x is the input symbol
abbrev pub Filled : Frame → List ℕ → ℕ → Given → Finding → List ℕ → Type 0
Filled F w j g r x = (r ≡ given_grounds F w j g) × (r ≡ Ok tt → x ≡ input_cells F j g)
