-- What the loops over cells and subcarriers compute, of plain lists: stores in the order of the walk (crate walk). Assumes nothing.
use Rattle.std.specs.Prelude.{ℕ, List, length, get_or}
use Rattle.walk.specs.Walk.{walk_cell}
use Rattle.walk.specs.Stores.{stores}

-- l after the first n cells of the walk through `all` of them were given the subcarriers of their ranks
abbrev pub carried_up_to : ℕ → ℕ → List ℕ → ℕ → List ℕ → List ℕ
carried_up_to b all car n l = stores (walk_cell b all) (λ r. get_or car r 0) n l

-- l after the first n cells of the walk through the cells x went to the subcarriers of their ranks
abbrev pub placed_up_to : ℕ → List ℕ → List ℕ → ℕ → List ℕ → List ℕ
placed_up_to b car x n l = stores (λ r. get_or car r 0) (λ r. get_or x (walk_cell b (length x) r) 0) n l
