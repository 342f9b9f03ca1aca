-- What stands where in a fresh literal store. Assumes nothing.
use Prim.Native.Nat.{ℕ, ◌+◌, ◌*◌, ◌≤◌, ◌<◌}
use mathlib.Core.Path.{◌≡◌, ◌∙◌}
use mathlib.Core.List.{List}
use native.Mathlib.Omega.{arith}
use lib.ListN.{length, get_or}
use lib.Seq.{length-sets}
use Rattle.counting.specs.Search.{tabulate}
use Rattle.counting.proofs.Lists.{length_tabulate, get_d_tabulate, get_or-sets_after, get_or-sets_0}
use Rattle.rules.specs.Frame.{Frame}
use Rattle.rules.specs.Places.{joined, places_before}
use Rattle.places.proofs.Kept.{joined_length, joined_at}
use Rattle.figure.specs.Figure.{line_begins}
use Rattle.figure.specs.Steps.{J, literal_places, fresh_place, fresh_literal}
use Rattle.figure.proofs.Sizes.{begins_grow}

module _ (F : Frame) (j : ℕ) where
  -- line r
  line : ℕ → List ℕ
  line r = tabulate (fresh_place F j r) (r * J F)

  line_length : (r : ℕ) → r < F.depth → length (line r) ≡ r * J F
  unfolding line
  line_length r h = length_tabulate (fresh_place F j r) (r * J F)

  lines_length : length (joined line F.depth) ≡ literal_places F
  unfolding literal_places line_begins places_before
  lines_length = joined_length line (λ r. r * J F) F.depth line_length

  module _ (s : List ℕ) where
    -- place i of line r
    pub fresh_at : literal_places F ≤ length s → (r i : ℕ) → r < F.depth → i < r * J F → get_or (fresh_literal F j s) (line_begins (J F) r + i) 0 ≡ fresh_place F j r i
    unfolding fresh_literal line literal_places line_begins places_before
    fresh_at long r i hr hi =
        get_or-sets_0 s (joined line F.depth) 0 (line_begins (J F) r + i) (omega (arith, lines_length, begins_grow (J F) r F.depth hr)) (omega (arith, lines_length))
        ∙ joined_at line (λ r. r * J F) F.depth line_length r i hr hi
        ∙ get_d_tabulate (fresh_place F j r) (r * J F) 0 i hi

    -- past the lines
    pub fresh_past : (k : ℕ) → literal_places F ≤ k → get_or (fresh_literal F j s) k 0 ≡ get_or s k 0
    unfolding fresh_literal line
    fresh_past k h = get_or-sets_after s 0 (joined line F.depth) 0 k (omega (arith, lines_length))

    pub length_fresh : length (fresh_literal F j s) ≡ length s
    unfolding fresh_literal line
    length_fresh = length-sets s 0 (joined line F.depth)
