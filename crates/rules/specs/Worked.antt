-- One step of a store worked out, at depth 4 with four cells, whatever stands in them (document 02, request 03). Of the cells that wait `a` is the
-- oldest, then `b`, then `c`, each with the number of its cell: `b2` is the second of cell 2; `x2` comes in. It fixes what no claim about runs can
-- tell, since both ends agree with themselves in any order: oldest first, in rising p. Proved in proofs/Worked.antt. Assumes nothing.
use Rattle.std.specs.Prelude.{ℕ, ◌≡◌, [], ◌∷◌}
use Rattle.rules.specs.Places.{emitter_delay, receiver_delay, oldest, moved}

abbrev pub EmitterWorked : Type 0
EmitterWorked =
    (a1 a2 b2 a3 b3 c3 x0 x1 x2 x3 : ℕ)
    → (oldest (emitter_delay 4) 4 (a1 ∷ a2 ∷ b2 ∷ a3 ∷ b3 ∷ c3 ∷ []) (x0 ∷ x1 ∷ x2 ∷ x3 ∷ []) ≡ x0 ∷ a1 ∷ a2 ∷ a3 ∷ [])
    × (moved (emitter_delay 4) 4 (a1 ∷ a2 ∷ b2 ∷ a3 ∷ b3 ∷ c3 ∷ []) (x0 ∷ x1 ∷ x2 ∷ x3 ∷ []) ≡ x1 ∷ b2 ∷ x2 ∷ b3 ∷ c3 ∷ x3 ∷ [])

abbrev pub ReceiverWorked : Type 0
ReceiverWorked =
    (a0 b0 c0 a1 b1 a2 x0 x1 x2 x3 : ℕ)
    → (oldest (receiver_delay 4) 4 (a0 ∷ b0 ∷ c0 ∷ a1 ∷ b1 ∷ a2 ∷ []) (x0 ∷ x1 ∷ x2 ∷ x3 ∷ []) ≡ a0 ∷ a1 ∷ a2 ∷ x3 ∷ [])
    × (moved (receiver_delay 4) 4 (a0 ∷ b0 ∷ c0 ∷ a1 ∷ b1 ∷ a2 ∷ []) (x0 ∷ x1 ∷ x2 ∷ x3 ∷ []) ≡ b0 ∷ c0 ∷ x0 ∷ b1 ∷ x1 ∷ x2 ∷ [])
