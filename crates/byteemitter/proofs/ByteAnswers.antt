-- What a step over the cells answers and leaves, in bytes. Assumes nothing.
use mathlib.Core.Path.{◌≡◌, sym, ap, ◌∙◌}
use mathlib.Core.List.{List}
use Prim.Native.Nat.{ℕ}
use Rattle.rules.specs.Refusals.{SendAnswer}
use Rattle.rules.specs.Steps.{Sending, leaves}
use Rattle.bytecells.specs.Octets.{cells_of, bytes_of, Whole}
use Rattle.bytecells.specs.ByteSteps.{sent_bytes}

-- the bytes of what a step leaves
pub as_bytes : (r : SendAnswer) (st out store symbol : List ℕ) (left : Sending) → store ≡ bytes_of st → symbol ≡ bytes_of out → leaves r st out ≡ left → leaves r store symbol ≡ sent_bytes left
as_bytes r st out store symbol left es ey h = (λ i. leaves r (es i) (ey i)) ∙ ap sent_bytes h

-- whole cells that a step leaves as they were
pub unchanged : (r : SendAnswer) (store symbol : List ℕ) (left : Sending) → Whole store → Whole symbol → leaves r (cells_of store) (cells_of symbol) ≡ left → leaves r store symbol ≡ sent_bytes left
unchanged r store symbol left ws wy h = as_bytes r (cells_of store) (cells_of symbol) store symbol left (sym ws) (sym wy) h
