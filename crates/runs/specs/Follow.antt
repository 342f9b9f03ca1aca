-- Flushed runs, and runs of a receiver that follow an emitter's (document 01, "Cells and interleaving"). Assumes nothing.
use Rattle.std.specs.Prelude.{ℕ, ◌+◌, ◌-◌, ◌≤◌, ◌<◌, ◌≡◌, List, length, get_or, take}
use Rattle.rules.specs.Frame.{Given, flush}

-- a flushed run has flushes as its last M - 1 accepted steps
pub record Flushed (m : ℕ) (gs : List Given) : Type 0 where
  pub enough : m - 1 ≤ length gs
  pub last : (i : ℕ) → length gs ≤ i + (m - 1) → i < length gs → get_or gs i flush ≡ flush

-- A receiver's run follows an emitter's, of the same plan and starting phase, if its accepted steps were given the first symbols sent, in order.
abbrev pub Follows : List (List ℕ) → List (List ℕ) → Type 0
Follows ys hs = hs ≡ take (length hs) ys
