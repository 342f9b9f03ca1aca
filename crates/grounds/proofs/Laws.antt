-- An answer put together one ground after another. Assumes nothing.
use mathlib.Core.Path.{◌≡◌, sym, ap}
use Rattle.std.specs.Prelude.{Option, Some, None}
use Prim.Native.Nat.{ℕ}
use Rattle.rules.specs.Refusals.{Finding, refused_by}
use Rattle.rules.specs.Grounds.{◌else◌, ground?, answer}

-- the answer by one ground after another
pub stop : (o : Option ℕ) (g k n : ℕ) (rest : Finding) → o ≡ Some k → refused_by g k ≡ answer (ground? g o else rest) n
stop o g k n rest e = sym (ap (λ (x : Option ℕ). answer (ground? g x else rest) n) e)

pub pass : (o : Option ℕ) (g n : ℕ) (rest : Finding) → o ≡ None → answer rest n ≡ answer (ground? g o else rest) n
pass o g n rest e = sym (ap (λ (x : Option ℕ). answer (ground? g x else rest) n) e)
