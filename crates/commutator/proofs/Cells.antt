-- The cells sent, one more of them; nothing for a dummy. Assumes nothing.
use Prim.Native.Nat.{ℕ, ◌≤◌, ◌<◌}
use mathlib.Core.Path.{◌≡◌, refl, ap, ◌∙◌}
use mathlib.Core.Logic.{by_cases}
use mathlib.Core.List.{List}
use native.Mathlib.Decide.{dec_lt}
use native.Mathlib.Omega.{arith}
use lib.ListN.{length, set, length-set}
use borrow.Author.Tests.{lt-ltb, le-ltb}
use Rattle.commutator.specs.Round.{with_sent}

pub sent_own : (x : List ℕ) (p v : ℕ) → p < length x → with_sent x p v ≡ set x p v
unfolding with_sent
sent_own x p v h = rw (lt-ltb p (length x) h) refl

pub sent_dummy : (x : List ℕ) (p v : ℕ) → length x ≤ p → with_sent x p v ≡ x
unfolding with_sent
sent_dummy x p v h = rw (le-ltb p (length x) h) refl

pub length_sent : (x : List ℕ) (p v : ℕ) → length (with_sent x p v) ≡ length x
length_sent x p v =
    by_cases (dec_lt p (length x))
    (λ c. ap length (sent_own x p v c) ∙ length-set x p v)
    (λ c. ap length (sent_dummy x p v (omega arith)))
