-- The lowest place that passes, or the end: what a search up to a place says of it. Assumes nothing.
use Prim.Native.Nat.{ℕ, ◌<◌, ◌≤◌}
use mathlib.Core.Path.{◌≡◌, sym, ap}
use mathlib.Core.Logic.{by_cases}
use mathlib.Core.List.{List}
use native.Mathlib.Decide.{dec_lt}
use native.Mathlib.Omega.{arith}
use lib.ListN.{length}
use mathlib.Core.Bool.{Bool, true, not}
use Rattle.std.specs.Prelude.{Option, None, unwrap_or}
use lib.ListN.{get_or}
use Rattle.counting.specs.Search.{lowest}
use borrow.Author.Tests.{lt-ltb, le-ltb}
use Rattle.std.specs.List.{position, position_or_len}
use Rattle.std.proofs.lemmas.List.Sums.{fails_before_first, passes_at_first, prefix_len-le-length}
use Rattle.counting.proofs.Laws.{lowest_here, none_lowest}
use Rattle.samples.specs.Inputs.{first_of}

-- none passed before k, and k does
pub first_here : (p : ℕ → Bool) (k n : ℕ) → k < n → lowest p k ≡ None → p k ≡ true → k ≡ first_of p n
first_here p k n h g e = sym (ap (λ (o : Option ℕ). unwrap_or o n) (lowest_here p k n h g e))

-- none passed
pub first_none : (p : ℕ → Bool) (n : ℕ) → lowest p n ≡ None → n ≡ first_of p n
first_none p n g = sym (ap (λ (o : Option ℕ). unwrap_or o n) g)

-- the place that `position` finds, or the end
pub first_position : (p : ℕ → Bool) (xs : List ℕ) → unwrap_or (position p xs) (length xs) ≡ first_of (λ k. p (get_or xs k 0)) (length xs)
first_position p xs =
    by_cases (dec_lt (position_or_len p xs) (length xs))
    (λ h. simp (lt-ltb (position_or_len p xs) (length xs) h) (first_here (λ k. p (get_or xs k 0)) (position_or_len p xs) (length xs) h before (passes_at_first p xs 0 h)))
    (λ h.
    let l : length xs ≤ position_or_len p xs = omega arith in
    let e : position_or_len p xs ≡ length xs = omega (arith, prefix_len-le-length (λ x. not (p x)) xs) in
    simp (le-ltb (position_or_len p xs) (length xs) l) (first_none (λ k. p (get_or xs k 0)) (length xs) (rw e at before)))
  where
    before : lowest (λ k. p (get_or xs k 0)) (position_or_len p xs) ≡ None
    before = none_lowest (λ k. p (get_or xs k 0)) (position_or_len p xs) (λ k l. fails_before_first p xs k 0 l)
