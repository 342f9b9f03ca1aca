-- Where the last record of a chain stands. Assumes nothing.
use Prim.Native.Nat.{ℕ, zero, suc, ◌+◌, ◌*◌, ◌/◌, ◌≤◌, ◌<◌}
use mathlib.Core.Path.{◌≡◌, refl, ap, ◌∙◌}
use mathlib.Core.List.{List, [], ◌∷◌, ◌++◌, map}
use native.Mathlib.Omega.{arith}
use lib.ListN.{length}
use Rattle.counting.proofs.Bools.{by_test}
use Rattle.rules.specs.Plan.{Entry, entry, leads, chain_from, chain}
use Rattle.chains.specs.Last.{last_of, last_index}
use Rattle.chains.proofs.Steps.{chain_ends, chain_on, leads_up}

-- the last record of a chain that starts at i
pub last_from : (s : List ℕ) (r n i x : ℕ) → i < r → r ≤ n + i → (i ≤ last_of x (chain_from s r n i)) × (last_of x (chain_from s r n i) < r)
unfolding last_of entry
last_from s r zero i x h l = absurd (omega arith)
last_from s r (suc n) i x h l =
    by_test (leads r i (entry s i).next)
    (λ e.
    let up = leads_up r i (entry s i).next e in
    let ih = last_from s r n (entry s i).next i up.1 (omega (arith, up.0)) in
    rw (chain_on s r n i e) (omega (arith, up.0, ih.0), ih.1))
    (λ e. rw (chain_ends s r n i e) (omega arith, h))

-- a chain that starts at i has a last record, whatever would stand in for it
pub last_any : (s : List ℕ) (r n i x y : ℕ) → i < r → r ≤ n + i → last_of x (chain_from s r n i) ≡ last_of y (chain_from s r n i)
unfolding last_of chain_from
last_any s r zero i x y h l = absurd (omega arith)
last_any s r (suc n) i x y h l = refl

-- the last record of the chain of a plan that has a record
pub last_inside : (s : List ℕ) → 8 ≤ length s → 8 * last_index s + 7 < length s
unfolding last_index chain
last_inside s h = omega (arith, (last_from s (length s / 8) (length s / 8) 0 0 (omega arith) (omega arith)).1)

-- one entry more at the end is the last
pub last_append : (x : ℕ) (es : List Entry) (e : Entry) → last_of x (es ++ e ∷ []) ≡ e.index
unfolding last_of
last_append x [] e = refl
last_append x (a ∷ es) e = last_append a.index es e

-- entries are told by their indices alone
pub last_map : (f : Entry → Entry) → ((e : Entry) → (f e).index ≡ e.index) → (x : ℕ) (es : List Entry) → last_of x (map f es) ≡ last_of x es
unfolding last_of
last_map f h x [] = refl
last_map f h x (e ∷ es) = ap (λ (i : ℕ). last_of i (map f es)) (h e) ∙ last_map f h e.index es
