-- The loop of `first_record` along the chain: it stands at a record, and none before it passes. Assumes nothing.
use Prim.Native.Nat.{ℕ, zero, suc, ◌+◌, ◌/◌, ◌≤◌, ◌<◌}
use mathlib.Core.Path.{◌≡◌, refl, sym, ap, ◌∙◌}
use mathlib.Core.Bool.{Bool, true, false}
use mathlib.Core.List.{List, []}
use native.Mathlib.Omega.{arith}
use lib.ListN.{length}
use Rattle.rules.specs.Plan.{Entry, entry, leads, chain_from, chain}
use Rattle.chains.proofs.Steps.{chain_ends, chain_on, leads_on, leads_low, leads_high}
use Rattle.reasons.specs.Reasons.{first_index, first_record}
use Rattle.reasons.proofs.Firsts.{first_here, first_later, first_none}

module _ (t : Entry → Bool) (s : List ℕ) where
  -- the first of what is left of the chain, from record i on, is the first of all
  abbrev Left : ℕ → ℕ → Type 0
  Left steps i = first_record t s ≡ first_index t (chain_from s (length s / 8) steps i)

  pub record Stands (i : ℕ) : Type 0 where
    pub here : i < length s / 8
    pub steps : ℕ
    pub enough : length s / 8 ≤ steps + i
    pub left : Left steps i

  pub stands_first : 0 < length s / 8 → Stands 0
  unfolding first_record chain
  stands_first h = record { here = h; steps = length s / 8; enough = omega arith; left = refl }

  module _ (i : ℕ) (at : Stands i) where
    -- record i is left
    at_record : {P : Type 0} → ((n : ℕ) → length s / 8 ≤ suc n + i → Left (suc n) i → P) → P
    at_record {P} f = go at.steps at.enough at.left
      where
        go : (n : ℕ) → length s / 8 ≤ n + i → Left n i → P
        go zero l e = absurd (omega (arith, at.here))
        go (suc n) l e = f n l e

    -- e is the record that was read there
    module _ (e : Entry) (is : e ≡ entry s i) where
      at_e : {b : Bool} → t e ≡ b → t (entry s i) ≡ b
      at_e h = sym (ap t is) ∙ h

      next_e : (entry s i).next ≡ e.next
      next_e = sym (ap (λ (x : Entry). x.next) is)

      leads_e : {b : Bool} → leads (length s / 8) i e.next ≡ b → leads (length s / 8) i (entry s i).next ≡ b
      leads_e h = ap (leads (length s / 8) i) next_e ∙ h

      pub found_here : t e ≡ true → i ≡ first_record t s
      unfolding chain_from entry
      found_here h = at_record (λ n l f. sym (f ∙ first_here t (entry s i) _ (at_e h)))

      ends : t e ≡ false → leads (length s / 8) i e.next ≡ false → 0 ≡ first_record t s
      ends h f = at_record (λ n l g. sym (g ∙ ap (first_index t) (chain_ends s (length s / 8) n i (leads_e f)) ∙ first_later t (entry s i) [] (at_e h) ∙ first_none t))

      -- the next index leads to this record or an earlier one, or past the last
      pub ends_low : t e ≡ false → e.next ≤ i → 0 ≡ first_record t s
      ends_low h l = ends h (leads_low (length s / 8) i e.next l)

      pub ends_high : t e ≡ false → length s / 8 ≤ e.next → 0 ≡ first_record t s
      ends_high h l = ends h (leads_high (length s / 8) i e.next l)

      pub stands_next : t e ≡ false → i < e.next → e.next < length s / 8 → Stands e.next
      stands_next h l w = at_record (λ n m g. record {
        here = w;
        steps = n;
        enough = omega arith;
        left =
            g ∙ ap (first_index t) (chain_on s (length s / 8) n i (leads_e (leads_on (length s / 8) i e.next l w)))
            ∙ first_later t (entry s i) (chain_from s (length s / 8) n (entry s i).next) (at_e h) ∙ ap (λ (x : ℕ). first_index t (chain_from s (length s / 8) n x)) next_e;
      })
