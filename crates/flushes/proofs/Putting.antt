-- The loop that puts the placeholders, cell after cell: how far it is, and one step of it. Assumes nothing.
use mathlib.Core.Path.{◌≡◌, refl, sym, ap, ◌∙◌}
use mathlib.Core.Logic.{by_cases}
use mathlib.Core.List.{List}
use Prim.Native.Nat.{ℕ, zero, suc, ◌+◌, ◌%◌, ◌≤◌, ◌<◌}
use native.Mathlib.Nat.{zero-mod, mod-add-mod}
use native.Mathlib.Decide.{dec_lt}
use native.Mathlib.Omega.{arith}
use lib.ListN.{length, get_or, length-set}
use borrow.Author.Tests.{lt-ltb, le-ltb}
use Rattle.counting.specs.Search.{sum}
use Rattle.rules.specs.Frame.{placeholder}
use Rattle.rules.specs.Places.{emitter_delay, places_before}
use Rattle.places.proofs.Kept.{start_suc, start_grow}
use Rattle.pattern.specs.Until.{symbols_until}
use Rattle.flushes.specs.Placeholders.{with_placeholder, with_placeholders}

-- ---- lengths

pub length_with : (at n i : ℕ) (s : List ℕ) → length (with_placeholder at n i s) ≡ length s
unfolding with_placeholder
length_with at n i s = by_cases (dec_lt i n) (λ c. rw (lt-ltb i n c) (length-set s _ placeholder)) (λ c. rw (le-ltb i n (omega arith)) refl)

-- ---- the loop

-- the placeholders of the cells below p are put in the store t, and cell p has n places from `at` on
pub record Putting (m base : ℕ) (kc t store : List ℕ) (p at n : ℕ) : Type 0 where
  pub within : p ≤ length kc
  pub start : at ≡ places_before (emitter_delay m) p
  pub turn : n ≡ emitter_delay m p
  pub stored : store ≡ with_placeholders m base kc t p

module _ (m base : ℕ) (kc t : List ℕ) where
  length_all_with : (p : ℕ) → length (with_placeholders m base kc t p) ≡ length t
  unfolding with_placeholders
  length_all_with zero = refl
  length_all_with (suc p) =
      length_with (places_before (emitter_delay m) p) (emitter_delay m p) (symbols_until base (get_or kc p 0)) (with_placeholders m base kc t p) ∙ length_all_with p

  pub putting_first : Putting m base kc t t 0 0 0
  unfolding with_placeholders places_before sum
  putting_first = record { within = omega arith; start = refl; turn = sym (zero-mod m); stored = refl }

  module _ (store : List ℕ) (p at n : ℕ) (go : Putting m base kc t store p at n) where
    pub putting_length : length store ≡ length t
    putting_length = ap length go.stored ∙ length_all_with p

    -- the places of cell p lie within the store, which is as long as t
    pub putting_fits : p < length kc → places_before (emitter_delay m) (length kc) ≤ length t → (at + n ≤ length store) × (length store ≡ length t)
    putting_fits l h = (omega (arith, putting_length, go.start, go.turn, start_grow (emitter_delay m) p (length kc) l), putting_length)

    pub putting_next : p < length kc → (y : List ℕ) (i next : ℕ) → i ≡ symbols_until base (get_or kc p 0) → y ≡ with_placeholder at n i store → next ≡ (n + 1) % m
        → Putting m base kc t y (p + 1) (at + n) next
    unfolding with_placeholders
    putting_next l y i next ei ey en =
        let one : p + 1 ≡ suc p = omega arith in
        record {
          within = omega arith;
          start = rw one (omega (arith, go.start, go.turn, start_suc (emitter_delay m) p));
          turn = en ∙ ap (λ (z : ℕ). (z + 1) % m) go.turn ∙ mod-add-mod p m 1;
          stored = rw one (ey ∙ (λ k. with_placeholder (go.start k) (go.turn k) (ei k) (go.stored k)));
        }

    pub putting_all : length kc ≤ p → store ≡ with_placeholders m base kc t (length kc)
    putting_all h = let z : p ≡ length kc = omega (arith, go.within) in rw z at go.stored
