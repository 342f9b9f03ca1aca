-- The loop that puts the placeholders, cell after cell: how far it is, and one step of it. Assumes nothing.
use mathlib.Core.Path.{◌≡◌, refl, sym, ap, ◌∙◌}
use mathlib.Core.Logic.{by_cases}
use mathlib.Core.List.{List}
use Prim.Native.Nat.{ℕ, zero, suc, ◌+◌, ◌*◌, ◌/◌, ◌%◌, ◌≤◌, ◌<◌}
use native.Mathlib.Nat.{suc-mul}
use native.Mathlib.Decide.{dec_lt}
use native.Mathlib.Omega.{arith}
use lib.ListN.{length, get_or, length-set}
use borrow.Author.Tests.{lt-ltb, le-ltb}
use Rattle.counting.specs.Search.{sum}
use Rattle.rules.specs.Frame.{placeholder}
use Rattle.pattern.specs.Until.{symbols_until}
use Rattle.figure.specs.Figure.{ceiling, line_begins}
use Rattle.figure.proofs.Sizes.{enough, begins_suc, begins_grow}
use Rattle.figure.proofs.Turns.{turn_below, line_of, turn_of}
use Rattle.figureflushes.specs.Placeholders.{with_placeholder, with_placeholders}

-- ---- lengths

length_with : (begins turn J n i : ℕ) (s : List ℕ) → length (with_placeholder begins turn J n i s) ≡ length s
unfolding with_placeholder
length_with begins turn J n i s = by_cases (dec_lt i n) (λ c. rw (lt-ltb i n c) (length-set s _ placeholder)) (λ c. rw (le-ltb i n (omega arith)) refl)

pub length_all_with : (m J base : ℕ) (kc t : List ℕ) (p : ℕ) → length (with_placeholders m J base kc t p) ≡ length t
unfolding with_placeholders
length_all_with m J base kc t zero = refl
length_all_with m J base kc t (suc p) =
    length_with (line_begins J (p % m)) (p / m) J (p % m) (symbols_until base (get_or kc p 0)) (with_placeholders m J base kc t p) ∙ length_all_with m J base kc t p

-- ---- the loop

-- the placeholders of the cells below p are put in the store t; cell p is that of line `line` in turn `turn`, and the line begins at `begins`
pub record Putting (m J base : ℕ) (kc t store : List ℕ) (p begins line turn : ℕ) : Type 0 where
  pub within : p ≤ length kc
  pub cell : p ≡ turn * m + line
  pub low : line < m
  pub start : begins ≡ line_begins J line
  pub stored : store ≡ with_placeholders m J base kc t p

module _ (m J base : ℕ) (kc t : List ℕ) (sized : J ≡ ceiling (length kc) m) (pos : 0 < m) where
  pub putting_first : Putting m J base kc t t 0 0 0 0
  unfolding with_placeholders line_begins sum
  putting_first = record { within = omega arith; cell = omega arith; low = pos; start = refl; stored = refl }

  module _ (store : List ℕ) (p begins line turn : ℕ) (go : Putting m J base kc t store p begins line turn) where
    pub putting_length : length store ≡ length t
    putting_length = ap length go.stored ∙ length_all_with m J base kc t p

    line_is : p % m ≡ line
    line_is = ap (λ (x : ℕ). x % m) go.cell ∙ line_of m turn line go.low

    turn_is : p / m ≡ turn
    turn_is = ap (λ (x : ℕ). x / m) go.cell ∙ turn_of m turn line go.low

    -- cell p is one of J turns, and its line lies within the store, which is as long as t
    pub putting_fits : p < length kc → line_begins (ceiling (length kc) m) m ≤ length t → (turn < J) × (begins + line * J ≤ length store) × (length store ≡ length t)
    putting_fits l h =
        let all : p < J * m = rw sized (omega (arith, enough (length kc) m pos)) in
        let long : line_begins J m ≤ length t = rw sized h in
        (omega (arith, turn_is, turn_below m J p pos all), omega (arith, putting_length, go.start, begins_grow J line m go.low), putting_length)

    module _ (l : p < length kc) (y : List ℕ) (i : ℕ) (ei : i ≡ symbols_until base (get_or kc p 0)) (ey : y ≡ with_placeholder begins turn J line i store) where
      put_one : y ≡ with_placeholders m J base kc t (p + 1)
      unfolding with_placeholders
      put_one =
          let one : p + 1 ≡ suc p = omega arith in
          rw one
          (ey
          ∙ (λ k. with_placeholder ((go.start ∙ ap (line_begins J) (sym line_is)) k) (sym turn_is k) J (sym line_is k) (ei k) (go.stored k)))

      -- the next line of the same turn
      pub putting_next : line + 1 < m → Putting m J base kc t y (p + 1) (begins + line * J) (line + 1) turn
      putting_next h =
          let one : line + 1 ≡ suc line = omega arith in
          record {
            within = omega arith;
            cell = omega (arith, go.cell);
            low = h;
            start = rw one (omega (arith, go.start, begins_suc J line));
            stored = put_one;
          }

      -- line 0 of the next turn
      pub putting_turn : line + 1 ≡ m → Putting m J base kc t y (p + 1) 0 0 (turn + 1)
      unfolding line_begins sum
      putting_turn h =
          let one : turn + 1 ≡ suc turn = omega arith in
          record {
            within = omega arith;
            cell = rw one (omega (arith, go.cell, suc-mul turn m));
            low = pos;
            start = refl;
            stored = put_one;
          }
