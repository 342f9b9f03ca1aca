-- A row written into the table number by number, and what writing leaves of the rows below. Assumes nothing.
use Prim.Native.Nat.{ℕ, ◌+◌, ◌<◌, ◌≤◌}
use mathlib.Core.Path.{◌≡◌, ◌∙◌}
use mathlib.Core.List.{List}
use mathlib.Core.Logic.{by_cases}
use native.Mathlib.Omega.{arith}
use native.Mathlib.Decide.{dec_lt}
use lib.ListN.{length, set, length-set}
use lib.Seq.{get_or-set_same, get_or-set_other}
use lib.Ieee.{Float, nan}
use Rattle.coordinates.specs.Table.{Row, Written}

module _ (t : List Float) (at : ℕ) (f : ℕ → Float) where
  -- one number more
  pub written_next : (n : ℕ) (y : List Float) → Written t at n f y → (v : Float) → v ≡ f n → at + n < length t → Written t at (n + 1) f (set y (at + n) v)
  written_next n y w v e room = record {
    long = length-set y (at + n) v ∙ w.long;
    below = λ i h. get_or-set_other y (at + n) i v nan (λ z. omega arith) ∙ w.below i h;
    row = λ i h. by_cases (dec_lt i n)
        (λ l. get_or-set_other y (at + n) (at + i) v nan (λ z. omega arith) ∙ w.row i l)
        (λ g.
        let z : i ≡ n = omega arith in
        rw z (get_or-set_same y (at + n) v nan (omega (arith, w.long)) ∙ e));
  }

-- a row below what is written stays
pub kept : (t y : List Float) (at n : ℕ) (f : ℕ → Float) → Written t at n f y → (b k : ℕ) (g : ℕ → Float) → b + k ≤ at → Row t b k g → Row y b k g
kept t y at n f w b k g h r i l = w.below (b + i) (omega arith) ∙ r i l
