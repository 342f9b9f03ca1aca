-- What filling a modulator symbol from bytes answers and leaves, by the tests of ground 21 and of the number of cells. Assumes nothing.
use Prim.Native.Nat.{ℕ}
use mathlib.Core.Path.{◌≡◌, refl}
use mathlib.Core.Bool.{true, false}
use mathlib.Core.List.{List}
use lib.ListN.{length}
use lib.Ieee.{Float}
use borrow.Author.Tests.{ne_eqb}
use Rattle.rules.specs.declared.Device.{Device}
use Rattle.bytecells.specs.Octets.{cells_of, odd}
use Rattle.rules.specs.Refusals.{refusal}
use Rattle.modulator.specs.Symbols.{refused_point, modulates, fitting, modulate_step}
use Rattle.bytemodulate.specs.ByteSymbols.{modulate_bytes}

module _ (b loads minus : List ℕ) (d : Device) (l : List Float) where
  -- refused by 21
  pub refused_odd : odd b ≡ true → modulates (refused_point (refusal 21 0) 0) l ≡ modulate_bytes b loads minus d l
  unfolding modulate_bytes
  refused_odd e = rw e refl

  -- left to the other grounds
  pub left_whole : odd b ≡ false → modulate_step (cells_of b) loads minus d l ≡ modulate_bytes b loads minus d l
  unfolding modulate_bytes
  left_whole e = rw e refl

  -- refused by 17, for the number of cells
  pub other_number : odd b ≡ false → (length (cells_of b) ≡ d.subcarriers → ⊥) → modulates (refused_point (refusal 17 0) 0) l ≡ modulate_bytes b loads minus d l
  unfolding modulate_bytes modulate_step fitting
  other_number e h = rw (e, ne_eqb (length (cells_of b)) d.subcarriers h) refl
