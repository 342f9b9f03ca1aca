-- The store of bytes after a pass over its cells. Assumes nothing.
use Prim.Native.Nat.{ℕ, ◌-◌, ◌*◌, ◌≤◌, ◌<◌}
use mathlib.Core.Path.{◌≡◌, sym, ap, ◌∙◌}
use mathlib.Core.List.{List}
use native.Mathlib.Omega.{arith}
use lib.ListN.{length, set}
use Rattle.rules.specs.Places.{places_before, oldest, moved}
use Rattle.bytecells.specs.Octets.{cells_of, bytes_of, Whole}
use Rattle.bytecells.proofs.OctetLaws.{whole_length, cells_bytes}
use Rattle.exchange.specs.Exchange.{Exchanged}
use Rattle.delay.specs.Shift.{shifted}
use Rattle.delay.proofs.Shifts.{length_shifted}
use Rattle.delay.proofs.Steps.{stepped, still}
use Rattle.byteexchange.proofs.Puts.{bytes_whole, same_bytes}

-- the step in the order of the code
module _ (d : ℕ → ℕ) (b₀ x₀ : List ℕ) (whole : Whole b₀) where
  pub byte_still : places_before d (length x₀) ≡ 0 → (b₀ ≡ bytes_of (moved d (length x₀) (cells_of b₀) x₀)) × (x₀ ≡ oldest d (length x₀) (cells_of b₀) x₀)
  byte_still none = let r = still d (cells_of b₀) x₀ none in (sym whole ∙ ap bytes_of r.0, r.1)

  module _ (b x : List ℕ) (places last : ℕ) (t : Exchanged d (cells_of b₀) x₀ (length x₀) (cells_of b) x (places_before d (length x₀)) last) (z : List ℕ)
      (down : z ≡ bytes_of (shifted places (cells_of b))) where
    pub byte_shifted : Whole z × (length z ≡ length b₀)
    byte_shifted =
        let w : Whole z = rw down (bytes_whole (shifted places (cells_of b))) in
        (w, same_bytes b₀ z whole w (ap length (ap cells_of down ∙ cells_bytes (shifted places (cells_of b))) ∙ length_shifted places (cells_of b) ∙ t.places))

    pub byte_stepped : places ≡ places_before d (length x₀) → 2 * places ≤ length b₀ → 0 < places → (y : List ℕ) → y ≡ bytes_of (set (cells_of z) (places - 1) last)
        → (y ≡ bytes_of (moved d (length x₀) (cells_of b₀) x₀)) × (x ≡ oldest d (length x₀) (cells_of b₀) x₀)
    byte_stepped all long some y set_last =
        let r = stepped d (cells_of b₀) x₀ (cells_of b) x places last t all (omega (arith, whole_length b₀ whole)) some (cells_of z) (ap cells_of down ∙ cells_bytes (shifted places (cells_of b))) in
        (set_last ∙ ap bytes_of r.0, r.1)
