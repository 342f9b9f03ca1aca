-- The loop of crate flushes that puts the placeholders, over the cells of a store of bytes. Assumes nothing.
use Prim.Native.Nat.{ℕ, ◌+◌, ◌*◌, ◌%◌, ◌≤◌, ◌<◌}
use mathlib.Core.Path.{◌≡◌, sym, ap, ◌∙◌}
use mathlib.Core.List.{List}
use native.Mathlib.Omega.{arith}
use lib.ListN.{length, get_or}
use Rattle.rules.specs.Places.{emitter_delay, places_before}
use Rattle.pattern.specs.Until.{symbols_until}
use Rattle.flushes.specs.Placeholders.{with_placeholder, with_placeholders}
use Rattle.flushes.proofs.Putting.{Putting, putting_first, putting_length, putting_fits, putting_next, putting_all}
use Rattle.bytecells.specs.Octets.{cells_of, bytes_of, Whole}
use Rattle.bytecells.proofs.OctetLaws.{whole_length, cells_bytes}

-- the bytes of cells are whole
pub bytes_whole : (c : List ℕ) → Whole (bytes_of c)
bytes_whole c = ap bytes_of (cells_bytes c)

-- the loop over the cells of the bytes `store`, which are whole
pub record BytePutting (m base : ℕ) (kc t store : List ℕ) (p at n : ℕ) : Type 0 where
  pub cells : Putting m base kc (cells_of t) (cells_of store) p at n
  pub whole : Whole store

module _ (m base : ℕ) (kc t : List ℕ) (w : Whole t) where
  pub byte_first : BytePutting m base kc t t 0 0 0
  byte_first = record { cells = putting_first m base kc (cells_of t); whole = w }

  module _ (store : List ℕ) (p at n : ℕ) (go : BytePutting m base kc t store p at n) where
    pub byte_length : length store ≡ length t
    byte_length =
        whole_length store go.whole ∙ ap (λ (k : ℕ). 2 * k) (putting_length m base kc (cells_of t) (cells_of store) p at n go.cells) ∙ sym (whole_length t w)

    -- the bytes of the places of cell p lie within the store, which is as long as t
    pub byte_fits : p < length kc → 2 * places_before (emitter_delay m) (length kc) ≤ length t → (2 * (at + n) ≤ length store) × (length store ≡ length t)
    byte_fits l h =
        let enough : places_before (emitter_delay m) (length kc) ≤ length (cells_of t) = omega (arith, whole_length t w) in
        (omega (arith, whole_length store go.whole, (putting_fits m base kc (cells_of t) (cells_of store) p at n go.cells l enough).0), byte_length)

    pub byte_next : p < length kc → (y : List ℕ) (i next : ℕ) → i ≡ symbols_until base (get_or kc p 0) → y ≡ bytes_of (with_placeholder at n i (cells_of store)) → next ≡ (n + 1) % m
        → BytePutting m base kc t y (p + 1) (at + n) next
    byte_next l y i next ei ey en = record {
      cells = putting_next m base kc (cells_of t) (cells_of store) p at n go.cells l (cells_of y) i next ei (ap cells_of ey ∙ cells_bytes (with_placeholder at n i (cells_of store))) en;
      whole = rw ey (bytes_whole (with_placeholder at n i (cells_of store)));
    }

    pub byte_all : length kc ≤ p → store ≡ bytes_of (with_placeholders m base kc (cells_of t) (length kc))
    byte_all h = sym go.whole ∙ ap bytes_of (putting_all m base kc (cells_of t) (cells_of store) p at n go.cells h)
