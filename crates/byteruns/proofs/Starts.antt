-- A fresh start over bytes, of either end: 21 refuses a store of an odd number of bytes, and any other is started as its cells are. Assumes nothing.
use Prim.Native.Nat.{ℕ, ◌%◌}
use mathlib.Core.Path.{◌≡◌, sym, ap, ◌∙◌}
use mathlib.Core.Bool.{Bool, true, false, false≢true}
use mathlib.Core.List.{List}
use native.Mathlib.Omega.{arith}
use lib.ListN.{length}
use borrow.Author.Tests.{ne_eqb}
use Rattle.counting.specs.Search.{pick}
use Rattle.counting.proofs.Bools.{by_test}
use Rattle.bytecells.specs.Octets.{cells_of, bytes_of, odd}
use Rattle.bytecells.proofs.OctetLaws.{length_bytes}

pub even_bytes : (c : List ℕ) → odd (bytes_of c) ≡ false
unfolding odd
even_bytes c = ne_eqb (length (bytes_of c) % 2) 1 (λ e. omega (arith, length_bytes c))

-- what a fresh start of one end leaves: whether it is started, its store, the same with the store as cells and as bytes, and what 21 leaves
pub record Form (R : Type 0) : Type 0 where
  pub ok : R → Bool
  pub store : R → List ℕ
  pub read : R → R
  pub write : R → R
  pub away : List ℕ → R
  pub read_write : (r : R) → read (write r) ≡ r
  pub ok_write : (r : R) → ok (write r) ≡ ok r
  pub store_write : (r : R) → store (write r) ≡ bytes_of (store r)
  pub never : (lent : List ℕ) → ok (away lent) ≡ false

module _ {R : Type 0} (form : Form R) (start : List ℕ → R) where
  -- the start over bytes
  abbrev pub start_in : List ℕ → R
  start_in lent = pick (odd lent) (form.away lent) (form.write (start (cells_of lent)))

  pub starts_whole : (lent : List ℕ) → odd lent ≡ false → form.ok (start (cells_of lent)) ≡ true → form.ok (start_in lent) ≡ true
  starts_whole lent h t = rw h (form.ok_write (start (cells_of lent)) ∙ t)

  -- one that was not refused
  module _ (lent : List ℕ) (x : R) (e : start_in lent ≡ x) (was : form.ok x ≡ true) where
    made : form.write (start (cells_of lent)) ≡ x
    made =
        by_test (odd lent)
        (λ q. absurd (false≢true (sym (form.never lent) ∙ ap form.ok (rw q at e) ∙ was)))
        (λ q. rw q at e)

    pub started_cells : start (cells_of lent) ≡ form.read x
    started_cells = sym (form.read_write (start (cells_of lent))) ∙ ap form.read made

    pub started_even : odd (form.store x) ≡ false
    started_even = ap (λ (r : R). odd (form.store r)) (sym made) ∙ ap odd (form.store_write (start (cells_of lent))) ∙ even_bytes (form.store (start (cells_of lent)))
