-- The records of the copy: those of the plan, the last of the chain with a new next index, and the new one. Assumes nothing.
use Prim.Native.Nat.{ℕ, suc, ◌+◌, ◌*◌, ◌/◌, ◌%◌, ◌≤◌, ◌<◌}
use mathlib.Core.Path.{◌≡◌, ap, ◌∙◌}
use mathlib.Core.List.{List}
use native.Mathlib.Nat.{div-add-mod'}
use native.Mathlib.Omega.{arith}
use lib.ListN.{length, get_or, set, length-append, length-set, get_or-append}
use lib.Seq.{sets, get_or-set_same, get_or-set_other, get_or-append-add, length-sets}
use Rattle.rules.specs.Plan.{number, entry}
use Rattle.chains.specs.Last.{last_index}
use Rattle.copies.specs.Copy.{two_bytes, range_record, copy_with}
use Rattle.copylaws.specs.Entries.{linked, range_entry}

two_bytes_lem : (n : ℕ) → n / 256 * 256 + n % 256 ≡ n
two_bytes_lem n = div-add-mod' n 256

module _ (s : List ℕ) (a b : ℕ) (whole : length s % 8 ≡ 0) (inside : 8 * last_index s + 7 < length s) where
  abbrev r : ℕ
  r = length s / 8

  abbrev l : ℕ
  l = last_index s

  pub copy_length : length (copy_with s a b) ≡ length s + 8
  unfolding copy_with range_record
  copy_length = length-append (sets s (8 * l + 2) (two_bytes r)) (range_record a b) ∙ ap (λ (x : ℕ). x + 8) (length-sets s (8 * l + 2) (two_bytes r))

  pub copy_count : length (copy_with s a b) / 8 ≡ suc r
  copy_count = omega (arith, copy_length)

  -- a byte of the plan
  old_byte : (m : ℕ) → m < length s → (m ≡ 8 * l + 2 → ⊥) → (m ≡ 8 * l + 3 → ⊥) → get_or (copy_with s a b) m 0 ≡ get_or s m 0
  unfolding copy_with
  old_byte m h p q =
      get_or-append (sets s (8 * l + 2) (two_bytes r)) (range_record a b) 0 m (rw length-sets h)
      ∙ get_or-set_other (set s (8 * l + 2) (r / 256)) (suc (8 * l + 2)) m (r % 256) 0 (omega arith)
      ∙ get_or-set_other s (8 * l + 2) m (r / 256) 0 p

  high_byte : get_or (copy_with s a b) (8 * l + 2) 0 ≡ r / 256
  unfolding copy_with
  high_byte =
      get_or-append (sets s (8 * l + 2) (two_bytes r)) (range_record a b) 0 (8 * l + 2) (rw length-sets (omega arith))
      ∙ get_or-set_other (set s (8 * l + 2) (r / 256)) (suc (8 * l + 2)) (8 * l + 2) (r % 256) 0 (omega arith)
      ∙ get_or-set_same s (8 * l + 2) (r / 256) 0 (omega arith)

  low_byte : get_or (copy_with s a b) (8 * l + 2 + 1) 0 ≡ r % 256
  unfolding copy_with
  low_byte =
      get_or-append (sets s (8 * l + 2) (two_bytes r)) (range_record a b) 0 (8 * l + 2 + 1) (rw length-sets (omega arith))
      ∙ (let e : 8 * l + 2 + 1 ≡ suc (8 * l + 2) = omega arith in
      rw e (get_or-set_same (set s (8 * l + 2) (r / 256)) (suc (8 * l + 2)) (r % 256) 0 (rw length-set (omega arith))))

  new_byte : (n m : ℕ) → n ≡ 8 * r + m → get_or (copy_with s a b) n 0 ≡ get_or (range_record a b) m 0
  unfolding copy_with
  new_byte n m at =
      let e : n ≡ length (sets s (8 * l + 2) (two_bytes r)) + m = omega (arith, length-sets s (8 * l + 2) (two_bytes r)) in
      rw e (get_or-append-add (sets s (8 * l + 2) (two_bytes r)) (range_record a b) m 0)

  -- a record that is not the last of the chain
  pub other_record : (i : ℕ) → i < r → (i ≡ l → ⊥) → entry (copy_with s a b) i ≡ entry s i
  unfolding entry number
  other_record i h ne = λ j. record {
    index = i;
    kind = at (8 * i) (omega arith) (omega arith) j;
    blank = at (8 * i + 1) (omega arith) (omega arith) j;
    next = at (8 * i + 2) (omega arith) (omega arith) j * 256 + at (8 * i + 2 + 1) (omega arith) (omega arith) j;
    low = at (8 * i + 4) (omega arith) (omega arith) j * 256 + at (8 * i + 4 + 1) (omega arith) (omega arith) j;
    high = at (8 * i + 6) (omega arith) (omega arith) j * 256 + at (8 * i + 6 + 1) (omega arith) (omega arith) j;
  }
    where
      at : (m : ℕ) → 8 * i ≤ m → m < 8 * i + 8 → get_or (copy_with s a b) m 0 ≡ get_or s m 0
      at m p q = old_byte m (omega arith) (λ e. omega arith) (λ e. omega arith)

  -- the last record of the chain points at the new one
  pub last_record : entry (copy_with s a b) l ≡ linked r (entry s l)
  unfolding entry number
  last_record =
      (λ j. record {
        index = l;
        kind = old_byte (8 * l) (omega arith) (λ e. omega arith) (λ e. omega arith) j;
        blank = old_byte (8 * l + 1) (omega arith) (λ e. omega arith) (λ e. omega arith) j;
        next = high_byte j * 256 + low_byte j;
        low = old_byte (8 * l + 4) (omega arith) (λ e. omega arith) (λ e. omega arith) j * 256 + old_byte (8 * l + 4 + 1) (omega arith) (λ e. omega arith) (λ e. omega arith) j;
        high = old_byte (8 * l + 6) (omega arith) (λ e. omega arith) (λ e. omega arith) j * 256 + old_byte (8 * l + 6 + 1) (omega arith) (λ e. omega arith) (λ e. omega arith) j;
      })
      ∙ ap (λ (n : ℕ). linked n (entry s l)) (two_bytes_lem r)

  pub new_record : entry (copy_with s a b) r ≡ range_entry r a b
  unfolding entry number range_record
  new_record =
      (λ j. record {
        index = r;
        kind = new_byte (8 * r) 0 (omega arith) j;
        blank = new_byte (8 * r + 1) 1 (omega arith) j;
        next = new_byte (8 * r + 2) 2 (omega arith) j * 256 + new_byte (8 * r + 2 + 1) 3 (omega arith) j;
        low = new_byte (8 * r + 4) 4 (omega arith) j * 256 + new_byte (8 * r + 4 + 1) 5 (omega arith) j;
        high = new_byte (8 * r + 6) 6 (omega arith) j * 256 + new_byte (8 * r + 6 + 1) 7 (omega arith) j;
      })
      ∙ (λ j. range_entry r (two_bytes_lem a j) (two_bytes_lem b j))
