-- Laws of filling and of the way back, for any loads: one is the other's inverse, a filled cell is below 2 to its load, each cell starts
-- where the one before it ended, and other bits stay; and of the bits of a stream in bytes from one bit to another. Assumes nothing.
use Prim.Native.Nat.{ℕ, zero, suc, ◌+◌, ◌-◌, ◌*◌, ◌%◌, ◌^◌, ◌≤◌, ◌<◌}
use mathlib.Core.Path.{◌≡◌, refl, sym, ap, ap₂, ◌∙◌}
use mathlib.Core.Bool.{Bool, false}
use mathlib.Core.List.{List, [], ◌∷◌, ◌++◌, append_assoc, append-nil}
use native.Mathlib.Nat.{mod-lt, mod-eq_of_lt, add-zero, zero-add, add-suc, suc-add, add_assoc, sub_self, le_of_suc-le-suc, not-suc-le-zero}
use native.Mathlib.Omega.{arith}
use lib.Pow.{pow_pos}
use lib.ListN.{length, get_or, take, drop, set, replicate, length-append, length-drop, length-replicate, get_or-replicate, take-append-drop}
use lib.Seq.{sets, sets-eq, length-sets, ext_get_or, length-take-le, take-add, take-length, drop-drop, take_at, drop_at}
use Rattle.counting.proofs.Lists.{get_d_sets_before, get_or-sets_after}
use Rattle.rules.specs.Bits.{digits, value, total, cell_bits, cells_from, stream_bits, bytes_from, bits_between, with_bits, filled_from, unfilled_into}
use Rattle.counting.specs.Bytes.{Octets}
use Rattle.bits.proofs.BitLaws.{length_digits, value-digits, digits_value, value-take}

pub length_cells : (ls : List ℕ) (bs : List Bool) → length (cells_from ls bs) ≡ length ls
unfolding cells_from
length_cells [] bs = refl
length_cells (l ∷ ls) bs = ap suc (length_cells ls (drop l bs))

pub length_bits : (ls xs : List ℕ) → length xs ≡ length ls → length (cell_bits ls xs) ≡ total ls
unfolding cell_bits total
length_bits [] xs e = refl
length_bits (l ∷ ls) [] e = absurd (omega arith)
length_bits (l ∷ ls) (x ∷ xs) e =
    length-append (digits l x) (cell_bits ls xs) ∙ ap₂ ◌+◌ (length_digits l x) (length_bits ls xs (omega arith))

-- some cells after others
pub bits_append : (ls ms xs ys : List ℕ) → length xs ≡ length ls → cell_bits (ls ++ ms) (xs ++ ys) ≡ cell_bits ls xs ++ cell_bits ms ys
unfolding cell_bits
bits_append [] ms [] ys e = refl
bits_append [] ms (x ∷ xs) ys e = absurd (omega arith)
bits_append (l ∷ ls) ms [] ys e = absurd (omega arith)
bits_append (l ∷ ls) ms (x ∷ xs) ys e =
    ap (λ (r : List Bool). digits l x ++ r) (bits_append ls ms xs ys (omega arith)) ∙ sym (append_assoc (digits l x) (cell_bits ls xs) (cell_bits ms ys))

-- cell c starts where the cells before it ended
pub cells_at : (ls : List ℕ) (bs : List Bool) (c : ℕ) → c < length ls → get_or (cells_from ls bs) c 0 ≡ value (take (get_or ls c 0) (drop (total (take c ls)) bs))
unfolding cells_from total
cells_at [] bs c h = absurd (not-suc-le-zero h)
cells_at (l ∷ ls) bs zero h = refl
cells_at (l ∷ ls) bs (suc c) h =
    cells_at ls (drop l bs) c (le_of_suc-le-suc h) ∙ ap (λ (r : List Bool). value (take (get_or ls c 0) r)) (drop-drop (total (take c ls)) l bs)

-- a filled cell is below 2 to its load
pub cell_below : (ls : List ℕ) (bs : List Bool) (c : ℕ) → c < length ls → get_or (cells_from ls bs) c 0 < 2 ^ get_or ls c 0
cell_below ls bs c h =
    let r : List Bool = drop (total (take c ls)) bs in
    rw (cells_at ls bs c h, value-take (get_or ls c 0) r) (mod-lt (value r) (pow_pos (get_or ls c 0)))

-- the way back of a filling: the bits
pub bits_cells : (ls : List ℕ) (bs : List Bool) → total ls ≤ length bs → cell_bits ls (cells_from ls bs) ≡ take (total ls) bs
unfolding cell_bits cells_from total
bits_cells [] bs h = refl
bits_cells (l ∷ ls) bs h =
    let n : length (take l bs) ≡ l = length-take-le l bs (omega arith) in
    let r : total ls ≤ length (drop l bs) = rw length-drop (omega arith) in
    ap₂ ◌++◌ (ap (λ (k : ℕ). digits k (value (take l bs))) (sym n) ∙ digits_value (take l bs)) (bits_cells ls (drop l bs) r)
    ∙ sym (take-add l (total ls) bs)

-- a filling of the way back, whatever follows: each cell modulo 2 to its load
pub cells_bits : (ls xs : List ℕ) (more : List Bool) → length xs ≡ length ls → (c : ℕ) → c < length ls
    → get_or (cells_from ls (cell_bits ls xs ++ more)) c 0 ≡ get_or xs c 0 % 2 ^ get_or ls c 0
unfolding cell_bits cells_from
cells_bits [] xs more e c h = absurd (not-suc-le-zero h)
cells_bits (l ∷ ls) [] more e c h = absurd (omega arith)
cells_bits (l ∷ ls) (x ∷ xs) more e zero h =
    rw append_assoc (ap value (take_at (digits l x) (cell_bits ls xs ++ more) l (length_digits l x)) ∙ value-digits l x)
cells_bits (l ∷ ls) (x ∷ xs) more e (suc c) h =
    rw append_assoc
    (ap (λ (r : List Bool). get_or (cells_from ls r) c 0) (drop_at (digits l x) (cell_bits ls xs ++ more) l (length_digits l x))
    ∙ cells_bits ls xs more (omega arith) c (le_of_suc-le-suc h))

-- so the cells themselves, if each is below 2 to its load
pub cells_back : (ls xs : List ℕ) (more : List Bool) → length xs ≡ length ls → ((c : ℕ) → c < length ls → get_or xs c 0 < 2 ^ get_or ls c 0)
    → cells_from ls (cell_bits ls xs ++ more) ≡ xs
cells_back ls xs more e h =
    let n = length_cells ls (cell_bits ls xs ++ more) in
    ext_get_or 0 (cells_from ls (cell_bits ls xs ++ more)) xs (n ∙ sym e)
    (λ c l. let l' : c < length ls = rw n at l in cells_bits ls xs more e c l' ∙ mod-eq_of_lt (h c l'))

-- the same cells of the same loads come of the same bits
pub cells_inj : (ls : List ℕ) (bs bs' : List Bool) → total ls ≤ length bs → total ls ≤ length bs' → cells_from ls bs ≡ cells_from ls bs' → take (total ls) bs ≡ take (total ls) bs'
cells_inj ls bs bs' h h' e = sym (bits_cells ls bs h) ∙ ap (cell_bits ls) e ∙ bits_cells ls bs' h'

-- ---- one symbol after the other

pub total-append : (ls ms : List ℕ) → total (ls ++ ms) ≡ total ls + total ms
unfolding total
total-append [] ms = sym (zero-add (total ms))
total-append (l ∷ ls) ms = omega (arith, total-append ls ms)

pub cells_append : (ls ms : List ℕ) (bs : List Bool) → cells_from (ls ++ ms) bs ≡ cells_from ls bs ++ cells_from ms (drop (total ls) bs)
unfolding cells_from total
cells_append [] ms bs = refl
cells_append (l ∷ ls) ms bs =
    ap (◌∷◌ (value (take l bs))) (cells_append ls ms (drop l bs) ∙ ap (λ (r : List Bool). cells_from ls (drop l bs) ++ cells_from ms r) (drop-drop (total ls) l bs))

-- ---- a stream in bytes

total_same : (n l : ℕ) → total (replicate n l) ≡ n * l
unfolding total
total_same zero l = omega arith
total_same (suc n) l = omega (arith, total_same n l)

pub total_eights : (n : ℕ) → total (replicate n 8) ≡ n * 8
total_eights n = total_same n 8

pub length_stream : (bytes : List ℕ) → length (stream_bits bytes) ≡ length bytes * 8
unfolding stream_bits
length_stream bytes = length_bits (replicate (length bytes) 8) bytes (sym (length-replicate (length bytes) 8)) ∙ total_eights (length bytes)

-- the bits of bytes made of bits
pub stream_bytes : (n : ℕ) (bs : List Bool) → length bs ≡ n * 8 → stream_bits (bytes_from n bs) ≡ bs
unfolding stream_bits bytes_from
stream_bytes n bs e =
    let t : total (replicate n 8) ≡ length bs = total_eights n ∙ sym e in
    let h : total (replicate n 8) ≤ length bs = omega arith in
    rw (length_cells (replicate n 8) bs, length-replicate)
    (bits_cells (replicate n 8) bs h ∙ rw t (take-length bs))

-- bytes made of the bits of bytes
pub bytes_stream : (bytes : List ℕ) → Octets bytes → bytes_from (length bytes) (stream_bits bytes) ≡ bytes
unfolding stream_bits bytes_from
bytes_stream bytes h =
    let n = length bytes in
    let e : length bytes ≡ length {A = ℕ} (replicate n 8) = sym (length-replicate n 8) in
    ap (cells_from (replicate n 8)) (sym (append-nil (cell_bits (replicate n 8) bytes)))
    ∙ cells_back (replicate n 8) bytes [] e
    (λ c l. let l' : c < n = rw length-replicate at l in rw (get_or-replicate {A = ℕ} n c 8 0) (h c l'))

-- bytes are told by their bits
pub stream_inj : (a b : List ℕ) → Octets a → Octets b → stream_bits a ≡ stream_bits b → a ≡ b
stream_inj a b ha hb e =
    let n : length a ≡ length b = omega (arith, sym (length_stream a) ∙ ap length e ∙ length_stream b) in
    sym (bytes_stream a ha) ∙ ap₂ bytes_from n e ∙ bytes_stream b hb

-- ---- bits from one bit of a stream to another

pub between_none : (bytes : List ℕ) (a : ℕ) → bits_between bytes a a ≡ []
unfolding bits_between
between_none bytes a = rw (sub_self a) refl

between_take : (bytes : List ℕ) (a n : ℕ) → bits_between bytes a (a + n) ≡ take n (drop a (stream_bits bytes))
unfolding bits_between
between_take bytes a n = let e : a + n - a ≡ n = omega arith in rw e refl

-- one part after the other
pub between_more : (bytes : List ℕ) (a m n : ℕ) → bits_between bytes a (a + m) ++ bits_between bytes (a + m) (a + m + n) ≡ bits_between bytes a (a + m + n)
between_more bytes a m n =
    let bs : List Bool = stream_bits bytes in
    ap₂ ◌++◌ (between_take bytes a m) (between_take bytes (a + m) n ∙ ap (take n) (sym (drop-drop m a bs)))
    ∙ sym (take-add m n (drop a bs))
    ∙ sym (between_take bytes a (m + n))
    ∙ ap (bits_between bytes a) (sym (add_assoc a m n))

pub length_filled : (ls bytes : List ℕ) (a : ℕ) → length (filled_from ls bytes a) ≡ length ls
unfolding filled_from
length_filled ls bytes a = length_cells ls (drop a (stream_bits bytes))

-- the bits of cells filled from a stream
pub cells_between : (ls bytes : List ℕ) (a : ℕ) → a + total ls ≤ length bytes * 8 → cell_bits ls (filled_from ls bytes a) ≡ bits_between bytes a (a + total ls)
unfolding filled_from
cells_between ls bytes a h =
    bits_cells ls (drop a (stream_bits bytes)) (rw (length-drop, length_stream) (omega arith)) ∙ sym (between_take bytes a (total ls))

-- a filled cell is below 2 to its load
pub filled_below : (ls bytes : List ℕ) (a c : ℕ) → c < length ls → get_or (filled_from ls bytes a) c 0 < 2 ^ get_or ls c 0
unfolding filled_from
filled_below ls bytes a c h = cell_below ls (drop a (stream_bits bytes)) c h

-- one symbol after the other
pub filled_append : (ls ms bytes : List ℕ) (a : ℕ) → filled_from (ls ++ ms) bytes a ≡ filled_from ls bytes a ++ filled_from ms bytes (a + total ls)
unfolding filled_from
filled_append ls ms bytes a =
    cells_append ls ms (drop a (stream_bits bytes))
    ∙ ap (λ (r : List Bool). cells_from ls (drop a (stream_bits bytes)) ++ cells_from ms r) (drop-drop (total ls) a (stream_bits bytes))

-- ---- bytes with other bits from a bit on

-- some bits after others
pub sets-append {ℓ} : {A : Type ℓ} (l : List A) (a : ℕ) (vs ws : List A) → sets (sets l a vs) (a + length vs) ws ≡ sets l a (vs ++ ws)
sets-append l a [] ws = ap (λ (k : ℕ). sets l k ws) (add-zero a)
sets-append l a (v ∷ vs) ws = ap (λ (k : ℕ). sets (sets (set l a v) (suc a) vs) k ws) (add-suc a (length vs) ∙ sym (suc-add a (length vs))) ∙ sets-append (set l a v) (suc a) vs ws

module _ (bytes : List ℕ) (a : ℕ) where
  pub with_none : Octets bytes → with_bits bytes a [] ≡ bytes
  unfolding with_bits
  with_none o = bytes_stream bytes o

  module _ (bs : List Bool) where
    pub length_with : length (with_bits bytes a bs) ≡ length bytes
    unfolding with_bits bytes_from
    length_with = length_cells (replicate (length bytes) 8) _ ∙ length-replicate (length bytes) 8

    pub with_bits_lem : stream_bits (with_bits bytes a bs) ≡ sets (stream_bits bytes) a bs
    unfolding with_bits
    with_bits_lem = stream_bytes (length bytes) (sets (stream_bits bytes) a bs) (length-sets (stream_bits bytes) a bs ∙ length_stream bytes)

    -- some bits after others
    pub with_more : (cs : List Bool) → with_bits (with_bits bytes a bs) (a + length bs) cs ≡ with_bits bytes a (bs ++ cs)
    with_more cs =
        let e : with_bits (with_bits bytes a bs) (a + length bs) cs ≡ bytes_from (length bytes) (sets (sets (stream_bits bytes) a bs) (a + length bs) cs) =
        unfold with_bits in ap₂ (λ (n : ℕ) (r : List Bool). bytes_from n (sets r (a + length bs) cs)) length_with with_bits_lem in
        e ∙ unfold with_bits in ap (bytes_from (length bytes)) (sets-append (stream_bits bytes) a bs cs)

    -- bytes with these bits are those with these bits
    pub is_with : (new : List ℕ) → Octets new → length new ≡ length bytes → stream_bits new ≡ sets (stream_bits bytes) a bs → new ≡ with_bits bytes a bs
    unfolding with_bits
    is_with new o n e = sym (bytes_stream new o) ∙ ap₂ bytes_from n e

    -- other bits untouched
    pub before_stays : (k : ℕ) → k < a → get_or (stream_bits (with_bits bytes a bs)) k false ≡ get_or (stream_bits bytes) k false
    before_stays k h = rw with_bits_lem (get_d_sets_before (stream_bits bytes) a bs false k h)

    pub after_stays : (k : ℕ) → a + length bs ≤ k → get_or (stream_bits (with_bits bytes a bs)) k false ≡ get_or (stream_bits bytes) k false
    after_stays k h = rw with_bits_lem (get_or-sets_after (stream_bits bytes) a bs false k h)

    -- what stands from bit a on: the bits given, and those that stood after them
    pub from_bit : a + length bs ≤ length bytes * 8 → drop a (stream_bits (with_bits bytes a bs)) ≡ bs ++ drop (a + length bs) (stream_bits bytes)
    from_bit h =
        let room : a + length bs ≤ length (stream_bits bytes) = rw length_stream h in
        let n : length (take a (stream_bits bytes)) ≡ a = length-take-le a (stream_bits bytes) (omega arith) in
        ap (drop a) (with_bits_lem ∙ sets-eq bs (stream_bits bytes) a room ∙ append_assoc (take a (stream_bits bytes)) bs _)
        ∙ drop_at (take a (stream_bits bytes)) _ a n

    -- and these are read there
    pub between_with : a + length bs ≤ length bytes * 8 → bits_between (with_bits bytes a bs) a (a + length bs) ≡ bs
    between_with h = between_take (with_bits bytes a bs) a (length bs) ∙ ap (take (length bs)) (from_bit h) ∙ take_at bs _ (length bs) refl

-- ---- there and back

-- the way back gives the bytes the bits of the cells
pub unfilled_with : (ls xs bytes : List ℕ) (a : ℕ) → unfilled_into ls xs bytes a ≡ with_bits bytes a (cell_bits ls xs)
unfolding unfilled_into
unfilled_with ls xs bytes a = refl

pub length_unfilled : (ls xs bytes : List ℕ) (a : ℕ) → length (unfilled_into ls xs bytes a) ≡ length bytes
length_unfilled ls xs bytes a = rw unfilled_with (length_with bytes a (cell_bits ls xs))

-- a filling of the way back: the cells, if each is below 2 to its load
pub filled_unfilled : (ls xs bytes : List ℕ) (start : ℕ) → length xs ≡ length ls → start + total ls ≤ length bytes * 8
    → ((c : ℕ) → c < length ls → get_or xs c 0 < 2 ^ get_or ls c 0) → filled_from ls (unfilled_into ls xs bytes start) start ≡ xs
unfolding filled_from unfilled_into
filled_unfilled ls xs bytes start e fits h =
    ap (cells_from ls) (from_bit bytes start (cell_bits ls xs) (rw (length_bits ls xs e) fits)) ∙ cells_back ls xs _ e h

-- stored over themselves, bits stay
sets_same : (bs : List Bool) (a n : ℕ) → a + n ≤ length bs → sets bs a (take n (drop a bs)) ≡ bs
sets_same bs a n h =
    let m : length (take n (drop a bs)) ≡ n = length-take-le n (drop a bs) (rw length-drop (omega arith)) in
    sets-eq (take n (drop a bs)) bs a (rw m h)
    ∙ rw (m, ← drop-drop n a bs, append_assoc, take-append-drop n (drop a bs), take-append-drop a bs) refl

-- the way back of a filling, to where it was filled from: nothing changes
pub unfilled_filled : (ls bytes : List ℕ) (start : ℕ) → Octets bytes → start + total ls ≤ length bytes * 8 → unfilled_into ls (filled_from ls bytes start) bytes start ≡ bytes
unfolding unfilled_into with_bits
unfilled_filled ls bytes start o h =
    ap (λ (r : List Bool). bytes_from (length bytes) (sets (stream_bits bytes) start r)) (cells_between ls bytes start h ∙ between_take bytes start (total ls))
    ∙ ap (bytes_from (length bytes)) (sets_same (stream_bits bytes) start (total ls) (rw length_stream h))
    ∙ bytes_stream bytes o
