-- Laws of words: what is known while a word is read, and that reading what is printed gives the number back. Assumes nothing.
use mathlib.Core.Path.{◌≡◌, refl, sym, ap, ◌∙◌, subst}
use mathlib.Core.Bool.{true, false, ◌&&◌}
use mathlib.Core.List.{List, [], ◌∷◌, ◌++◌}
use Prim.Native.Nat.{ℕ, zero, suc, ◌+◌, ◌-◌, ◌*◌, ◌/◌, ◌%◌, ◌≤◌, ◌<◌}
use native.Mathlib.Nat.{not-suc-le-zero, mod-lt}
use native.Mathlib.Numerals.{add-one}
use native.Mathlib.Omega.{arith}
use lib.Dec.{ltb, leb}
use lib.ListN.{length, get_or, drop, length-append, drop_of_length-le}
use lib.Seq.{drop-cons}
use borrow.Author.Tests.{ltb-true, ltb-false, leb-true, le-leb, lt-leb}
use Rattle.counting.specs.Search.{pick}
use Rattle.counting.proofs.Bools.{and_false, and_left, and_right, and_intro, by_test}
use Rattle.text.specs.Text.{spelled, decimal}
use Rattle.std.specs.Prelude.{Option, Some, None}
use Rattle.words.specs.Word.{is_digit, digits, value_after, value_of, word_number, UpTo}

-- a digit is at least "0"
pub digit_least : (b : ℕ) → is_digit b ≡ true → 48 ≤ b
unfolding is_digit
digit_least b h = leb-true 48 b (and_left (leb 48 b) (leb b 57) h)

-- further digits do not make a number less
grows : (v : ℕ) (bytes : List ℕ) → v ≤ value_after v bytes
unfolding value_after
grows v [] = omega arith
grows v (b ∷ bs) = omega (arith, grows (10 * v + (b - 48)) bs)

pub empty_word : (word : List ℕ) (most : ℕ) → length word ≡ 0 → None ≡ word_number word most
unfolding word_number
empty_word word most h = rw (lt-leb 1 (length word) (omega arith))

-- a number is at most `most`
pub up_to : (word : List ℕ) (most : ℕ) → UpTo most (word_number word most)
unfolding word_number
up_to word most =
    by_test (leb 1 (length word) && digits word && leb (value_of word) most)
    (λ t. rw t (leb-true (value_of word) most (and_right (leb 1 (length word) && digits word) (leb (value_of word) most) t)))
    (λ t. rw t tt)

-- the number that a word was found to say
pub at_most : (n most : ℕ) (w : Option ℕ) → w ≡ Some n → UpTo most w → n ≤ most
at_most n most w e h = subst (UpTo most) e h

-- what a word says of which some bytes are read and spell v, and these are left
unfoldable pub left : ℕ → ℕ → List ℕ → Option ℕ
left most v bytes = pick (digits bytes && leb (value_after v bytes) most) (Some (value_after v bytes)) None

left_all : (most : ℕ) (word : List ℕ) → 0 < length word → word_number word most ≡ left most 0 word
unfolding word_number left
left_all most word h = rw (le-leb 1 (length word) h)

left_none : (most v : ℕ) → v ≤ most → left most v [] ≡ Some v
unfolding left digits value_after
left_none most v h = rw (le-leb v most h)

left_digit : (most v b : ℕ) (bs : List ℕ) → is_digit b ≡ true → left most v (b ∷ bs) ≡ left most (10 * v + (b - 48)) bs
unfolding left digits value_after
left_digit most v b bs h = rw h

left_other : (most v b : ℕ) (bs : List ℕ) → is_digit b ≡ false → left most v (b ∷ bs) ≡ None
unfolding left digits
left_other most v b bs h = rw h

left_above : (most v : ℕ) (bytes : List ℕ) → most < v → left most v bytes ≡ None
unfolding left
left_above most v bytes h =
    let l : most < value_after v bytes = omega (arith, grows v bytes) in
    rw (lt-leb (value_after v bytes) most l, and_false (digits bytes))

-- The bytes before i are read and spell v: v is not above `most`, and what the word says follows from v and the bytes left.
pub record Reading (word : List ℕ) (most v i : ℕ) : Type 0 where
  pub within : i ≤ length word
  pub few : v ≤ most
  pub same : word_number word most ≡ left most v (drop i word)

-- nothing is read
pub reading_none : (word : List ℕ) (most : ℕ) → 0 < length word → Reading word most 0 0
reading_none word most h = record { within = omega arith; few = omega arith; same = left_all most word h }

-- all is read
pub reading_all : {word : List ℕ} {most v i : ℕ} → Reading word most v i → length word ≤ i → Some v ≡ word_number word most
reading_all {word} {most} {v} r h = sym (r.same ∙ ap (left most v) (drop_of_length-le word h) ∙ left_none most v r.few)

-- one byte more is read
module _ {word : List ℕ} {most v i : ℕ} (r : Reading word most v i) (h : i < length word) where
  next_byte_lem : word_number word most ≡ left most v (get_or word i 0 ∷ drop (i + 1) word)
  next_byte_lem = rw add-one (r.same ∙ ap (left most v) (drop-cons word i 0 h))

  pub reading_other : is_digit (get_or word i 0) ≡ false → None ≡ word_number word most
  reading_other t = sym (next_byte_lem ∙ left_other most v _ _ t)

  module _ (t : is_digit (get_or word i 0) ≡ true) (next : ℕ) (e : next ≡ 10 * v + (get_or word i 0 - 48)) where
    next_left : word_number word most ≡ left most next (drop (i + 1) word)
    next_left = rw e (next_byte_lem ∙ left_digit most v _ _ t)

    pub reading_above : most < next → None ≡ word_number word most
    reading_above l = sym (next_left ∙ left_above most next _ l)

    pub reading_on : next ≤ most → Reading word most next (i + 1)
    reading_on l = record { within = omega arith; few = l; same = next_left }

-- the bytes are digits that spell n
record Spell (bytes : List ℕ) (n : ℕ) : Type 0 where
  some : 0 < length bytes
  only : digits bytes ≡ true
  value : value_of bytes ≡ n

digits_on : (xs ys : List ℕ) → digits xs ≡ true → digits ys ≡ true → digits (xs ++ ys) ≡ true
unfolding digits
digits_on [] ys p q = q
digits_on (b ∷ bs) ys p q =
    and_intro (is_digit b) (digits (bs ++ ys)) (and_left (is_digit b) (digits bs) p) (digits_on bs ys (and_right (is_digit b) (digits bs) p) q)

value_on : (v : ℕ) (xs ys : List ℕ) → value_after v (xs ++ ys) ≡ value_after (value_after v xs) ys
unfolding value_after
value_on v [] ys = refl
value_on v (b ∷ bs) ys = value_on (10 * v + (b - 48)) bs ys

glyph_digit : (d : ℕ) → d < 10 → is_digit (48 + d) ≡ true
unfolding is_digit
glyph_digit d h = and_intro (leb 48 (48 + d)) (leb (48 + d) 57) (le-leb 48 (48 + d) (omega arith)) (le-leb (48 + d) 57 (omega arith))

-- one digit, and one digit after others
spell_one : (d : ℕ) → d < 10 → Spell ((48 + d) ∷ []) d
unfolding digits value_after
spell_one d h = record { some = omega arith; only = and_intro (is_digit (48 + d)) true (glyph_digit d h) refl; value = omega arith }

spell_more : (bytes : List ℕ) (n : ℕ) → Spell bytes (n / 10) → Spell (bytes ++ ((48 + n % 10) ∷ [])) n
unfolding value_after
spell_more bytes n s =
    let d = spell_one (n % 10) (mod-lt n (omega arith)) in
    record {
      some = simp length-append (omega (arith, s.some));
      only = digits_on bytes _ s.only d.only;
      value = value_on 0 bytes _ ∙ omega (arith, s.value);
    }

-- the text of a number spells it, where the steps are enough
spell_text : (steps n : ℕ) → n < steps → Spell (spelled steps n) n
unfolding spelled
spell_text zero n h = absurd (not-suc-le-zero h)
spell_text (suc steps) n h =
    by_test (ltb n 10)
    (λ t. rw (t, spelled) (spell_one n (ltb-true n 10 t)))
    (λ t. rw (t, spelled) (spell_more _ n (spell_text steps (n / 10) (omega (arith, ltb-false n 10 t)))))

-- digits that spell a number up to `most` are read as it
spell_read : {bytes : List ℕ} {n most : ℕ} → Spell bytes n → n ≤ most → word_number bytes most ≡ Some n
unfolding word_number
spell_read {bytes} {n} {most} s h = rw (le-leb 1 (length bytes) s.some, s.only, s.value, le-leb n most h)

-- reading what is printed gives the number back
pub read_back : (n most : ℕ) → n ≤ most → word_number (decimal n) most ≡ Some n
unfolding decimal
read_back n most h = spell_read (spell_text (suc n) n (omega arith)) h
