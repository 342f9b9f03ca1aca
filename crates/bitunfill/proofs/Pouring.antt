-- The loop of the way back: the bits of the cells so far are in the stream, of the byte that is not full yet they are held as a number too, and
-- the stream is the old one after the bits of all cells. Assumes nothing.
use Prim.Native.Nat.{ℕ, suc, ◌+◌, ◌-◌, ◌*◌, ◌%◌, ◌/◌, ◌^◌, ◌≤◌, ◌<◌}
use mathlib.Core.Path.{◌≡◌, refl, sym, ap, ap₂, ◌∙◌}
use mathlib.Core.Bool.{Bool}
use mathlib.Core.List.{List, [], ◌∷◌, ◌++◌, append_assoc, append-nil}
use native.Mathlib.Omega.{arith}
use lib.Pow.{mod-mod-pow}
use lib.ListN.{length, get_or, take, drop, set, length-append, length-drop, take-append-drop}
use lib.Seq.{sets, sets-eq, length-take-le, take-add, take-take, take-append-le, drop-append-le, take_at, drop_at, drop-drop, drop-set-lt}
use Rattle.rules.specs.Bits.{digits, value, total, cell_bits, stream_bits, unfilled_into}
use Rattle.counting.specs.Bytes.{Octets}
use Rattle.bits.proofs.BitLaws.{length_digits, digits_more, value-take, value-drop, value-append, value_small}
use Rattle.bits.proofs.FillLaws.{length_bits, length_stream, bits_append, is_with}
use Rattle.bits.proofs.Streams.{byte_value}
use Rattle.bits.proofs.Windows.{total_parts, five_left}
use Rattle.bitfours.proofs.Fours.{same_part}

-- ---- lists of bits

drop-take : (n m : ℕ) (l : List Bool) → n ≤ length l → drop n (take (n + m) l) ≡ take m (drop n l)
drop-take n m l h = ap (drop n) (take-add n m l) ∙ drop_at (take n l) (take m (drop n l)) n (length-take-le n l h)

drop-sets : (l : List Bool) (a : ℕ) (vs : List Bool) (n : ℕ) → a + length vs ≤ n → drop n (sets l a vs) ≡ drop n l
drop-sets l a [] n h = refl
drop-sets l a (v ∷ vs) n h = drop-sets (set l a v) (suc a) vs n (omega arith) ∙ drop-set-lt n l a v (omega arith)

-- w bits stored from bit a on, of which the lowest are those of d: what stands up to the end of d
put_bits : (s d : List Bool) (a w : ℕ) → a ≤ length d → length d ≤ a + w → a + w ≤ length s → take a s ≡ take a d → take (length d) (sets s a (digits w (value (drop a d)))) ≡ d
put_bits s d a w h k r e =
    let bs : List Bool = drop a d in
    let n : length bs ≤ w = rw length-drop (omega arith) in
    let z : List Bool = digits (w - length bs) (value bs / 2 ^ length bs) in
    let t : List Bool = drop (a + w) s in
    let m : length (digits w (value bs)) ≡ w = length_digits w (value bs) in
    ap (take (length d))
    (sets-eq (digits w (value bs)) s a (rw m r)
    ∙ ap₂ (λ (u : List Bool) (j : ℕ). take a s ++ u ++ drop (a + j) s) (digits_more bs w n) m
    ∙ append_assoc (take a s) (bs ++ z) t
    ∙ ap₂ (λ (u v : List Bool). u ++ v) e (append_assoc bs z t)
    ∙ sym (append_assoc (take a d) bs (z ++ t))
    ∙ ap (λ (u : List Bool). u ++ (z ++ t)) (take-append-drop a d))
    ∙ take_at d (z ++ t) (length d) refl

-- the bits of byte `at` below bit o, as a number
below_bit : (bytes : List ℕ) (at o : ℕ) → o ≤ 8 → value (take o (drop (at * 8) (stream_bits bytes))) ≡ get_or bytes at 0 % 2 ^ o
below_bit bytes at o h =
    let n : ℕ = value (drop (at * 8) (stream_bits bytes)) in
    let x : ℕ = get_or bytes at 0 in
    let e : ◌≡◌ {A = ℕ} 8 (8 - o + o) = omega arith in
    let w : n % 2 ^ 8 ≡ x % 2 ^ 8 = sym (value-take 8 (drop (at * 8) (stream_bits bytes))) ∙ byte_value bytes at in
    let part : (y : ℕ) → y % 2 ^ 8 % 2 ^ o ≡ y % 2 ^ o = λ y. ap (λ (k : ℕ). y % 2 ^ k % 2 ^ o) e ∙ mod-mod-pow y (8 - o) o in
    value-take o (drop (at * 8) (stream_bits bytes)) ∙ sym (part n) ∙ ap (λ (y : ℕ). y % 2 ^ o) w ∙ part x

-- ---- the loop

module _ (ls xs old : List ℕ) (start : ℕ) where
  -- what is to stand up to the end of the first c cells
  abbrev pub up_to : ℕ → List Bool
  up_to c = take start (stream_bits old) ++ cell_bits (take c ls) (take c xs)

  -- after c cells, with byte `at` full up to bit `bit`
  pub record Poured (cur : List ℕ) (at bit held c : ℕ) : Type 0 where
    pub few : c ≤ length ls
    pub here : at * 8 + bit ≡ start + total (take c ls)
    pub inner : bit < 8
    pub long : length cur ≡ length old
    pub byte : held ≡ value (drop (at * 8) (up_to c))
    pub done : take (at * 8 + bit) (stream_bits cur) ≡ up_to c
    pub rest : drop (start + total ls) (stream_bits cur) ≡ drop (start + total ls) (stream_bits old)

  module _ (e : length ls ≡ length xs) (fits : start + total ls ≤ length old * 8) where
    length_upto : (c : ℕ) → length (up_to c) ≡ start + total (take c ls)
    length_upto c =
        length-append (take start (stream_bits old)) (cell_bits (take c ls) (take c xs))
        ∙ ap₂ ◌+◌ (length-take-le start (stream_bits old) (omega (arith, length_stream old))) (length_bits (take c ls) (take c xs) (same_part ls xs 0 c e))

    -- some cells more
    upto_more : (c k : ℕ) → up_to (c + k) ≡ up_to c ++ cell_bits (take k (drop c ls)) (take k (drop c xs))
    upto_more c k =
        ap (λ (r : List Bool). take start (stream_bits old) ++ r)
        (ap₂ cell_bits (take-add c k ls) (take-add c k xs) ∙ bits_append (take c ls) (take k (drop c ls)) (take c xs) (take k (drop c xs)) (same_part ls xs 0 c e))
        ∙ sym (append_assoc (take start (stream_bits old)) (cell_bits (take c ls) (take c xs)) (cell_bits (take k (drop c ls)) (take k (drop c xs))))

    -- before the first cell
    pub poured_start : (at bit held : ℕ) → at ≡ start / 8 → bit ≡ start % 8 → held ≡ get_or old at 0 % 2 ^ bit → Poured old at bit held 0
    unfolding total cell_bits
    poured_start at bit held ea eb eh =
        let n : start ≡ at * 8 + bit = omega arith in
        let none : up_to 0 ≡ take (at * 8 + bit) (stream_bits old) = append-nil (take start (stream_bits old)) ∙ ap (λ (k : ℕ). take k (stream_bits old)) n in
        record {
          few = omega arith;
          here = omega arith;
          inner = omega arith;
          long = refl;
          byte = eh ∙ sym (ap (λ (r : List Bool). value (drop (at * 8) r)) none ∙ ap value (drop-take (at * 8) bit (stream_bits old) (omega (arith, length_stream old))) ∙ below_bit old at bit (omega arith));
          done = sym none;
          rest = refl;
        }

    module _ (cur : List ℕ) (at bit held c : ℕ) (p : Poured cur at bit held c) where
      -- less than a byte is held
      pub held_small : held < 256
      held_small = rw p.byte (value_small (drop (at * 8) (up_to c)) 8 (omega (arith, length-drop (at * 8) (up_to c), length_upto c, p.here, p.inner)))

      -- where 64 bits are left, so are five cells, and eight bytes of the stream
      pub room : (left : ℕ) → ((i : ℕ) → i < length ls → get_or ls i 0 ≤ 14) → left + total (take c ls) ≡ total ls → 64 ≤ left
          → (c + 5 ≤ length ls) × (at * 8 + 64 ≤ start + total ls) × (at + 8 ≤ length old)
      room left small el h = (five_left ls c small p.few (omega arith), omega (arith, p.here), omega (arith, p.here))

      -- k cells more of m bits make with what is held the number v, which is written as eight bytes
      pub poured_next : (new : List ℕ) (k m v : ℕ) → c + k ≤ length ls → at * 8 + 64 ≤ start + total ls → m ≡ total (take k (drop c ls)) → m ≤ 56
          → v ≡ value (cell_bits (take k (drop c ls)) (take k (drop c xs))) * 2 ^ bit + held
          → length new ≡ length old → stream_bits new ≡ sets (stream_bits cur) (at * 8) (digits 64 v)
          → Poured new (at + (bit + m) / 8) ((bit + m) % 8) (v / 2 ^ ((bit + m) / 8 * 8)) (c + k)
      poured_next new k m v h r em few ev en es =
          let s : List Bool = stream_bits cur in
          let bs : List Bool = cell_bits (take k (drop c ls)) (take k (drop c xs)) in
          let d : List Bool = up_to (c + k) in
          let j : ℕ = (bit + m) / 8 in
          let ed : d ≡ up_to c ++ bs = upto_more c k in
          let n : length (up_to c) ≡ at * 8 + bit = length_upto c ∙ sym p.here in
          let nb : length bs ≡ m = length_bits (take k (drop c ls)) (take k (drop c xs)) (same_part ls xs c k e) ∙ sym em in
          let nd : length d ≡ at * 8 + bit + m = ap length ed ∙ length-append (up_to c) bs ∙ ap₂ ◌+◌ n nb in
          let w : drop (at * 8) d ≡ drop (at * 8) (up_to c) ++ bs = ap (drop (at * 8)) ed ∙ drop-append-le (at * 8) (up_to c) bs (omega arith) in
          let nh : length (drop (at * 8) (up_to c)) ≡ bit = length-drop (at * 8) (up_to c) ∙ omega arith in
          let vd : v ≡ value (drop (at * 8) d) =
          ev ∙ sym (ap value w ∙ value-append (drop (at * 8) (up_to c)) bs ∙ ap₂ (λ (i x : ℕ). value bs * 2 ^ i + x) nh (sym p.byte)) in
          let same : take (at * 8) s ≡ take (at * 8) d =
          sym (take-take (at * 8) (at * 8 + bit) s (omega arith)) ∙ ap (take (at * 8)) p.done
          ∙ sym (ap (take (at * 8)) ed ∙ take-append-le (at * 8) (up_to c) bs (omega arith)) in
          let ns : length s ≡ length old * 8 = length_stream cur ∙ ap (λ (i : ℕ). i * 8) p.long in
          let z : (at + j) * 8 + (bit + m) % 8 ≡ length d = omega arith in
          let y : at * 8 + j * 8 ≡ (at + j) * 8 = omega arith in
          record {
            few = h;
            here = z ∙ length_upto (c + k);
            inner = omega arith;
            long = en;
            byte = ap (λ (x : ℕ). x / 2 ^ (j * 8)) vd ∙ sym (value-drop (j * 8) (drop (at * 8) d)) ∙ ap value (drop-drop (j * 8) (at * 8) d ∙ ap (λ (i : ℕ). drop i d) y);
            done = rw (z, es, vd) (put_bits s d (at * 8) 64 (omega arith) (omega arith) (omega arith) same);
            rest = ap (drop (start + total ls)) es ∙ drop-sets s (at * 8) (digits 64 v) (start + total ls) (omega (arith, length_digits 64 v)) ∙ p.rest;
          }

      -- the other cells are put after them
      pub poured_end : (new : List ℕ) → Octets new → length new ≡ length old
          → stream_bits new ≡ sets (stream_bits cur) (at * 8 + bit) (cell_bits (drop c ls) (drop c xs)) → new ≡ unfilled_into ls xs old start
      unfolding unfilled_into
      poured_end new o en es =
          let s : List Bool = stream_bits cur in
          let s0 : List Bool = stream_bits old in
          let bs : List Bool = cell_bits (drop c ls) (drop c xs) in
          let ns : length s ≡ length old * 8 = length_stream cur ∙ ap (λ (i : ℕ). i * 8) p.long in
          let nx : length (drop c xs) ≡ length (drop c ls) = rw (length-drop, length-drop, e) refl in
          let nb : length bs ≡ total (drop c ls) = length_bits (drop c ls) (drop c xs) nx in
          let z : at * 8 + bit + length bs ≡ start + total ls = omega (arith, p.here, total_parts ls c) in
          let nt : length (cell_bits ls xs) ≡ total ls = length_bits ls xs (sym e) in
          let all : up_to c ++ bs ≡ take start s0 ++ cell_bits ls xs =
          append_assoc (take start s0) (cell_bits (take c ls) (take c xs)) bs
          ∙ ap (λ (r : List Bool). take start s0 ++ r)
          (sym (bits_append (take c ls) (drop c ls) (take c xs) (drop c xs) (same_part ls xs 0 c e)) ∙ ap₂ cell_bits (take-append-drop c ls) (take-append-drop c xs)) in
          is_with old start (cell_bits ls xs) new o en
          (es ∙ sets-eq bs s (at * 8 + bit) (omega arith) ∙ ap₂ (λ (u v : List Bool). u ++ v) (ap (λ (r : List Bool). r ++ bs) p.done ∙ all) (ap (λ (i : ℕ). drop i s) z ∙ p.rest)
          ∙ ap (λ (i : ℕ). take start s0 ++ cell_bits ls xs ++ drop (start + i) s0) (sym nt)
          ∙ sym (sets-eq (cell_bits ls xs) s0 start (omega (arith, nt, length_stream old))))
