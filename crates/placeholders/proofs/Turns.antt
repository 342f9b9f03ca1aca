-- Turns of m cells: what the cells of a block want, and cells compared with it block after block. Assumes nothing.
use Prim.Native.Nat.{ℕ, ◌+◌, ◌-◌, ◌*◌, ◌%◌, ◌≤◌, ◌<◌}
use mathlib.Core.Path.{◌≡◌, refl, sym, ap, ◌∙◌}
use mathlib.Core.Logic.{by_cases}
use mathlib.Core.List.{List}
use native.Mathlib.Nat.{zero-add, zero-mod, mod_self, mod-eq_of_lt, mod-add-mod}
use native.Mathlib.Decide.{dec_lt}
use native.Mathlib.Numerals.{add-one}
use native.Mathlib.Omega.{arith}
use lib.ListN.{length, get_or, set, take}
use lib.Seq.{sets, length-sets, take_all}
use Rattle.std.specs.List.{CopiedTo, SameBelow}
use Rattle.counting.specs.Search.{bit, sum, count, tabulate}
use Rattle.counting.proofs.Laws.{count_ext, count_add}
use Rattle.counting.proofs.Lists.{length_tabulate, get_d_tabulate, get_d_sets_before, get_or-sets_in, get_or-sets_0, sets_snoc}
use Rattle.rules.specs.Device.{phases}
use Rattle.placeholders.specs.Meets.{meets, like, Wanted}

-- whole turns before do not matter
turn_mod : (m b i : ℕ) → b % m ≡ 0 → (b + i) % m ≡ i % m
turn_mod m b i e = sym (mod-add-mod b m i) ∙ ap (λ (x : ℕ). (x + i) % m) e ∙ ap (λ (x : ℕ). x % m) (zero-add i)

-- a place in [0, a) or in [a, ..)
split : (P : ℕ → Type 0) (a i : ℕ) → (i < a → P i) → ((j : ℕ) → i ≡ a + j → P (a + j)) → P i
split P a i f g =
    by_cases (dec_lt i a)
    f
    (λ c. let e : i ≡ a + (i - a) = omega arith in rw e (g (i - a) e))

-- one more number of x is stored in s, from the place at on
pub next_stored : (s x y : List ℕ) (at i v : ℕ) → y ≡ sets s at (take i x) → i < length x → v ≡ get_or x i 0 → set y (at + i) v ≡ sets s at (take (i + 1) x)
next_stored s x y at i v ey h ev = rw (ey, ev, add-one i) (sets_snoc s at x i h)

-- what the cells of the first turn want
abbrev pub firstTurn : ℕ → ℕ → List ℕ
firstTurn m base = tabulate (λ i. (base + i) % phases) m

pub first_next : (m base d : ℕ) (s y : List ℕ) → y ≡ sets s 0 (take d (firstTurn m base)) → d < m → set y d ((base + d) % phases) ≡ sets s 0 (take (d + 1) (firstTurn m base))
first_next m base d s y ey h =
    rw (zero-add d) at
    (next_stored s (firstTurn m base) y 0 d ((base + d) % phases) ey (omega (arith, length_tabulate (λ i. (base + i) % phases) m)) (sym (get_d_tabulate (λ i. (base + i) % phases) m 0 d h)))

pub wanted_first : (m base d : ℕ) (s y : List ℕ) → 0 < m → m ≤ 256 → m ≤ d → length s ≡ 256 → y ≡ sets s 0 (take d (firstTurn m base)) → Wanted m base m y
wanted_first m base d s y pos few h el ey = record {
  long = ap length ey ∙ length-sets s 0 (take d (firstTurn m base)) ∙ el;
  some = pos;
  few = few;
  whole = mod_self m;
  each = λ i k.
      ap (λ (l : List ℕ). get_or l i 0) (ey ∙ ap (sets s 0) (take_all d (firstTurn m base) (omega (arith, size))))
      ∙ get_or-sets_0 s (firstTurn m base) 0 i (omega (arith, size)) (omega (arith, size))
      ∙ get_d_tabulate (λ i. (base + i) % phases) m 0 i k ∙ ap (λ (x : ℕ). (base + x) % phases) (sym (mod-eq_of_lt k));
}
  where
    size : length (firstTurn m base) ≡ m
    size = length_tabulate (λ i. (base + i) % phases) m

-- as many turns again
pub wanted_twice : (m base len : ℕ) (want y : List ℕ) → len ≤ 128 → Wanted m base len want → length y ≡ length want
    → CopiedTo want y 0 len (len - 0) × SameBelow want y len → Wanted m base (len * 2) y
wanted_twice m base len want y low w long (copied, below) = record {
  long = long ∙ w.long;
  some = omega (arith, w.some);
  few = omega arith;
  whole = ap (λ (x : ℕ). x % m) twice ∙ turn_mod m len len w.whole ∙ w.whole;
  each = λ i h.
      split (λ (i : ℕ). i < len + len → get_or y i 0 ≡ (base + i % m) % phases) len i
      (λ c g. below i 0 c ∙ w.each i c)
      (λ j e g.
      let jl : j < len = omega arith in
      let back : 0 + (len + j - len) ≡ j = omega arith in
      copied (len + j) 0 (omega arith) (omega arith) ∙ ap (λ (k : ℕ). get_or want k 0) back
      ∙ w.each j jl ∙ ap (λ (x : ℕ). (base + x) % phases) (sym (turn_mod m len j w.whole)))
      (omega arith);
}
  where
    twice : len * 2 ≡ len + len
    twice = omega arith

-- the first b cells have their flags, and n of them are flagged; b is whole turns while cells are left
pub record Flagged (m base : ℕ) (kc flag : List ℕ) (b n : ℕ) : Type 0 where
  pub turns : b < length kc → b % m ≡ 0
  pub number : n ≡ count (meets base m kc) b
  pub flags : (p : ℕ) → p < b → get_or flag p 0 ≡ bit (meets base m kc p)

pub flagged_none : (m base : ℕ) (kc flag : List ℕ) → Flagged m base kc flag 0 0
unfolding count sum
flagged_none m base kc flag = record { turns = λ h. zero-mod m; number = refl; flags = λ p h. absurd (omega arith) }

-- one more block
module _ (m base len : ℕ) (kc want : List ℕ) (w : Wanted m base len want) (b k : ℕ) (low : b % m ≡ 0) (few : k ≤ len) where
  like_meets : (i : ℕ) → i < k → like want kc b i ≡ meets base m kc (b + i)
  unfolding like meets
  like_meets i h = rw (w.each i (omega arith), turn_mod m b i low) refl

  pub flagged_next : (flag y : List ℕ) (n v : ℕ) → b + k ≤ length flag → (b + k < length kc → k ≡ len)
      → y ≡ sets flag b (tabulate (λ i. bit (like want kc b i)) k) → v ≡ count (like want kc b) k → Flagged m base kc flag b n → Flagged m base kc y (b + k) (n + v)
  flagged_next flag y n v room full ey ev f = record {
    turns = λ h. turn_mod m b k low ∙ ap (λ (x : ℕ). x % m) (full h) ∙ w.whole;
    number = omega (arith, f.number, ev, count_add (meets base m kc) b k, count_ext (like want kc b) (λ i. meets base m kc (b + i)) k like_meets);
    flags = λ p h.
        rw ey
        (split (λ (p : ℕ). p < b + k → get_or (sets flag b (tabulate (λ i. bit (like want kc b i)) k)) p 0 ≡ bit (meets base m kc p)) b p
        (λ c g. get_d_sets_before flag b (tabulate (λ i. bit (like want kc b i)) k) 0 p c ∙ f.flags p c)
        (λ i e g.
        let il : i < k = omega arith in
        get_or-sets_in flag b (tabulate (λ i. bit (like want kc b i)) k) 0 i (rw (length_tabulate (λ i. bit (like want kc b i)) k) il) (omega arith)
        ∙ get_d_tabulate (λ i. bit (like want kc b i)) k 0 i il ∙ ap bit (like_meets i il))
        h);
  }
