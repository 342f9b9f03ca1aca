-- The packed positions of four bits and of three give those of seven, by one computed test each way. Assumes nothing.
use Prim.Native.Nat.{ℕ, ◌+◌, ◌-◌, ◌*◌, ◌/◌, ◌%◌, ◌^◌, ◌<◌}
use mathlib.Core.Path.{◌≡◌, sym, ap, ◌∙◌}
use mathlib.Core.Bool.{Bool}
use native.Mathlib.Omega.{arith}
use native.Mathlib.Nat.{mod-lt}
use lib.Dec.{T, eqb, eqb→eq}
use lib.Pow.{field, mod-mod-pow}
use borrow.Author.Tests.{eq-eqb, ne_eqb}
use Rattle.counting.specs.Search.{pick}
use Rattle.gray.specs.Positions.{position, bits_at}
use Rattle.gray.proofs.Computed.{up_to, below}
use Rattle.gray.proofs.PositionLaws.{position_mod}

-- as the code has them
abbrev pub four : ℕ → ℕ
four x = 0xa5d296e1b4c387f0 / 2 ^ (x * 4) % 16

abbrev pub three : ℕ → ℕ
three x = 0x52614370 / 2 ^ (x * 4) % 8

joined : ℕ → ℕ → ℕ
joined x y = pick (eqb (four x % 2) 0) (four x * 8 + three y) (four x * 8 + 7 - three y)

right : ℕ → Bool
unfolding joined
right x = eqb (joined (x % 16) (x / 16 % 8)) (position 7 x)

all_right : T (up_to right 128)
unfolding right joined position
all_right = tt

packed : (x : ℕ) → joined (x % 16) (x / 16 % 8) ≡ position 7 x
unfolding right
packed x =
    let y = x % 128 in
    let a : y % 16 ≡ x % 16 = mod-mod-pow x 3 4 in
    let b : y / 16 % 8 ≡ x / 16 % 8 = omega (arith, field x 3 4) in
    let t : joined (y % 16) (y / 16 % 8) ≡ position 7 y = eqb→eq (joined (y % 16) (y / 16 % 8)) (position 7 y) (below right 128 all_right y (mod-lt x (omega arith))) in
    ap (λ (k : ℕ). joined k (x / 16 % 8)) (sym a) ∙ ap (joined (y % 16)) (sym b) ∙ t ∙ position_mod 7 x

pub packed_even : (x : ℕ) → four (x % 16) % 2 ≡ 0 → four (x % 16) * 8 + three (x / 16 % 8) ≡ position 7 x
unfolding joined
packed_even x h = rw (eq-eqb (four (x % 16) % 2) 0 h) at (packed x)

pub packed_odd : (x : ℕ) → (four (x % 16) % 2 ≡ 0 → ⊥) → four (x % 16) * 8 + 7 - three (x / 16 % 8) ≡ position 7 x
unfolding joined
packed_odd x h = rw (ne_eqb (four (x % 16) % 2) 0 h) at (packed x)

-- ---- the way back

abbrev pub back_four : ℕ → ℕ
back_four h = 0x19d57fb32ae64c80 / 2 ^ (h * 4) % 16

abbrev pub back_three : ℕ → ℕ
back_three q = 0x15732640 / 2 ^ (q * 4) % 8

unjoined : ℕ → ℕ
unjoined p = pick (eqb (p / 8 % 2) 0) (back_four (p / 8) + back_three (p % 8) * 16) (back_four (p / 8) + back_three (7 - p % 8) * 16)

back_right : ℕ → Bool
unfolding unjoined
back_right p = eqb (unjoined p) (bits_at 7 p)

all_back_right : T (up_to back_right 128)
unfolding back_right unjoined bits_at
all_back_right = tt

unpacked : (p : ℕ) → p < 128 → unjoined p ≡ bits_at 7 p
unfolding back_right
unpacked p h = eqb→eq (unjoined p) (bits_at 7 p) (below back_right 128 all_back_right p h)

pub unpacked_even : (p : ℕ) → p < 128 → p / 8 % 2 ≡ 0 → back_four (p / 8) + back_three (p % 8) * 16 ≡ bits_at 7 p
unfolding unjoined
unpacked_even p l h = rw (eq-eqb (p / 8 % 2) 0 h) at (unpacked p l)

pub unpacked_odd : (p : ℕ) → p < 128 → (p / 8 % 2 ≡ 0 → ⊥) → back_four (p / 8) + back_three (7 - p % 8) * 16 ≡ bits_at 7 p
unfolding unjoined
unpacked_odd p l h = rw (ne_eqb (p / 8 % 2) 0 h) at (unpacked p l)
