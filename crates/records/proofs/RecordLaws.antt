-- What is known of a plan's length and of a record where grounds 1 to 5 do not hold. Assumes nothing.
use mathlib.Core.Path.{◌≡◌, refl, ap}
use mathlib.Core.Bool.{Bool, true, false, not, ◌&&◌, ◌||◌, true≢false, false≢true}
use mathlib.Core.List.{List}
use Prim.Native.Nat.{ℕ, ◌+◌, ◌%◌, ◌≤◌, ◌<◌}
use native.Mathlib.Omega.{arith}
use lib.Dec.{ltb, leb, eqb}
use lib.ListN.{length}
use borrow.Author.Tests.{ltb-true, ltb-false, leb-false, eqb-true, eq-eqb, ne_eqb, not-false}
use Rattle.counting.specs.Search.{bit, when}
use Rattle.counting.proofs.Bools.{neither}
use Rattle.rules.specs.declared.Device.{Device}
use Rattle.std.specs.Prelude.{Ok}
use Rattle.rules.specs.Plan.{Entry, leads, is_plc, is_range, is_pilot}
use Rattle.rules.specs.Grounds.{◌else◌, ground?, bad_length, bad_form, bad_next, bad_numbers, pilots_max, record_grounds}
use Rattle.rules.proofs.Findings.{not_fine}

-- none of three
none_of : (a b c : Bool) → (a || b || c) ≡ false → (a ≡ false) × (b ≡ false) × (c ≡ false)
none_of true b c e = absurd (true≢false e)
none_of false true c e = absurd (true≢false e)
none_of false false c e = (refl, refl, e)

-- the second part of a test that fails, where the first holds
second : (t x : Bool) → t ≡ true → (t && x) ≡ false → x ≡ false
second true x h e = e
second false x h e = absurd (false≢true h)

both_true : (a b : Bool) → (a && b) ≡ true → (a ≡ true) × (b ≡ true)
both_true true b e = (refl, e)
both_true false b e = absurd (false≢true e)

-- a length in which ground 1 does not hold
pub record Sized (s : List ℕ) : Type 0 where
  pub some : 8 ≤ length s
  pub most : length s ≤ 4096
  pub whole : length s % 8 ≡ 0

pub length_fine : (s : List ℕ) → bad_length s ≡ false → Sized s
unfolding bad_length
length_fine s e =
    let t = none_of (ltb (length s) 8) (ltb 4096 (length s)) (not (eqb (length s % 8) 0)) e in
    record { some = ltb-false _ _ t.0; most = ltb-false _ _ t.1; whole = eqb-true _ _ (not-false _ t.2) }

-- a record in which none of grounds 2 to 5 holds
module _ (d : Device) (r np : ℕ) (e : Entry) (f : record_grounds d r np e ≡ Ok tt) where
  all_fine : (bad_form e ≡ false) × (bad_next r e ≡ false) × (bad_numbers d e ≡ false) × ((is_pilot e && leb pilots_max np) ≡ false)
  unfolding record_grounds
  all_fine = go (bad_form e) (bad_next r e) (bad_numbers d e) (is_pilot e && leb pilots_max np) f
    where
      go : (a b c t : Bool) → (ground? 2 (when a e.index) else ground? 3 (when b e.index) else ground? 4 (when c e.index) else ground? 5 (when t e.index)) ≡ Ok tt
          → (a ≡ false) × (b ≡ false) × (c ≡ false) × (t ≡ false)
      go true b c t g = absurd (not_fine g)
      go false true c t g = absurd (not_fine g)
      go false false true t g = absurd (not_fine g)
      go false false false true g = absurd (not_fine g)
      go false false false false g = (refl, refl, refl, refl)

  -- record 0 is of kind 1
  pub fine_first : e.index ≡ 0 → is_plc e ≡ true
  unfolding bad_form
  fine_first z =
      let kind : Bool = not (is_plc e || is_range e || is_pilot e) in
      let other : Bool = eqb e.index 0 && not (is_plc e) in
      let later : Bool = not (eqb e.index 0) && is_plc e in
      let t = none_of kind other later (none_of (kind || other || later) (not (eqb e.blank 0)) (is_pilot e && not (eqb e.high 0)) all_fine.0).0 in
      not-false _ (second (eqb e.index 0) (not (is_plc e)) (eq-eqb _ _ z) t.1)

  pub fine_next : (e.next ≡ 0 → ⊥) → (e.index < e.next) × (e.next < r)
  unfolding bad_next leads
  fine_next ne =
      let on = second (not (eqb e.next 0)) (not (ltb e.index e.next && ltb e.next r)) (ap not (ne_eqb _ _ ne)) all_fine.1 in
      let two = both_true (ltb e.index e.next) (ltb e.next r) (not-false _ on) in
      (ltb-true _ _ two.0, ltb-true _ _ two.1)

  pub fine_few : np ≤ pilots_max → np + bit (is_pilot e) ≤ pilots_max
  fine_few l = go (is_pilot e) all_fine.3
    where
      go : (t : Bool) → (t && leb pilots_max np) ≡ false → np + bit t ≤ pilots_max
      go true g = omega (arith, leb-false pilots_max np g)
      go false g = omega arith

  -- ground 4 by kinds
  abbrev plc_out : Bool
  plc_out = ltb e.low d.low_plc || ltb d.high_plc e.low || ltb e.high 1 || ltb d.depth_max e.high

  abbrev range_out : Bool
  range_out = leb d.subcarriers e.low || leb d.subcarriers e.high || ltb e.high e.low

  kinds : ((is_plc e && plc_out) ≡ false) × ((is_range e && range_out) ≡ false) × ((is_pilot e && leb d.subcarriers e.low) ≡ false)
  unfolding bad_numbers
  kinds = none_of (is_plc e && plc_out) (is_range e && range_out) (is_pilot e && leb d.subcarriers e.low) all_fine.2

  plc_fine : is_plc e ≡ true → ((ltb e.low d.low_plc || ltb d.high_plc e.low) ≡ false) × (ltb e.high 1 ≡ false) × (ltb d.depth_max e.high ≡ false)
  plc_fine k = none_of (ltb e.low d.low_plc || ltb d.high_plc e.low) (ltb e.high 1) (ltb d.depth_max e.high) (second (is_plc e) plc_out k kinds.0)

  pub fine_plc : is_plc e ≡ true → (d.low_plc ≤ e.low) × (e.low ≤ d.high_plc)
  fine_plc k =
      let u = neither (ltb e.low d.low_plc) (ltb d.high_plc e.low) (plc_fine k).0 in
      (ltb-false _ _ u.0, ltb-false _ _ u.1)

  pub fine_depth : is_plc e ≡ true → (0 < e.high) × (e.high ≤ d.depth_max)
  fine_depth k = (ltb-false _ _ (plc_fine k).1, ltb-false _ _ (plc_fine k).2)

  pub fine_range : is_range e ≡ true → (e.low < e.high + 1) × (e.high + 1 ≤ d.subcarriers)
  fine_range k =
      let t = none_of (leb d.subcarriers e.low) (leb d.subcarriers e.high) (ltb e.high e.low) (second (is_range e) range_out k kinds.1) in
      (omega (arith, ltb-false e.high e.low t.2), omega (arith, leb-false d.subcarriers e.high t.1))

  pub fine_pilot : is_pilot e ≡ true → e.low < d.subcarriers
  fine_pilot k = leb-false _ _ (second (is_pilot e) (leb d.subcarriers e.low) k kinds.2)
