-- The PLC and the continuous pilots marked: none of them stands on an excluded subcarrier, and no pilot in the PLC, so the last mark stored is that of the first role. Assumes nothing.
use Prim.Native.Nat.{ℕ, ◌+◌, ◌<◌}
use mathlib.Core.Path.{◌≡◌, refl, sym, ap, ap₂, ◌∙◌, subst}
use mathlib.Core.Bool.{Bool, false, ◌||◌}
use mathlib.Core.List.{List}
use native.Mathlib.Omega.{arith}
use lib.Dec.{eqb}
use lib.ListN.{get_or, set}
use borrow.Author.Tests.{eq-eqb, ne_eqb}
use Rattle.counting.proofs.Bools.{or_false, or_true}
use Rattle.rules.specs.declared.Device.{Device}
use Rattle.rules.specs.Plan.{Plan}
use Rattle.rules.specs.Bands.{excluded}
use Rattle.rules.specs.Roles.{one_of, predefined, in_plc, continuous_mark, plc_mark, first_mark}
use Rattle.rules.specs.Fits.{Fits, capacity}
use Rattle.roles.proofs.Eight.{beside, eight_long, Place, place}
use Rattle.roles.proofs.Testing.{in_plc_lem, off_plc}
use Rattle.marks.specs.Marked.{Cells}
use Rattle.marks.specs.Stages.{between, Stamped, AllBelow, painted, with_pilots, Free}
use Rattle.marks.proofs.Stretches.{cells_spread, cells_stamp, cells_set}
use Rattle.marks.proofs.Around.{around_active}

-- the PLC is marked
pub plc_marked : (d : Device) (p : Plan) (l : ℕ) (old m : List ℕ) → Free d p l → Cells d.subcarriers (painted (excluded p)) old → Stamped plc_mark (between l (l + d.plc_width)) old m
    → Cells d.subcarriers (with_pilots d p (λ k. false)) m
unfolding painted with_pilots
plc_marked d p l old m w c s =
    cells_spread d.subcarriers (painted (excluded p)) (with_pilots d p (λ k. false)) plc_mark l (l + d.plc_width) old m c s
    (λ k h a b. sym (ap₂ (λ (x y : Bool). first_mark x y false) (around_active d p l w k (omega arith) (omega arith)) (in_plc_lem d p l w.plc k a b)))
    (λ k h o. sym (ap (λ (y : Bool). first_mark (excluded p k) y false) (off_plc d p l w.plc k o)))

-- a subcarrier where a pilot may stand
pub record Apart (d : Device) (p : Plan) (k : ℕ) : Type 0 where
  pub inside : k < d.subcarriers
  pub active : excluded p k ≡ false
  pub off : in_plc d p k ≡ false

-- one more pilot is marked, at a
pub pilot_more : (d : Device) (p : Plan) (t u : ℕ → Bool) (a : ℕ) (m : List ℕ) → Fits d → Apart d p a → Cells d.subcarriers (with_pilots d p t) m
    → ((k : ℕ) → u k ≡ (t k || eqb k a)) → Cells d.subcarriers (with_pilots d p u) (set m a continuous_mark)
unfolding with_pilots
pilot_more d p t u a m fits w c more =
    cells_set d.subcarriers (with_pilots d p t) (with_pilots d p u) a continuous_mark m fits.few c w.inside
    (sym (λ j. first_mark (w.active j) (w.off j) ((more a ∙ ap (λ (b : Bool). t a || b) (eq-eqb a a refl) ∙ or_true (t a)) j)))
    (λ k n. sym (ap (first_mark (excluded p k) (in_plc d p k)) (more k ∙ ap (λ (b : Bool). t k || b) (ne_eqb k a n) ∙ or_false (t k))))

module _ (d : Device) (p : Plan) (l : ℕ) (w : Free d p l) where
  -- a predefined pilot stands where it may
  pub apart : (i : ℕ) → i < 8 → Apart d p (get_or (predefined d l) i 0)
  apart i h =
      let b = beside d l w.fits w.low i h in
      record {
        inside = omega (arith, b.to, w.high, w.fits.plc_high);
        active = around_active d p l w (get_or (predefined d l) i 0) b.from b.to;
        off = off_plc d p l w.plc (get_or (predefined d l) i 0) b.off;
      }

  -- the predefined pilots are in the array
  pub all_below : AllBelow capacity (predefined d l)
  all_below i h =
      let a = apart i (omega (arith, eight_long d l w.fits)) in
      omega (arith, a.inside, w.fits.few)

  -- the predefined pilots are marked
  pub pilots_marked : (old m : List ℕ) → Cells d.subcarriers (with_pilots d p (λ k. false)) old → Stamped continuous_mark (λ k. one_of k (predefined d l)) old m
      → Cells d.subcarriers (with_pilots d p (λ k. one_of k (predefined d p.plc))) m
  unfolding with_pilots
  pilots_marked old m c s =
      cells_stamp d.subcarriers (with_pilots d p (λ k. false)) (with_pilots d p (λ k. one_of k (predefined d p.plc))) continuous_mark (λ k. one_of k (predefined d l)) old m c s
      (λ k h e.
      let a = stands k (place (predefined d l) k e) in
      sym (λ j. first_mark (a.active j) (a.off j) ((sym (same k) ∙ e) j)))
      (λ k h e. sym (ap (first_mark (excluded p k) (in_plc d p k)) (sym (same k) ∙ e)))
    where
      same : (k : ℕ) → one_of k (predefined d l) ≡ one_of k (predefined d p.plc)
      same k = ap (λ (x : ℕ). one_of k (predefined d x)) w.plc

      stands : (k : ℕ) → Place (predefined d l) k → Apart d p k
      stands k q = subst (Apart d p) (sym q.is) (apart q.at (omega (arith, q.inside, eight_long d l w.fits)))
