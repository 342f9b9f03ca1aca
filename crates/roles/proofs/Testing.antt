-- The role test: whether a subcarrier is in the PLC, what its mark says of it, and the role from the tests in their order. Assumes nothing.
use Prim.Native.Nat.{ℕ, ◌+◌, ◌%◌, ◌≤◌, ◌<◌}
use mathlib.Core.Path.{◌≡◌, refl, sym, ap, ap₂, ◌∙◌}
use mathlib.Core.Logic.{◌⊎◌, inl, inr}
use mathlib.Core.Bool.{Bool, true, false, ◌&&◌, ◌||◌}
use native.Mathlib.Omega.{arith}
use lib.Dec.{leb, ltb, eqb}
use borrow.Author.Tests.{lt-ltb, le-ltb, le-leb, lt-leb}
use Rattle.counting.proofs.Bools.{and_false, decide_bool}
use Rattle.rules.specs.declared.Device.{Device}
use Rattle.rules.specs.Device.{phases}
use Rattle.rules.specs.Plan.{Plan}
use Rattle.rules.specs.Bands.{any, excluded}
use Rattle.rules.specs.Roles.{one_of, predefined, names, in_plc, continuous, scattered_at, role, mark, excluded_mark, continuous_mark, first_mark, first_role}

-- k in the PLC, and k outside it
pub in_plc_lem : (d : Device) (p : Plan) (l : ℕ) → l ≡ p.plc → (k : ℕ) → l ≤ k → k < l + d.plc_width → in_plc d p k ≡ true
unfolding in_plc
in_plc_lem d p l e k a b = ap₂ (λ (x y : Bool). x && y) (le-leb p.plc k (omega arith)) (lt-ltb k (p.plc + d.plc_width) (omega arith))

pub off_plc : (d : Device) (p : Plan) (l : ℕ) → l ≡ p.plc → (k : ℕ) → (k < l) ⊎ (l + d.plc_width ≤ k) → in_plc d p k ≡ false
unfolding in_plc
off_plc d p l e k (inl a) = ap (λ (x : Bool). x && ltb k (p.plc + d.plc_width)) (lt-leb p.plc k (omega arith))
off_plc d p l e k (inr b) = ap (λ (x : Bool). leb p.plc k && x) (le-ltb k (p.plc + d.plc_width) (omega arith)) ∙ and_false (leb p.plc k)

marked_excluded : (a b c : Bool) → first_mark a b c ≡ excluded_mark → a ≡ true
marked_excluded true b c e = refl
marked_excluded false true c e = absurd (omega arith)
marked_excluded false false true e = absurd (omega arith)
marked_excluded false false false e = absurd (omega arith)

marked_pilot : (c : Bool) → first_mark false false c ≡ continuous_mark → c ≡ true
marked_pilot true e = refl
marked_pilot false e = absurd (omega arith)

module _ (d : Device) (p : Plan) where
  -- the mark and the role, as functions of the tests alone
  pub mark_is : (k : ℕ) → mark d p k ≡ first_mark (excluded p k) (in_plc d p k) (continuous d p k)
  unfolding mark
  mark_is k = refl

  pub role_is : (j k : ℕ) (a b c e : Bool) → excluded p k ≡ a → in_plc d p k ≡ b → continuous d p k ≡ c → scattered_at d p j k ≡ e → first_role a b c e ≡ role d p j k
  unfolding role
  role_is j k a b c e x y z w = sym (λ i. first_role (x i) (y i) (z i) (w i))

  -- a predefined pilot is continuous
  pub among_pilots : (k : ℕ) → one_of k (predefined d p.plc) ≡ true → continuous d p k ≡ true
  unfolding continuous
  among_pilots k e = ap (λ (b : Bool). b || any (names k) p.pilots) e

  module _ (k m : ℕ) (is : m ≡ mark d p k) where
    pub told_excluded : m ≡ excluded_mark → excluded p k ≡ true
    told_excluded e = marked_excluded (excluded p k) (in_plc d p k) (continuous d p k) (sym (mark_is k) ∙ sym is ∙ e)

    pub told_active : (m ≡ excluded_mark → ⊥) → excluded p k ≡ false
    told_active n = go (decide_bool (excluded p k))
      where
        go : (excluded p k ≡ true) ⊎ (excluded p k ≡ false) → excluded p k ≡ false
        go (inl e) = absurd (n (is ∙ mark_is k ∙ ap (λ (b : Bool). first_mark b (in_plc d p k) (continuous d p k)) e))
        go (inr e) = e

    module _ (active : excluded p k ≡ false) (off : in_plc d p k ≡ false) where
      pilot_mark : m ≡ first_mark false false (continuous d p k)
      pilot_mark = is ∙ mark_is k ∙ ap₂ (λ (a b : Bool). first_mark a b (continuous d p k)) active off

      pub told_pilot : m ≡ continuous_mark → continuous d p k ≡ true
      told_pilot e = marked_pilot (continuous d p k) (sym pilot_mark ∙ e)

      pub told_ranked : (m ≡ continuous_mark → ⊥) → continuous d p k ≡ false
      told_ranked n = go (decide_bool (continuous d p k))
        where
          go : (continuous d p k ≡ true) ⊎ (continuous d p k ≡ false) → continuous d p k ≡ false
          go (inl e) = absurd (n (pilot_mark ∙ ap (first_mark false false) e))
          go (inr e) = e

  -- the test of the scattered pilots, as the code makes it
  pub scattered_is : (l : ℕ) → l ≡ p.plc → (j k : ℕ) (b : Bool) → eqb (k % phases) ((l + d.plc_width + j) % phases) ≡ b → scattered_at d p j k ≡ b
  unfolding scattered_at
  scattered_is l e j k b h = ap (λ (x : ℕ). eqb (k % phases) ((x + d.plc_width + j) % phases)) (sym e) ∙ h
