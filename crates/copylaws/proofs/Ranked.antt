-- N_I of a plan that excludes more than another, and is the same otherwise. Assumes nothing.
use Prim.Native.Nat.{ℕ, ◌+◌}
use mathlib.Core.Path.{◌≡◌, refl, sym, ap, ◌∙◌}
use mathlib.Core.Bool.{Bool, true, false, not, ◌&&◌, ◌||◌}
use native.Mathlib.Omega.{arith}
use lib.Dec.{ltb}
use Rattle.counting.specs.Search.{bit, count}
use Rattle.counting.proofs.Bools.{by_test, or_true, or_false, and_false}
use Rattle.counting.proofs.Sums.{sum_add, sum_cong}
use Rattle.rules.specs.declared.Device.{Device}
use Rattle.rules.specs.Plan.{Plan}
use Rattle.rules.specs.Bands.{any, excluded, active}
use Rattle.rules.specs.Roles.{names, in_plc, continuous, ranked, ranked_count}

-- p has the PLC of q, its pilots name the same subcarriers, and it also excludes those that pass the test
pub record Also (p q : Plan) (t : ℕ → Bool) : Type 0 where
  pub plc : p.plc ≡ q.plc
  pub named : (k : ℕ) → any (names k) p.pilots ≡ any (names k) q.pilots
  pub more : (k : ℕ) → excluded p k ≡ (excluded q k || t k)

module _ (d : Device) (p q : Plan) (t : ℕ → Bool) (m : Also p q t) where
  same_plc : (k : ℕ) → in_plc d p k ≡ in_plc d q k
  unfolding in_plc
  same_plc k = rw m.plc refl

  pub same_pilots : (k : ℕ) → continuous d p k ≡ continuous d q k
  unfolding continuous
  same_pilots k = rw (m.plc, m.named k) refl

  kept : (a b i c : Bool) → ((a && not (b || false)) && not i && not c) ≡ ((a && not b) && not i && not c)
  kept a b i c = rw (or_false b) refl

  lost : (a b i c : Bool) → ((a && not (b || true)) && not i && not c) ≡ false
  lost a b i c = rw (or_true b, and_false a) refl

  at_test : (k : ℕ) → ranked d p k ≡ ((ltb k d.subcarriers && not (excluded q k || t k)) && not (in_plc d q k) && not (continuous d q k))
  unfolding ranked active
  at_test k = rw (m.more k, same_plc k, same_pilots k) refl

  pub still_ranked : (k : ℕ) → t k ≡ false → ranked d p k ≡ ranked d q k
  unfolding ranked active
  still_ranked k e = at_test k ∙ ap (λ (b : Bool). (ltb k d.subcarriers && not (excluded q k || b)) && not (in_plc d q k) && not (continuous d q k)) e ∙ kept (ltb k d.subcarriers) (excluded q k) (in_plc d q k) (continuous d q k)

  pub not_ranked : (k : ℕ) → t k ≡ true → ranked d p k ≡ false
  not_ranked k e = at_test k ∙ ap (λ (b : Bool). (ltb k d.subcarriers && not (excluded q k || b)) && not (in_plc d q k) && not (continuous d q k)) e ∙ lost (ltb k d.subcarriers) (excluded q k) (in_plc d q k) (continuous d q k)

  -- N_I falls by as many as lose their rank
  pub fewer_ranked : ranked_count d p + count (λ k. t k && ranked d q k) d.subcarriers ≡ ranked_count d q
  unfolding ranked_count count
  fewer_ranked =
      sym (sum_add (λ k. bit (ranked d p k)) (λ k. bit (t k && ranked d q k)) d.subcarriers)
      ∙ sum_cong (λ k. bit (ranked d p k) + bit (t k && ranked d q k)) (λ k. bit (ranked d q k)) d.subcarriers
      (λ k l. by_test (t k)
      (λ e. rw (not_ranked k e, e) (omega arith))
      (λ e. rw (still_ranked k e, e) (omega arith)))
