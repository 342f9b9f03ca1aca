-- The frame of an accepted plan is sound, and its data cells over all phases number 127 times N_I. Assumes nothing.
use Prim.Native.Nat.{ℕ, ◌≤◌, ◌<◌}
use mathlib.Core.Path.{◌≡◌, refl, sym, ap, ◌∙◌}
use mathlib.Core.Bool.{Bool, true, false, not, ◌&&◌, false≢true}
use mathlib.Core.List.{List}
use native.Mathlib.Omega.{arith}
use borrow.Author.Tests.{lt-ltb}
use Rattle.counting.specs.Search.{pick}
use Rattle.counting.proofs.Laws.{count_le}
use Rattle.rules.specs.declared.Device.{Device}
use Rattle.std.specs.Prelude.{Ok}
use Rattle.rules.specs.declared.Role.TheVariants.{Scattered, Data}
use Rattle.rules.specs.Device.{phases}
use Rattle.rules.specs.Plan.{Plan, plan_of}
use Rattle.rules.specs.Bands.{excluded, active}
use Rattle.rules.specs.Roles.{in_plc, continuous, scattered_at, role, ranked, first_role}
use Rattle.rules.specs.Grounds.{grounds1to15}
use Rattle.rules.specs.Frame.{frame_of, cells}
use Rattle.frame.specs.Counted.{is_data_role, Counts}
use Rattle.frame.proofs.House.{house_key_inj}
use Rattle.frame.proofs.Cells.{Sound}
use Rattle.frame.proofs.Counts.{ByRank, counts}
use Rattle.facts.proofs.Accepted.{depth_in}
use Rattle.facts.proofs.Scattered.{scattered_once}

-- the depth is at least 1 and at most the phases, and no two cells have the same key
pub sound : (d : Device) (s : List ℕ) → d.depth_max ≤ phases → grounds1to15 d s ≡ Ok tt → Sound (frame_of d (plan_of s))
unfolding frame_of
sound d s h fine = record {
  depth_pos = (depth_in d s fine).0;
  depth_le = omega (arith, (depth_in d s fine).1);
  key_inj = house_key_inj d.row_bits d.subcarriers (cells (frame_of d (plan_of s))) (unfold cells in count_le (ranked d (plan_of s)) d.subcarriers);
}

-- the first role that applies, of a subcarrier with a rank and of one without
rank_of_lem : Bool → Bool → Bool → Bool
rank_of_lem a b c = ((true && not a) && not b) && not c

role_is : (a b c e : Bool) → rank_of_lem a b c ≡ true → first_role a b c e ≡ pick e Scattered Data
unfolding rank_of_lem
role_is true b c e h = absurd (false≢true h)
role_is false true c e h = absurd (false≢true h)
role_is false false true e h = absurd (false≢true h)
role_is false false false true h = refl
role_is false false false false h = refl

data_ranked : (a b c e : Bool) → first_role a b c e ≡ Data → rank_of_lem a b c ≡ true
unfolding rank_of_lem
data_ranked true b c e h = absurd (false≢true (ap is_data_role h))
data_ranked false true c e h = absurd (false≢true (ap is_data_role h))
data_ranked false false true e h = absurd (false≢true (ap is_data_role h))
data_ranked false false false e h = refl

-- the roles of a plan's frame go by rank and pattern
module _ (d : Device) (p : Plan) where
  ranked_is : (k : ℕ) → k < d.subcarriers → ranked d p k ≡ rank_of_lem (excluded p k) (in_plc d p k) (continuous d p k)
  unfolding ranked active rank_of_lem
  ranked_is k l = λ i. ((lt-ltb k d.subcarriers l i && not (excluded p k)) && not (in_plc d p k)) && not (continuous d p k)

  -- neither excluded, PLC nor continuous
  pub free_ranked : (k : ℕ) → k < d.subcarriers → excluded p k ≡ false → in_plc d p k ≡ false → continuous d p k ≡ false → ranked d p k ≡ true
  unfolding rank_of_lem
  free_ranked k l a b c = ranked_is k l ∙ (λ i. rank_of_lem (a i) (b i) (c i))

  pub by_rank : ByRank (frame_of d p)
  unfolding frame_of role
  by_rank = record {
    role_is = λ j k l h. role_is (excluded p k) (in_plc d p k) (continuous d p k) (scattered_at d p j k) (sym (ranked_is k l) ∙ h);
    data_ranked = λ j k l h. ranked_is k l ∙ data_ranked (excluded p k) (in_plc d p k) (continuous d p k) (scattered_at d p j k) h;
  }

-- each subcarrier is scattered at one phase
pub counted : (d : Device) (s : List ℕ) → d.depth_max ≤ phases → grounds1to15 d s ≡ Ok tt → Counts (frame_of d (plan_of s))
unfolding frame_of
counted d s h fine = counts (frame_of d (plan_of s)) (sound d s h fine) (by_rank d (plan_of s)) (λ k l r. scattered_once d (plan_of s) k)
