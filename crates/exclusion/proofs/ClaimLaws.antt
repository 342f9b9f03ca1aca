-- What is claimed of a trial, from the laws of the copy and of its answer. Assumes nothing.
use Prim.Native.Nat.{ℕ, ◌+◌, ◌≤◌, ◌<◌}
use mathlib.Core.Path.{◌≡◌, sym, ap, ◌∙◌}
use mathlib.Core.Bool.{not, ◌&&◌, and-true}
use mathlib.Core.List.{List}
use native.Mathlib.Omega.{arith}
use lib.ListN.{length}
use Rattle.counting.specs.Search.{bit, count}
use Rattle.counting.proofs.Bools.{by_test, and_false}
use Rattle.counting.proofs.Sums.{sum_cong}
use Rattle.rules.specs.declared.Device.{Device}
use Rattle.std.specs.Prelude.{Ok}
use Rattle.rules.specs.Plan.{plan_of}
use Rattle.rules.specs.Roles.{ranked, ranked_count}
use Rattle.rules.specs.Grounds.{grounds1to5, grounds1to15, verdict}
use Rattle.rules.proofs.Answered.{accepted_is}
use Rattle.copies.specs.Copy.{copy_with}
use Rattle.copylaws.specs.Entries.{within}
use Rattle.copylaws.proofs.Ranked as more
use Rattle.copylaws.proofs.Copy.{sized, copy_chain, copy_excluded, copy_plc, copy_depth, copy_pilots, copy_also}
use Rattle.exclusion.specs.Trial.{trial_verdict}
use Rattle.exclusion.specs.Claims.{CopyClaims, TrialClaims}
use Rattle.exclusion.proofs.Trials.{trial_copy, trial_full, trial_range, trial_judged, range_above, range_backward}

module _ (d : Device) (s : List ℕ) (a b : ℕ) (fine : grounds1to5 d s ≡ Ok tt) where
  still : (k : ℕ) → ranked d (plan_of (copy_with s a b)) k ≡ (ranked d (plan_of s) k && not (within a b k))
  still k =
      by_test (within a b k)
      (λ e. rw e (more.not_ranked d _ _ _ (copy_also d s a b fine) k e ∙ sym (and_false (ranked d (plan_of s) k))))
      (λ e. rw e (more.still_ranked d _ _ _ (copy_also d s a b fine) k e ∙ sym (and-true (ranked d (plan_of s) k))))

  counted : ranked_count d (plan_of (copy_with s a b)) ≡ count (λ k. ranked d (plan_of s) k && not (within a b k)) d.subcarriers
  unfolding ranked_count count
  counted = sum_cong (λ k. bit (ranked d (plan_of (copy_with s a b)) k)) (λ k. bit (ranked d (plan_of s) k && not (within a b k))) d.subcarriers (λ k l. ap bit (still k))

  copy_claims : CopyClaims d s a b
  copy_claims = record {
    same_chain = copy_chain d s a b fine;
    excludes = copy_excluded d s a b fine;
    same_plc = copy_plc d s a b fine;
    same_depth = copy_depth d s a b fine;
    same_records = copy_pilots d s a b fine;
    same_pilots = more.same_pilots d _ _ _ (copy_also d s a b fine);
    still_ranked = still;
  }

  room : length s < 4096 → length s + 8 ≤ 4096
  room l = omega (arith, (sized d s a b fine).whole)

  accepted : (n : ℕ) → trial_verdict d s a b ≡ Ok n → n ≡ ranked_count d (plan_of (copy_with s a b))
  unfolding verdict
  accepted n e = (accepted_is (grounds1to15 d (copy_with s a b)) n (ranked_count d (plan_of (copy_with s a b))) (sym e ∙ trial_copy d s a b fine)).1

  pub trial_claims : TrialClaims d s a b
  trial_claims = record {
    copy = copy_claims;
    accepted = λ n e. accepted n e ∙ counted;
    full = λ l. trial_full d s a b fine (omega arith);
    above = λ l h. trial_range d s a b fine (room l) (range_above d s a b h);
    backward = λ l h. trial_range d s a b fine (room l) (range_backward d s a b h);
    judged = λ l r t. trial_judged d s a b fine (room l) r t;
  }
