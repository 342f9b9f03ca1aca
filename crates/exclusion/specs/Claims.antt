-- What a planner may believe of a trial (document 02, Req 05): what the copy says, beside the plan, and what is answered of it. Statements
-- only, of a plan s that no ground of 1 to 5 refuses, on any device. Assumes nothing.
use Rattle.std.specs.Prelude.{ℕ, ◌/◌, ◌≤◌, ◌<◌, ◌≡◌, not, ◌&&◌, ◌||◌, List, [], ◌∷◌, ◌++◌, map, length, Ok}
use Rattle.counting.specs.Search.{count}
use Rattle.rules.specs.declared.Device.{Device}
use Rattle.rules.specs.Refusals.{refused_by}
use Rattle.rules.specs.Plan.{chain, plan_of}
use Rattle.rules.specs.Bands.{excluded}
use Rattle.rules.specs.Roles.{continuous, ranked, ranked_count}
use Rattle.rules.specs.Grounds.{grounds6to15, answer}
use Rattle.copies.specs.Copy.{plan_max, copy_with}
use Rattle.copylaws.specs.Entries.{within, range_entry, unlinked}
use Rattle.exclusion.specs.Trial.{trial_verdict}

-- ---- the copy

pub record CopyClaims (d : Device) (s : List ℕ) (first last : ℕ) : Type 0 where
  -- its chain is the plan's, but for next indices, and then the new record
  pub same_chain : map unlinked (chain (copy_with s first last)) ≡ map unlinked (chain s) ++ range_entry (length s / 8) first last ∷ []
  -- it excludes what the plan excludes and the range, and nothing else
  pub excludes : (k : ℕ) → excluded (plan_of (copy_with s first last)) k ≡ (excluded (plan_of s) k || within first last k)
  -- L and M are the plan's
  pub same_plc : (plan_of (copy_with s first last)).plc ≡ (plan_of s).plc
  pub same_depth : (plan_of (copy_with s first last)).depth ≡ (plan_of s).depth
  -- its kind 3 records are the plan's, and so are all continuous pilots
  pub same_records : map unlinked (plan_of (copy_with s first last)).pilots ≡ map unlinked (plan_of s).pilots
  pub same_pilots : (k : ℕ) → continuous d (plan_of (copy_with s first last)) k ≡ continuous d (plan_of s) k
  -- a subcarrier has a rank exactly if it has one in the plan and is not in the range
  pub still_ranked : (k : ℕ) → ranked d (plan_of (copy_with s first last)) k ≡ (ranked d (plan_of s) k && not (within first last k))

-- ---- the answer

pub record TrialClaims (d : Device) (s : List ℕ) (first last : ℕ) : Type 0 where
  pub copy : CopyClaims d s first last
  -- where accepted, N_I is the number of subcarriers that still have a rank
  pub accepted : (n : ℕ) → trial_verdict d s first last ≡ Ok n → n ≡ count (λ k. ranked d (plan_of s) k && not (within first last k)) d.subcarriers
  -- a full plan has no room for the record
  pub full : plan_max ≤ length s → trial_verdict d s first last ≡ refused_by 1 0
  -- else a range that ends above the last subcarrier, or begins above its end, is refused at the new record
  pub above : length s < plan_max → d.subcarriers ≤ last → trial_verdict d s first last ≡ refused_by 4 (length s / 8)
  pub backward : length s < plan_max → last < first → trial_verdict d s first last ≡ refused_by 4 (length s / 8)
  -- and any other range is judged by 6 to 15
  pub judged : length s < plan_max → first ≤ last → last < d.subcarriers
      → trial_verdict d s first last ≡ answer (grounds6to15 d (plan_of (copy_with s first last))) (ranked_count d (plan_of (copy_with s first last)))
