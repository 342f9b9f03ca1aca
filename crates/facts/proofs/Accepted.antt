-- What no ground of 1 to 15 says of the numbers of a plan: its length, PLC, depth and pilots. Assumes nothing.
use mathlib.Core.Path.{◌≡◌, refl}
use mathlib.Core.Bool.{true, false}
use mathlib.Core.List.{List, map}
use Prim.Native.Nat.{ℕ, ◌/◌, ◌≤◌, ◌<◌}
use native.Mathlib.Omega.{arith}
use lib.ListN.{length, get_or}
use Rattle.counting.specs.Search.{when, is_none}
use Rattle.rules.specs.declared.Device.{Device}
use Rattle.std.specs.Prelude.{Ok, Option, Some, None}
use Rattle.rules.specs.Plan.{Entry, plan_of, chain, entry, is_plc}
use Rattle.rules.specs.Grounds.{ground?, bad_length, pilots_max, chain_grounds, grounds1to5, grounds6to15, grounds1to15}
use Rattle.rules.proofs.Findings.{not_fine, both_fine, when_fine}
use Rattle.records.proofs.RecordLaws as record-laws
use Rattle.plan.proofs.NotedLaws as Chain-laws

pub ground_none : (n : ℕ) (o : Option ℕ) → ground? n o ≡ Ok tt → is_none o ≡ true
ground_none n None e = refl
ground_none n (Some k) e = absurd (not_fine e)

module _ (d : Device) (s : List ℕ) (fine : grounds1to15 d s ≡ Ok tt) where
  stages : (grounds1to5 d s ≡ Ok tt) × (grounds6to15 d (plan_of s) ≡ Ok tt)
  unfolding grounds1to15
  stages = both_fine (grounds1to5 d s) (grounds6to15 d (plan_of s)) fine

  pub later_fine : grounds6to15 d (plan_of s) ≡ Ok tt
  later_fine = stages.1

  chain_stages : (ground? 1 (when (bad_length s) 0) ≡ Ok tt) × (chain_grounds d (length s / 8) 0 (chain s) ≡ Ok tt)
  unfolding grounds1to5
  chain_stages = both_fine (ground? 1 (when (bad_length s) 0)) (chain_grounds d (length s / 8) 0 (chain s)) stages.0

  pub good_length : bad_length s ≡ false
  good_length = when_fine 1 0 (bad_length s) chain_stages.0

  pub long : 8 ≤ length s
  long = (record-laws.length_fine s good_length).some

  some_record : 0 < length s / 8
  some_record = omega (arith, long)

  -- record 0 is of kind 1
  pub plc_record : is_plc (entry s 0) ≡ true
  unfolding chain
  plc_record = (Chain-laws.first_fine d s (length s / 8) some_record chain_stages.1).1

  pub plc_in : (d.low_plc ≤ (plan_of s).plc) × ((plan_of s).plc ≤ d.high_plc)
  unfolding plan_of chain
  plc_in = Chain-laws.plc_in d s (length s / 8) some_record chain_stages.1

  pub depth_in : (0 < (plan_of s).depth) × ((plan_of s).depth ≤ d.depth_max)
  unfolding plan_of chain
  depth_in = Chain-laws.depth_in d s (length s / 8) some_record chain_stages.1

  pub few_pilots : length (plan_of s).pilots ≤ pilots_max
  unfolding plan_of
  few_pilots = omega (arith, Chain-laws.pilots_few d (length s / 8) 0 (chain s) chain_stages.1 (omega arith))

  -- a further pilot is one of the device's subcarriers
  pub pilots_below : (q : ℕ) → q < length (map (λ (e : Entry). e.low) (plan_of s).pilots) → get_or (map (λ (e : Entry). e.low) (plan_of s).pilots) q 0 < d.subcarriers
  unfolding plan_of
  pilots_below = Chain-laws.pilots_in d (length s / 8) 0 (chain s) chain_stages.1
