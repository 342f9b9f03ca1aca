-- What is claimed of the continuous pilots of a plan. Statements only. Assumes nothing.
use Rattle.std.specs.Prelude.{ℕ, suc, ◌+◌, ◌≤◌, ◌<◌, ◌≡◌, true, List, length, get_or, Ok}
use Rattle.rules.specs.declared.Device.{Device}
use Rattle.rules.specs.declared.Role.TheVariants.{Continuous}
use Rattle.rules.specs.Plan.{plan_of}
use Rattle.rules.specs.Roles.{role, one_of}
use Rattle.rules.specs.Grounds.{verdict}
use Rattle.pilots.specs.Pilots.{pilots_most, continuous_pilots}

-- each number of a list is less than the next
abbrev pub Rising : List ℕ → Type 0
Rising l = (i : ℕ) → suc i < length l → get_or l i 0 < get_or l (suc i) 0

module _ (d : Device) (s : List ℕ) where
  pub record PilotClaims : Type 0 where
    -- a subcarrier stands in the list exactly if it has the role continuous, at whatever phase j
    pub listed : (k j : ℕ) → k < d.subcarriers → role d (plan_of s) j k ≡ Continuous → one_of k (continuous_pilots d (plan_of s)) ≡ true
    pub has_role : (k j : ℕ) → one_of k (continuous_pilots d (plan_of s)) ≡ true → (k < d.subcarriers) × (role d (plan_of s) j k ≡ Continuous)
    -- each once, in rising order
    pub rising : Rising (continuous_pilots d (plan_of s))
    -- an accepted plan has eight, two for each distance, and one for each kind 3 record on the chain
    pub number : (n : ℕ) → verdict d s ≡ Ok n → length (continuous_pilots d (plan_of s)) ≡ length d.distances + length d.distances + length (plan_of s).pilots
    -- so they all have a place in the list of the answer
    pub enough : (n : ℕ) → verdict d s ≡ Ok n → length (continuous_pilots d (plan_of s)) ≤ pilots_most
