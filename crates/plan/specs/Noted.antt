-- What the walk along the chain answers, and what the tables hold after it. Assumes nothing.
use Rattle.std.specs.Prelude.{◌≡◌, List, map, ℕ, ◌<◌, ◌≤◌, length, get_or, take, Result, Ok, Err}
use Rattle.rules.specs.declared.Device.{Device}
use Rattle.rules.specs.declared.Refusal.{Refusal}
use Rattle.rules.specs.Refusals.{Finding}
use Rattle.rules.specs.Plan.{Entry, plan_of}
use Rattle.rules.specs.Bands.{excluded}
use Rattle.ranges.specs.Reach.{hit, Table, Flags}
use Rattle.chains.specs.Last.{last_index}
use Rattle.plan.specs.declared.GoodChain.{GoodChain}

abbrev pub finding_of : Result GoodChain Refusal → Finding
finding_of (Ok c) = Ok tt
finding_of (Err r) = Err r

-- after a good chain with np pilots: the table of ranges covers what is excluded, and the lists hold the pilots and their records
pub record Noted (d : Device) (s : List ℕ) (np : ℕ) (reach hot pil rec : List ℕ) : Type 0 where
  pub long : 8 ≤ length s
  pub table : Table reach d.subcarriers
  pub flags : Flags reach hot
  pub covered : (k : ℕ) → k < d.subcarriers → hit reach k ≡ excluded (plan_of s) k
  pub nums : map (λ (e : Entry). e.low) (plan_of s).pilots ≡ take np pil
  pub recs : map (λ (e : Entry). e.index) (plan_of s).pilots ≡ take np rec
  pub below : (q : ℕ) → q < np → get_or pil q 0 < d.subcarriers
  pub few : np ≤ 120
  pub lp : length pil ≡ 128
  pub lr : length rec ≡ 128
  pub plc_low : d.low_plc ≤ (plan_of s).plc
  pub plc_high : (plan_of s).plc ≤ d.high_plc

-- the tables, and the last record of the chain; nothing is said of either where a ground holds
abbrev pub Filled : Result GoodChain Refusal → Device → List ℕ → List ℕ → List ℕ → List ℕ → List ℕ → Type 0
Filled (Ok c) d s reach hot pil rec = Noted d s c.pilots reach hot pil rec × (c.last ≡ last_index s)
Filled (Err r) d s reach hot pil rec = Unit {0}
