-- The stages in which the marks are painted, and what the loops over the array find. Assumes nothing.
use Rattle.std.specs.Prelude.{ℕ, ◌≤◌, ◌<◌, ◌≡◌, Bool, true, false, not, ◌&&◌, List, map, leb, ltb, length, get_or, take, None, Some, Option}
use Rattle.rules.specs.declared.Device.{Device}
use Rattle.rules.specs.Plan.{Entry, Plan}
use Rattle.rules.specs.Bands.{excluded}
use Rattle.rules.specs.Roles.{one_of, predefined, in_plc, first_mark}
use Rattle.rules.specs.Grounds.{around_plc, pilots_max}
use Rattle.rules.specs.Fits.{Fits, capacity}
use Rattle.marks.specs.Marked.{Cells, Marked}

-- k is one of a to b - 1
abbrev pub between : ℕ → ℕ → ℕ → Bool
between a b k = leb a k && ltb k b

-- the cells of which the test holds hold v, the others what they held
pub record Stamped (v : ℕ) (t : ℕ → Bool) (old new : List ℕ) : Type 0 where
  pub long : length new ≡ capacity
  pub here : (k : ℕ) → t k ≡ true → get_or new k 0 ≡ v
  pub other : (k : ℕ) → t k ≡ false → get_or new k 0 ≡ get_or old k 0

-- the numbers of a list are below n
abbrev pub AllBelow : ℕ → List ℕ → Type 0
AllBelow n xs = (i : ℕ) → i < length xs → get_or xs i 0 < n

-- r is the first from a to b - 1 of which the test answers t; b if there is none
pub record FirstOf (t : Bool) (e : ℕ → Bool) (a b r : ℕ) : Type 0 where
  pub low : a ≤ r
  pub high : r ≤ b
  pub none : (k : ℕ) → a ≤ k → k < r → e k ≡ not t
  pub some : r < b → e r ≡ t

-- the first stage: the excluded mark where the test holds
unfoldable pub painted : (ℕ → Bool) → ℕ → ℕ
painted e k = first_mark (e k) false false

-- a later stage: the excluded and the PLC are marked, and so far those pilots of which the test holds
unfoldable pub with_pilots : Device → Plan → (ℕ → Bool) → ℕ → ℕ
with_pilots d p t k = first_mark (excluded p k) (in_plc d p k) (t k)

-- L is in its range, and no subcarrier around the PLC is excluded
pub record Free (d : Device) (p : Plan) (l : ℕ) : Type 0 where
  pub fits : Fits d
  pub plc : l ≡ p.plc
  pub low : d.low_plc ≤ l
  pub high : l ≤ d.high_plc
  pub around : None ≡ around_plc d p

-- the excluded, the PLC and the predefined pilots are marked, and the numbers and records of the np kind 3 pilots are in arrays
pub record Placed (d : Device) (p : Plan) (pil rec : List ℕ) (np : ℕ) (m : List ℕ) : Type 0 where
  pub fits : Fits d
  pub cells : Cells d.subcarriers (with_pilots d p (λ k. one_of k (predefined d p.plc))) m
  pub below : (q : ℕ) → q < np → get_or pil q 0 < d.subcarriers
  pub nums : map (λ (e : Entry). e.low) p.pilots ≡ take np pil
  pub recs : map (λ (e : Entry). e.index) p.pilots ≡ take np rec
  pub few : np ≤ pilots_max
  pub lp : length pil ≡ 128
  pub lr : length rec ≡ 128

-- the marks after the kind 3 pilots: all are there where no pilot clashes
abbrev pub AfterPilots : Option ℕ → Device → Plan → List ℕ → Type 0
AfterPilots (Some k) d p m = length m ≡ capacity
AfterPilots None d p m = Marked d p m
