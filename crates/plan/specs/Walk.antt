-- What is known while the loop goes along the chain. Assumes nothing.
use Rattle.std.specs.Prelude.{◌≡◌, Bool, ◌||◌, List, [], ◌++◌, map, ℕ, ◌+◌, ◌<◌, ◌≤◌, length, take}
use Rattle.counting.specs.Search.{keep, bit}
use Rattle.rules.specs.declared.Device.{Device}
use Rattle.rules.specs.Plan.{Entry, chain, chain_from, only, is_range, is_pilot}
use Rattle.rules.specs.Bands.{any, covers}
use Rattle.rules.specs.Grounds.{chain_grounds, pilots_max}
use Rattle.ranges.specs.Reach.{hit, Table, Flags, NotedIf}
use Rattle.chains.specs.Last.{last_of, last_index}

-- the grounds before the entries es of the chain do not hold, and the ranges and np pilots before es are in the tables
pub record Left (d : Device) (s : List ℕ) (r np : ℕ) (reach hot pil rec : List ℕ) (es : List Entry) : Type 0 where
  pub finding : chain_grounds d r 0 (chain s) ≡ chain_grounds d r np es
  pub table : Table reach d.subcarriers
  pub flags : Flags reach hot
  pub covered : (k : ℕ) → k < d.subcarriers → any (covers k) (only is_range (chain s)) ≡ (hit reach k || any (covers k) (only is_range es))
  pub nums : map (λ (e : Entry). e.low) (only is_pilot (chain s)) ≡ take np pil ++ map (λ (e : Entry). e.low) (only is_pilot es)
  pub recs : map (λ (e : Entry). e.index) (only is_pilot (chain s)) ≡ take np rec ++ map (λ (e : Entry). e.index) (only is_pilot es)
  pub few : np ≤ pilots_max
  pub lp : length pil ≡ 128
  pub lr : length rec ≡ 128

-- the loop stands at record i of r
pub record Kept (d : Device) (s : List ℕ) (r i np : ℕ) (reach hot pil rec : List ℕ) : Type 0 where
  pub here : i < r
  pub steps : ℕ
  pub enough : r ≤ steps + i
  pub left : Left d s r np reach hot pil rec (chain_from s r steps i)
  pub last : last_of i (chain_from s r steps i) ≡ last_index s

-- a record has been taken: if its next index is zero, the chain ends there, else the loop goes on at the next index
pub record Turned (d : Device) (s : List ℕ) (r i np next : ℕ) (reach hot pil rec : List ℕ) : Type 0 where
  pub last : next ≡ 0 → Left d s r np reach hot pil rec []
  pub here : next ≡ 0 → i ≡ last_index s
  pub rise : (next ≡ 0 → ⊥) → i < next
  pub on : (next ≡ 0 → ⊥) → Kept d s r next np reach hot pil rec

-- a number put behind the first np, if the test holds
pub record PutIf (t : Bool) (np v : ℕ) (old new : List ℕ) : Type 0 where
  pub front : take (np + bit t) new ≡ take np old ++ keep t v []
  pub size : length new ≡ 128

-- the entry e put into the tables after np pilots, which makes m
pub record Taken (size : ℕ) (e : Entry) (np m : ℕ) (reach₀ pil₀ rec₀ reach hot pil rec : List ℕ) : Type 0 where
  pub more : m ≡ np + bit (is_pilot e)
  pub noted : NotedIf (is_range e) size e.low (e.high + 1) reach₀ reach hot
  pub num : PutIf (is_pilot e) np e.low pil₀ pil
  pub place : PutIf (is_pilot e) np e.index rec₀ rec
