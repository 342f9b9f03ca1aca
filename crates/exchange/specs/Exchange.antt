-- A pass over a store of places that lets the oldest cells out and the cells of a symbol in. Assumes nothing.
use Rattle.std.specs.Prelude.{ℕ, ◌+◌, ◌-◌, ◌%◌, ◌≤◌, ◌<◌, ◌≡◌, Bool, true, false, List, length, get_or}
use Rattle.rules.specs.Fits.{capacity}
use Rattle.rules.specs.Places.{emitter_delay, receiver_delay, places_before, oldest, moved}

-- ---- the delays at an end: the emitter's, or the receiver's

abbrev pub end_delay : Bool → ℕ → ℕ → ℕ
end_delay true m p = emitter_delay m p
end_delay false m p = receiver_delay m p

-- In each group of m cells one has no place, an emitter's first, a receiver's last. The first cell that has one, its delay, and the delay after
-- the delay d:
abbrev pub first_cell : Bool → ℕ
first_cell true = 1
first_cell false = 0

abbrev pub first_delay : Bool → ℕ → ℕ
first_delay true m = 1
first_delay false m = m - 1

abbrev pub next_delay : Bool → ℕ → ℕ
next_delay true d = d + 1
next_delay false d = d - 1

-- ---- the pass

-- A pass over the store s₀ and the cells x₀ has come to cell p, after `at` places. The oldest of each cell before has gone out. Each cell that came
-- in stands one place past its own, where the places of the next cell begin, and `last` is still to be stored: once the store goes one place down
-- and `last` takes the last place passed, it is the store after the step.
pub record Exchanged (d : ℕ → ℕ) (s₀ x₀ : List ℕ) (p : ℕ) (s x : List ℕ) (at last : ℕ) : Type 0 where
  pub start : at ≡ places_before d p
  pub places : length s ≡ length s₀
  pub cells : length x ≡ length x₀
  pub sent : (q : ℕ) → q < p → get_or x q 0 ≡ get_or (oldest d p s₀ x₀) q 0
  pub later : (q : ℕ) → p ≤ q → get_or x q 0 ≡ get_or x₀ q 0
  pub stored : (k : ℕ) → k + 1 < at → get_or s (k + 1) 0 ≡ get_or (moved d p s₀ x₀) k 0
  pub newest : (k : ℕ) → k + 1 ≡ at → last ≡ get_or (moved d p s₀ x₀) k 0
  pub ahead : (k : ℕ) → at ≤ k → get_or s k 0 ≡ get_or s₀ k 0

-- a part of a pass, from cell p to cell q
pub record Passes (d : ℕ → ℕ) (p : ℕ) (s x : List ℕ) (at last : ℕ) (q : ℕ) (s' x' : List ℕ) (at' last' : ℕ) : Type 0 where
  pub places : length s' ≡ length s
  pub cells : length x' ≡ length x
  pub exchanged : (s₀ x₀ : List ℕ) → Exchanged d s₀ x₀ p s x at last → Exchanged d s₀ x₀ q s' x' at' last'

-- A pass over cells b to e - 1, of one group of m, stands at cell p. Cell b is the first of the group that has a place. Cell p has the delay d, its
-- places begin at `at`, and the places of all lie within the store.
pub record At (emitter : Bool) (m b e : ℕ) (s x : List ℕ) (p d at : ℕ) : Type 0 where
  pub some : 1 < m
  pub most : m ≤ capacity
  pub begins : b % m ≡ first_cell emitter
  pub end : e + 1 ≤ b + m
  pub from : b ≤ p
  pub to : p ≤ e
  pub delay : p < e → d ≡ end_delay emitter m p
  pub start : at ≡ places_before (end_delay emitter m) p
  pub cells : e ≤ length x
  pub few : length x ≤ capacity
  pub places : places_before (end_delay emitter m) e ≤ length s
