-- The cells whose subcarrier is scattered when they are sent, and the block of subcarriers that they are compared with. Assumes nothing.
use Rattle.std.specs.Prelude.{ℕ, ◌+◌, ◌%◌, ◌≤◌, ◌<◌, ◌≡◌, Bool, List, eqb, length, get_or}
use Rattle.rules.specs.Device.{phases}

-- the subcarrier kc p of cell p is scattered at the phase at which the cell is sent; base is L + 8 and the phase of the input symbol
unfoldable pub meets : ℕ → ℕ → List ℕ → ℕ → Bool
meets base m kc p = eqb (get_or kc p 0 % phases) ((base + p % m) % phases)

-- the subcarrier of cell b + i is the i-th wanted modulo 128
unfoldable pub like : List ℕ → List ℕ → ℕ → ℕ → Bool
like want kc b i = eqb (get_or kc (b + i) 0 % phases) (get_or want i 0)

-- what the first len cells want: len is so many whole turns of m
pub record Wanted (m base len : ℕ) (want : List ℕ) : Type 0 where
  pub long : length want ≡ 256
  pub some : 0 < len
  pub few : len ≤ 256
  pub whole : len % m ≡ 0
  pub each : (i : ℕ) → i < len → get_or want i 0 ≡ (base + i % m) % phases
