-- The first n places of an array of 4,096 zeros. Assumes nothing.
use Prim.Native.Nat.{ℕ, ◌≤◌}
use mathlib.Core.Path.{◌≡◌}
use native.Mathlib.Omega.{arith}
use lib.ListN.{length, take, replicate, length-replicate}
use lib.Seq.{length-take-le}
use Rattle.rules.specs.Fits.{capacity}

pub part_size : (n : ℕ) → n ≤ capacity → length {A = ℕ} (take n (replicate capacity 0)) ≡ n
part_size n h = length-take-le n (replicate capacity 0) (omega (arith, length-replicate {A = ℕ} capacity 0))
