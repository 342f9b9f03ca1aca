-- `values::joined` meets its contract. Assumes nothing.
use Prim.Native.Nat.{◌≤◌, ◌+◌}
use mathlib.Core.Path.{refl}
use native.Mathlib.Omega.{arith}
use lib.Pow.{pow_mono, shl_lt}
use Rattle.gray.specs.Positions.{bits_of}
use Rattle.gray.proofs.Signs.{known}
use Rattle.gray.proofs.GrayLaws.{bits_of_lt}
use Rattle.points.proofs.PointLaws.{sum_lt}
use Rattle.values.proofs.joined.Goals as goal

pub overflow_mul-result : goal.overflow_mul-result
overflow_mul-result c =
    let s = c in
    let j = s.args.j in
    let n = s.args.n in
    let h = known (bits_of j) s.args.high s.ranges.high c.gray_bits.ensures in
    let l = shl_lt j n (bits_of_lt j s.args.high s.requires.1) in
    let e : j + n ≤ 14 = omega (arith, s.requires.0, s.requires.2) in
    rw (h, c.power.ensures) record { fits = omega (arith, l, pow_mono e) }

pub overflow_add-result : goal.overflow_add-result
overflow_add-result c =
    let s = c in
    let j = s.args.j in
    let n = s.args.n in
    let h = known (bits_of j) s.args.high s.ranges.high c.gray_bits.ensures in
    let l = known (bits_of n) s.args.low s.ranges.low c.gray_bits-2.ensures in
    let t = sum_lt j n (bits_of n s.args.low) (bits_of j s.args.high) (bits_of_lt j s.args.high s.requires.1) (bits_of_lt n s.args.low s.requires.3) in
    let e : j + n ≤ 14 = omega (arith, s.requires.0, s.requires.2) in
    rw (h, l, c.power.ensures) record { fits = omega (arith, t, pow_mono e) }

pub returns : goal.returns
returns c =
    let s = c in
    let h = known (bits_of s.args.j) s.args.high s.ranges.high c.gray_bits.ensures in
    let l = known (bits_of s.args.n) s.args.low s.ranges.low c.gray_bits-2.ensures in
    rw (h, l, c.power.ensures) refl
