-- The 50 kHz device is roomy: 384 subcarriers of a wide band, covered by four windows of 120. Assumes nothing.
use native.Mathlib.Omega.{arith}
use Rattle.rules.specs.Device.{khz50}
use Rattle.facts.specs.Roomy.{Roomy}

pub khz50_roomy : Roomy khz50
khz50_roomy = record { depth = omega arith; turns = 3; windows = 4; wide = omega arith; inside = omega arith; covered = omega arith; room = omega arith }
