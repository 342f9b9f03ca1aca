-- `pilots::pilot_claims` meets its contract: the claims are proved in proofs/Truth. Assumes nothing.
use Prim.Native.Nat.{zero, suc}
use native.Mathlib.Omega.{arith}
use Rattle.rules.specs.Device.{khz50}
use Rattle.rules.proofs.Sizes.{khz50_fits}
use Rattle.pilots.specs.Claims.{Rising}
use Rattle.pilots.proofs.Truth.{pilot_claims}
use Rattle.pilots.proofs.pilot_claims.Goals as goal

-- 15, 24, 35 and 47
distances-rise : Rising khz50.distances
distances-rise zero h = omega arith
distances-rise (suc zero) h = omega arith
distances-rise (suc (suc zero)) h = omega arith
distances-rise (suc (suc (suc i))) h = absurd (omega arith)

pub returns : goal.returns
returns c = λ s. pilot_claims khz50 khz50_fits distances-rise s
