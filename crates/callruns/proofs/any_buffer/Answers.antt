-- `callruns::any_buffer` meets its contract: the claim is the law `any_buffer`. Assumes nothing.
use Rattle.rules.specs.Device.{khz50}
use Rattle.facts.proofs.Sizes.{khz50_roomy}
use Rattle.callruns.proofs.Calls.{any_buffer}
use Rattle.callruns.proofs.any_buffer.Goals as goal

pub returns : goal.returns
returns c = λ s. any_buffer khz50 s khz50_roomy
