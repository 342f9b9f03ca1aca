-- `callruns::zero_is_warming` meets its contract: the claim is the law `zero_is_warming`. Assumes nothing.
use Rattle.rules.specs.Device.{khz50}
use Rattle.facts.proofs.Sizes.{khz50_roomy}
use Rattle.callruns.proofs.Warming.{zero_is_warming}
use Rattle.callruns.proofs.zero_is_warming.Goals as goal

pub returns : goal.returns
returns c = λ s. zero_is_warming khz50 s khz50_roomy
