-- `byteruns::bytes_sent` meets its contract: the claim is the law `left_bytes`. Assumes nothing.
use mathlib.Core.Path.{sym}
use Rattle.rules.specs.Device.{khz50}
use Rattle.byteruns.proofs.Sends.{left_bytes}
use Rattle.byteruns.proofs.bytes_sent.Goals as goal

pub returns : goal.returns
returns c = λ s e steps. sym (left_bytes khz50 s e steps)
