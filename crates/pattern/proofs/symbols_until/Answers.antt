-- `pattern::symbols_until` meets its contract. Assumes nothing.
use Prim.Native.Nat.{ℕ, ◌+◌, ◌-◌, ◌%◌}
use mathlib.Core.Path.{ap}
use Rattle.rules.specs.Device.{phases}
use Rattle.pattern.specs.Until.{symbols_until}
use Rattle.pattern.proofs.symbols_until.Goals as goal

pub returns : goal.returns
unfolding symbols_until
returns c = ap (λ (x : ℕ). (x + (phases - c.args.base % phases)) % phases) c.wide.ensures.0
