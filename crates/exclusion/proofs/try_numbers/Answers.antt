-- `exclusion::try_numbers` meets its contract. Assumes nothing.
use mathlib.Core.Path.{ap₂, ◌∙◌}
use native.Mathlib.Omega.{arith}
use Prim.Native.Nat.{ℕ}
use Rattle.rules.specs.Device.{khz50}
use Rattle.exclusion.specs.Trial.{trial_verdict}
use Rattle.exclusion.proofs.Trials.{held_trial}
use Rattle.exclusion.proofs.try_numbers.Goals as goal

pub returns : goal.returns
returns c =
    let g = c in
    c.try_exclusion.ensures
    ∙ ap₂ (λ (a b : ℕ). trial_verdict khz50 g.args.plan.now a b) c.held.ensures c.held-2.ensures
    ∙ held_trial khz50 g.args.plan.now (omega arith) g.args.first g.args.last
