-- `why::scattered_phase` meets its contract. Assumes nothing.
use Prim.Native.Nat.{ℕ, ◌+◌}
use mathlib.Core.Path.{sym, ap, ◌∙◌}
use native.Mathlib.Omega.{arith}
use Rattle.rules.specs.Plan.{plan_of}
use Rattle.facts.proofs.Accepted.{long}
use Rattle.pattern.specs.Until.{symbols_until}
use Rattle.pattern.proofs.Once.{until_below}
use Rattle.reasons.proofs.Phases.{scattered_phase_is}
use Rattle.why.proofs.scattered_phase.Goals as goal

pub number_at-l-requires : goal.number_at-l-requires
number_at-l-requires c = let g = c in omega (arith, long g.args.d g.args.plan.now g.requires.1)

pub overflow_cast-result : goal.overflow_cast-result
overflow_cast-result c = omega (arith, c.symbols_until.ensures, until_below (c.number_at-l.result + c.args.d.plc_width) c.args.k)

pub returns : goal.returns
unfolding plan_of
returns c =
    let g = c in
    c.symbols_until.ensures ∙ ap (λ (l : ℕ). symbols_until (l + g.args.d.plc_width) g.args.k) c.number_at-l.ensures.0
    ∙ sym (scattered_phase_is g.args.d g.args.plan.now g.args.k g.requires.2 g.requires.3)
