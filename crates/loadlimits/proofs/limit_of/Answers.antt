-- `loadlimits::limit_of` meets its contract. Assumes nothing.
use mathlib.Core.Path.{◌≡◌, refl, sym, ◌∙◌}
use mathlib.Core.Bool.{true, false}
use native.Mathlib.Omega.{arith}
use lib.Pow.{pow_mono}
use Rattle.points.specs.Points.{load_listed}
use Rattle.points.proofs.BackLaws.{at_most}
use Rattle.loadlimits.specs.Limits.{limit_of}
use Rattle.loadlimits.proofs.limit_of.Goals as goal
use Rattle.loadlimits.proofs.limit_of.Goals.{Else-not-load_listed}

-- where the load has been tried, it is listed
tried : (c : Else-not-load_listed) → load_listed c.args.load ≡ true
tried c = sym c.load_listed.ensures ∙ c.if-not-load_listed.false

pub returns-then-not-load_listed : goal.returns-then-not-load_listed
unfolding limit_of
returns-then-not-load_listed c =
    let t : load_listed c.args.load ≡ false = sym c.load_listed.ensures ∙ c.if-not-load_listed.true in
    rw t refl

pub power-requires : goal.power-requires
power-requires c = at_most c.args.load (tried c)

pub overflow_cast-result : goal.overflow_cast-result
overflow_cast-result c = omega (arith, c.power.ensures, pow_mono (at_most c.args.load (tried (goal.at.overflow_cast-result c).Else-not-load_listed)))

pub returns : goal.returns
unfolding limit_of
returns c = rw (tried (goal.at.returns c).Else-not-load_listed) c.power.ensures
