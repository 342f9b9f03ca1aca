-- `modulator::point_load` meets its contract. Assumes nothing.
use mathlib.Core.Path.{◌≡◌, refl}
use native.Mathlib.Omega.{arith}
use Rattle.rules.specs.Loads.{point_load}
use Rattle.modulator.proofs.ProfileLaws.{same_load}
use Rattle.modulator.proofs.point_load.Goals as goal

pub returns-then-load-eq0 : goal.returns-then-load-eq0
unfolding point_load
returns-then-load-eq0 c = let e : c.args.load ≡ 0 = omega (arith, c.if-load-eq0.true) in rw e refl

pub returns : goal.returns
returns c = same_load c.args.load (λ e. omega (arith, c.if-load-eq0.false))
