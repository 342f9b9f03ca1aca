-- `lampgrounds::open_step` meets its contract. Assumes nothing.
use native.Mathlib.Omega.{arith}
use Rattle.pilots.proofs.Numbers.{few}
use Rattle.lampgrounds.proofs.Opened.{accepted_plan, open_refused}
use Rattle.lampgrounds.proofs.open_step.Goals as goal

pub open_accepted-requires : goal.open_accepted-requires
open_accepted-requires c =
    let s = c in
    let is = c.pilots_on-p.ensures in
    let told = c.in-Ok.is in
    let a = accepted_plan s.args.d s.args.plan.now s.args.counts.now s.args.cells _ _ is told in
    (is, told, omega (arith, a.1, few s.args.d s.requires s.args.plan.now a.0))

pub returns-in-Err : goal.returns-in-Err
returns-in-Err c =
    let s = c in
    open_refused s.args.d s.args.plan.now s.args.counts.now s.args.cells _ _ c.pilots_on-p.ensures c.in-Err.is
