-- `spots::prepare` meets its contract. Assumes nothing.
use mathlib.Core.Path.{◌∙◌}
use native.Mathlib.Omega.{arith}
use Rattle.spots.proofs.prepare.Goals as goal

pub flags_at-requires : goal.flags_at-requires
flags_at-requires c =
    let pre = c.requires in
    let spot = c.spots in
    let same = spot.auto.kc in
    (pre.0, pre.1.long, pre.1.plc_high, pre.2, pre.3, pre.4, pre.5, same ∙ pre.7, λ p h. spot.ensures.spots p (omega (arith, same)), omega (arith, same, pre.8))

pub returns : goal.returns
returns c =
    let spot = c.spots in
    let same = spot.auto.kc in
    let flag = c.flags_at in
    record { ranks = spot.ensures.ranks; spots = spot.ensures.spots; flags = λ p h. flag.ensures.flags p (omega (arith, same)); number = flag.ensures.number }
