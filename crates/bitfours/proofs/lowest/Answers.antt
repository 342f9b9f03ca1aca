-- `bitfours::lowest` meets its contract. Assumes nothing.
use native.Mathlib.Omega.{arith}
use mathlib.Core.Path.{◌≡◌, refl}
use Rattle.bits.proofs.Windows.{one_shl, mod_small}
use Rattle.bitfours.proofs.lowest.Goals as goal

pub returns : goal.returns
returns c =
    let l = c.number-2.result in
    let e : c.number-2.result ≡ c.args.l = c.number-2.ensures.0 in
    let x : c.number.result ≡ c.args.x = c.number.ensures.0 in
    rw (one_shl l 32 (omega arith)) (rw (e, x) (refl, mod_small c.args.x c.args.l 14 (omega arith)))
