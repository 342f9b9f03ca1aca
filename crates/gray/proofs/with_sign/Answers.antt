-- `gray::with_sign` meets its contract: a sign times an absolute value. Assumes nothing.
use mir.Syntax.{w32}
use mir.ValLaws.{to_z-of_z}
use Rattle.gray.proofs.Signs.{signed_fits, sign_product}
use mathlib.Core.Path.{◌≡◌}
use Rattle.gray.specs.Gray.{signed}
use Rattle.gray.proofs.with_sign.Goals as goal

pub overflow_mul-result : goal.overflow_mul-result
overflow_mul-result c =
    let z = c.args.c in
    let e : c.sign.result ≡ signed z 1 = rw (to_z-of_z w32 z c.ranges.c) at c.sign.ensures in
    rw (e, sign_product z c.args.m c.requires) (signed_fits z c.args.m c.requires)

pub returns : goal.returns
returns c =
    let z = c.args.c in
    let e : c.sign.result ≡ signed z 1 = rw (to_z-of_z w32 z c.ranges.c) at c.sign.ensures in
    rw (e, sign_product z c.args.m c.requires) (to_z-of_z w32 (signed z c.args.m) (signed_fits z c.args.m c.requires))
