-- `gray::gray_bits` meets its contract. Assumes nothing.
use mathlib.Core.Path.{◌≡◌, ap, ◌∙◌}
use mir.Syntax.{w32}
use mir.ValLaws.{to_z-of_z}
use Rattle.gray.specs.Positions.{bits_at, position_of, bits_of}
use Rattle.gray.proofs.GrayLaws.{position_of_lt}
use Rattle.gray.proofs.gray_bits.Goals as goal

pub bits_at-requires : goal.bits_at-requires
bits_at-requires c =
    let z = c.args.c in
    let b = c.args.bits in
    let e : c.position_of.result ≡ position_of b z = rw (to_z-of_z w32 z c.ranges.c) at c.position_of.ensures in
    (c.requires.0, rw e (position_of_lt b z c.requires.1))

pub returns : goal.returns
unfolding bits_of
returns c =
    let z = c.args.c in
    let b = c.args.bits in
    let e : c.position_of.result ≡ position_of b z = rw (to_z-of_z w32 z c.ranges.c) at c.position_of.ensures in
    c.bits_at.ensures ∙ ap (bits_at b) e
