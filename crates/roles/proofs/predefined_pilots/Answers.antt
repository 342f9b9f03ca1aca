-- `roles::predefined_pilots` meets its contract. Assumes nothing.
use mathlib.Core.Path.{◌≡◌, sym, ap₂, ◌∙◌, subst}
use native.Mathlib.Omega.{arith}
use lib.ListN.{replicate}
use Rattle.rules.specs.declared.Device.{Device}
use Rattle.rules.specs.Answers.{pilots_of}
use Rattle.rules.specs.Fits.{Fits}
use Rattle.rules.proofs.Sizes.{khz50_fits}
use Rattle.roles.proofs.Eight.{in_range, below_range, above_range}
use Rattle.roles.proofs.predefined_pilots.Goals as goal

pub returns-then-low-d : goal.returns-then-low-d
returns-then-low-d c =
    let l = c.args.l in
    let d = c.khz50_device-d in
    subst (λ (x : Device). replicate 8 0 ≡ pilots_of x l) d.ensures (below_range d.result l (omega (arith, c.if-low-d.true, c.wide-low.ensures.0)))

pub returns-then-d-low : goal.returns-then-d-low
returns-then-d-low c =
    let l = c.args.l in
    let d = c.khz50_device-d in
    subst (λ (x : Device). replicate 8 0 ≡ pilots_of x l) d.ensures (above_range d.result l (omega (arith, c.if-d-low.true, c.wide-low.ensures.0)))

pub pilots_of-requires : goal.pilots_of-requires
pilots_of-requires c = (subst Fits (sym c.khz50_device-d.ensures) khz50_fits, c.if-low-d.false, c.if-d-low.false)

pub returns : goal.returns
returns c =
    let w = c.wide-low in
    let d = c.khz50_device-d in
    c.pilots_of.ensures ∙ in_range d.result w.result c.if-low-d.false c.if-d-low.false ∙ ap₂ pilots_of d.ensures w.ensures.0
