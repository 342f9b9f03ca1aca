-- `bytemodulate::modulate` meets its contract: ground 21, ground 17, or filled from the cells of the bytes. Assumes nothing.
use mathlib.Core.Path.{◌≡◌, sym, ap, ◌∙◌}
use mathlib.Core.Bool.{false}
use mathlib.Core.List.{List}
use Prim.Native.Nat.{ℕ}
use native.Mathlib.Omega.{arith}
use Rattle.rules.specs.declared.Device.{Device}
use Rattle.rules.specs.Device.{khz50}
use Rattle.bytecells.specs.Octets.{odd}
use Rattle.bytecells.proofs.OctetLaws.{length_cells, even_length}
use Rattle.modulator.specs.Symbols.{modulate_step}
use Rattle.bytemodulate.proofs.Bytes.{refused_odd, other_number, left_whole}
use Rattle.bytemodulate.proofs.modulate.Goals as goal
use Rattle.bytemodulate.proofs.modulate.Goals.{After-khz50_device-d, Else-halved}

-- the bytes are of whole cells
even : (c : Else-halved) → odd c.args.symbol.now ≡ false
even c = sym c.halved.ensures.0 ∙ c.if-halved.false

-- the device's subcarriers
wide : (c : After-khz50_device-d) → c.khz50_device-d.result.subcarriers ≡ khz50.subcarriers
wide c = ap (λ (d : Device). d.subcarriers) c.khz50_device-d.ensures

pub returns-then-halved : goal.returns-then-halved
returns-then-halved c =
    let a = c.args in
    refused_odd a.symbol.now a.loads.now a.minus.now khz50 a.out.now (sym c.halved.ensures.0 ∙ c.if-halved.true)

pub returns-then-symbol-d : goal.returns-then-symbol-d
returns-then-symbol-d c =
    let a = c.args in
    other_number a.symbol.now a.loads.now a.minus.now khz50 a.out.now (even (goal.at.returns-then-symbol-d c).Else-halved)
    (λ h. c.if-symbol-d.true (omega (arith, h, length_cells a.symbol.now, wide (goal.at.returns-then-symbol-d c).After-khz50_device-d)))

pub read_cells-requires : goal.read_cells-requires
read_cells-requires c = omega (arith, c.if-symbol-d.false, wide (goal.at.read_cells-requires c).After-khz50_device-d, even_length _ (even (goal.at.read_cells-requires c).Else-halved))

pub returns : goal.returns
returns c =
    let a = c.args in
    c.modulate.ensures
    ∙ ap (λ (cells : List ℕ). modulate_step cells a.loads.now a.minus.now khz50 a.out.now) c.read_cells.ensures
    ∙ left_whole a.symbol.now a.loads.now a.minus.now khz50 a.out.now (even (goal.at.returns c).Else-halved)
