-- `samples::inputs::cell` meets its contract. Assumes nothing.
use Prim.Native.Nat.{ℕ, ◌+◌, ◌*◌, ◌%◌}
use mathlib.Core.Path.{ap, ◌∙◌}
use Rattle.samples.proofs.inputs.cell.Goals as goal

pub returns : goal.returns
returns c =
    let a = c.args in
    c.within.ensures ∙ ap (λ (limit : ℕ). (a.seed + a.place % 65536) * 48271 % 2147483647 % (limit + 1)) c.at.ensures
