-- `lampgrounds::hear` meets its contract. Assumes nothing.
use Prim.Native.Nat.{ℕ}
use mathlib.Core.Path.{ap, ap₂, ◌∙◌}
use mathlib.Core.List.{List}
use Rattle.std.specs.Prelude.{Ok}
use Rattle.pilots.specs.Pilots.{pilots_most}
use Rattle.lamprecord.specs.Record.{lights}
use Rattle.lampgrounds.specs.Steps.{leaves_record}
use Rattle.lampgrounds.specs.Opening.{heard_cells}
use Rattle.lampgrounds.proofs.hear.Goals as goal

pub returns : goal.returns
returns c =
    let s = c in
    let next = c.advance.ensures in
    unfold heard_cells in (ap₂ (λ (l r : List ℕ). leaves_record (record { answer = Ok s.args.n; lights = l }) r) (c.lights_of.ensures ∙ ap (lights pilots_most) next) next)
