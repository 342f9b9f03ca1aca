-- `fill::all_data` meets its contract. The flags so far, joined bit by bit, are 0 where the cells so far are data cells. Assumes nothing.
use Prim.Native.Nat.{◌+◌, ◌<◌}
use mathlib.Core.Path.{◌≡◌, ap, ◌∙◌}
use native.Mathlib.Omega.{arith}
use Rattle.std.proofs.lemmas.List.Edits.{length-between, get_or-between}
use Rattle.fill.specs.Flags.{all_data}
use Rattle.fill.proofs.Filling.{all_data_start, all_data_next}
use Rattle.fill.proofs.all_data.Goals as goal

pub loop-f-init : goal.loop-f-init
loop-f-init c = all_data_start _ _

pub loop-f-preserved : goal.loop-f-preserved
loop-f-preserved c =
    let a = c.args in
    let l = c.loop-f in
    let h : a.p + l.f-index < a.p + 16 = omega (arith, length-between a.flag.now a.p (a.p + 16) c.requires) in
    all_data_next _ _ l.f-index l.held _ l.invariant (get_or-between a.flag.now a.p (a.p + 16) l.f-index 0 h)

pub returns : goal.returns
returns c =
    let a = c.args in
    let l = c.loop-f in
    let e : l.f-index ≡ 16 = omega (arith, length-between a.flag.now a.p (a.p + 16) c.requires) in
    l.invariant ∙ ap (all_data _ _) e
