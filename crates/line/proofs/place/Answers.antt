-- `line::place` meets its contract. Assumes nothing.
use Prim.Native.Nat.{ℕ}
use mathlib.Core.Path.{ap, ◌∙◌}
use native.Mathlib.Omega.{arith}
use lib.ListN.{get_or, take}
use Rattle.rules.specs.Plan.{plan_of}
use Rattle.rules.specs.Frame.{frame_of, cells}
use Rattle.walk.specs.Walk.{walk_cell}
use Rattle.walk.specs.Stores.{stores}
use Rattle.walk.proofs.Walks.{plan_reads}
use Rattle.spots.proofs.Frames.{cells_few, carrier_below, line_is}
use Rattle.spots.proofs.Plans.{tied_of}
use Rattle.line.proofs.place.Goals as goal

pub place_rows-requires : goal.place_rows-requires
unfolding frame_of
place_rows-requires c =
    let start = c in
    let pre = start.requires in
    let p = plan_of start.args.plan.now in
    let F = frame_of start.args.d p in
    let low = cells_few F start.args.marks.now (tied_of start.args.d p start.args.marks.now pre.0 pre.1.marked) in (
      pre.0.rows,
      omega (arith, low, pre.3),
      omega (arith, low, pre.2, pre.3),
      λ r h. omega (arith, c.copy.auto.to, pre.4, pre.5 r h, carrier_below F r (omega (arith, pre.3))),
    )

pub returns : goal.returns
unfolding frame_of
returns c =
    let start = c in
    let a = start.args in
    let pre = start.requires in
    let clean = c.copy in
    let p = plan_of a.plan.now in
    let F = frame_of a.d p in
    line_is F a.marks.now (tied_of a.d p a.marks.now pre.0 pre.1.marked) (walk_cell a.d.row_bits (cells F)) (plan_reads a.d p) a.car.now a.x.now clean.new.to c.place_rows.new.out
    (λ i l. pre.5 i (omega (arith, pre.3)))
    (clean.ensures ∙ ap (λ (n : ℕ). take n a.marks.now) pre.4)
    (c.place_rows.ensures ∙ ap (λ (n : ℕ). stores (λ r. get_or a.car.now r 0) (λ r. get_or a.x.now (walk_cell a.d.row_bits n r) 0) n clean.new.to) pre.3)
