-- `spots::spots` meets its contract. Assumes nothing.
use Prim.Native.Nat.{ℕ}
use mathlib.Core.Path.{refl, ap, ◌∙◌}
use native.Mathlib.Omega.{arith}
use lib.ListN.{length, get_or}
use Rattle.rules.specs.Plan.{plan_of}
use Rattle.rules.specs.Frame.{frame_of, cells}
use Rattle.walk.specs.Walk.{walk_cell}
use Rattle.walk.specs.Stores.{stores}
use Rattle.walk.proofs.Walks.{plan_reads}
use Rattle.spots.proofs.Frames.{cells_few, spots_are}
use Rattle.spots.proofs.Plans.{tied_of}
use Rattle.spots.proofs.spots.Goals as goal

pub cell_carriers-requires : goal.cell_carriers-requires
cell_carriers-requires c =
    let start = c in
    let p = plan_of start.args.plan.now in
    let low = cells_few (frame_of start.args.d p) start.args.marks.now (tied_of start.args.d p start.args.marks.now start.requires.0 start.requires.1.marked) in
    (start.requires.0.rows, omega (arith, low, start.requires.3), omega (arith, low, start.requires.2, start.requires.3, c.carriers.auto.car))

pub returns : goal.returns
unfolding frame_of
returns c =
    let start = c in
    let list = c.carriers in
    let take = c.cell_carriers in
    let p = plan_of start.args.plan.now in
    let d = start.args.d in
    let kc = start.args.kc.now in
    let F = frame_of d p in
    record { ranks = (spots_are F start.args.marks.now (tied_of d p start.args.marks.now start.requires.0 start.requires.1.marked) (walk_cell d.row_bits (cells F)) (plan_reads d p) (length kc) list.result list.new.car kc take.new.kc start.requires.3 refl list.ensures.number list.ensures.listed (take.ensures ∙ ap (λ (n : ℕ). stores (walk_cell d.row_bits n) (λ r. get_or list.new.car r 0) n kc) start.requires.3)).0; spots = (spots_are F start.args.marks.now (tied_of d p start.args.marks.now start.requires.0 start.requires.1.marked) (walk_cell d.row_bits (cells F)) (plan_reads d p) (length kc) list.result list.new.car kc take.new.kc start.requires.3 refl list.ensures.number list.ensures.listed (take.ensures ∙ ap (λ (n : ℕ). stores (walk_cell d.row_bits n) (λ r. get_or list.new.car r 0) n kc) start.requires.3)).1 }
