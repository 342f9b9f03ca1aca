-- `cells::count_in` meets its contract. Assumes nothing.
use Prim.Native.Nat.{ℕ, ◌≤◌}
use mathlib.Core.Path.{◌≡◌, refl, sym, ap, ◌∙◌}
use native.Mathlib.Omega.{arith}
use Rattle.rules.specs.declared.Device.{Device}
use Rattle.std.specs.Prelude.{Ok}
use Rattle.rules.specs.Plan.{Plan, plan_of}
use Rattle.rules.specs.Fits.{Fits, capacity}
use Rattle.rules.specs.Frame.{frame_of, cells}
use Rattle.spots.proofs.Frames.{cells_le, data_le}
use Rattle.spots.proofs.Parts.{part_size}
use Rattle.cells.proofs.Answers.{count_late, count_is}
use Rattle.cells.proofs.count_in.Goals as goal
use Rattle.cells.proofs.count_in.Goals.{Start}

-- N_I cells fit an array
small : (d : Device) (p : Plan) (n : ℕ) → Fits d → n ≡ cells (frame_of d p) → n ≤ capacity
unfolding frame_of
small d p n fits e = omega (arith, cells_le (frame_of d p), fits.few)

-- the same where the arrays are lent
small_at : (c : Start) → c.args.ni ≤ capacity
small_at c = small c.args.d (plan_of c.args.plan.now) c.args.ni c.requires.0 c.requires.4

pub returns-then-j-ge-PHASES : goal.returns-then-j-ge-PHASES
unfolding frame_of
returns-then-j-ge-PHASES c = let a = c.args in count_late (frame_of a.d (plan_of a.plan.now)) a.phase c.if-j-ge-PHASES.true

pub slice_bounds-kc-end : goal.slice_bounds-kc-end
slice_bounds-kc-end c = small_at (goal.at.slice_bounds-kc-end c).Start

pub slice_bounds-prepare-end-2 : goal.slice_bounds-prepare-end-2
slice_bounds-prepare-end-2 c = let start = c in sym (part_size start.args.ni (small_at (goal.at.slice_bounds-prepare-end-2 c).Start))

pub slice_bounds-flag-end : goal.slice_bounds-flag-end
slice_bounds-flag-end c = small_at (goal.at.slice_bounds-flag-end c).Start

pub slice_bounds-prepare-end-3 : goal.slice_bounds-prepare-end-3
slice_bounds-prepare-end-3 c = let start = c in sym (part_size start.args.ni (small_at (goal.at.slice_bounds-prepare-end-3 c).Start))

pub prepare-n-requires : goal.prepare-n-requires
prepare-n-requires c =
    let start = c in
    let pre = start.requires in
    let depth : c.number_at-m.result ≡ (plan_of start.args.plan.now).depth = unfold plan_of in c.number_at-m.ensures.0 in
    let size = part_size start.args.ni (small_at (goal.at.prepare-n-requires c).Start) in
    (pre.0, pre.1, depth, omega (arith, depth, pre.2), omega (arith, depth, pre.3), omega (arith, c.if-j-ge-PHASES.false), refl, size ∙ pre.4, omega (arith, size))

pub overflow_cast-nd : goal.overflow_cast-nd
overflow_cast-nd c =
    let start = c in
    omega (arith, c.prepare-n.ensures.number, data_le (frame_of start.args.d (plan_of start.args.plan.now)) start.args.phase, start.requires.4, small_at (goal.at.overflow_cast-nd c).Start)

pub returns : goal.returns
unfolding frame_of
returns c =
    let a = c.args in
    ap Ok c.prepare-n.ensures.number ∙ count_is (frame_of a.d (plan_of a.plan.now)) a.phase (omega (arith, c.if-j-ge-PHASES.false))
