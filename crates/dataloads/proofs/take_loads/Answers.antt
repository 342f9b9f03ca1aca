-- `dataloads::take_loads` meets its contract. Assumes nothing.
use Prim.Native.Nat.{ℕ, ◌≤◌, ◌<◌}
use mathlib.Core.Path.{◌≡◌, sym, ap, ◌∙◌}
use mathlib.Core.List.{List}
use native.Mathlib.Omega.{arith}
use lib.ListN.{length, get_or, take}
use lib.Seq.{sets, length-take-le}
use Rattle.counting.specs.Search.{count, is_zero}
use Rattle.counting.proofs.Lists.{take-sets}
use Rattle.rules.specs.Plan.{plan_of}
use Rattle.rules.specs.Frame.{Frame, frame_of, line_cells}
use Rattle.rules.specs.Bits.{total}
use Rattle.rules.specs.Loads.{data_loads}
use Rattle.rules.specs.Filling.{bit_count}
use Rattle.rules.proofs.Loads.{loaded}
use Rattle.frame.proofs.Cells.{length_line_cells}
use Rattle.frame.proofs.Loads.{loads_line, length_loads, loads_small}
use Rattle.fill.specs.Flags.{taken_data}
use Rattle.fill.proofs.Inputs.{free_count, taken}
use Rattle.spots.proofs.Frames.{data_le}
use Rattle.steps.proofs.Accepted.{cells_low}
use Rattle.dataloads.proofs.take_loads.Goals as goal
use Rattle.dataloads.proofs.take_loads.Goals.{After-cell_loads, After-loads-1, After-take_data, Start}

low : (g : Start) → (length g.args.x.now) ≤ 4096
low g = omega (arith, g.requires.2, cells_low g.args.d (plan_of g.args.plan.now) g.requires.0)

-- the loads in cell order are as many
line_size : (c : After-cell_loads) → length c.cell_loads.new.x ≡ (length c.args.x.now)
line_size c = c.cell_loads.auto.x

-- what is taken of them are the loads of the data cells
these : (c : After-take_data) → let g = c in take g.args.nd c.take_data.new.buffer ≡ data_loads ((frame_of g.args.d (plan_of g.args.plan.now))) g.args.profile.now g.args.j
unfolding taken_data
these c =
    let g = c in
    let k = c in
    let F : Frame = (frame_of g.args.d (plan_of g.args.plan.now)) in
    let line = k.cell_loads.ensures in
    let found = taken F g.args.j g.args.flag.now (line_cells F g.args.profile.now) (length_line_cells F g.args.profile.now) g.requires.8 ∙ loads_line F g.args.profile.now g.args.j in
    let out = c.take_data.ensures ∙ ap (λ (x : List ℕ). sets g.args.loads.now 0 (taken_data g.args.flag.now x)) line ∙ ap (sets g.args.loads.now 0) found in
    ap (take g.args.nd) out ∙ take-sets g.args.loads.now (data_loads F g.args.profile.now g.args.j) g.args.nd (length_loads F g.args.profile.now g.args.j ∙ sym g.requires.5) g.requires.6

small : (g : Start) (x : List ℕ) → x ≡ data_loads ((frame_of g.args.d (plan_of g.args.plan.now))) g.args.profile.now g.args.j → (c : ℕ) → c < length x → get_or x c 0 ≤ 14
unfolding frame_of
small g x is c h = rw is (loads_small ((frame_of g.args.d (plan_of g.args.plan.now))) g.args.profile.now g.args.j g.requires.1 c (omega (arith, ap length is)))

pub cell_loads-requires : goal.cell_loads-requires
cell_loads-requires c =
    let g = c in
    (g.requires.0, (loaded g.args.d.subcarriers g.args.profile.now g.requires.1).long, g.requires.2, g.requires.3, g.requires.7)

pub take_data-requires : goal.take_data-requires
take_data-requires c =
    let g = c in
    let size = line_size (goal.at.take_data-requires c).After-cell_loads in
    (omega (arith, size, low (goal.at.take_data-requires c).Start), omega (arith, size, g.requires.2, g.requires.4), omega (arith, ap (count (is_zero g.args.flag.now)) size, free_count ((frame_of g.args.d (plan_of g.args.plan.now))) g.args.j g.args.flag.now g.requires.8 ((length g.args.x.now)) g.requires.2, g.requires.5, g.requires.6))

pub slice_bounds-sum_loads-end : goal.slice_bounds-sum_loads-end
slice_bounds-sum_loads-end c = omega (arith, c.requires.6, c.take_data.auto.buffer)

pub slice_bounds-sum_loads-end-2 : goal.slice_bounds-sum_loads-end-2
slice_bounds-sum_loads-end-2 c = sym (length-take-le _ _ (omega (arith, c.requires.6, c.take_data.auto.buffer)))

pub sum_loads-requires : goal.sum_loads-requires
sum_loads-requires c =
    let g = c in
    let is = these (goal.at.sum_loads-requires c).After-take_data in
    (omega (arith, ap length is, length_loads ((frame_of g.args.d (plan_of g.args.plan.now))) g.args.profile.now g.args.j, data_le ((frame_of g.args.d (plan_of g.args.plan.now))) g.args.j, g.requires.2, low (goal.at.sum_loads-requires c).Start), small (goal.at.sum_loads-requires c).Start _ is)

pub returns : goal.returns
unfolding bit_count
returns c =
    let g = c in
    let is = these (goal.at.returns c).After-take_data in
    record { sum = (c.sum_loads.ensures.0 ∙ ap total is, omega (arith, c.sum_loads.ensures.1, ap length is, length_loads ((frame_of g.args.d (plan_of g.args.plan.now))) g.args.profile.now g.args.j, data_le ((frame_of g.args.d (plan_of g.args.plan.now))) g.args.j, g.requires.2, low (goal.at.returns c).Start)); made = is }
