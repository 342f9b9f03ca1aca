-- `sending::fill_checked` meets its contract. Assumes nothing.
use Prim.Native.Nat.{ℕ, ◌≤◌, ◌<◌}
use mathlib.Core.Path.{◌≡◌, sym, ap, ◌∙◌}
use native.Mathlib.Omega.{arith}
use lib.ListN.{length, get_or}
use Rattle.std.specs.Prelude.{Option}
use Rattle.counting.specs.Search.{count, lowest, tabulate, is_zero}
use Rattle.counting.proofs.Lists.{length_tabulate}
use Rattle.rules.specs.Plan.{plan_of}
use Rattle.rules.specs.Grounds.{ground?}
use Rattle.rules.specs.Frame.{frame_of}
use Rattle.rules.specs.Loads.{ground19}
use Rattle.rules.proofs.Loads.{loaded}
use Rattle.frame.proofs.Cells.{spot_below}
use Rattle.fill.specs.Flags.{data_cell}
use Rattle.fill.proofs.Inputs.{free_count, filled}
use Rattle.datalimit.specs.Over.{over_at}
use Rattle.steps.proofs.Accepted.{cells_low}
use Rattle.sending.proofs.GivenLaws.{over_ground}
use Rattle.sending.proofs.fill_checked.Goals as goal
use Rattle.sending.proofs.fill_checked.Goals.{After-first_over, Start}

low : (g : Start) → length g.args.x.now ≤ 4096
low g = omega (arith, g.requires.2, cells_low g.args.d (plan_of g.args.plan.now) g.requires.0)

-- as many data as data cells
number : (g : Start) → length g.args.ds.now ≡ count (is_zero g.args.flag.now) (length g.args.x.now)
number g = g.requires.7 ∙ sym (free_count (frame_of g.args.d (plan_of g.args.plan.now)) g.args.phase g.args.flag.now g.requires.6 (length g.args.x.now) g.requires.2)

-- each cell is on one of the subcarriers of the profile
inside : (g : Start) (p : ℕ) → p < length g.args.x.now → get_or g.args.kc.now p 0 < length g.args.profile.now
unfolding frame_of
inside g p h = omega (arith, g.requires.5 p h, spot_below (frame_of g.args.d (plan_of g.args.plan.now)) p (omega (arith, g.requires.2)), (loaded g.args.d.subcarriers g.args.profile.now g.requires.1).long)

-- what the search finds is ground 19
over : (c : After-first_over) → let g = c in ground? 19 c.first_over.result ≡ ground19 (frame_of g.args.d (plan_of g.args.plan.now)) g.args.profile.now g.args.phase g.args.ds.now
over c =
    let g = c in
    let a = g.args in
    let made = c.fill_data.ensures in
    let len = ap length made ∙ length_tabulate (data_cell a.flag.now a.ds.now) (length a.x.now) in
    over_ground (frame_of g.args.d (plan_of g.args.plan.now)) a.profile.now a.phase a.kc.now a.flag.now a.ds.now (length a.x.now) g.requires.2 g.requires.5 g.requires.6 g.requires.7 _
    (c.first_over.ensures ∙ ap (λ (n : ℕ). lowest (over_at a.profile.now a.kc.now a.flag.now n a.ds.now) (length a.ds.now)) len)

pub fill_data-requires : goal.fill_data-requires
fill_data-requires c = (low (goal.at.fill_data-requires c).Start, c.requires.4, omega (arith, number (goal.at.fill_data-requires c).Start))

pub first_over-requires : goal.first_over-requires
first_over-requires c =
    let a = c.args in
    let made = c.fill_data.ensures in
    let len = ap length made ∙ length_tabulate (data_cell a.flag.now a.ds.now) (length a.x.now) in (
      omega (arith, len, low (goal.at.first_over-requires c).Start),
      omega (arith, len, c.requires.3),
      omega (arith, len, c.requires.4),
      λ p h. inside (goal.at.first_over-requires c).Start p (omega (arith, len)),
      (loaded a.d.subcarriers a.profile.now c.requires.1).small,
      number (goal.at.first_over-requires c).Start ∙ ap (count (is_zero a.flag.now)) (sym len),
      made ∙ ap (tabulate (data_cell a.flag.now a.ds.now)) (sym len),
    )

pub returns-in-Some : goal.returns-in-Some
returns-in-Some c =
    let a = c.args in
    record { found = ap (λ (f : Option ℕ). ground? 19 f) (sym c.in-Some.is) ∙ over (goal.at.returns-in-Some c).After-first_over; made = filled (frame_of c.args.d (plan_of c.args.plan.now)) a.phase a.flag.now c.requires.6 a.ds.now _ _ c.requires.2 c.fill_data.ensures }

pub returns-in-None : goal.returns-in-None
returns-in-None c =
    let a = c.args in
    record { found = ap (λ (f : Option ℕ). ground? 19 f) (sym c.in-None.is) ∙ over (goal.at.returns-in-None c).After-first_over; made = filled (frame_of c.args.d (plan_of c.args.plan.now)) a.phase a.flag.now c.requires.6 a.ds.now _ _ c.requires.2 c.fill_data.ensures }
