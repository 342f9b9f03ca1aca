-- `pilots::list_accepted` meets its contract. Assumes nothing.
use mathlib.Core.Path.{◌≡◌, ap, ◌∙◌}
use native.Mathlib.Omega.{arith}
use lib.ListN.{length}
use Rattle.rules.specs.Plan.{plan_of}
use Rattle.pilots.specs.Pilots.{continuous_pilots, listing}
use Rattle.pilots.specs.Marked.{marked_below}
use Rattle.pilots.proofs.Listing.{marked_pilots}
use Rattle.pilots.proofs.Numbers.{few}
use Rattle.pilots.proofs.list_accepted.Goals as goal
use Rattle.pilots.proofs.list_accepted.Goals.{Start}

-- the marked ones are the pilots
same : (s : Start) → marked_below s.args.marks.now s.args.d.subcarriers ≡ continuous_pilots s.args.d (plan_of s.args.plan.now)
same s = marked_pilots s.args.d (plan_of s.args.plan.now) s.args.marks.now s.requires.1.marked

pub list_marked-requires : goal.list_marked-requires
list_marked-requires c =
    let s = c in
    let fits = s.requires.0 in
    (fits.few, fits.blocks, omega (arith, fits.few, s.requires.1.marked.long), omega (arith, ap length (same (goal.at.list_marked-requires c).Start), few s.args.d fits s.args.plan.now s.requires.2))

pub returns : goal.returns
returns c = c.list_marked.ensures ∙ ap listing (same (goal.at.returns c).Start)
