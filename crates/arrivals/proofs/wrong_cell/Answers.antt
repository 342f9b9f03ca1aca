-- `arrivals::wrong_cell` meets its contract. Assumes nothing.
use Prim.Native.Nat.{ℕ, ◌≤◌, ◌<◌}
use mathlib.Core.Path.{◌≡◌, sym, ap, ◌∙◌}
use mathlib.Core.List.{List, ◌++◌}
use native.Mathlib.Omega.{arith}
use lib.ListN.{length, get_or, take, drop, replicate, length-replicate}
use lib.Seq.{length-take-le, length_front, take_at}
use Rattle.counting.specs.Search.{lowest}
use Rattle.counting.proofs.Lists.{get_d_tabulate}
use Rattle.rules.specs.Fits.{capacity}
use Rattle.rules.specs.Plan.{plan_of}
use Rattle.rules.specs.Loads.{limit_at}
use Rattle.rules.proofs.Loads.{Loaded, loaded}
use Rattle.spots.proofs.Parts.{part_size}
use Rattle.arrivals.proofs.Expecting.{none_wrong, wrong_is}
use Rattle.arrivals.proofs.wrong_cell.Goals as goal
use Rattle.arrivals.proofs.wrong_cell.Goals.{After-limits, After-limits-2-1, Start}

-- the profile has a listed load for each subcarrier
listed : (g : Start) → Loaded g.args.d.subcarriers g.args.profile.now
listed g = loaded g.args.d.subcarriers g.args.profile.now g.requires.4

few : (g : Start) → length g.args.profile.now ≤ capacity
few g = omega (arith, (listed g).long, g.requires.0.few)

-- the limits, in an array that is whole again
put : (c : After-limits) → let w = c.args.profile.now in (length c.limits.new.limits ≡ length w) × ((k : ℕ) → k < length w → get_or c.limits.new.limits k 0 ≡ limit_at w k)
put c =
    let g = c in
    let w = g.args.profile.now in
    let size = c.limits.auto.limits ∙ part_size _ ((let it : length g.args.profile.now ≤ capacity = omega (arith, ((let it : Loaded g.args.d.subcarriers g.args.profile.now = loaded g.args.d.subcarriers g.args.profile.now g.requires.4 in it)).long, g.requires.0.few) in it)) in
    (size, λ k h. ap (λ (l : List ℕ). get_or l k 0) c.limits.ensures ∙ get_d_tabulate (limit_at w) _ 0 k (omega (arith, h, part_size _ ((let it : length g.args.profile.now ≤ capacity = omega (arith, ((let it : Loaded g.args.d.subcarriers g.args.profile.now = loaded g.args.d.subcarriers g.args.profile.now g.requires.4 in it)).long, g.requires.0.few) in it)))))

whole : (c : After-limits) → length (c.limits.new.limits ++ drop (length c.args.profile.now) (replicate capacity 0)) ≡ capacity
whole c = length_front (replicate capacity 0) c.limits.new.limits (length c.args.profile.now) c.limits.auto.limits ∙ length-replicate {A = ℕ} capacity 0

first : (c : After-limits) → take (length c.args.profile.now) (c.limits.new.limits ++ drop (length c.args.profile.now) (replicate capacity 0)) ≡ c.limits.new.limits
first c = take_at c.limits.new.limits (drop (length c.args.profile.now) (replicate capacity 0)) (length c.args.profile.now) (put c).0

pub fit_one_load-requires : goal.fit_one_load-requires
fit_one_load-requires c =
    let g = c in
    (omega (arith, g.requires.3, g.requires.0.few), omega (arith, g.requires.3, (listed (goal.at.fit_one_load-requires c).Start).long), omega (arith, g.requires.3, g.requires.0.few))

pub returns-then-fit_one_load : goal.returns-then-fit_one_load
unfolding plan_of
returns-then-fit_one_load c =
    let g = c in
    let a = g.args in
    none_wrong a.d (plan_of a.plan.now) a.profile.now a.marks.now c.scatter.new.marks a.symbol.now _ a.j c.number_at-l.ensures.0 g.requires.0 g.requires.1.marked c.scatter.ensures
    (λ k h. c.fit_one_load.ensures c.if-fit_one_load.true k (omega (arith, h, g.requires.3)))

pub slice_bounds-limits-end : goal.slice_bounds-limits-end
slice_bounds-limits-end c = few (goal.at.slice_bounds-limits-end c).Start

pub slice_bounds-limits-end-2 : goal.slice_bounds-limits-end-2
slice_bounds-limits-end-2 c = sym (part_size _ (few (goal.at.slice_bounds-limits-end-2 c).Start))

pub limits-requires : goal.limits-requires
limits-requires c = let g = c in (omega (arith, part_size _ (few (goal.at.limits-requires c).Start)), (listed (goal.at.limits-requires c).Start).small)

pub slice_bounds-limits-end-3 : goal.slice_bounds-limits-end-3
slice_bounds-limits-end-3 c = omega (arith, few (goal.at.slice_bounds-limits-end-3 c).Start, whole (goal.at.slice_bounds-limits-end-3 c).After-limits)

pub slice_bounds-first_wrong-end : goal.slice_bounds-first_wrong-end
slice_bounds-first_wrong-end c = sym (length-take-le _ _ (omega (arith, few (goal.at.slice_bounds-first_wrong-end c).Start, whole (goal.at.slice_bounds-first_wrong-end c).After-limits)))

pub first_wrong-requires : goal.first_wrong-requires
first_wrong-requires c =
    let g = c in
    let k = c in
    (omega (arith, g.requires.3, g.requires.0.few), omega (arith, g.requires.3, (listed (goal.at.first_wrong-requires c).Start).long, ap length (first (goal.at.first_wrong-requires c).After-limits), (put (goal.at.first_wrong-requires c).After-limits).0), omega (arith, g.requires.3, g.requires.0.few))

pub returns : goal.returns
unfolding plan_of
returns c =
    let g = c in
    let a = g.args in
    let k = c in
    c.first_wrong.ensures
    ∙ ap (lowest _) g.requires.3
    ∙ wrong_is a.d (plan_of a.plan.now) a.profile.now _ a.marks.now _ a.symbol.now _ a.j c.number_at-l.ensures.0 g.requires.0 g.requires.1.marked c.scatter.ensures
    (λ i h. ap (λ (l : List ℕ). get_or l i 0) (first (goal.at.returns c).After-limits) ∙ (put (goal.at.returns c).After-limits).1 i (omega (arith, h, (listed (goal.at.returns c).Start).long)))
