-- `ranked::ground_15` meets its contract. Assumes nothing.
use mathlib.Core.Path.{ap, ◌∙◌, subst}
use mathlib.Core.Bool.{Bool}
use lib.Dec.{ltb}
use Prim.Native.Nat.{ℕ, ◌≤◌, ◌<◌}
use borrow.Author.Tests.{lt-ltb, le-ltb}
use Rattle.counting.specs.Search.{when}
use Rattle.rules.specs.declared.Device.{Device}
use Rattle.rules.specs.Plan.{plan_of}
use Rattle.std.specs.Prelude.{Ok}
use Rattle.rules.specs.Roles.{ranked_count}
use Rattle.rules.specs.Grounds.{many_ranked}
use Rattle.ranked.specs.Ground15.{ground15}
use Rattle.ranked.proofs.Laws.{whole, halt, zeros_is}
use Rattle.ranked.proofs.ground_15.Goals as goal

pub returns-then-d-ni : goal.returns-then-d-ni
unfolding ground15 many_ranked
returns-then-d-ni c =
    let g = c in
    let d : Device = g.args.d in
    let n : ℕ = ranked_count d (plan_of g.args.plan.now) in
    let e = c.zeros-ni.ensures.0 ∙ zeros_is d _ _ g.requires.1 in
    halt (when (ltb d.ranked_max n) 0) 15 0 n (ap (λ (b : Bool). when b 0) (lt-ltb d.ranked_max n (subst (λ (x : ℕ). d.ranked_max < x) e c.if-d-ni.true)))

pub returns : goal.returns
unfolding ground15 many_ranked
returns c =
    let g = c in
    let d : Device = g.args.d in
    let n : ℕ = ranked_count d (plan_of g.args.plan.now) in
    let e = c.zeros-ni.ensures.0 ∙ zeros_is d _ _ g.requires.1 in
    ap Ok e ∙ whole (when (ltb d.ranked_max n) 0) 15 n (ap (λ (b : Bool). when b 0) (le-ltb d.ranked_max n (subst (λ (x : ℕ). x ≤ d.ranked_max) e c.if-d-ni.false)))
