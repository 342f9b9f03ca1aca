-- `grounds::band_grounds` meets its contract. Assumes nothing.
use mathlib.Core.Path.{◌≡◌, sym, ap, ◌∙◌}
use mathlib.Core.Bool.{Bool}
use Rattle.std.specs.Prelude.{None}
use Prim.Native.Nat.{ℕ}
use Rattle.counting.specs.Search.{when, is_none}
use Rattle.rules.specs.declared.Device.{Device}
use Rattle.rules.specs.Plan.{Plan, plan_of}
use Rattle.rules.specs.Roles.{ranked_count}
use Rattle.rules.specs.Grounds.{narrow_band, no_wide_band, ground?, ◌else◌}
use Rattle.grounds.specs.Order.{grounds11to15, grounds9to15}
use Rattle.limits.proofs.Grounds.{narrow_is, wide_is}
use Rattle.grounds.proofs.Laws.{stop, pass}
use Rattle.grounds.proofs.band_grounds.Goals as goal
use Rattle.grounds.proofs.band_grounds.Goals.{In_default}

-- no band is narrow
passed : (c : In_default) → let g = c in narrow_band g.args.d (plan_of g.args.plan.now) ≡ None
passed c = narrow_is _ _ _ _ _ _ _ c.requires.3 ∙ sym c.first_narrow.ensures ∙ c.in_default.is

pub returns-in-Some : goal.returns-in-Some
unfolding grounds9to15
returns-in-Some c =
    let g = c in
    let d : Device = g.args.d in
    let p : Plan = plan_of g.args.plan.now in
    let n : ℕ = ranked_count d p in
    stop (narrow_band d p) 9 _ n (ground? 10 (when (no_wide_band d p) 0) else grounds11to15 d p) (narrow_is d p _ _ _ _ _ g.requires.3 ∙ sym c.first_narrow.ensures ∙ c.in-Some.is)

pub returns-in-None : goal.returns-in-None
unfolding grounds9to15
returns-in-None c =
    let g = c in
    let d : Device = g.args.d in
    let p : Plan = plan_of g.args.plan.now in
    let n : ℕ = ranked_count d p in
    stop (when (no_wide_band d p) 0) 10 0 n (grounds11to15 d p) (ap (λ (b : Bool). when b 0) (wide_is d p _ _ _ _ _ g.requires.3 ∙ ap is_none (sym c.first_wide.ensures ∙ c.in-None.is)))
    ∙ pass (narrow_band d p) 9 n (ground? 10 (when (no_wide_band d p) 0) else grounds11to15 d p) (passed (goal.at.returns-in-None c).In_default)

pub returns : goal.returns
unfolding grounds9to15
returns c =
    let g = c in
    let d : Device = g.args.d in
    let p : Plan = plan_of g.args.plan.now in
    let n : ℕ = ranked_count d p in
    c.grounds_11_to_15.ensures
    ∙ pass (when (no_wide_band d p) 0) 10 n (grounds11to15 d p) (ap (λ (b : Bool). when b 0) (wide_is d p _ _ _ _ _ g.requires.3 ∙ ap is_none (sym c.first_wide.ensures ∙ c.in_default-first_wide.is)))
    ∙ pass (narrow_band d p) 9 n (ground? 10 (when (no_wide_band d p) 0) else grounds11to15 d p) (passed (goal.at.returns c).In_default)
