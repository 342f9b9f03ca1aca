-- `grounds::grounds_11_to_15` meets its contract. Assumes nothing.
use mathlib.Core.Path.{sym, ap, ◌∙◌}
use mathlib.Core.Bool.{Bool}
use Prim.Native.Nat.{ℕ}
use Rattle.counting.specs.Search.{when}
use Rattle.rules.specs.declared.Device.{Device}
use Rattle.rules.specs.Plan.{Plan, plan_of}
use Rattle.rules.specs.Roles.{ranked_count}
use Rattle.rules.specs.Grounds.{much_excluded, much_in_band, ground?, ◌else◌}
use Rattle.grounds.specs.Order.{grounds13to15, grounds11to15}
use Rattle.limits.proofs.Grounds.{much_in_is}
use Rattle.grounds.proofs.Laws.{stop, pass}
use Rattle.grounds.proofs.grounds_11_to_15.Goals as goal

pub returns-then-much : goal.returns-then-much
unfolding grounds11to15
returns-then-much c =
    let g = c in
    let d : Device = g.args.d in
    let p : Plan = plan_of g.args.plan.now in
    let n : ℕ = ranked_count d p in
    stop (when (much_excluded d p) 0) 11 0 n (ground? 12 (much_in_band d p) else grounds13to15 d p) (ap (λ (b : Bool). when b 0) (sym c.much.ensures ∙ c.if-much.true))

pub returns-in-Some : goal.returns-in-Some
unfolding grounds11to15
returns-in-Some c =
    let g = c in
    let d : Device = g.args.d in
    let p : Plan = plan_of g.args.plan.now in
    let n : ℕ = ranked_count d p in
    let is = much_in_is d p _ _ _ _ _ g.requires.3 in
    stop (much_in_band d p) 12 _ n (grounds13to15 d p) (is ∙ sym c.first_much.ensures ∙ c.in-Some.is)
    ∙ pass (when (much_excluded d p) 0) 11 n (ground? 12 (much_in_band d p) else grounds13to15 d p) (ap (λ (b : Bool). when b 0) (sym c.much.ensures ∙ c.if-much.false))

pub returns : goal.returns
unfolding grounds11to15
returns c =
    let g = c in
    let d : Device = g.args.d in
    let p : Plan = plan_of g.args.plan.now in
    let n : ℕ = ranked_count d p in
    let is = much_in_is d p _ _ _ _ _ g.requires.3 in
    c.grounds_13_to_15.ensures
    ∙ pass (much_in_band d p) 12 n (grounds13to15 d p) (is ∙ sym c.first_much.ensures ∙ c.in_default.is)
    ∙ pass (when (much_excluded d p) 0) 11 n (ground? 12 (much_in_band d p) else grounds13to15 d p) (ap (λ (b : Bool). when b 0) (sym c.much.ensures ∙ c.if-much.false))
