-- `grounds::grounds_13_to_15` meets its contract. Assumes nothing.
use mathlib.Core.Path.{sym, ap, ◌∙◌}
use Prim.Native.Nat.{ℕ}
use Rattle.rules.specs.declared.Device.{Device}
use Rattle.rules.specs.Plan.{Plan, plan_of}
use Rattle.rules.specs.Roles.{ranked_count}
use Rattle.rules.specs.Grounds.{full_window, ground?, ◌else◌}
use Rattle.ranked.specs.Ground15.{ground15}
use Rattle.grounds.specs.Order.{grounds13to15}
use Rattle.windows.proofs.Grounds.{window_is}
use Rattle.grounds.proofs.Laws.{stop, pass}
use Rattle.grounds.proofs.grounds_13_to_15.Goals as goal

pub returns-in-Some : goal.returns-in-Some
unfolding grounds13to15
returns-in-Some c =
    let g = c in
    let d : Device = g.args.d in
    let p : Plan = plan_of g.args.plan.now in
    let n : ℕ = ranked_count d p in
    let is = window_is d p _ _ _ _ _ g.requires.2 in
    stop (full_window d p d.long_window d.long_max) 13 _ n (ground? 14 (full_window d p d.short_window d.short_max) else ground15 d p) (is d.long_window d.long_max ∙ sym c.first_window.ensures ∙ c.in-Some.is)

pub returns-in-Some-first_window : goal.returns-in-Some-first_window
unfolding grounds13to15
returns-in-Some-first_window c =
    let g = c in
    let d : Device = g.args.d in
    let p : Plan = plan_of g.args.plan.now in
    let n : ℕ = ranked_count d p in
    let is = window_is d p _ _ _ _ _ g.requires.2 in
    stop (full_window d p d.short_window d.short_max) 14 _ n (ground15 d p) (is d.short_window d.short_max ∙ sym c.first_window-2.ensures ∙ c.in-Some-first_window.is)
    ∙ pass (full_window d p d.long_window d.long_max) 13 n (ground? 14 (full_window d p d.short_window d.short_max) else ground15 d p) (is d.long_window d.long_max ∙ sym c.first_window.ensures ∙ c.in_default.is)

pub returns : goal.returns
unfolding grounds13to15
returns c =
    let g = c in
    let d : Device = g.args.d in
    let p : Plan = plan_of g.args.plan.now in
    let n : ℕ = ranked_count d p in
    let is = window_is d p _ _ _ _ _ g.requires.2 in
    c.ground_15.ensures
    ∙ pass (full_window d p d.short_window d.short_max) 14 n (ground15 d p) (is d.short_window d.short_max ∙ sym c.first_window-2.ensures ∙ c.in_default-first_window.is)
    ∙ pass (full_window d p d.long_window d.long_max) 13 n (ground? 14 (full_window d p d.short_window d.short_max) else ground15 d p) (is d.long_window d.long_max ∙ sym c.first_window.ensures ∙ c.in_default.is)
