-- `windows::window_in` meets its contract. The loop keeps that no single before single q is near enough to the one `most` after it. Assumes nothing.
use mathlib.Core.Path.{sym, ap, ◌∙◌}
use Prim.Native.Nat.{ℕ, suc, max, ◌-◌}
use native.Mathlib.Omega.{arith}
use Rattle.rules.specs.Plan.{plan_of}
use Rattle.rules.specs.Bands.{excluded, excluded_in}
use Rattle.windows.specs.Windows.{window_in}
use Rattle.windows.proofs.Windows.{window_short, window_some, window_none}
use Rattle.windows.proofs.window_in.Goals as goal

pub returns-then-b-a : goal.returns-then-b-a
unfolding window_in excluded_in
returns-then-b-a c =
    let g = c in
    sym (window_short (excluded (plan_of g.args.plan.now)) g.args.a g.args.b g.args.size g.args.most (omega arith))

pub returns-then-v-wide : goal.returns-then-v-wide
unfolding window_in excluded_in
returns-then-v-wide c =
    let g = c.args in
    let v = c.wide-v.ensures.0 in
    let w = c.wide.ensures.0 in
    sym (window_some (excluded (plan_of g.plan.now)) g.a g.b g.x.now g.from g.to c.requires.0 g.size g.most c.loop-q.q (omega arith)
    (omega arith, omega (arith, v, w)) (λ j f t n. c.loop-q.invariant j t f n.0 n.1) (omega arith) _ (c.window_start.ensures ∙ ap (λ (y : ℕ). max g.a (suc y - g.size)) v))

pub returns : goal.returns
unfolding window_in excluded_in
returns c =
    let g = c.args in
    sym (window_none (excluded (plan_of g.plan.now)) g.a g.b g.x.now g.from g.to c.requires.0 g.size g.most
    (λ j f n. c.loop-q.invariant j (omega (arith, n.0)) f n.0 n.1))
