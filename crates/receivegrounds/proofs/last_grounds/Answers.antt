-- `receivegrounds::last_grounds` meets its contract: one law for each return. Assumes nothing.
use Prim.Native.Nat.{ℕ, ◌-◌}
use mathlib.Core.Path.{◌≡◌, sym, ap, ◌∙◌}
use mathlib.Core.Bool.{not, ◌&&◌}
use mathlib.Core.List.{List}
use Rattle.std.specs.Prelude.{Some, None, Ok}
use native.Mathlib.Omega.{arith}
use lib.Dec.{ltb}
use lib.ListN.{length, take}
use lib.Seq.{length-take-le}
use Rattle.rules.specs.Plan.{plan_of}
use Rattle.rules.specs.Frame.{frame_of}
use Rattle.rules.specs.Receive.{warming, short_buffer}
use Rattle.receiving.proofs.Answers.{arriving}
use Rattle.receivegrounds.specs.Stages.{answered}
use Rattle.receivegrounds.proofs.Stages.{bad_buffer, good_buffer}
use Rattle.receivegrounds.proofs.last_grounds.Goals as goal
use Rattle.receivegrounds.proofs.last_grounds.Goals.{After-lacks}

-- whether a buffer of this length is too short
said : (c : After-lacks) (b : List ℕ) → length b ≡ c.args.room → short_buffer ((frame_of c.args.d (plan_of c.args.plan.now))) c.args.state b ≡ c.lacks.result
unfolding short_buffer warming frame_of
said c b eb = let g = c in sym (c.lacks.ensures ∙ (λ i. not (ltb g.args.state.heard (g.requires.1 i - 1)) && ltb (sym eb i) (g.requires.2 i)))

pub lacks-requires : goal.lacks-requires
lacks-requires c = let g = c in omega (arith, g.requires.1, g.requires.0.deep)

pub returns-then-lacks : goal.returns-then-lacks
returns-then-lacks c b eb = let g = c in ap (answered ((frame_of g.args.d (plan_of g.args.plan.now))) g.args.state) (bad_buffer ((frame_of g.args.d (plan_of g.args.plan.now))) g.args.state ((arriving g.args.profile.now (take g.args.width g.args.symbol.now) b)) (said (goal.at.returns-then-lacks c).After-lacks b eb ∙ c.if-lacks.true))

pub slice_bounds-wrong_cell-end : goal.slice_bounds-wrong_cell-end
slice_bounds-wrong_cell-end c = let g = c in sym (length-take-le g.args.width g.args.symbol.now g.requires.6)

pub wrong_cell-requires : goal.wrong_cell-requires
wrong_cell-requires c =
    let g = c in
    (g.requires.0.fits, g.requires.0.studied, omega (arith, g.requires.4), length-take-le g.args.width g.args.symbol.now g.requires.6 ∙ g.requires.5, g.requires.3)

pub returns-in-Some : goal.returns-in-Some
unfolding frame_of
returns-in-Some c b eb =
    let g = c in
    ap (answered ((frame_of g.args.d (plan_of g.args.plan.now))) g.args.state)
    (good_buffer ((frame_of g.args.d (plan_of g.args.plan.now))) g.args.state ((arriving g.args.profile.now (take g.args.width g.args.symbol.now) b)) (said (goal.at.returns-in-Some c).After-lacks b eb ∙ c.if-lacks.false) (Some c.in-Some.k) (sym (c.in-Some.is) ∙ c.wrong_cell.ensures))

pub returns : goal.returns
unfolding frame_of
returns c b eb =
    let g = c in
    let pre = g.requires in
    (λ i. Ok (record { depth = pre.1 i; cells = pre.0.all i; count = pre.2 i }))
    ∙ ap (answered ((frame_of g.args.d (plan_of g.args.plan.now))) g.args.state)
    (good_buffer ((frame_of g.args.d (plan_of g.args.plan.now))) g.args.state ((arriving g.args.profile.now (take g.args.width g.args.symbol.now) b)) (said (goal.at.returns c).After-lacks b eb ∙ c.if-lacks.false) None (sym (c.in_default.is) ∙ c.wrong_cell.ensures))
