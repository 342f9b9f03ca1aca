-- `figureflushes::fresh_lines` meets its contract: the places of the lines filled with filler, and then the placeholders put. Assumes nothing.
use mathlib.Core.Path.{◌≡◌, ◌∙◌}
use native.Mathlib.Omega.{arith}
use Rattle.rules.specs.Plan.{plan_of}
use Rattle.rules.specs.Frame.{frame_of}
use Rattle.figure.specs.Steps.{literal_places}
use Rattle.figureflushes.proofs.Fresh.{places_of, fresh_of}
use Rattle.figureflushes.proofs.fresh_lines.Goals as goal
use Rattle.figureflushes.proofs.fresh_lines.Goals.{After-literal_places, After-number_at-m}

-- the depth
deep : (c : After-number_at-m) → c.number_at-m.result ≡ (plan_of c.args.plan.now).depth
unfolding plan_of
deep c = c.number_at-m.ensures.0

-- the places of the lines
need : (c : After-literal_places)
    → c.literal_places.result ≡ literal_places (frame_of c.args.d (plan_of c.args.plan.now))
unfolding plan_of
need c =
    let g = c in
    c.literal_places.ensures ∙ places_of g.args.d g.args.plan.now g.args.kc.now g.requires.0 _ ((let it : c.number_at-m.result ≡ (plan_of c.args.plan.now).depth = c.number_at-m.ensures.0 in it))

pub literal_places-requires : goal.literal_places-requires
literal_places-requires c =
    let w = c.requires.0 in
    (omega (arith, deep (goal.at.literal_places-requires c).After-number_at-m, w.deep), omega (arith, deep (goal.at.literal_places-requires c).After-number_at-m, w.shallow), w.few)

pub put_filler-requires : goal.put_filler-requires
put_filler-requires c = omega (arith, need c, c.requires.2)

pub put_placeholders-requires : goal.put_placeholders-requires
put_placeholders-requires c =
    let made = c in
    let g = made in
    let w = g.requires.0 in
    let m = deep (goal.at.put_placeholders-requires c).After-number_at-m in
    (omega (arith, m, w.deep), omega (arith, m, w.shallow), w.few, omega (arith, made.literal_places.ensures, need (goal.at.put_placeholders-requires c).After-literal_places, g.requires.2, c.put_filler.auto))

pub returns : goal.returns
unfolding plan_of
returns c =
    let made = c in
    let g = made in
    let a = g.args in
    fresh_of a.d a.plan.now a.kc.now g.requires.0 _ (deep (goal.at.returns c).After-number_at-m) a.phase _ _ made.number_at-l.ensures.0 made.literal_places.ensures
    a.store.now _ _ g.requires.2 c.put_filler.ensures c.put_placeholders.ensures
