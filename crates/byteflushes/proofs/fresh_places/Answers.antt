-- `byteflushes::fresh_places` meets its contract: the bytes of the places filled with filler, and then the placeholders put. Assumes nothing.
use mathlib.Core.Path.{◌≡◌, refl, ap, ◌∙◌}
use native.Mathlib.Omega.{arith}
use lib.ListN.{replicate}
use lib.Seq.{sets}
use Rattle.rules.specs.Plan.{plan_of}
use Rattle.rules.specs.Frame.{frame_of, filler}
use Rattle.rules.specs.Store.{emitter_places}
use Rattle.flushes.proofs.Fresh.{places_of, fresh_of}
use Rattle.bytecells.specs.Octets.{cells_of, bytes_of}
use Rattle.bytecells.proofs.OctetLaws.{whole_length, cells_bytes, put_bytes}
use Rattle.byteflushes.proofs.BytePutting.{bytes_whole}
use Rattle.byteflushes.proofs.fresh_places.Goals as goal
use Rattle.byteflushes.proofs.fresh_places.Goals.{After-emitter_places, After-number_at-m, After-write_same}

-- the depth
deep : (c : After-number_at-m) → c.number_at-m.result ≡ (plan_of c.args.plan.now).depth
unfolding plan_of
deep c = c.number_at-m.ensures.0

-- the places of the cells
need : (c : After-emitter_places) → c.emitter_places.result ≡ emitter_places (frame_of c.args.d (plan_of c.args.plan.now))
unfolding plan_of
need c =
    let g = c in
    c.emitter_places.ensures ∙ places_of g.args.d g.args.plan.now g.args.kc.now g.requires.0 _ ((let it : c.number_at-m.result ≡ (plan_of c.args.plan.now).depth = c.number_at-m.ensures.0 in it))

-- the bytes that are filled
filled : (c : After-write_same) → c.write_same.new.b ≡ bytes_of (sets (cells_of c.args.store.now) 0 (replicate c.emitter_places.result filler))
filled c =
    let g = c in
    c.write_same.ensures ∙ put_bytes g.args.store.now 0 (replicate c.emitter_places.result filler) g.requires.2

pub emitter_places-requires : goal.emitter_places-requires
emitter_places-requires c =
    let w = c.requires.0 in
    (omega (arith, deep (goal.at.emitter_places-requires c).After-number_at-m, w.deep), omega (arith, deep (goal.at.emitter_places-requires c).After-number_at-m, w.shallow), w.few)

pub write_same-requires : goal.write_same-requires
write_same-requires c = omega (arith, need c, c.requires.3)

pub put_placeholders-requires : goal.put_placeholders-requires
put_placeholders-requires c =
    let made = c in
    let g = made in
    let w = g.requires.0 in
    let m = deep (goal.at.put_placeholders-requires c).After-number_at-m in
    (omega (arith, m, w.deep), omega (arith, m, w.shallow), w.few, rw (filled (goal.at.put_placeholders-requires c).After-write_same) (bytes_whole _), omega (arith, made.emitter_places.ensures, need (goal.at.put_placeholders-requires c).After-emitter_places, g.requires.3, c.write_same.auto.b))

pub returns : goal.returns
unfolding plan_of
returns c =
    let put = c in
    let made = put in
    let g = made in
    let a = g.args in
    c.put_placeholders.ensures
    ∙ ap bytes_of
    (fresh_of a.d a.plan.now a.kc.now g.requires.0 _ (deep (goal.at.returns c).After-number_at-m) a.j _ _ made.number_at-l.ensures.0 made.emitter_places.ensures
    (cells_of a.store.now) _ _ (omega (arith, g.requires.3, whole_length a.store.now g.requires.2)) (ap cells_of (filled (goal.at.returns c).After-write_same) ∙ cells_bytes _) refl)
