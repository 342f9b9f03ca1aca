-- `bytelamp::put_lights` meets its contract. Assumes nothing.
use Prim.Native.Nat.{◌+◌}
use mathlib.Core.Path.{◌≡◌, sym, ap, ◌∙◌}
use mathlib.Core.List.{◌++◌}
use native.Mathlib.Omega.{arith}
use lib.ListN.{length, drop}
use lib.Seq.{length-take-le}
use Rattle.std.proofs.lemmas.List.Edits.{sets-eq}
use Rattle.rules.specs.Refusals.{CountAnswer}
use Rattle.bytelamp.specs.ByteLamp.{put_if}
use Rattle.bytelamp.proofs.put_lights.Goals as goal

pub copy_from_slice-requires : goal.copy_from_slice-requires
copy_from_slice-requires c = length-take-le 128 c.args.lights.now c.requires.1 ∙ sym c.requires.0

pub returns : goal.returns
returns c =
    let a = c.args in
    let told = c.in_ok-n.was in
    let copied = c.copy_from_slice.ensures.after in
    let long : 128 ≡ 0 + length a.a.lights = omega arith in
    let put = sym (sets-eq a.a.lights a.lights.now 0 (omega arith)) in
    (sym told, (λ i. copied i ++ drop (long i) a.lights.now) ∙ put ∙ ap (λ (x : CountAnswer). put_if x a.a.lights a.lights.now) (sym told))
