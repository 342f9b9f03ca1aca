-- `exclusion::try_copy` meets its contract: the walk goes on at the copy's new record. Assumes nothing.
use mathlib.Core.Path.{sym, ap, ◌∙◌, subst}
use mathlib.Core.List.{List}
use native.Mathlib.Omega.{arith}
use Prim.Native.Nat.{ℕ, ◌/◌}
use lib.ListN.{length, length-replicate}
use lib.Seq.{length-take-le}
use Rattle.rules.specs.Grounds.{verdict}
use Rattle.plan.specs.Walk.{Kept}
use Rattle.copylaws.proofs.Copy.{sized}
use Rattle.copylaws.proofs.Walked.{walk_on}
use Rattle.exclusion.proofs.Trials.{trial_copy, copied_if}
use Rattle.exclusion.proofs.try_copy.Goals as goal

pub extend-length-requires : goal.extend-length-requires
extend-length-requires c =
    let g = c in
    let size = sized g.args.d g.args.plan.now 0 0 g.requires.1 in
    (size.some, size.most, g.requires.3, omega (arith, size.most, g.requires.4))

pub slice_bounds-study_from-end : goal.slice_bounds-study_from-end
slice_bounds-study_from-end c =
    let g = c in
    omega (arith, c.extend-length.ensures.1, (sized g.args.d g.args.plan.now 0 0 g.requires.1).most, g.requires.4)

pub slice_bounds-study_from-end-2 : goal.slice_bounds-study_from-end-2
slice_bounds-study_from-end-2 c =
    let g = c in
    sym (length-take-le _ _ (omega (arith, c.extend-length.ensures.1, (sized g.args.d g.args.plan.now 0 0 g.requires.1).most, g.requires.4)))

pub study_from-verdict-requires : goal.study_from-verdict-requires
study_from-verdict-requires c =
    let g = c in
    let e = c.extend-length.ensures in
    (g.requires.0, (λ good. subst (λ (s : List ℕ). Kept g.args.d s (length s / 8) (length g.args.plan.now / 8) g.args.np g.args.reach.now g.args.hot.now g.args.pil.now g.args.rec.now) (sym e.0) (walk_on g.args.d g.args.plan.now g.args.first g.args.last g.requires.1 g.requires.2)), length-replicate {A = ℕ} 4096 0)

pub returns : goal.returns
returns c =
    let g = c in
    let x = c.extend-length in
    let e = x.ensures in
    let size = sized g.args.d g.args.plan.now 0 0 g.requires.1 in
    (c.study_from-verdict.ensures.0 ∙ ap (verdict g.args.d) e.0 ∙ sym (trial_copy g.args.d g.args.plan.now g.args.first g.args.last g.requires.1), copied_if c.study_from-verdict.result g.args.d g.args.plan.now g.args.first g.args.last x.result x.new.copy g.requires.1 e.0 (omega (arith, e.1, size.most, g.requires.4)))
