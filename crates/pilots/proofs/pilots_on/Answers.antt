-- `pilots::pilots_on` meets its contract. Assumes nothing.
use mathlib.Core.Path.{sym, ◌∙◌, subst}
use Rattle.rules.specs.Refusals.{Verdict}
use Rattle.verdicts.specs.Studied.{StudiedIf}
use Rattle.verdicts.proofs.Verdicts.{first_ground, no_ground}
use Rattle.pilots.proofs.Listing.{answer_fine, answer_ground}
use Rattle.pilots.proofs.pilots_on.Goals as goal

pub list_accepted-requires : goal.list_accepted-requires
list_accepted-requires c =
    let s = c in
    let study = c.study in
    let told = c.in-Ok.is in
    (s.requires, subst (λ (v : Verdict). StudiedIf v s.args.d s.args.plan.now study.new.m) told study.ensures.1, no_ground s.args.d s.args.plan.now _ (sym told ∙ study.ensures.0))

pub returns-in-Err : goal.returns-in-Err
returns-in-Err c =
    let s = c in
    answer_ground s.args.d s.args.plan.now _ (first_ground s.args.d s.args.plan.now _ _ (sym c.in-Err.is ∙ c.study.ensures.0))

pub returns-in-Ok : goal.returns-in-Ok
returns-in-Ok c =
    let s = c in
    let told = c.in-Ok.is in
    c.list_accepted.ensures ∙ answer_fine s.args.d s.args.plan.now (no_ground s.args.d s.args.plan.now _ (sym told ∙ c.study.ensures.0))
