-- `verdicts::study_from` meets its contract. Assumes nothing.
use mathlib.Core.Path.{sym, ap, ◌∙◌, subst}
use Rattle.plan.specs.declared.GoodChain.{GoodChain}
use Rattle.rules.specs.declared.Refusal.{Refusal}
use Rattle.std.specs.Prelude.{Result}
use Rattle.plan.specs.Noted.{finding_of, Filled}
use Rattle.verdicts.proofs.Verdicts.{verdict_chain}
use Rattle.rules.proofs.Findings.{passed_on}
use Rattle.verdicts.proofs.study_from.Goals as goal

pub walk_chain-requires : goal.walk_chain-requires
walk_chain-requires c = let g = c in (g.requires.0, g.requires.1)

pub study_tables-requires : goal.study_tables-requires
study_tables-requires c =
    let g = c in
    let w = c.walk_chain in
    let told = c.in_ok-chain.was in
    let tables = w.new in
    (g.requires.0, (subst (λ (r : Result GoodChain Refusal). Filled r g.args.d g.args.plan.now tables.reach tables.hot tables.pil tables.rec) told w.ensures.1).0, ap finding_of (sym told) ∙ w.ensures.0, g.requires.2)

pub returns-in_err-chain : goal.returns-in_err-chain
returns-in_err-chain c =
    rw (passed_on _ c.from_residual.ensures) (verdict_chain c.args.d c.args.plan.now _ _ (ap finding_of (sym c.in_err-chain.was) ∙ c.walk_chain.ensures.0), tt, c.requires.2)
