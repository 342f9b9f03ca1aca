-- `exclusion::try_range` meets its contract: the tables start empty. Assumes nothing.
use mathlib.Core.Path.{sym, ap, ◌∙◌, subst}
use Prim.Native.Nat.{ℕ}
use lib.ListN.{replicate, length-replicate}
use Rattle.ranges.proofs.NoteLaws.{table_zero, flags_zero, hit_zero}
use Rattle.std.specs.Prelude.{Result}
use Rattle.rules.specs.declared.Refusal.{Refusal}
use Rattle.plan.specs.declared.GoodChain.{GoodChain}
use Rattle.plan.specs.Noted.{finding_of, Filled}
use Rattle.plan.proofs.ChainLaws.{kept_start}
use Rattle.exclusion.proofs.Trials.{trial_refused}
use Rattle.exclusion.proofs.try_range.Goals as goal

pub walk_chain-requires : goal.walk_chain-requires
walk_chain-requires c =
    let g = c in
    (g.requires.0, kept_start (table_zero 4096 g.args.d.subcarriers g.requires.0.few) (flags_zero 4096 (replicate 256 0) (length-replicate {A = ℕ} 256 0)) (hit_zero 4096) (length-replicate {A = ℕ} 128 0) (length-replicate {A = ℕ} 128 0))

pub try_copy-requires : goal.try_copy-requires
try_copy-requires c =
    let g = c in
    let w = c.walk_chain in
    let told = c.in-Ok.is in
    let tables = w.new in
    let filled = subst (λ (r : Result GoodChain Refusal). Filled r g.args.d g.args.plan.now tables.reach tables.hot tables.pil tables.rec) told w.ensures.1 in
    (g.requires.0, sym w.ensures.0 ∙ ap finding_of told, filled.0, filled.1, g.requires.1)

pub returns-in-Err : goal.returns-in-Err
returns-in-Err c =
    let g = c in
    (sym (trial_refused g.args.d g.args.plan.now g.args.first g.args.last _ (sym c.walk_chain.ensures.0 ∙ ap finding_of c.in-Err.is)), tt)
