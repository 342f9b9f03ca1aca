-- `verdicts::study` meets its contract: the tables start empty. Assumes nothing.
use Prim.Native.Nat.{ℕ}
use lib.ListN.{replicate, length-replicate}
use Rattle.ranges.proofs.NoteLaws.{table_zero, flags_zero, hit_zero}
use Rattle.plan.proofs.ChainLaws.{kept_start}
use Rattle.verdicts.proofs.study.Goals as goal

pub study_from-requires : goal.study_from-requires
study_from-requires c =
    let g = c in
    (g.requires.0, kept_start (table_zero 4096 g.args.d.subcarriers g.requires.0.few) (flags_zero 4096 (replicate 256 0) (length-replicate {A = ℕ} 256 0)) (hit_zero 4096) (length-replicate {A = ℕ} 128 0) (length-replicate {A = ℕ} 128 0), g.requires.1)
