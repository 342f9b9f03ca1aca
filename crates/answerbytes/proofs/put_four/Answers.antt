-- `answerbytes::put_four` meets its contract. Assumes nothing.
use native.Mathlib.Omega.{arith}
use lib.ListN.{length-set}
use Rattle.answerbytes.specs.Layout.{four}
use Rattle.answerbytes.proofs.LayoutLaws.{put_bytes}
use Rattle.answerbytes.proofs.put_four.Goals as goal

pub bounds-a-at-2 : goal.bounds-a-at-2
bounds-a-at-2 c = simp length-set (omega arith)

pub bounds-a-at-3 : goal.bounds-a-at-3
bounds-a-at-3 c = simp length-set (omega arith)

pub bounds-a-at-4 : goal.bounds-a-at-4
bounds-a-at-4 c = simp length-set (omega arith)

pub returns : goal.returns
unfolding four
returns c = put_bytes c.args.a.now c.args.at _ _ _ _
