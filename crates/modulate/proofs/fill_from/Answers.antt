-- `modulate::fill_from` meets its contract. Assumes nothing.
use mathlib.Core.Path.{refl, ap, ◌∙◌}
use mathlib.Core.List.{List}
use native.Mathlib.Numerals.{add-one}
use native.Mathlib.Omega.{arith}
use lib.ListN.{length}
use lib.Ieee.{Float}
use Rattle.counting.proofs.Laws.{lowest_none}
use Rattle.loadlimits.specs.Limits.{unadmitted}
use Rattle.modulator.specs.Symbols.{put_answer, line_at, filled_to}
use Rattle.modulate.proofs.fill_from.Goals as goal

pub loop-k-init : goal.loop-k-init
unfolding filled_to
loop-k-init c = refl

pub fill_at-requires : goal.fill_at-requires
fill_at-requires c =
    let a = c.args in
    let n = length a.symbol.now in
    (c.requires.0, omega arith, omega arith, omega arith, omega arith, lowest_none (unadmitted a.symbol.now a.loads.now) n c.requires.4 c.loop-k.k c.loop-k-test.true)

pub loop-k-preserved : goal.loop-k-preserved
unfolding filled_to
loop-k-preserved c =
    let a = c.args in
    let l = c.loop-k in
    c.fill_at.ensures ∙ rw (add-one l.k) (ap (λ (n : List Float). put_answer n l.k (line_at a.symbol.now a.loads.now a.minus.now l.k)) l.invariant)
