-- `lamprecord::lights_of` meets its contract. Assumes nothing.
use Prim.Native.Nat.{ℕ}
use mathlib.Core.Path.{◌≡◌, ap, ap₂, ◌∙◌}
use mathlib.Core.Bool.{◌&&◌}
use native.Mathlib.Numerals.{add-one}
use native.Mathlib.Omega.{arith}
use lib.Dec.{ltb, eqb}
use lib.ListN.{get_or}
use Rattle.counting.specs.Search.{bit}
use Rattle.counting.proofs.Lists.{laid_none, laid_next, laid_all}
use Rattle.pilots.specs.Pilots.{pilots_most}
use Rattle.lamprecord.specs.Record.{lit, lights}
use Rattle.lamprecord.proofs.lights_of.Goals as goal

pub loop-i-init : goal.loop-i-init
loop-i-init c = laid_none _ _

pub loop-i-preserved : goal.loop-i-preserved
loop-i-preserved c =
    let r = c.args.counts.now in
    let l = c.loop-i in
    let e : c.light.result ≡ bit (lit r l.i) =
    unfold lit in (c.light.ensures
    ∙ ap₂ (λ (f x : ℕ). bit (ltb 0 f && eqb x f)) c.count_at.ensures (c.count_at-in-loop-i.ensures ∙ ap (λ (q : ℕ). get_or r q 0) (add-one l.i))) in
    laid_next _ pilots_most l.i l.out _ l.invariant (omega arith) e

pub returns : goal.returns
returns c = let l = c.loop-i in unfold lights in (laid_all _ pilots_most l.i l.out l.invariant (omega arith))
