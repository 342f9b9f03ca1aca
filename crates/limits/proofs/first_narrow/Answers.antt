-- `limits::first_narrow` meets its contract. The loop keeps that no band before band j is narrower than w. Assumes nothing.
use Rattle.limits.proofs.Tests.{narrow_yes, narrow_no}
use Rattle.limits.proofs.Searching.{search_start, search_found, search_passed}
use Rattle.limits.proofs.first_narrow.Goals as goal

pub loop-j-init : goal.loop-j-init
loop-j-init c = search_start

pub returns-then-width_of-w : goal.returns-then-width_of-w
returns-then-width_of-w c =
    let v = c in
    let t = v in
    let k = t.band_at-k.ensures in
    search_found t.loop-j.invariant t.loop-j-test.true k.lowest k.highest (narrow_yes _ _ _ _ v.width_of.ensures c.if-width_of-w.true)

pub loop-j-preserved : goal.loop-j-preserved
loop-j-preserved c =
    let v = c in
    let t = v in
    let k = t.band_at-k.ensures in
    search_passed t.loop-j.invariant t.loop-j-test.true k.lowest k.highest (narrow_no _ _ _ _ v.width_of.ensures c.if-width_of-w.false)
