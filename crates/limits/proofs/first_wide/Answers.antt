-- `limits::first_wide` meets its contract. The loop keeps that no band before band j has width w or more. Assumes nothing.
use Rattle.limits.proofs.Tests.{wide_yes, wide_no}
use Rattle.limits.proofs.Searching.{search_start, search_found, search_passed}
use Rattle.limits.proofs.first_wide.Goals as goal

pub loop-j-init : goal.loop-j-init
loop-j-init c = search_start

pub returns-then-w-width_of : goal.returns-then-w-width_of
returns-then-w-width_of c =
    let v = c in
    let t = v in
    let k = t.band_at-k.ensures in
    search_found t.loop-j.invariant t.loop-j-test.true k.lowest k.highest (wide_yes _ _ _ _ v.width_of.ensures c.if-w-width_of.true)

pub loop-j-preserved : goal.loop-j-preserved
loop-j-preserved c =
    let v = c in
    let t = v in
    let k = t.band_at-k.ensures in
    search_passed t.loop-j.invariant t.loop-j-test.true k.lowest k.highest (wide_no _ _ _ _ v.width_of.ensures c.if-w-width_of.false)
