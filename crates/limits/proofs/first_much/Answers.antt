-- `limits::first_much` meets its contract. The loop keeps that no band before band j has too many excluded. Assumes nothing.
use Rattle.limits.proofs.Tests.{much_yes, much_no}
use Rattle.limits.proofs.Searching.{search_start, search_found, search_passed}
use Rattle.limits.proofs.first_much.Goals as goal

pub loop-j-init : goal.loop-j-init
loop-j-init c = search_start

pub returns-then-width_of-k : goal.returns-then-width_of-k
returns-then-width_of-k c =
    let v = c in
    let t = v in
    let k = t.band_at-k.ensures in
    search_found t.loop-j.invariant t.loop-j-test.true k.lowest k.highest (much_yes _ _ _ _ _ _ k.singles _ v.width_of.ensures c.if-width_of-k.true)

pub loop-j-preserved : goal.loop-j-preserved
loop-j-preserved c =
    let v = c in
    let t = v in
    let k = t.band_at-k.ensures in
    search_passed t.loop-j.invariant t.loop-j-test.true k.lowest k.highest (much_no _ _ _ _ _ _ k.singles _ v.width_of.ensures c.if-width_of-k.false)
