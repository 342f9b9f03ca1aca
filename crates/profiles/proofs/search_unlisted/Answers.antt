-- `profiles::search_unlisted` meets its contract. The loop has passed k loads, all of them listed. Assumes nothing.
use mathlib.Core.Path.{sym}
use native.Mathlib.Numerals.{add-one}
use native.Mathlib.Omega.{arith}
use lib.ListN.{length}
use Rattle.counting.proofs.Laws.{lowest_zero, lowest_on, lowest_here, bit_true, bit_false}
use Rattle.rules.proofs.Loads.{is_unlisted}
use Rattle.profiles.proofs.search_unlisted.Goals as goal

pub loop-k-init : goal.loop-k-init
loop-k-init c = lowest_zero _

pub returns-then-unlisted-ne0 : goal.returns-then-unlisted-ne0
returns-then-unlisted-ne0 c =
    let w = c.args.profile.now in
    let l = c.loop-k in
    sym (lowest_here (is_unlisted w) l.k (length w) c.loop-k-test.true l.invariant (bit_true _ (omega (arith, c.unlisted.ensures, c.if-unlisted-ne0.true))))

pub loop-k-preserved : goal.loop-k-preserved
loop-k-preserved c =
    let w = c.args.profile.now in
    let l = c.loop-k in
    rw add-one (lowest_on (is_unlisted w) l.k l.invariant (bit_false _ (omega (arith, c.unlisted.ensures, c.if-unlisted-ne0.false))))
