-- `arrivals::scatter` meets its contract. The loop has put the pilots below k, which is the next one. Assumes nothing.
use Prim.Native.Nat.{◌+◌}
use mathlib.Core.Path.{◌≡◌, refl, sym, ap, ◌∙◌}
use native.Mathlib.Nat.{mod-eq_of_lt, add-mod_right}
use native.Mathlib.Omega.{arith}
use lib.ListN.{get_or, set}
use Rattle.rules.specs.Device.{phases}
use Rattle.counting.proofs.Stride.{Upto, stride_put}
use Rattle.arrivals.specs.Expected.{scattered_mark, expected}
use Rattle.arrivals.proofs.Expecting.{expected_in, expected_gap, expected_start}
use Rattle.arrivals.proofs.scatter.Goals as goal
use Rattle.arrivals.proofs.scatter.Goals.{After-scattered_mark}

-- pilot k is put
put : (c : After-scattered_mark) → Upto c.args.width (c.loop-k.k + phases) (expected c.args.base c.args.marks.now) (λ q. get_or c.args.marks.now q 0) (set c.loop-k.marks c.loop-k.k c.scattered_mark.result)
put c =
    let a = c.args in
    let l = c.loop-k in
    let v = c.scattered_mark.result in
    let old = l.invariant.1.rest l.k c.loop-k-test.true (omega arith) in
    let new : v ≡ expected a.base a.marks.now l.k = c.scattered_mark.ensures ∙ ap scattered_mark old ∙ sym (expected_in a.base a.marks.now l.k l.invariant.0) in
    stride_put _ phases l.k (expected a.base a.marks.now) (λ q. get_or a.marks.now q 0) l.marks (expected_gap a.base l.k a.marks.now l.invariant.0) l.invariant.1 _ v (omega arith) refl (omega arith) new

pub loop-k-init : goal.loop-k-init
loop-k-init c = (mod-eq_of_lt c.requires.0, expected_start _ c.args.base c.args.marks.now c.requires.0)

pub loop-k-preserved : goal.loop-k-preserved
loop-k-preserved c = (add-mod_right c.loop-k.k phases ∙ c.loop-k.invariant.0, put (goal.at.loop-k-preserved c).After-scattered_mark)

pub returns-2 : goal.returns-2
returns-2 c = λ k h. (put (goal.at.returns-2 c).After-scattered_mark).done k h (omega arith)
