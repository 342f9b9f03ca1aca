-- `lamprecord::some_bad` meets its contract. Assumes nothing.
use Prim.Native.Nat.{ℕ}
use mathlib.Core.Path.{◌≡◌, sym, ap, ◌∙◌}
use mathlib.Core.Bool.{not}
use Rattle.std.specs.Prelude.{Option}
use native.Mathlib.Numerals.{add-one}
use native.Mathlib.Omega.{arith}
use lib.ListN.{length}
use Rattle.counting.specs.Search.{is_none}
use Rattle.counting.proofs.Laws.{lowest_zero, lowest_on, lowest_here}
use Rattle.lamprecord.specs.Record.{lamp_cap, bad_count}
use Rattle.lamprecord.proofs.some_bad.Goals as goal

pub loop-x-init : goal.loop-x-init
loop-x-init c = lowest_zero _

pub returns-then-bad_count : goal.returns-then-bad_count
unfolding bad_count
returns-then-bad_count c =
    let r = c.args.counts.now in
    let l = c.loop-x in
    ap (λ (o : Option ℕ). not (is_none o)) (sym (lowest_here (bad_count lamp_cap r) l.x-index (length r) c.loop-x-test.true l.invariant (sym c.bad_count.ensures ∙ c.if-bad_count.true)))

pub loop-x-preserved : goal.loop-x-preserved
unfolding bad_count
loop-x-preserved c =
    let l = c.loop-x in
    rw add-one (lowest_on (bad_count lamp_cap c.args.counts.now) l.x-index l.invariant (sym c.bad_count.ensures ∙ c.if-bad_count.false))

pub returns : goal.returns
returns c =
    let l = c.loop-x in
    let e : l.x-index ≡ length c.args.counts.now = omega arith in
    ap (λ (o : Option ℕ). not (is_none o)) (sym (rw e at l.invariant))
