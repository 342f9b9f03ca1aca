-- `plan::walk_chain` meets its contract. The loop stands at record i of the chain: the tables hold the ranges and the np pilots before it,
-- and no ground holds there. The measure is how many records are left. Assumes nothing.
use mathlib.Core.Path.{◌≡◌, sym, ap, ◌∙◌}
use mathlib.Core.Bool.{false}
use Prim.Native.Nat.{ℕ, ◌/◌}
use native.Mathlib.Omega.{arith}
use lib.ListN.{length}
use Rattle.std.specs.Prelude.{Ok, Option}
use Rattle.rules.specs.Grounds.{bad_length, record_grounds}
use Rattle.records.specs.Read.{entry_of, found_at}
use Rattle.records.proofs.RecordLaws.{Sized, length_fine, fine_range}
use Rattle.plan.specs.Walk.{Turned}
use Rattle.plan.proofs.ChainLaws.{index_is, stopped, found_some, turned}
use Rattle.plan.proofs.NotedLaws.{bad_length_lem, good_length, left_fine, noted}
use Rattle.plan.proofs.walk_chain.Goals as goal
use Rattle.plan.proofs.walk_chain.Goals.{After-take_record-np, Else-bad_length, In_default}

-- the length is good
short : (c : Else-bad_length) → bad_length c.args.plan.now ≡ false
short c = sym c.bad_length.ensures ∙ c.if-bad_length.false

sized : (c : Else-bad_length) → Sized c.args.plan.now
sized c = length_fine _ (short c)

-- no ground of 2 to 5 holds
no_ground : (c : In_default)
    → record_grounds c.args.d (length c.args.plan.now / 8) c.loop-number.np (entry_of c.record_at-e.result) ≡ Ok tt
no_ground c = sym c.record_ground.ensures ∙ ap (λ (g : Option ℕ). found_at g c.record_at-e.result.index) c.in_default.is

-- the record has been taken
after : (c : After-take_record-np)
    → Turned c.args.d c.args.plan.now (length c.args.plan.now / 8) c.loop-number.i c.take_record-np.result c.record_at-e.result.next
    c.take_record-np.new.reach c.take_record-np.new.hot c.take_record-np.new.pil c.take_record-np.new.rec
after c = turned (sym c.record_ground.ensures ∙ ap (λ (g : Option ℕ). found_at g c.record_at-e.result.index) c.in_default.is) c.take_record-np.ensures c.record_at-e.ensures.0 c.loop-number.invariant

pub bad_length-requires : goal.bad_length-requires
bad_length-requires c = tt

pub returns-then-bad_length : goal.returns-then-bad_length
returns-then-bad_length c = (bad_length_lem _ _ (sym c.bad_length.ensures ∙ c.if-bad_length.true), tt)

pub loop-number-init : goal.loop-number-init
loop-number-init c = c.requires.1 (short c)

pub record_at-e-requires : goal.record_at-e-requires
record_at-e-requires c = let h = c.loop-number.invariant.here in (omega (arith, (sized (goal.at.record_at-e-requires c).Else-bad_length).whole), omega (arith, (sized (goal.at.record_at-e-requires c).Else-bad_length).most))

pub overflow_cast-result : goal.overflow_cast-result
overflow_cast-result c = omega (arith, c.loop-number.invariant.here, (sized (goal.at.overflow_cast-result c).Else-bad_length).most)

pub returns-in-Some : goal.returns-in-Some
returns-in-Some c =
    let eq = c.record_at-e.ensures.0 in
    (good_length _ _ (short (goal.at.returns-in-Some c).Else-bad_length) (stopped eq c.loop-number.invariant (sym c.record_ground.ensures ∙ ap (λ (g : Option ℕ). found_at g c.record_at-e.result.index) c.in-Some.is ∙ found_some _ (index_is _ _ eq))), tt)

pub take_record-np-requires : goal.take_record-np-requires
take_record-np-requires c =
    let w = c.loop-number.invariant.left in
    (w.table, w.flags, c.requires.0.few, fine_range _ _ _ _ (no_ground (goal.at.take_record-np-requires c).In_default), c.record_at-e.ensures.1, w.few, w.lp, w.lr)

pub returns-then-e-eq0 : goal.returns-then-e-eq0
returns-then-e-eq0 c =
    let taken = after (goal.at.returns-then-e-eq0 c).After-take_record-np in
    let left = taken.last c.if-e-eq0.true in
    let good = short (goal.at.returns-then-e-eq0 c).Else-bad_length in
    (good_length _ _ good (left_fine _ left), (noted _ left good, taken.here c.if-e-eq0.true))

pub loop-number-smaller : goal.loop-number-smaller
loop-number-smaller c =
    let t = after (goal.at.loop-number-smaller c).After-take_record-np in
    omega (arith, t.rise c.if-e-eq0.false, (t.on c.if-e-eq0.false).here)

pub loop-number-preserved : goal.loop-number-preserved
loop-number-preserved c = (after (goal.at.loop-number-preserved c).After-take_record-np).on c.if-e-eq0.false
