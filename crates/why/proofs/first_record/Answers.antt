-- `why::first_record` meets its contract. The loop stands at record i of the chain, and none before it passes. Assumes nothing.
use Rattle.std.proofs.Common.{of_calls, sym, ◌∙◌, ◌<◌, ◌/◌, length, arith}
use Rattle.records.specs.Read.{entry_of}
use Rattle.records.proofs.RecordLaws.{length_fine}
use Rattle.why.proofs.Chains.{stands_first, found_here, ends_low, ends_high, stands_next}
use Rattle.why.proofs.first_record.Goals as goal

pub loop-e-init : goal.loop-e-init
loop-e-init g c =
    let k : 0 < length c.args.plan.now / 8 = omega (arith, (length_fine c.args.plan.now c.requires.sized).some) in
    record { here = k; stands = λ t h. stands_first t c.args.plan.now k }

pub record_at-e-requires : goal.record_at-e-requires
record_at-e-requires g c =
    (omega (arith, c.loop-e.invariant.here), omega (arith, c.loop-e.invariant.here, (length_fine c.args.plan.now c.requires.sized).most))

pub overflow_cast-result : goal.overflow_cast-result
overflow_cast-result g c = omega (arith, c.loop-e.invariant.here, (length_fine c.args.plan.now c.requires.sized).most)

pub returns-then-passes : goal.returns-then-passes
returns-then-passes g c t h =
    found_here _ _ _ (c.loop-e.invariant.stands t h) (entry_of c.record_at-e.result) c.record_at-e.ensures.0 (sym (h _ _ (search of_calls)) ∙ c.if-passes.true)

pub returns-then-e-after : goal.returns-then-e-after
returns-then-e-after g c t h =
    ends_low _ _ _ (c.loop-e.invariant.stands t h) (entry_of c.record_at-e.result) c.record_at-e.ensures.0 (sym (h _ _ (search of_calls)) ∙ c.if-passes.false) (omega (arith, c.if-e-after.true))

pub returns-then-records-e : goal.returns-then-records-e
returns-then-records-e g c t h =
    ends_high _ _ _ (c.loop-e.invariant.stands t h) (entry_of c.record_at-e.result) c.record_at-e.ensures.0 (sym (h _ _ (search of_calls)) ∙ c.if-passes.false) c.if-records-e.true

pub loop-e-preserved : goal.loop-e-preserved
loop-e-preserved g c = record {
  here = omega (arith, c.if-records-e.false);
  stands = λ t h.
      stands_next _ _ _ (c.loop-e.invariant.stands t h) (entry_of c.record_at-e.result) c.record_at-e.ensures.0 (sym (h _ _ (search of_calls)) ∙ c.if-passes.false) (omega (arith, c.if-e-after.false)) (omega (arith, c.if-records-e.false));
}
