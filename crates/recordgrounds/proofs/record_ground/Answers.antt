-- `recordgrounds::record_ground` meets its contract: each return follows from the tests that led to it. Assumes nothing.
use mathlib.Core.Path.{◌≡◌, sym, ◌∙◌}
use mathlib.Core.Bool.{false}
use borrow.Author.Tests.{eq-eqb, ne_eqb, le-leb, lt-leb}
use Rattle.rules.specs.Grounds.{bad_form, bad_next, bad_numbers, record_grounds}
use Rattle.records.specs.Read.{entry_of}
use Rattle.recordgrounds.proofs.record_ground.Goals as goal
use Rattle.recordgrounds.proofs.record_ground.Goals.{Else-bad_form, Else-bad_next, Else-bad_numbers}

-- the grounds that do not hold
no_form : (c : Else-bad_form) → bad_form (entry_of c.args.e) ≡ false
no_form c = sym c.bad_form.ensures ∙ c.if-bad_form.false

no_next : (c : Else-bad_next) → bad_next c.args.records (entry_of c.args.e) ≡ false
no_next c = sym c.bad_next.ensures ∙ c.if-bad_next.false

no_numbers : (c : Else-bad_numbers) → bad_numbers c.args.d (entry_of c.args.e) ≡ false
no_numbers c = sym c.bad_numbers.ensures ∙ c.if-bad_numbers.false

pub returns-then-bad_form : goal.returns-then-bad_form
unfolding record_grounds
returns-then-bad_form c = simp (sym c.bad_form.ensures ∙ c.if-bad_form.true)

pub returns-then-bad_next : goal.returns-then-bad_next
unfolding record_grounds
returns-then-bad_next c = simp (no_form (goal.at.returns-then-bad_next c).Else-bad_form, sym c.bad_next.ensures ∙ c.if-bad_next.true)

pub returns-then-bad_numbers : goal.returns-then-bad_numbers
unfolding record_grounds
returns-then-bad_numbers c = simp (no_form (goal.at.returns-then-bad_numbers c).Else-bad_form, no_next (goal.at.returns-then-bad_numbers c).Else-bad_next, sym c.bad_numbers.ensures ∙ c.if-bad_numbers.true)

pub returns-then-np-ge-PILOTS_MAX : goal.returns-then-np-ge-PILOTS_MAX
unfolding record_grounds
returns-then-np-ge-PILOTS_MAX c = simp (no_form (goal.at.returns-then-np-ge-PILOTS_MAX c).Else-bad_form, no_next (goal.at.returns-then-np-ge-PILOTS_MAX c).Else-bad_next, no_numbers (goal.at.returns-then-np-ge-PILOTS_MAX c).Else-bad_numbers, eq-eqb _ _ c.if-e-eq3.true, le-leb _ _ c.if-np-ge-PILOTS_MAX.true)

pub returns-else-np-ge-PILOTS_MAX : goal.returns-else-np-ge-PILOTS_MAX
unfolding record_grounds
returns-else-np-ge-PILOTS_MAX c = simp (no_form (goal.at.returns-else-np-ge-PILOTS_MAX c).Else-bad_form, no_next (goal.at.returns-else-np-ge-PILOTS_MAX c).Else-bad_next, no_numbers (goal.at.returns-else-np-ge-PILOTS_MAX c).Else-bad_numbers, eq-eqb _ _ c.if-e-eq3.true, lt-leb _ _ c.if-np-ge-PILOTS_MAX.false)

pub returns-else-e-eq3 : goal.returns-else-e-eq3
unfolding record_grounds
returns-else-e-eq3 c = simp (no_form (goal.at.returns-else-e-eq3 c).Else-bad_form, no_next (goal.at.returns-else-e-eq3 c).Else-bad_next, no_numbers (goal.at.returns-else-e-eq3 c).Else-bad_numbers, ne_eqb _ _ c.if-e-eq3.false)
