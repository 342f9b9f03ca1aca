-- `lampreport::put_dark` meets its contract. Assumes nothing.
use native.Mathlib.Omega.{arith}
use lib.ListN.{take}
use borrow.Author.Tests.{eq-eqb, ne_eqb}
use Rattle.lampreport.proofs.Lines.{spaced_none}
use Rattle.lampreport.proofs.put_dark.Goals as goal

pub returns-then-light-ne0 : goal.returns-then-light-ne0
returns-then-light-ne0 c =
    let a = c.args in
    record { number = (omega arith, omega arith); line = rw (ne_eqb a.light 0 c.if-light-ne0.true) (spaced_none (take a.at a.out.now)) }

pub returns : goal.returns
returns c =
    let h = c in
    record { number = h.put_pilot.ensures.number; line = rw (eq-eqb h.args.light 0 h.if-light-ne0.false) h.put_pilot.ensures.line }
