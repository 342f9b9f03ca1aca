-- The bytes of the text are printed one after the other, each # as the next number.
use Rattle.std.proofs.Common.{arith, ◌∙◌}
use Rattle.console.proofs.Printing.{printed_to_more, printed_to_all}
use Rattle.console.proofs.print_line.Goals as goal

pub loop-byte-preserved : goal.loop-byte-preserved
loop-byte-preserved g c = record {
  count = omega arith;
  input = c.print_piece.ensures.input ∙ c.loop-byte.invariant.input;
  done = printed_to_more _ _ _ _ _ _ _ _ _ c.loop-byte-test.true c.at.ensures c.uses-next.ensures.value c.loop-byte.invariant.done
      (c.print_piece.ensures.prints c.if-not-print_piece.false);
}

pub returns-clause-prints : goal.returns-clause-prints
returns-clause-prints g c _ = printed_to_all _ _ _ _ _ _ c.loop-byte-test.false c.loop-byte.invariant.done
