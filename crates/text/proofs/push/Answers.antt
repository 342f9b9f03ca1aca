-- `text::push` meets its contract. Assumes nothing.
use native.Mathlib.Numerals.{add-one}
use native.Mathlib.Omega.{arith}
use lib.ListN.{length-set}
use lib.Seq.{take-suc-set}
use Rattle.text.proofs.push.Goals as goal

pub bounds-line-at : goal.bounds-line-at
bounds-line-at c = omega arith

pub overflow_add-line : goal.overflow_add-line
overflow_add-line c = omega arith

pub returns : goal.returns
returns c = record {
  len = omega arith;
  text = rw add-one (take-suc-set c.args.line.text c.args.line.len c.args.byte (omega arith));
  size = simp length-set c.requires.size;
}
