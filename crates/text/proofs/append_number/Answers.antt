-- `text::append_number` meets its contract. Assumes nothing.
use mathlib.Core.Path.{◌≡◌, ap, ◌∙◌}
use native.Mathlib.Omega.{arith}
use lib.ListN.{length, take}
use Rattle.text.specs.Text.{decimal}
use Rattle.text.proofs.Decimals.{fewest_decimal, decimal_short}
use Rattle.text.proofs.append_number.Goals as goal
use Rattle.text.proofs.append_number.Goals.{After-decimal-k}

-- the digits made are the number's text
made : (c : After-decimal-k) → take c.decimal-k.result c.decimal-k.new.out ≡ decimal c.args.n
made c = c.decimal-k.ensures.digits ∙ fewest_decimal c.args.n c.decimal-k.result c.decimal-k.ensures.len

pub append-requires : goal.append-requires
append-requires c = record {
  size = c.requires.size;
  free = omega (arith, ap length (made (goal.at.append-requires c).After-decimal-k), decimal_short c.args.n c.ranges.n);
}

pub returns : goal.returns
returns c = rw (made (goal.at.returns c).After-decimal-k) at c.append.ensures
