-- `text::number_line` meets its contract: each call adds its part of the line. Assumes nothing.
use native.Mathlib.Omega.{arith}
use Rattle.io.proofs.Counting.{prefix_len_of_le}
use Rattle.text.specs.Text.{number_line}
use Rattle.text.proofs.Decimals.{decimal_short}
use Rattle.text.proofs.Growth.{longer_on}
use Rattle.text.proofs.number_line.Goals as goal
use Rattle.text.proofs.number_line.Goals.{After-append_number-numbered}

pub push-requires : goal.push-requires
push-requires c = record {
  size = c.append_number-numbered.ensures.size;
  free = omega (arith, decimal_short _ c.ranges.n);
}

pub returns : goal.returns
unfolding number_line
returns c =
    let two = longer_on c.append-begun.ensures c.append_number-numbered.ensures in
    let free = (push-requires (goal.at.returns c).After-append_number-numbered).free in
    record { result_value = (longer_on two c.push.ensures).text; prefix_len = prefix_len_of_le c.push.result.len c.push.result.text (omega (arith, free)) }
