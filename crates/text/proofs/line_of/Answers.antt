-- `text::line_of` meets its contract: each call adds its part of the line. Assumes nothing.
use native.Mathlib.Omega.{arith}
use Rattle.io.proofs.Counting.{prefix_len_of_le}
use Rattle.text.specs.Text.{line_of}
use Rattle.text.proofs.Decimals.{decimal_short}
use Rattle.text.proofs.Growth.{longer_on}
use Rattle.text.proofs.line_of.Goals as goal
use Rattle.text.proofs.line_of.Goals.{After-append_number-two}

pub push-spaced-requires : goal.push-spaced-requires
push-spaced-requires c = record {
  size = c.append_number-one.ensures.size;
  free = omega (arith, decimal_short _ c.ranges.a);
}

pub append_number-two-requires : goal.append_number-two-requires
append_number-two-requires c = record {
  size = c.push-spaced.ensures.size;
  free = omega (arith, decimal_short _ c.ranges.a);
}

pub push-requires : goal.push-requires
push-requires c =
    let fits = c.ranges in
    record { size = c.append_number-two.ensures.size; free = omega (arith, decimal_short _ fits.a, decimal_short _ fits.b) }

pub returns : goal.returns
unfolding line_of
returns c =
    let one = longer_on c.append-begun.ensures c.append_number-one.ensures in
    let two = longer_on (longer_on one c.push-spaced.ensures) c.append_number-two.ensures in
    let free = (push-requires (goal.at.returns c).After-append_number-two).free in
    record { result_value = (longer_on two c.push.ensures).text; prefix_len = prefix_len_of_le c.push.result.len c.push.result.text (omega (arith, free)) }
