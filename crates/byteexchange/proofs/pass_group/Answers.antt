-- `byteexchange::pass_group` meets its contract. Assumes nothing.
use mathlib.Core.Path.{◌∙◌}
use native.Mathlib.Omega.{arith}
use Rattle.exchange.proofs.Groups.{passes_then, passes_to}
use Rattle.byteexchange.proofs.Puts.{same_bytes}
use Rattle.byteexchange.proofs.pass_group.Goals as goal

pub first_delay-d-requires : goal.first_delay-d-requires
first_delay-d-requires c = omega (arith, c.requires.1.some)

pub pass_one-even-requires : goal.pass_one-even-requires
pass_one-even-requires c =
    let g = c in
    (g.requires.0, rw c.first_delay-d.ensures g.requires.1, omega arith, omega (arith, g.requires.2))

pub pass_pairs-most-requires : goal.pass_pairs-most-requires
pass_pairs-most-requires c = let one = c.pass_one-even.ensures in (one.at.0, one.at.1)

pub pass_one-requires : goal.pass_one-requires
pass_one-requires c = let pairs = c.pass_pairs-most.ensures in (pairs.at.0, pairs.at.1, pairs.at.2, omega arith)

pub shape_of-store : goal.shape_of-store
shape_of-store c =
    let one = c.pass_one-even.ensures in
    let pairs = c.pass_pairs-most.ensures in
    let end = c.pass_one.ensures in
    same_bytes _ _ c.requires.0 end.at.0 (end.passed.places ∙ pairs.passed.places ∙ one.passed.places)

pub shape_of-cells : goal.shape_of-cells
shape_of-cells c = c.pass_one.ensures.passed.cells ∙ c.pass_pairs-most.ensures.passed.cells ∙ c.pass_one-even.ensures.passed.cells

pub returns : goal.returns
returns c =
    let one = c.pass_one-even.ensures in
    let pairs = c.pass_pairs-most.ensures in
    let end = c.pass_one.ensures in
    record { whole = end.at.0; passed = passes_to _ _ _ _ _ _ _ _ _ _ _ _ end.at.1.to end.at.2 (passes_then _ _ _ _ _ _ _ _ _ _ _ _ _ _ _ _ (passes_then _ _ _ _ _ _ _ _ _ _ _ _ _ _ _ _ one.passed pairs.passed) end.passed) }
