-- `exchange::pass_group` meets its contract. Assumes nothing.
use Rattle.exchange.proofs.Groups.{passes_then, passes_to}
use Rattle.exchange.proofs.pass_group.Goals as goal

pub returns : goal.returns
returns c =
    let one = c.pass_one-even.ensures in
    let pairs = c.pass_pairs-most.ensures in
    let end = c.pass_one.ensures in
    passes_to _ _ _ _ _ _ _ _ _ _ _ _ end.at.0.to end.at.1 (passes_then _ _ _ _ _ _ _ _ _ _ _ _ _ _ _ _ (passes_then _ _ _ _ _ _ _ _ _ _ _ _ _ _ _ _ one.passed pairs.passed) end.passed)
