-- `copies::put_range` meets its contract: four two-byte numbers. Assumes nothing.
use Rattle.copies.proofs.Bytes.{range_stored}
use Rattle.copies.proofs.put_range.Goals as goal

pub returns : goal.returns
returns c =
    let third = c in
    let second = third in
    range_stored _ _ _ _ _ _ _ _ second.put.ensures second.put-2.ensures third.put-3.ensures c.put-4.ensures
