-- `records::record_at` meets its contract. Assumes nothing.
use Rattle.rules.specs.Plan.{entry}
use Rattle.records.proofs.record_at.Goals as goal

pub returns : goal.returns
unfolding entry
returns c =
    let kind = c.octet.ensures.0 in
    let blank = c.octet-2.ensures.0 in
    let next = c.number_at.ensures.0 in
    let low = c.number_at-2.ensures in
    let high = c.number_at-3.ensures in
    let i = c.args.i in
    (λ j. record { index = i; kind = kind j; blank = blank j; next = next j; low = low.0 j; high = high.0 j }, record { index = c.requires.1; low = low.1; high = high.1 })
