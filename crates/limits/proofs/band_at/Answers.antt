-- `limits::band_at` meets its contract. Assumes nothing.
use Rattle.limits.proofs.Searching.{band_read}
use Rattle.limits.proofs.band_at.Goals as goal

pub returns : goal.returns
returns c =
    let low = c in
    let g = low in
    band_read _ _ _ _ g.args.c.now _ _ _ _ _ _ _ g.requires.0 g.requires.1 g.requires.3 low.wide.ensures.0 c.wide-2.ensures.0 c.wide-3.ensures.0 c.wide-4.ensures.0
