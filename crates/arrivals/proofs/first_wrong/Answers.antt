-- `arrivals::first_wrong` meets its contract. Assumes nothing.
use mathlib.Core.Path.{◌≡◌, sym}
use native.Mathlib.Omega.{arith}
use lib.ListN.{length}
use Rattle.counting.specs.Search.{count}
use Rattle.arrivals.specs.Expected.{allowed_at}
use Rattle.arrivals.proofs.Expecting.{all_fit}
use Rattle.arrivals.proofs.first_wrong.Goals as goal

pub returns-then-wide-symbol : goal.returns-then-wide-symbol
returns-then-wide-symbol c =
    let a = c.args in
    let t = allowed_at a.limits.now a.marks.now a.symbol.now in
    let e : count t (length a.symbol.now) ≡ length a.symbol.now = omega (arith, c.fitting_cells-n.ensures, c.wide.ensures.0, c.if-wide-symbol.true) in
    sym (all_fit t (length a.symbol.now) e)
