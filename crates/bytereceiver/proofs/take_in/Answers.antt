-- `bytereceiver::take_in` meets its contract. Assumes nothing.
use Prim.Native.Nat.{ℕ, ◌*◌, ◌≤◌}
use mathlib.Core.Path.{sym, ◌∙◌, subst}
use native.Mathlib.Omega.{arith}
use lib.ListN.{length}
use Rattle.rules.specs.Places.{receiver_delay, places_before, oldest, moved}
use Rattle.bytecells.specs.Octets.{cells_of, bytes_of}
use Rattle.bytereceiver.proofs.take_in.Goals as goal

pub line_cells-requires : goal.line_cells-requires
line_cells-requires c = let pre = c.requires in (pre.0, pre.4, pre.5, pre.7, λ p h. pre.9 p (omega (arith, h, pre.5)))

pub gather-requires : goal.gather-requires
gather-requires c =
    let g = c in
    let same = c.line_cells.auto.x in
    (g.requires.1, g.requires.2, g.requires.3, omega (arith, same, g.requires.6), subst (λ (n : ℕ). 2 * places_before (receiver_delay g.args.m) n ≤ length g.args.store.now) (sym same) g.requires.8)

pub returns : goal.returns
returns c =
    let a = c.args in
    let line = c.line_cells in
    let same = line.auto.x in
    let put = c.gather.ensures in record { stored = put.stored ∙ (λ i. bytes_of (moved (receiver_delay a.m) (same i) (cells_of a.store.now) (line.ensures i))); taken = put.sent ∙ (λ i. oldest (receiver_delay a.m) (same i) (cells_of a.store.now) (line.ensures i)) }
