-- `receiver::take_in` meets its contract. Assumes nothing.
use Prim.Native.Nat.{ℕ, ◌≤◌}
use mathlib.Core.Path.{sym, ◌∙◌, subst}
use native.Mathlib.Omega.{arith}
use lib.ListN.{length}
use Rattle.rules.specs.Places.{receiver_delay, places_before, oldest, moved}
use Rattle.receiver.proofs.take_in.Goals as goal

pub line_cells-requires : goal.line_cells-requires
line_cells-requires c = let pre = c.requires in (pre.0, pre.3, pre.4, pre.6, λ p h. pre.8 p (omega (arith, h, pre.4)))

pub gather-requires : goal.gather-requires
gather-requires c =
    let g = c in
    let same = c.line_cells.auto.x in
    (g.requires.1, g.requires.2, omega (arith, same, g.requires.5), subst (λ (n : ℕ). places_before (receiver_delay g.args.m) n ≤ length g.args.store.now) (sym same) g.requires.7)

pub returns : goal.returns
returns c =
    let a = c.args in
    let line = c.line_cells in
    let same = line.auto.x in
    let put = c.gather.ensures in record { stored = put.stored ∙ (λ i. moved (receiver_delay a.m) (same i) a.store.now (line.ensures i)); taken = put.sent ∙ (λ i. oldest (receiver_delay a.m) (same i) a.store.now (line.ensures i)) }
