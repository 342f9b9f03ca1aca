-- `bytecells::swap_cells` meets its contract. The first cells are swapped, the others as they were. Assumes nothing.
use Prim.Native.Nat.{ℕ}
use mathlib.Core.Path.{◌≡◌, sym, ap, ◌∙◌}
use mathlib.Core.List.{List}
use native.Mathlib.Omega.{arith}
use lib.ListN.{length, take, get_or, length-take}
use Rattle.counting.proofs.Lists.{length_tabulate, get_d_tabulate, get_or-sets_after}
use Rattle.bytecells.specs.Swapped.{swapped}
use Rattle.bytecells.proofs.Filled.{next_of, all_of}
use Rattle.bytecells.proofs.swap_cells.Invariants.{whole}
use Rattle.bytecells.proofs.swap_cells.Goals as goal

pub loop-cell-preserved : goal.loop-cell-preserved
loop-cell-preserved c =
    let s = c.args.cells.now in
    let l = c.loop-cell in
    let i = l.cell-index in
    let here : get_or l.cells i 0 ≡ get_or s i 0 =
    ap (λ (y : List ℕ). get_or y i 0) l.invariant ∙ get_or-sets_after s 0 (take i (whole s)) 0 i (omega (arith, length-take i (whole s))) in
    next_of s _ l.cells i _ l.invariant (omega (arith, length_tabulate (λ i. swapped (get_or s i 0)) (length s)))
    (c.swap.ensures ∙ ap swapped here ∙ sym (get_d_tabulate (λ i. swapped (get_or s i 0)) (length s) 0 i (omega arith)))

pub returns : goal.returns
returns c =
    let a = c.args in
    let l = c.loop-cell in
    all_of a.cells.now _ l.cells l.cell-index l.invariant (length_tabulate _ (length a.cells.now)) (omega arith)
