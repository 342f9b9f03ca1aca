-- `byteexchange::exchange_two` meets its contract. Assumes nothing.
use Prim.Native.Nat.{ℕ, ◌+◌}
use mathlib.Core.Path.{refl, ap, ◌∙◌}
use mathlib.Core.List.{List}
use native.Mathlib.Omega.{arith}
use lib.ListN.{get_or, set}
use Rattle.bytecells.specs.Octets.{bytes_of}
use Rattle.byteexchange.proofs.Puts.{read_back, put_length}
use Rattle.byteexchange.proofs.exchange_two.Goals as goal

pub put-requires-2 : goal.put-requires-2
put-requires-2 c =
    let g = c in
    let first = c.put.ensures in
    ((read_back _ _ first).1, omega (arith, g.requires.2, put_length _ _ _ _ g.requires.0 first))

pub returns : goal.returns
returns c =
    let a = c.args in
    let one = c.cell_at-oldest.ensures in
    let two = c.cell_at-oldest_next.ensures in
    let first = (read_back _ _ c.put.ensures).0 in record { came = refl; stored = c.put-2.ensures ∙ ap (λ (c : List ℕ). bytes_of (set c a.next (get_or a.cells.now a.p 0))) first; sent = λ i. set (set a.cells.now a.p (one i)) (a.p + 1) (two i) }
