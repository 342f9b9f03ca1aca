-- `fourcells::carry_four` meets its contract. Assumes nothing.
use Prim.Native.Nat.{ℕ, ◌+◌, ◌*◌}
use mathlib.Core.Path.{◌≡◌, refl, ap}
use native.Mathlib.Omega.{arith}
use lib.ListN.{get_or, length-set}
use Rattle.walk.proofs.Stores.{stores_four}
use Rattle.fourcells.proofs.carry_four.Goals as goal

pub bounds-kc-cell-2 : goal.bounds-kc-cell-2
bounds-kc-cell-2 c = simp length-set (omega (arith, c.requires.1))

pub bounds-kc-cell-3 : goal.bounds-kc-cell-3
bounds-kc-cell-3 c = simp length-set (omega (arith, c.requires.1))

pub returns : goal.returns
returns c =
    let a = c.args in
    let z : a.rank ≡ a.rank + 0 = omega arith in
    let y0 : a.cell ≡ a.cell + 0 * a.rows = omega arith in
    let y1 : a.cell + a.rows ≡ a.cell + 1 * a.rows = omega arith in
    stores_four (λ t. a.cell + t * a.rows) (λ t. get_or a.car.now (a.rank + t) 0) a.kc.now _ _ _ _ _ _ _ _
    y0 y1 refl refl (ap (λ (r : ℕ). get_or a.car.now r 0) z) refl refl refl
