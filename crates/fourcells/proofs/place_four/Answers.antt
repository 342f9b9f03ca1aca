-- `fourcells::place_four` meets its contract. Assumes nothing.
use Prim.Native.Nat.{ℕ, ◌+◌, ◌*◌}
use mathlib.Core.Path.{◌≡◌, refl, ap, ◌∙◌}
use native.Mathlib.Omega.{arith}
use lib.ListN.{get_or, length-set}
use Rattle.walk.proofs.Stores.{stores_four}
use Rattle.fourcells.proofs.place_four.Goals as goal

pub bounds-out-k0 : goal.bounds-out-k0
bounds-out-k0 c =
    let start = c in
    let z : start.args.rank ≡ start.args.rank + 0 = omega arith in
    omega (arith, start.requires.3 0 (omega arith), c.wide-k0.ensures.0, ap (λ (r : ℕ). get_or start.args.car.now r 0) z)

pub bounds-out-k1 : goal.bounds-out-k1
bounds-out-k1 c =
    let start = c in
    simp length-set (omega (arith, start.requires.3 1 (omega arith), c.wide-k1.ensures.0))

pub bounds-out-k2 : goal.bounds-out-k2
bounds-out-k2 c =
    let start = c in
    simp length-set (omega (arith, start.requires.3 2 (omega arith), c.wide-k2.ensures.0))

pub bounds-out-k3 : goal.bounds-out-k3
bounds-out-k3 c =
    let start = c in
    simp length-set (omega (arith, start.requires.3 3 (omega arith), c.wide-k3.ensures.0))

pub returns : goal.returns
returns c =
    let start = c in
    let a = start.args in
    let z : a.rank ≡ a.rank + 0 = omega arith in
    let y0 : a.p ≡ a.p + 0 * a.rows = omega arith in
    let y1 : a.p + a.rows ≡ a.p + 1 * a.rows = omega arith in
    stores_four (λ t. get_or a.car.now (a.rank + t) 0) (λ t. get_or a.cells.now (a.p + t * a.rows) 0) a.out.now _ _ _ _ _ _ _ _
    (c.wide-k0.ensures.0 ∙ ap (λ (r : ℕ). get_or a.car.now r 0) z) c.wide-k1.ensures.0 c.wide-k2.ensures.0 c.wide-k3.ensures.0
    (ap (λ (q : ℕ). get_or a.cells.now q 0) y0) (ap (λ (q : ℕ). get_or a.cells.now q 0) y1) refl refl
