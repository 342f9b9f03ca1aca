-- `fill::copy_block` meets its contract: it copies eight numbers, then eight more. Assumes nothing.
use Prim.Native.Nat.{ℕ, ◌+◌}
use mathlib.Core.Path.{refl, sym, ap}
use native.Mathlib.Nat.{add-zero, zero-add, add_assoc}
use native.Mathlib.Omega.{arith}
use lib.ListN.{get_or}
use Rattle.fill.proofs.Blocks.{stored_start, stored_block, stored_all}
use Rattle.fill.proofs.copy_block.Goals as goal

pub returns : goal.returns
returns c =
    let a = c.args in
    let y = a.y.now in
    let f : ℕ → ℕ = λ i. get_or a.x.now (a.a + i) 0 in
    let eight = stored_block y a.b f 16 0 y (stored_start y a.b f 16) f 8 a.b _ (omega arith) (sym (add-zero a.b)) (λ t h. ap f (sym (zero-add t))) c.copy_eight.ensures in
    let sixteen = stored_block y a.b f 16 8 _ eight _ 8 (a.b + 8) _ (omega arith) refl (λ t h. ap (λ (q : ℕ). get_or a.x.now q 0) (add_assoc a.a 8 t)) c.copy_eight-2.ensures in
    stored_all y a.b f 16 16 _ sixteen (omega arith)
