-- `rows::cell_carriers` meets its contract. Assumes nothing.
use Prim.Native.Nat.{ℕ, ◌*◌, ◌^◌, ◌<◌}
use mathlib.Core.Path.{◌≡◌, refl, sym, ap, ap₂, ◌∙◌}
use native.Mathlib.Omega.{arith}
use lib.ListN.{length}
use Rattle.counting.specs.Search.{tabulate}
use Rattle.counting.proofs.Lists.{get_d_tabulate}
use Rattle.rules.specs.Fits.{row_bits_max}
use Rattle.rules.specs.Frame.{reversed}
use Rattle.frame.specs.Rows.{rows_before}
use Rattle.walk.specs.Stores.{stores}
use Rattle.walk.proofs.Rows.{rows_none}
use Rattle.rows.specs.Loops.{carried_up_to}
use Rattle.rows.proofs.RowLaws.{all_rows, row_in_table, row_at}
use Rattle.rows.proofs.cell_carriers.Goals as goal
use Rattle.rows.proofs.cell_carriers.Goals.{After-octet-row}

-- the row read from the table is the i-th in the reversed order
row_is : (c : After-octet-row) → c.octet-row.result ≡ reversed c.args.bits c.loop-i.i
unfolding tabulate reversed
row_is c =
    let n : c.loop-i.i < 2 ^ c.args.bits = omega (arith, c.loop-i-test.true, c.power-rows.ensures) in
    let t = row_in_table _ _ _ c.requires.0 c.power-step.ensures n in
    c.octet-row.ensures ∙ get_d_tabulate (reversed row_bits_max) 256 0 (c.loop-i.i * c.power-step.result) t
    ∙ row_at _ _ _ c.requires.0 c.power-step.ensures

pub loop-i-init : goal.loop-i-init
unfolding stores
loop-i-init c = (sym (rows_none _ _), refl)

pub bounds-order-i : goal.bounds-order-i
bounds-order-i c = row_in_table _ _ _ c.requires.0 c.power-step.ensures (omega (arith, c.loop-i-test.true, c.power-rows.ensures))

pub carry_row-rank-requires : goal.carry_row-rank-requires
carry_row-rank-requires c =
    let pre = c.requires in
    let l = c.loop-i in (
      pre.0,
      omega (arith, pre.1),
      omega (arith, pre.2),
      omega (arith, c.loop-i-test.true, c.power-rows.ensures),
      row_is (goal.at.carry_row-rank-requires c).After-octet-row,
      l.invariant.0,
    )

pub returns : goal.returns
returns c =
    let a = c.args in
    let l = c.loop-i in
    let n : l.rank ≡ length a.kc.now = all_rows a.bits _ l.i l.rank (omega (arith, c.power-rows.ensures)) (l.invariant.0 ∙ ap (λ (n : ℕ). rows_before a.bits n l.i) l.auto.kc) in
    l.invariant.1 ∙ ap₂ (λ (n r : ℕ). carried_up_to a.bits n a.car.now r a.kc.now) l.auto.kc n
