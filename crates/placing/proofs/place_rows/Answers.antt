-- `placing::place_rows` meets its contract. Assumes nothing.
use Prim.Native.Nat.{ℕ, ◌*◌, ◌^◌, ◌<◌}
use mathlib.Core.Path.{◌≡◌, refl, sym, ap, ◌∙◌}
use native.Mathlib.Omega.{arith}
use Rattle.counting.specs.Search.{tabulate}
use Rattle.counting.proofs.Lists.{get_d_tabulate}
use Rattle.rules.specs.Fits.{row_bits_max}
use Rattle.rules.specs.Frame.{reversed}
use Rattle.walk.specs.Stores.{stores}
use Rattle.walk.proofs.Rows.{rows_none}
use Rattle.rows.specs.Loops.{placed_up_to}
use Rattle.rows.proofs.RowLaws.{all_rows, row_in_table, row_at}
use Rattle.placing.proofs.place_rows.Goals as goal
use Rattle.placing.proofs.place_rows.Goals.{After-octet-row}

-- the row read from the table is the i-th in the reversed order
row_is : (c : After-octet-row) → c.octet-row.result ≡ reversed c.args.bits c.loop-i.i
unfolding tabulate reversed
row_is c =
    let n : c.loop-i.i < 2 ^ c.args.bits = omega (arith, c.loop-i-test.true, c.power-rows.ensures) in
    let t = row_in_table _ _ _ c.requires.0 c.power-step.ensures n in
    c.octet-row.ensures ∙ get_d_tabulate (reversed row_bits_max) 256 0 (c.loop-i.i * c.power-step.result) t
    ∙ row_at _ _ _ c.requires.0 c.power-step.ensures

pub loop-i-init : goal.loop-i-init
unfolding stores
loop-i-init c = (sym (rows_none _ _), refl)

pub bounds-order-i : goal.bounds-order-i
bounds-order-i c = row_in_table _ _ _ c.requires.0 c.power-step.ensures (omega (arith, c.loop-i-test.true, c.power-rows.ensures))

pub place_row-rank-requires : goal.place_row-rank-requires
place_row-rank-requires c =
    let pre = c.requires in
    let l = c.loop-i in (
      pre.0,
      pre.1,
      pre.2,
      λ r k. omega (arith, pre.3 r k),
      omega (arith, c.loop-i-test.true, c.power-rows.ensures),
      row_is (goal.at.place_row-rank-requires c).After-octet-row,
      l.invariant.0,
    )

pub returns : goal.returns
returns c =
    let a = c.args in
    let l = c.loop-i in
    l.invariant.1
    ∙ ap (λ (r : ℕ). placed_up_to a.bits a.car.now a.cells.now r a.out.now) (all_rows _ _ l.i l.rank (omega (arith, c.power-rows.ensures)) l.invariant.0)
