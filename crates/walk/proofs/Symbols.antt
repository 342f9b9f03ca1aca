-- Symbols of a frame in the order of a walk that reads the cells by rising rank. Assumes nothing.
use Prim.Native.Nat.{ℕ, ◌<◌}
use mathlib.Core.Path.{◌≡◌, refl, sym, ap, ◌∙◌}
use mathlib.Core.Bool.{true, false}
use mathlib.Core.List.{List}
use native.Mathlib.Omega.{arith}
use lib.ListN.{length, get_or}
use lib.Seq.{ext_get_or}
use Rattle.counting.specs.Search.{count, tabulate, rank, of_rank}
use Rattle.counting.proofs.Bools.{by_test, conflict}
use Rattle.counting.proofs.Laws.{count_lt}
use Rattle.counting.proofs.Lists.{length_tabulate, get_d_tabulate, is_tabulate}
use Rattle.counting.proofs.Select.{Selected, selected, select-count}
use Rattle.counting.proofs.Ranks.{InjBelow, rank_below, rank-of_rank, of_rank-rank}
use Rattle.rules.specs.Frame.{Frame, cells, cell_rank, carrier, spot, holder, line_symbol, line_cells}
use Rattle.walk.specs.Stores.{stores}
use Rattle.walk.specs.Claims.{FilledByWalk}
use Rattle.walk.proofs.Stores.{length_stores, stores_hit, stores_miss}

-- number i of the walk is the cell of rank i, and no two cells have one key
pub record Reads (F : Frame) (cell : ℕ → ℕ) : Type 0 where
  pub keys : InjBelow (cells F) F.key
  pub numbers : (i : ℕ) → i < cells F → cell i ≡ of_rank F.key (cells F) i

module _ (F : Frame) (cell : ℕ → ℕ) (walk : Reads F cell) where
  -- ---- stores on the subcarriers by rank

  carrier_at : (r : ℕ) → r < cells F → Selected F.ranked F.width r (carrier F r)
  unfolding carrier cells
  carrier_at r h = selected F.ranked F.width r h

  carrier_inj : InjBelow (cells F) (carrier F)
  carrier_inj p q hp hq e = sym (carrier_at p hp).before ∙ ap (count F.ranked) e ∙ (carrier_at q hq).before

  module _ (x start : List ℕ) (size : length start ≡ F.width) (marks : (k : ℕ) → k < F.width → F.ranked k ≡ false → get_or start k 0 ≡ F.mark k) where
    placed : List ℕ
    placed = stores (carrier F) (λ r. get_or x (cell r) 0) (cells F) start

    -- a subcarrier with a rank carries the cell of its rank
    placed_hit : (k : ℕ) → k < F.width → F.ranked k ≡ true → get_or placed k 0 ≡ get_or x (holder F k) 0
    unfolding placed holder
    placed_hit k hk e =
        let r : ℕ = count F.ranked k in
        let hr : r < cells F = unfold cells in count_lt F.ranked k F.width hk e in
        let ek : carrier F r ≡ k = unfold carrier in select-count F.ranked F.width k hk e in
        ap (λ (i : ℕ). get_or placed i 0) (sym ek)
        ∙ stores_hit (carrier F) (λ r. get_or x (cell r) 0) (cells F) start carrier_inj r hr (omega (arith, ek, size))
        ∙ ap (λ (q : ℕ). get_or x q 0) (walk.numbers r hr)

    -- any other still its mark
    placed_miss : (k : ℕ) → k < F.width → F.ranked k ≡ false → get_or placed k 0 ≡ F.mark k
    unfolding placed
    placed_miss k hk e =
        stores_miss (carrier F) (λ r. get_or x (cell r) 0) (cells F) start k
        (λ r hr z. conflict (F.ranked k) (ap F.ranked (sym z) ∙ (carrier_at r hr).passes) e)
        ∙ marks k hk e

    -- over a list that has the marks where no rank is
    pub placed_is : stores (carrier F) (λ r. get_or x (cell r) 0) (cells F) start ≡ line_symbol F x
    unfolding line_symbol placed
    placed_is =
        ext_get_or 0 placed (line_symbol F x) (length_stores (carrier F) (λ r. get_or x (cell r) 0) (cells F) start ∙ size ∙ sym (length_tabulate _ F.width))
        (λ k l.
        let hk : k < F.width = omega (arith, length_stores (carrier F) (λ r. get_or x (cell r) 0) (cells F) start, size) in
        by_test (F.ranked k)
        (λ e. placed_hit k hk e ∙ sym (get_d_tabulate _ F.width 0 k hk ∙ rw e refl))
        (λ e. placed_miss k hk e ∙ sym (get_d_tabulate _ F.width 0 k hk ∙ rw e refl)))

  -- ---- stores at the cells of the walk

  cell_inj : InjBelow (cells F) cell
  cell_inj p q hp hq e =
      sym (rank-of_rank F.key (cells F) walk.keys p hp)
      ∙ ap (rank F.key (cells F)) (sym (walk.numbers p hp) ∙ e ∙ walk.numbers q hq)
      ∙ rank-of_rank F.key (cells F) walk.keys q hq

  -- each cell holds what was stored for its rank
  pub stored_is : (v : ℕ → ℕ) (l : List ℕ) → length l ≡ cells F → stores cell v (cells F) l ≡ tabulate (λ p. v (cell_rank F p)) (cells F)
  stored_is v l size =
      is_tabulate (stores cell v (cells F) l) (cells F) (λ p. v (cell_rank F p)) (length_stores cell v (cells F) l ∙ size)
      (λ p h.
      unfold cell_rank in (
      let r : ℕ = rank F.key (cells F) p in
      let hr : r < cells F = rank_below F.key (cells F) p h in
      let e : cell r ≡ p = walk.numbers r hr ∙ of_rank-rank F.key (cells F) walk.keys p h in
      ap (λ (i : ℕ). get_or (stores cell v (cells F) l) i 0) (sym e) ∙ stores_hit cell v (cells F) l cell_inj r hr (omega (arith, e, size))))

  pub filled_by_walk : FilledByWalk F cell
  filled_by_walk = record {
    placing = λ x. placed_is x (tabulate F.mark F.width) (length_tabulate F.mark F.width) (λ k h e. get_d_tabulate F.mark F.width 0 k h);
    subcarriers = λ l size. unfold spot in stored_is (carrier F) l size;
    arriving = λ y l size. unfold line_cells spot in stored_is (λ r. get_or y (carrier F r) 0) l size;
  }
