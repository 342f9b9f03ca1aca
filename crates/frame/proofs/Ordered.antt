-- What is taken from the subcarriers of the cells, of a symbol or a profile, is in cell order. Assumes nothing.
use Prim.Native.Nat.{ℕ, ◌<◌}
use mathlib.Core.Path.{◌≡◌, ap, ◌∙◌}
use mathlib.Core.List.{List}
use native.Mathlib.Omega.{arith}
use lib.ListN.{length, get_or}
use Rattle.counting.proofs.Lists.{is_tabulate}
use Rattle.rules.specs.Frame.{Frame, cells, spot, line_cells}

-- n numbers x taken from y, which has one for each subcarrier, where kc has the subcarriers of the cells
pub taken_cells : (F : Frame) (kc y x : List ℕ) (n : ℕ) → n ≡ cells F → ((p : ℕ) → p < n → get_or kc p 0 ≡ spot F p) → length x ≡ n
    → ((p : ℕ) → p < n → get_or x p 0 ≡ get_or y (get_or kc p 0) 0) → x ≡ line_cells F y
unfolding line_cells
taken_cells F kc y x n e spots size taken =
    is_tabulate x (cells F) (λ p. get_or y (spot F p) 0) (size ∙ e)
    (λ p h. let l : p < n = omega arith in taken p l ∙ ap (λ (k : ℕ). get_or y k 0) (spots p l))
