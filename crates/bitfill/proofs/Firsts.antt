-- A list of cells whose first c are filled. Assumes nothing.
use Prim.Native.Nat.{ℕ, ◌+◌, ◌≤◌, ◌<◌}
use mathlib.Core.Path.{◌≡◌, sym, ap₂, ◌∙◌}
use mathlib.Core.List.{List, [], ◌∷◌, ◌++◌}
use native.Mathlib.Numerals.{add-one}
use native.Mathlib.Omega.{arith}
use lib.ListN.{length, get_or, take, set, length-set}
use lib.Seq.{take_all, take-suc, take-suc-set}

-- one more
pub first_next : (y t : List ℕ) (c x : ℕ) → c < length y → c < length t → take c y ≡ take c t → x ≡ get_or t c 0 → take (c + 1) (set y c x) ≡ take (c + 1) t
first_next y t c x h k e ex = rw (add-one, take-suc-set y c x h, take-suc t c 0 k) (ap₂ (λ (r : List ℕ) (v : ℕ). r ++ (v ∷ [])) e ex)

-- two more
pub first_two : (y t : List ℕ) (c u v : ℕ) → c + 2 ≤ length y → c + 2 ≤ length t → take c y ≡ take c t → u ≡ get_or t c 0 → v ≡ get_or t (c + 1) 0
    → take (c + 2) (set (set y c u) (c + 1) v) ≡ take (c + 2) t
first_two y t c u v h k e eu ev =
    let n : c + 2 ≡ c + 1 + 1 = omega arith in
    rw n (first_next (set y c u) t (c + 1) v (simp length-set (omega arith)) (omega arith) (first_next y t c u (omega arith) (omega arith) e eu) ev)

-- all of them
pub first_all : (y t : List ℕ) (c : ℕ) → length y ≡ length t → length y ≤ c → take c y ≡ take c t → y ≡ t
first_all y t c n h e = sym (take_all c y h) ∙ e ∙ take_all c t (omega arith)
