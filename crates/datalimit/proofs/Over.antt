-- The cells of an input symbol that exceed the limits of their loads: the placeholders, and where no number does, no others. Assumes nothing.
use Prim.Native.Nat.{ℕ, suc, ◌+◌, ◌≤◌, ◌<◌}
use mathlib.Core.Path.{◌≡◌, sym, ap, ap₂, ◌∙◌}
use mathlib.Core.Bool.{Bool, true, false, not, ◌&&◌}
use mathlib.Core.List.{List}
use Rattle.std.specs.Prelude.{None}
use native.Mathlib.Omega.{arith}
use lib.Dec.{ltb, leb}
use lib.ListN.{length, get_or}
use borrow.Author.Tests.{lt-ltb, le-ltb, leb-true, not-true}
use Rattle.counting.specs.Search.{bit, pick, count, lowest, select, tabulate, is_zero}
use Rattle.counting.proofs.Bools.{by_test}
use Rattle.counting.proofs.Laws.{count_mono_lt, count_lt, count_step, lowest_on, none_lowest}
use Rattle.counting.proofs.Lists.{get_d_tabulate}
use Rattle.counting.proofs.Select.{Selected, selected, select-count}
use Rattle.counting.proofs.Sums.{all_pass, count_not}
use Rattle.rules.specs.Frame.{placeholder}
use Rattle.rules.specs.Loads.{limit_at}
use Rattle.rules.proofs.Loads.{limit_top}
use Rattle.fill.specs.Flags.{data_cell}
use Rattle.datalimit.specs.Over.{over_at}

abbrev pub is_within : ℕ → List ℕ → ℕ → Bool
is_within limit ds i = leb (get_or ds i 0) limit

-- cell p exceeds the limit of its load
abbrev pub is_over : List ℕ → List ℕ → List ℕ → ℕ → Bool
is_over w kc x p = ltb (limit_at w (get_or kc p 0)) (get_or x p 0)

-- what the search is given: n cells x, the input symbol of the data ds
pub record Input (w flag x ds : List ℕ) (n : ℕ) : Type 0 where
  pub small : (k : ℕ) → get_or w k 0 ≤ 14
  pub all : length ds ≡ count (is_zero flag) n
  pub cells : x ≡ tabulate (data_cell flag ds) n

module _ (w kc flag x ds : List ℕ) (n : ℕ) (given : Input w flag x ds n) where
  cell_at : (p : ℕ) → p < n → get_or x p 0 ≡ pick (is_zero flag p) (get_or ds (count (is_zero flag) p) 0) placeholder
  unfolding data_cell
  cell_at p h = ap (λ (l : List ℕ). get_or l p 0) given.cells ∙ get_d_tabulate (data_cell flag ds) n 0 p h

  -- a placeholder exceeds every limit
  held_over : (p : ℕ) → p < n → not (is_zero flag p) ≡ true → is_over w kc x p ≡ true
  held_over p h e =
      lt-ltb (limit_at w (get_or kc p 0)) (get_or x p 0)
      (rw (cell_at p h, not-true (is_zero flag p) e) (omega (arith, limit_top (get_or w (get_or kc p 0) 0) (given.small (get_or kc p 0)))))

  -- a data cell holds its number
  pub over_number : (p : ℕ) → p < n → is_zero flag p ≡ true → over_at w kc flag n ds (count (is_zero flag) p) ≡ is_over w kc x p
  unfolding over_at
  over_number p h e =
      ap₂ (λ (a b : ℕ). ltb (limit_at w (get_or kc a 0)) b) (select-count (is_zero flag) n p h e)
      (sym (cell_at p h ∙ ap (λ (t : Bool). pick t (get_or ds (count (is_zero flag) p) 0) placeholder) e))

  pub number_below : (p : ℕ) → p < n → is_zero flag p ≡ true → count (is_zero flag) p < length ds
  number_below p h e = rw given.all (count_lt (is_zero flag) p n h e)

  -- as many cells exceed their limits as there are placeholders: no number does
  pub none_over : count (is_over w kc x) n + length ds ≡ n → lowest (over_at w kc flag n ds) (length ds) ≡ None
  none_over e =
      none_lowest (over_at w kc flag n ds) (length ds)
      (λ i h.
      let s : Selected (is_zero flag) n i (select (is_zero flag) n i) = selected (is_zero flag) n i (omega (arith, given.all)) in
      let p : ℕ = select (is_zero flag) n i in
      ap (over_at w kc flag n ds) (sym s.before) ∙ over_number p s.below s.passes
      ∙ by_test (is_over w kc x p)
      (λ t.
      absurd
      (let less : count (λ q. not (is_zero flag q)) n < count (is_over w kc x) n =
      count_mono_lt (λ q. not (is_zero flag q)) (is_over w kc x) p n s.below (ap not s.passes) t held_over in
      omega (arith, less, e, given.all, count_not (is_zero flag) n)))
      (λ f. f))

  -- every number is within the one limit that all loads have
  pub all_within : (limit : ℕ) → ((p : ℕ) → p < n → limit_at w (get_or kc p 0) ≡ limit) → count (is_within limit ds) (length ds) ≡ length ds
      → lowest (over_at w kc flag n ds) (length ds) ≡ None
  unfolding over_at
  all_within limit one e =
      none_lowest (over_at w kc flag n ds) (length ds)
      (λ i h.
      let s : Selected (is_zero flag) n i (select (is_zero flag) n i) = selected (is_zero flag) n i (omega (arith, given.all)) in
      le-ltb _ (get_or ds i 0) (rw (one (select (is_zero flag) n i) s.below) (leb-true (get_or ds i 0) limit (all_pass (is_within limit ds) (length ds) e i h))))

  -- the numbers of the cells below p are all within: those of one more, if its cell is
  pub passed_next : (p : ℕ) → p < n → lowest (over_at w kc flag n ds) (count (is_zero flag) p) ≡ None → (is_zero flag p && is_over w kc x p) ≡ false
      → lowest (over_at w kc flag n ds) (count (is_zero flag) (p + 1)) ≡ None
  passed_next p h before f =
      rw (count_step (is_zero flag) p)
      (by_test (is_zero flag p)
      (λ t. let e : count (is_zero flag) p + bit (is_zero flag p) ≡ suc (count (is_zero flag) p) = omega (arith, ap bit t) in
      rw e (lowest_on (over_at w kc flag n ds) (count (is_zero flag) p) before (over_number p h t ∙ ap (λ (z : Bool). z && is_over w kc x p) (sym t) ∙ f)))
      (λ z. let e : count (is_zero flag) p + bit (is_zero flag p) ≡ count (is_zero flag) p = omega (arith, ap bit z) in rw e before))
