-- Grounds 18 and 19 and the input symbol of what a step is given: one law for each return. Assumes nothing.
use mathlib.Core.Path.{◌≡◌, refl, sym, ap, ◌∙◌, subst}
use mathlib.Core.Bool.{Bool, true, false, not}
use mathlib.Core.List.{List}
use Prim.Native.Nat.{ℕ, ◌≤◌, ◌<◌}
use native.Mathlib.Omega.{arith}
use lib.Dec.{ltb}
use lib.ListN.{length, get_or, take}
use lib.Seq.{length-take-le}
use borrow.Author.Tests.{eq-eqb, ne_eqb}
use Rattle.counting.specs.Search.{when, lowest, select}
use Rattle.counting.proofs.Lists.{get_d_tabulate}
use Rattle.counting.proofs.Searches.{lowest_ext}
use Rattle.rules.specs.Refusals.{Finding, refused_by}
use Rattle.std.specs.Prelude.{Ok, Option}
use Rattle.rules.specs.Grounds.{◌else◌, ground?}
use Rattle.rules.specs.Frame.{Frame, cells, spot, is_data, data_count, flush, symbol, input_cells}
use Rattle.rules.specs.Loads.{load_limit, cell_load, data_loads, ground19}
use Rattle.rules.specs.Steps.{ground18, given_grounds}
use Rattle.fill.specs.Flags.{Flagged}
use Rattle.fill.proofs.Inputs.{free_select}
use Rattle.datalimit.specs.Over.{over_at}
use Rattle.steps.specs.Begins.{Begins}
use Rattle.sending.specs.Sent.{given_by}
use Rattle.sending.specs.Given.{Filled}

-- ---- 19, where there are N_D data

module _ (F : Frame) (w : List ℕ) (j : ℕ) (kc flag ds : List ℕ) (n : ℕ) (all : n ≡ cells F) (spots : (p : ℕ) → p < n → get_or kc p 0 ≡ spot F p) (hf : Flagged F j flag)
    (number : length ds ≡ data_count F j) where
  -- the search by flags and subcarriers is that for a number over the limit of its load
  over_load : (i : ℕ) → i < length ds → over_at w kc flag n ds i ≡ ltb (load_limit (get_or (data_loads F w j) i 0)) (get_or ds i 0)
  unfolding over_at data_loads cell_load
  over_load i h =
      let s = free_select F j flag hf n all i (omega (arith, number)) in
      ap (λ (l : ℕ). ltb (load_limit l) (get_or ds i 0))
      (ap (λ (k : ℕ). get_or w k 0) (ap (λ (p : ℕ). get_or kc p 0) s.0 ∙ spots (select (is_data F j) (cells F) i) s.1)
      ∙ sym (get_d_tabulate _ (data_count F j) 0 i (omega (arith, number))))

  pub over_ground : (o : Option ℕ) → o ≡ lowest (over_at w kc flag n ds) (length ds) → ground? 19 o ≡ ground19 F w j ds
  unfolding ground19
  over_ground o q = ap (ground? 19) (q ∙ lowest_ext _ _ (length ds) over_load)

-- ---- a step

module _ (F : Frame) (w : List ℕ) (j : ℕ) (x : List ℕ) (b : Bool) where
  -- a flush
  pub by_flush : b ≡ true → x ≡ input_cells F j flush → (ds : List ℕ) → Filled F w j (given_by b ds) (Ok tt) x
  unfolding given_grounds
  by_flush e h ds = subst (λ (k : Bool). Filled F w j (given_by k ds) (Ok tt) x) (sym e) (refl, λ _. h)

  module _ (e : b ≡ false) (number : ℕ) (given : List ℕ) where
    -- a refusal says nothing of the cells
    pub bad_number : (number ≡ data_count F j → ⊥) → (ds : List ℕ) → Begins given number ds → Filled F w j (given_by b ds) (refused_by 18 0) x
    unfolding given_grounds ground18
    bad_number wrong ds t =
        subst (λ (k : Bool). Filled F w j (given_by k ds) (refused_by 18 0) x) (sym e) (
          sym (ap (λ (k : Bool). ground? 18 (when (not k) 0) else ground19 F w j ds) (ne_eqb (length ds) (data_count F j) (λ z. wrong (sym t.number ∙ z)))),
          λ z. let other : ◌≡◌ {A = ℕ} 0 1 = cc in absurd (omega arith),
        )

    -- the data are the first nd cells given, as many as there are data cells
    pub by_data : (nd : ℕ) → nd ≤ length given → number ≡ nd → nd ≡ data_count F j → (r : Finding) → r ≡ ground19 F w j (take nd given) → x ≡ input_cells F j (symbol (take nd given))
        → (ds : List ℕ) → Begins given number ds → Filled F w j (given_by b ds) r x
    unfolding given_grounds ground18
    by_data nd many same right r found made ds t =
        let read : take nd given ≡ ds = ap (λ (n : ℕ). take n given) (sym same) ∙ t.read (omega arith) in
        let whole : Filled F w j (given_by b (take nd given)) r x =
        subst (λ (k : Bool). Filled F w j (given_by k (take nd given)) r x) (sym e) (
          found ∙ sym (ap (λ (k : Bool). ground? 18 (when (not k) 0) else ground19 F w j (take nd given)) (eq-eqb (length (take nd given)) (data_count F j) (length-take-le nd given many ∙ right))),
          λ _. made,
        ) in
        subst (λ (l : List ℕ). Filled F w j (given_by b l) r x) read whole
