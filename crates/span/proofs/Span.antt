-- Ground 11 from the runs of excluded subcarriers: what lies between the first run and the last, which touch the ends. Assumes nothing.
use mathlib.Core.Path.{◌≡◌, sym, ap, ap₂, ◌∙◌}
use mathlib.Core.List.{List}
use Rattle.std.specs.Prelude.{Option, Some, unwrap_or}
use Prim.Native.Nat.{ℕ, zero, suc, ◌+◌, ◌-◌, ◌*◌, ◌≤◌, ◌<◌}
use native.Mathlib.Numerals.{add-one}
use native.Mathlib.Omega.{arith}
use lib.Dec.{ltb}
use lib.ListN.{get_or}
use Rattle.counting.specs.Search.{count, lowest, highest}
use Rattle.counting.specs.Runs.{before}
use Rattle.counting.proofs.Laws.{count_add}
use Rattle.counting.proofs.Searches.{count_all, count_no, highest_at, lowest_at}
use Rattle.rules.specs.declared.Device.{Device}
use Rattle.rules.specs.Plan.{Plan}
use Rattle.rules.specs.Bands.{width, excluded, active, excluded_in}
use Rattle.rules.specs.Grounds.{much_excluded}
use Rattle.bands.specs.BandList.{EdgeRuns}
use Rattle.bands.proofs.BandLaws.{active_at, idle_at}
use Rattle.bands.proofs.Step.{free}

module _ (d : Device) (p : Plan) (lo hi : List ℕ) (n : ℕ) (r : EdgeRuns d p lo hi n) where
  -- one run more
  pub inner_more : (i : ℕ) → 1 ≤ i → i < n → count (excluded p) (before hi (i + 1)) + get_or lo i 0 ≡ count (excluded p) (before hi i) + get_or hi i 0
  inner_more i l w =
      let one = r.runs.each i w in
      let a : count (excluded p) (get_or lo i 0) ≡ count (excluded p) (before hi i) = count_no (excluded p) (before hi i) (get_or lo i 0) (omega (arith, one.after l)) one.gap in
      let b : count (excluded p) (get_or hi i 0) + get_or lo i 0 ≡ count (excluded p) (get_or lo i 0) + get_or hi i 0 = count_all (excluded p) (get_or lo i 0) (get_or hi i 0) (omega (arith, one.some)) one.all in
      rw (add-one i) (omega arith)

  -- before the last run
  pub inner_last : (i : ℕ) → i + 1 ≡ n → 1 ≤ i → count (excluded p) (get_or lo (n - 1) 0) ≡ count (excluded p) (before hi i)
  inner_last i e l =
      let one = r.runs.each i (omega arith) in
      let same : n - 1 ≡ i = omega arith in
      ap (λ (j : ℕ). count (excluded p) (get_or lo j 0)) same ∙ count_no (excluded p) (before hi i) (get_or lo i 0) (omega (arith, one.after l)) one.gap

  lowest_is : lowest (active d p) d.subcarriers ≡ Some (get_or hi 0 0)
  lowest_is =
      let one = r.runs.each 0 (omega (arith, r.two)) in
      let two = r.runs.each 1 r.two in
      let less : get_or hi 0 0 < d.subcarriers = omega (arith, two.after (omega arith), two.some, two.inside) in
      lowest_at (active d p) (get_or hi 0 0) d.subcarriers less (active_at d p (get_or hi 0 0) less (free d p lo hi n r 0 (omega (arith, r.two)) less))
      (λ j _ w. idle_at d p j (one.all j (omega (arith, r.bottom)) w))

  pub record Edges : Type 0 where
    pub low : get_or hi 0 0 < get_or lo (n - 1) 0
    pub high : get_or lo (n - 1) 0 < d.subcarriers

  pub edges : Edges
  edges = record { low = rise (n - 1) (omega (arith, r.two)) (omega (arith, r.two)); high = omega (arith, (r.runs.each (n - 1) (omega (arith, r.two))).some, (r.runs.each (n - 1) (omega (arith, r.two))).inside) }
    where
      rise : (i : ℕ) → 1 ≤ i → i < n → get_or hi 0 0 < get_or lo i 0
      rise zero a b = absurd (omega arith)
      rise (suc zero) a b = (r.runs.each 1 b).after (omega arith)
      rise (suc (suc i)) a b = omega (arith, rise (suc i) (omega arith) (omega arith), (r.runs.each (suc i) (omega arith)).some, (r.runs.each (suc (suc i)) b).after (omega arith))

  highest_is : (b : ℕ) → suc b ≡ get_or lo (n - 1) 0 → highest (active d p) d.subcarriers ≡ Some b
  highest_is b e =
      let one = r.runs.each (n - 1) (omega (arith, r.two)) in
      let w = edges in
      let pos : 0 < n - 1 = omega (arith, r.two) in
      let top : get_or hi (n - 1) 0 ≡ d.subcarriers = sym (ap (before hi) (sym_suc r.two)) ∙ r.top in
      highest_at (active d p) b d.subcarriers (omega (arith, w.high)) (active_at d p b (omega (arith, w.high)) (one.gap b (omega (arith, one.after pos)) (omega arith)))
      (λ j l u. idle_at d p j (one.all j (omega arith) (omega arith)))
    where
      sym_suc : 2 ≤ n → n ≡ suc (n - 1)
      sym_suc l = omega arith

  -- ground 11: v is the span
  pub much_is : (g first end v : ℕ) → g + count (excluded p) (get_or hi 0 0) ≡ count (excluded p) (get_or lo (n - 1) 0) → first ≡ get_or hi 0 0 → end ≡ get_or lo (n - 1) 0
      → v ≡ width first (end - 1) → ltb v (5 * g) ≡ much_excluded d p
  unfolding much_excluded excluded_in
  much_is g first end v s f e q =
      let w = edges in
      let b : ℕ = end - 1 in
      let back : suc b ≡ get_or lo (n - 1) 0 = omega (arith, w.low) in
      let size : get_or hi 0 0 + (suc b - get_or hi 0 0) ≡ suc b = omega (arith, w.low) in
      let many : g ≡ count (λ i. excluded p (get_or hi 0 0 + i)) (suc b - get_or hi 0 0) = omega (arith, count_add (excluded p) (get_or hi 0 0) (suc b - get_or hi 0 0), ap (count (excluded p)) (size ∙ back)) in
      ap₂ (λ (x y : ℕ). ltb x (5 * y)) (q ∙ ap (λ (x : ℕ). width x b) f) many
      ∙ sym (ap₂ (λ (x y : Option ℕ). ltb (width (unwrap_or x 0) (unwrap_or y 0)) (5 * count (λ i. excluded p (unwrap_or x 0 + i)) (suc (unwrap_or y 0) - unwrap_or x 0))) lowest_is (highest_is b back))
