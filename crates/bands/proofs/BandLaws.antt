-- Where the bands of a plan start and end, from the runs of what it excludes, on any device. Assumes nothing.
use mathlib.Core.Path.{◌≡◌, refl, sym, ap, ap₂, ◌∙◌, subst}
use mathlib.Core.Logic.{◌⊎◌, inl, inr}
use mathlib.Core.Bool.{Bool, true, false, not, ◌&&◌, ◌||◌}
use Rattle.std.specs.Prelude.{Option, None, unwrap_or}
use Prim.Native.Nat.{ℕ, zero, suc, ◌+◌, ◌≤◌, ◌<◌}
use native.Mathlib.Nat.{le_refl, le-suc, le_trans}
use native.Mathlib.Omega.{arith}
use native.Mathlib.Decide.{le_ind}
use lib.Dec.{ltb, leb, eqb}
use borrow.Author.Tests.{lt-ltb, le-leb, lt-leb, eq-eqb, ne_eqb}
use Rattle.counting.specs.Search.{or_else, first, lowest, highest}
use Rattle.counting.specs.Runs.{All, NoneIn}
use Rattle.counting.proofs.Bools.{Less, decide, and_false, or_true}
use Rattle.counting.proofs.Laws.{none_lowest}
use Rattle.counting.proofs.Searches.{first_none, first_over, highest_at, lowest_at}
use Rattle.rules.specs.declared.Device.{Device}
use Rattle.rules.specs.Plan.{Plan}
use Rattle.rules.specs.Bands.{excluded, active, run_below, exclusion_band_below, starts_band, next_band, band_end, first_band}

-- ---- runs below a subcarrier

module _ (p : Plan) where
  pub below_zero : run_below p 0 ≡ 0
  unfolding run_below
  below_zero = refl

  pub below_active : (k : ℕ) → excluded p k ≡ false → run_below p (suc k) ≡ 0
  unfolding run_below
  below_active k e = λ i. elim (e i) [ true ↦ suc (run_below p k) | false ↦ 0 ]

  -- a run that starts at e
  pub below_run : (e u : ℕ) → e ≤ u → run_below p e ≡ 0 → All (excluded p) e u → run_below p u + e ≡ u
  unfolding run_below
  below_run e u l z h = le_ind (λ (j : ℕ). All (excluded p) e j → run_below p j + e ≡ j)
      (λ g. omega (arith, z))
      (λ j w ih g.
      let one : run_below p j + e ≡ j = ih (λ k b' w'. g k b' (le_trans w' (le-suc j))) in
      let more : suc (run_below p j) + e ≡ suc j = omega arith in
      ap (λ (b : Bool). elim b [ true ↦ suc (run_below p j) | false ↦ 0 ] + e) (g j w (le_refl (suc j))) ∙ more)
      u l h

  -- the run e to u - 1 after the gap k to e - 1
  run_length : (k e u : ℕ) → k < e → NoneIn (excluded p) k e → e ≤ u → All (excluded p) e u → run_below p u + e ≡ u
  run_length k zero u l gap m run = absurd (omega arith)
  run_length k (suc i) u l gap m run = below_run (suc i) u m (below_active i (gap i (omega arith) (omega arith))) run

module _ (d : Device) (p : Plan) where
  -- ---- where bands start

  pub active_at : (k : ℕ) → k < d.subcarriers → excluded p k ≡ false → active d p k ≡ true
  unfolding active
  active_at k l e = λ i. lt-ltb k d.subcarriers l i && not (e i)

  pub idle_at : (k : ℕ) → excluded p k ≡ true → active d p k ≡ false
  unfolding active
  idle_at k e = ap (λ (b : Bool). ltb k d.subcarriers && not b) e ∙ and_false (ltb k d.subcarriers)

  pub no_start : (k : ℕ) → excluded p k ≡ true → starts_band d p k ≡ false
  unfolding starts_band exclusion_band_below
  no_start k e = ap (λ (b : Bool). b && (leb d.exclusion_run (run_below p k) || eqb (run_below p k) k)) (idle_at k e)

  pub short_start : (k : ℕ) → run_below p k < d.exclusion_run → run_below p k < k → starts_band d p k ≡ false
  unfolding starts_band exclusion_band_below
  short_start k s l =
      ap₂ (λ (b c : Bool). active d p k && (b || c)) (lt-leb d.exclusion_run (run_below p k) s) (ne_eqb (run_below p k) k (λ e. omega arith)) ∙ and_false (active d p k)

  pub long_start : (k : ℕ) → k < d.subcarriers → excluded p k ≡ false → (d.exclusion_run ≤ run_below p k) ⊎ (run_below p k ≡ k) → starts_band d p k ≡ true
  unfolding starts_band exclusion_band_below
  long_start k l e (inl h) = ap₂ (λ (b c : Bool). b && (c || eqb (run_below p k) k)) (active_at k l e) (le-leb d.exclusion_run (run_below p k) h)
  long_start k l e (inr h) =
      ap₂ (λ (b c : Bool). b && (leb d.exclusion_run (run_below p k) || c)) (active_at k l e) (eq-eqb (run_below p k) k h) ∙ or_true (leb d.exclusion_run (run_below p k))

  -- ---- a walk over the runs

  -- it stands at the active subcarrier k of the band that starts at a
  pub record Inside (a k : ℕ) : Type 0 where
    pub starts : starts_band d p a ≡ true
    pub below : a ≤ k
    pub idle : (j : ℕ) → a < j → j ≤ k → starts_band d p j ≡ false

  pub inside_start : (a : ℕ) → starts_band d p a ≡ true → Inside a a
  inside_start a s = record { starts = s; below = le_refl a; idle = λ j l w. absurd (omega arith) }

  -- over a gap k to e - 1 and a run e to u - 1: none starts below u
  inside_over : 0 < d.exclusion_run → (a k e u : ℕ) → Inside a k → k < e → NoneIn (excluded p) k e → All (excluded p) e u → (j : ℕ) → a < j → j < u → starts_band d p j ≡ false
  inside_over pos a k e u s l gap run j m w = go (decide k j) (decide j e)
    where
      in-gap : (j : ℕ) → k < j → j ≤ e → starts_band d p j ≡ false
      in-gap zero l' w' = absurd (omega arith)
      in-gap (suc i) l' w' =
          let z : run_below p (suc i) ≡ 0 = below_active p i (gap i (omega arith) (omega arith)) in
          short_start (suc i) (omega arith) (omega arith)

      go : Less k j → Less j e → starts_band d p j ≡ false
      go (inr (h, _)) q = s.idle j m h
      go (inl (h, _)) (inl (h', _)) = in-gap j h (omega arith)
      go (inl (h, _)) (inr (h', _)) = no_start j (run j h' w)

  -- a short run: the band goes on
  pub inside_short : 0 < d.exclusion_run → (a k e u : ℕ) → Inside a k → k < e → NoneIn (excluded p) k e → e < u → All (excluded p) e u → u < e + d.exclusion_run → Inside a u
  inside_short pos a k e u s l gap m run short = record {
    starts = s.starts;
    below = omega (arith, s.below);
    idle = λ j l' w'. go j l' w' (decide j u);
  }
    where
      go : (j : ℕ) → a < j → j ≤ u → Less j u → starts_band d p j ≡ false
      go j l' w' (inl (h, _)) = inside_over pos a k e u s l gap run j l' h
      go j l' w' (inr (h, _)) =
          let same : j ≡ u = omega arith in
          let r : run_below p u + e ≡ u = run_length p k e u l gap (omega arith) run in
          subst (λ (x : ℕ). starts_band d p x ≡ false) (sym same) (short_start u (omega arith) (omega arith))

  -- a long run, or one that touches the end: the band a to b ends, and u starts the next
  pub record Ended (a b u : ℕ) : Type 0 where
    pub end : band_end d p a ≡ b
    pub idle : (j : ℕ) → a < j → j < u → starts_band d p j ≡ false
    pub next : u < d.subcarriers → starts_band d p u ≡ true

  abbrev later : ℕ → ℕ → Bool
  later a j = ltb a j && starts_band d p j

  pub inside_long : 0 < d.exclusion_run → (a k b e u : ℕ) → Inside a k → k < e → e ≡ suc b → NoneIn (excluded p) k e → e < u → All (excluded p) e u → u ≤ d.subcarriers
      → (u < d.subcarriers → excluded p u ≡ false) → (e + d.exclusion_run ≤ u) ⊎ (u ≡ d.subcarriers) → Ended a b u
  unfolding band_end next_band
  inside_long pos a k b e u s l is gap m run top free long = record {
    end = ap (λ (n : ℕ). unwrap_or (highest (active d p) n) 0) (next_is (decide u d.subcarriers))
        ∙ ap (λ (o : Option ℕ). unwrap_or o 0) (highest_at (active d p) b u (omega arith) (active_at b (omega arith) (gap b (omega arith) (omega arith))) (λ j l' w'. idle_at j (run j (omega arith) w')));
    idle = over;
    next = λ w. starts w long;
  }
    where
      over : (j : ℕ) → a < j → j < u → starts_band d p j ≡ false
      over = inside_over pos a k e u s l gap run

      r : run_below p u + e ≡ u
      r = run_length p k e u l gap (omega arith) run

      starts : u < d.subcarriers → (e + d.exclusion_run ≤ u) ⊎ (u ≡ d.subcarriers) → starts_band d p u ≡ true
      starts w (inl h) = long_start u w (free w) (inl (omega (arith, r)))
      starts w (inr h) = absurd (omega arith)

      not_later : (j : ℕ) → j < u → later a j ≡ false
      not_later j w = at (decide a j)
        where
          at : Less a j → later a j ≡ false
          at (inl (h, _)) = ap (λ (c : Bool). ltb a j && c) (over j h w) ∙ and_false (ltb a j)
          at (inr (h, t)) = ap (λ (c : Bool). c && starts_band d p j) t

      next_is : Less u d.subcarriers → unwrap_or (lowest (λ j. ltb a j && starts_band d p j) d.subcarriers) d.subcarriers ≡ u
      next_is (inl (w, _)) =
          ap (λ (o : Option ℕ). unwrap_or o d.subcarriers)
          (lowest_at (later a) u d.subcarriers w (ap₂ (λ (c f : Bool). c && f) (lt-ltb a u (omega (arith, s.below))) (starts w long)) (λ j _ w'. not_later j w'))
      next_is (inr (w, _)) =
          let same : u ≡ d.subcarriers = omega arith in
          ap (λ (o : Option ℕ). unwrap_or o d.subcarriers) (none_lowest (later a) d.subcarriers (λ j w'. not_later j (omega arith))) ∙ sym same

  -- ---- searches over the bands
  module _ (f : ℕ → ℕ → Option ℕ) where
    -- what f finds in the band that starts at a, if one does
    unfoldable pub from_start : ℕ → Option ℕ
    from_start a = elim (starts_band d p a) [ true ↦ f a (band_end d p a) | false ↦ None ]

    no_band : (k : ℕ) → starts_band d p k ≡ false → from_start k ≡ None
    unfolding from_start
    no_band k e = λ i. elim (e i) [ true ↦ f k (band_end d p k) | false ↦ None ]

    band : (a b : ℕ) → starts_band d p a ≡ true → band_end d p a ≡ b → from_start a ≡ f a b
    unfolding from_start
    band a b e g = (λ i. elim (e i) [ true ↦ f a (band_end d p a) | false ↦ None ]) ∙ ap (f a) g

    pub bands_all : first_band d p f ≡ first from_start d.subcarriers
    unfolding first_band from_start
    bands_all = refl

    -- nothing starts in a run that touches 0
    pub bands_start : (u : ℕ) → All (excluded p) 0 u → first from_start u ≡ None
    bands_start u h = first_none from_start u (λ k w. no_band k (no_start k (h k (omega arith) w)))

    -- one band more
    pub bands_more : (a k b u : ℕ) → Inside a k → a < u → Ended a b u → first from_start u ≡ or_else (first from_start a) (f a b)
    bands_more a k b u s l e = first_over from_start a u l (λ j l' w. no_band j (e.idle j l' w)) ∙ ap (or_else (first from_start a)) (band a b s.starts e.end)
