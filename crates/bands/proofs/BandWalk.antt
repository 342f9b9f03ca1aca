-- What a loop over the runs keeps while it writes the bands and their singles, on any device. Assumes nothing.
use mathlib.Core.Path.{◌≡◌, sym, ap, ap₂, ◌∙◌, subst}
use mathlib.Core.Logic.{◌⊎◌, inl, inr}
use mathlib.Core.Bool.{true, false}
use Rattle.std.specs.Prelude.{Option, None}
use mathlib.Core.List.{List}
use Prim.Native.Nat.{ℕ, suc, ◌+◌, ◌-◌, ◌≤◌, ◌<◌}
use native.Mathlib.Nat.{le_refl}
use native.Mathlib.Numerals.{add-one}
use native.Mathlib.Omega.{arith}
use lib.ListN.{length, get_or, set}
use lib.Seq.{get_or-set_same, get_or-set_other}
use Rattle.counting.specs.Search.{count, or_else, first}
use Rattle.counting.specs.Runs.{All, NoneIn, Singles}
use Rattle.counting.proofs.Bools.{Less, decide}
use Rattle.counting.proofs.Searches.{count_all, count_no, first_ext}
use Rattle.rules.specs.declared.Device.{Device}
use Rattle.rules.specs.Plan.{Plan}
use Rattle.rules.specs.Bands.{excluded}
use Rattle.bands.specs.BandList.{BandList, Pushed}
use Rattle.bands.proofs.BandLaws.{Inside, inside_start, inside_short, inside_long, Ended, from_start, bands_all, bands_start, bands_more, long_start, below_zero, below_run}

module _ (d : Device) (p : Plan) where
  -- the walk stands at k in the band that starts at s, or past the last subcarrier
  abbrev pub Here : ℕ → ℕ → Type 0
  Here s k = ((k < d.subcarriers) × Inside d p s k) ⊎ ((k ≡ d.subcarriers) × (s ≡ d.subcarriers))

  in-band : (s k : ℕ) → Here s k → k < d.subcarriers → Inside d p s k
  in-band s k (inl h) l = h.1
  in-band s k (inr h) l = absurd (omega (arith, h.0))

  at_end : (s k : ℕ) → Here s k → k ≡ d.subcarriers → s ≡ d.subcarriers
  at_end s k (inl h) e = absurd (omega (arith, h.0))
  at_end s k (inr h) e = h.1

  -- a walk stands right after run i - 1, in the band that starts at s, with m bands behind it, and nx singles
  pub record Walk (a b c x : List ℕ) (k m s nx : ℕ) : Type 0 where
    pub here : Here s k
    pub low : s ≤ k
    pub bands : (f : ℕ → ℕ → Option ℕ) → first (from_start d p f) s ≡ first (λ j. f (get_or a j 0) (get_or b j 0)) m
    pub each : (j : ℕ) → j < m → Singles (excluded p) (get_or a j 0) (get_or b j 0) x (get_or c j 0) (get_or c (j + 1) 0)
    pub below : (j : ℕ) → j < m → get_or b j 0 < d.subcarriers
    pub few : (j : ℕ) → j < m → get_or c (j + 1) 0 ≤ get_or c m 0
    pub some : get_or c m 0 ≤ nx
    pub small : nx ≤ k
    pub total : count (excluded p) k + get_or c m 0 ≡ count (excluded p) s + nx
    pub singles : (q : ℕ) → get_or c m 0 ≤ q → q < nx → (excluded p (get_or x q 0) ≡ true) × (count (excluded p) (get_or x q 0) + get_or c m 0 ≡ count (excluded p) s + q)

  -- after the first run, which touches 0
  pub walk_start : (a b c x : List ℕ) (u : ℕ) → get_or c 0 0 ≡ 0 → 0 < u → u < d.subcarriers → All (excluded p) 0 u → excluded p u ≡ false → Walk a b c x u 0 u 0
  unfolding first
  walk_start a b c x u z pos top run free = record {
    here = inl (top, inside_start d p u (long_start d p u top free (inr (omega (arith, below_run p 0 u (omega arith) (below_zero p) run)))));
    low = le_refl u;
    bands = λ f. bands_start d p f u run;
    each = λ j l. absurd (omega arith);
    below = λ j l. absurd (omega arith);
    few = λ j l. absurd (omega arith);
    some = omega arith;
    small = omega arith;
    total = omega arith;
    singles = λ q l w. absurd (omega arith);
  }

  -- over a short run
  pub walk_short : 0 < d.exclusion_run → (a b c x y : List ℕ) (k m s nx e u : ℕ) → Walk a b c x k m s nx → k < e → e < u → u ≤ d.subcarriers → NoneIn (excluded p) k e → All (excluded p) e u
      → u < e + d.exclusion_run → u < d.subcarriers → Pushed x y nx e u → Walk a b c y u m s (nx + (u - e))
  walk_short pos a b c x y k m s nx e u w l l' top gap run short less push = record {
    here = inl (less, inside_short d p pos s k e u (in-band s k w.here (omega arith)) l gap l' run short);
    low = omega (arith, w.low);
    bands = w.bands;
    each = λ j h. record {
      rise = (w.each j h).rise;
      some = (w.each j h).some;
      total = (w.each j h).total;
      each = λ q f t. rw (push.kept q (omega (arith, w.few j h, w.some))) ((w.each j h).each q f t);
    };
    below = w.below;
    few = w.few;
    some = omega (arith, w.some);
    small = omega (arith, w.small);
    total = omega (arith, w.total, same, more u (omega arith) (le_refl u));
    singles = λ q f t. old_or_new q f t (decide q nx);
  }
    where
      same : count (excluded p) e ≡ count (excluded p) k
      same = count_no (excluded p) k e (omega arith) gap

      more : (v : ℕ) → e ≤ v → v ≤ u → count (excluded p) v + e ≡ count (excluded p) e + v
      more v g h = count_all (excluded p) e v g (λ j f t. run j f (omega arith))

      old_or_new : (q : ℕ) → get_or c m 0 ≤ q → q < nx + (u - e) → Less q nx
          → (excluded p (get_or y q 0) ≡ true) × (count (excluded p) (get_or y q 0) + get_or c m 0 ≡ count (excluded p) s + q)
      old_or_new q f t (inl (h, _)) = rw (push.kept q h) (w.singles q f h)
      old_or_new q f t (inr (h, _)) =
          let v : ℕ = get_or y q 0 in
          let at : v + nx ≡ e + q = push.new q h (omega arith) in
          (run v (omega arith) (omega arith), omega (arith, more v (omega arith) (omega arith), same, w.total))

  -- over a long run, or one that touches the end: one band more
  pub walk_long : 0 < d.exclusion_run → (a b c x : List ℕ) (k m s nx e u : ℕ) → Walk a b c x k m s nx → k < e → e < u → u ≤ d.subcarriers → NoneIn (excluded p) k e → All (excluded p) e u
      → (u < d.subcarriers → excluded p u ≡ false) → (e + d.exclusion_run ≤ u) ⊎ (u ≡ d.subcarriers) → m < length a → m < length b → m + 1 < length c
      → Walk (set a m s) (set b m (e - 1)) (set c (m + 1) nx) x u (m + 1) u nx
  unfolding first
  walk_long pos a b c x k m s nx e u w l l' top gap run free long la lb lc = record {
    here = there (decide u d.subcarriers);
    low = le_refl u;
    bands = λ f.
        bands_more d p f s k (e - 1) u (in-band s k w.here (omega arith)) (omega (arith, w.low)) ended
        ∙ ap₂ or_else (w.bands f ∙ first_ext _ _ m (λ j h. ap₂ f (sym (a_old j h)) (sym (b_old j h)))) (ap₂ f (sym a_new) (sym b_new))
        ∙ sym (ap (first (λ j. f (get_or (set a m s) j 0) (get_or (set b m (e - 1)) j 0))) (add-one m));
    each = λ j h. each_at j h (decide j m);
    below = λ j h. below_at j h (decide j m);
    few = λ j h. few_at j h (decide j m);
    some = omega (arith, c_new);
    small = omega (arith, w.small);
    total = omega (arith, c_new);
    singles = λ q f t. absurd (omega (arith, c_new));
  }
    where
      ended : Ended d p s (e - 1) u
      ended = inside_long d p pos s k (e - 1) e u (in-band s k w.here (omega arith)) l (omega arith) gap l' run top free long

      there : Less u d.subcarriers → Here u u
      there (inl (h, _)) = inl (h, inside_start d p u (ended.next h))
      there (inr (h, _)) = let same : u ≡ d.subcarriers = omega arith in inr (same, same)

      same : count (excluded p) e ≡ count (excluded p) k
      same = count_no (excluded p) k e (omega arith) gap

      a_new : get_or (set a m s) m 0 ≡ s
      a_new = get_or-set_same a m s 0 la

      b_new : get_or (set b m (e - 1)) m 0 ≡ e - 1
      b_new = get_or-set_same b m (e - 1) 0 lb

      c_new : get_or (set c (m + 1) nx) (m + 1) 0 ≡ nx
      c_new = get_or-set_same c (m + 1) nx 0 lc

      a_old : (j : ℕ) → j < m → get_or (set a m s) j 0 ≡ get_or a j 0
      a_old j h = get_or-set_other a m j s 0 (λ g. omega arith)

      b_old : (j : ℕ) → j < m → get_or (set b m (e - 1)) j 0 ≡ get_or b j 0
      b_old j h = get_or-set_other b m j (e - 1) 0 (λ g. omega arith)

      c_old : (j : ℕ) → j < m + 1 → get_or (set c (m + 1) nx) j 0 ≡ get_or c j 0
      c_old j h = get_or-set_other c (m + 1) j nx 0 (λ g. omega arith)

      last : (j : ℕ) → j < m + 1 → m ≤ j → m ≡ j
      last j h g = omega arith

      each_at : (j : ℕ) → j < m + 1 → Less j m → Singles (excluded p) (get_or (set a m s) j 0) (get_or (set b m (e - 1)) j 0) x (get_or (set c (m + 1) nx) j 0) (get_or (set c (m + 1) nx) (j + 1) 0)
      each_at j h (inl (g, _)) = rw (a_old j g, b_old j g, c_old j h, c_old (j + 1) (omega arith)) (w.each j g)
      each_at j h (inr (g, _)) =
          subst (λ (i : ℕ). Singles (excluded p) (get_or (set a m s) i 0) (get_or (set b m (e - 1)) i 0) x (get_or (set c (m + 1) nx) i 0) (get_or (set c (m + 1) nx) (i + 1) 0)) (last j h g)
          (rw (a_new, b_new, c_new, c_old m (omega arith)) record {
            rise = omega (arith, w.low);
            some = w.some;
            total = (let back : suc (e - 1) ≡ e = omega arith in rw back (omega (arith, same, w.total)));
            each = w.singles;
          })

      below_at : (j : ℕ) → j < m + 1 → Less j m → get_or (set b m (e - 1)) j 0 < d.subcarriers
      below_at j h (inl (g, _)) = rw (b_old j g) (w.below j g)
      below_at j h (inr (g, _)) = subst (λ (i : ℕ). get_or (set b m (e - 1)) i 0 < d.subcarriers) (last j h g) (rw b_new (omega arith))

      few_at : (j : ℕ) → j < m + 1 → Less j m → get_or (set c (m + 1) nx) (j + 1) 0 ≤ get_or (set c (m + 1) nx) (m + 1) 0
      few_at j h (inl (g, _)) = omega (arith, c_new, c_old (j + 1) (omega arith), w.few j g, w.some)
      few_at j h (inr (g, _)) = subst (λ (i : ℕ). get_or (set c (m + 1) nx) (i + 1) 0 ≤ get_or (set c (m + 1) nx) (m + 1) 0) (last j h g) (le_refl _)

  -- the last run touches the end
  pub walk_end : (a b c x : List ℕ) (k m s nx : ℕ) → Walk a b c x k m s nx → k ≡ d.subcarriers → BandList d p a b c x m
  walk_end a b c x k m s nx w e = record {
    all = λ f. bands_all d p f ∙ sym (ap (first (from_start d p f)) (at_end s k w.here e)) ∙ w.bands f;
    each = w.each;
    below = w.below;
    few = λ j h. omega (arith, w.few j h, w.some, w.small);
  }
