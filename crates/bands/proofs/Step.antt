-- The loop of `bands`: what it keeps before each run, and one turn of it. Assumes nothing.
use mathlib.Core.Path.{◌≡◌, refl, sym, ap, ◌∙◌}
use mathlib.Core.Logic.{◌⊎◌, inl, inr}
use mathlib.Core.Bool.{Bool, true, false, ◌||◌}
use mathlib.Core.List.{List}
use Prim.Native.Nat.{ℕ, suc, ◌+◌, ◌-◌, ◌*◌, ◌≤◌, ◌<◌}
use native.Mathlib.Numerals.{add-one}
use native.Mathlib.Omega.{arith}
use lib.Dec.{leb}
use lib.ListN.{length, get_or, set, length-set}
use lib.Seq.{get_or-set_same}
use borrow.Author.Tests.{leb-true, leb-false}
use Rattle.counting.specs.Runs.{before}
use Rattle.counting.proofs.Bools.{Less, decide, neither}
use Rattle.rules.specs.declared.Device.{Device}
use Rattle.rules.specs.Plan.{Plan}
use Rattle.rules.specs.Bands.{excluded}
use Rattle.rules.specs.Fits.{Fits, capacity, limit}
use Rattle.bands.specs.BandList.{EdgeRuns, BandList, Pushed}
use Rattle.bands.proofs.BandWalk.{Walk, walk_start, walk_short, walk_long, walk_end}

-- what the test of `separates` says of the run e to u - 1
module _ (size run e u : ℕ) where
  sep_true : u ≤ size → (leb size u || leb (e + run) u) ≡ true → (e + run ≤ u) ⊎ (u ≡ size)
  sep_true l h = go (leb size u) refl h
    where
      go : (t : Bool) → leb size u ≡ t → (t || leb (e + run) u) ≡ true → (e + run ≤ u) ⊎ (u ≡ size)
      go true f g = inr (omega (arith, leb-true size u f))
      go false f g = inl (leb-true (e + run) u g)

  sep_false : (leb size u || leb (e + run) u) ≡ false → (u < e + run) × (u < size)
  sep_false h = let both = neither (leb size u) (leb (e + run) u) h in (leb-false (e + run) u both.1, leb-false size u both.0)

module _ (d : Device) (p : Plan) (lo hi : List ℕ) (n : ℕ) where
  -- what the loop keeps before run i: 20 or more are excluded before each band after the first, so that 256 places are enough for m bands
  pub record Loop (a b c x : List ℕ) (m nx s i : ℕ) : Type 0 where
    pub first : 1 ≤ i
    pub last : i ≤ n
    pub la : length a ≡ 256
    pub lb : length b ≡ 256
    pub lc : length c ≡ 256
    pub lx : length x ≡ capacity
    pub few : s < d.subcarriers → 20 * m ≤ s
    pub some : 20 * m ≤ s + 20
    pub walk : Walk d p a b c x (before hi i) m s nx

  -- the numbers in a turn
  pub record Bounds (m nx s i : ℕ) : Type 0 where
    pub e>k : before hi i < get_or lo i 0
    pub u>e : get_or lo i 0 < get_or hi i 0
    pub top : get_or hi i 0 ≤ d.subcarriers
    pub s≤k : s ≤ before hi i
    pub nx≤k : nx ≤ before hi i
    pub m≤ : 20 * m ≤ s
    pub fits : d.subcarriers ≤ capacity
    pub run : d.exclusion_run ≤ limit

  -- the subcarrier after a run is active
  pub free : EdgeRuns d p lo hi n → (i : ℕ) → i < n → get_or hi i 0 < d.subcarriers → excluded p (get_or hi i 0) ≡ false
  free r i l w = go (decide (suc i) n)
    where
      go : Less (suc i) n → excluded p (get_or hi i 0) ≡ false
      go (inl (h, _)) = (r.runs.each (suc i) h).gap (get_or hi i 0) (omega arith) ((r.runs.each (suc i) h).after (omega arith))
      go (inr (h, _)) = let e : n ≡ suc i = omega arith in absurd (omega (arith, r.top, ap (before hi) e))

  module _ (fit : Fits d) (r : EdgeRuns d p lo hi n) where
    pub bounds : (a b c x : List ℕ) (m nx s i : ℕ) → Loop a b c x m nx s i → i < n → Bounds m nx s i
    bounds a b c x m nx s i v l =
        let one = r.runs.each i l in
        let e>k : before hi i < get_or lo i 0 = one.after v.first in
        let u>e : get_or lo i 0 < get_or hi i 0 = one.some in
        let top : get_or hi i 0 ≤ d.subcarriers = one.inside in
        let s≤k : s ≤ before hi i = v.walk.low in
        record { e>k = e>k; u>e = u>e; top = top; s≤k = s≤k; nx≤k = v.walk.small; m≤ = v.few (omega arith); fits = fit.few; run = fit.run_high }

    -- before run 1
    start : (a b c x : List ℕ) → length a ≡ 256 → length b ≡ 256 → length c ≡ 256 → length x ≡ capacity → get_or c 0 0 ≡ 0 → Loop a b c x 0 0 (get_or hi 0 0) 1
    start a b c x la lb lc lx z =
        let one = r.runs.each 0 (omega (arith, r.two)) in
        let two = r.runs.each 1 r.two in
        let pos : 0 < get_or hi 0 0 = omega (arith, one.some) in
        let less : get_or hi 0 0 < d.subcarriers = omega (arith, two.after (omega arith), two.some, two.inside) in
        record {
          first = omega arith;
          last = omega (arith, r.two);
          la = la;
          lb = lb;
          lc = lc;
          lx = lx;
          few = λ w. omega arith;
          some = omega arith;
          walk = walk_start d p a b c x (get_or hi 0 0) z pos less (λ j f t. one.all j (omega (arith, r.bottom)) t) (free r 0 (omega (arith, r.two)) less);
        }

    -- over a short run
    next_short : (a b c x y : List ℕ) (m nx s i : ℕ) → Loop a b c x m nx s i → i < n → (leb d.subcarriers (get_or hi i 0) || leb (get_or lo i 0 + d.exclusion_run) (get_or hi i 0)) ≡ false
        → Pushed x y nx (get_or lo i 0) (get_or hi i 0) → length y ≡ capacity → Loop a b c y m (nx + (get_or hi i 0 - get_or lo i 0)) s (i + 1)
    next_short a b c x y m nx s i v l f push ly =
        let one = r.runs.each i l in
        let t = bounds a b c x m nx s i v l in
        let g = sep_false d.subcarriers d.exclusion_run (get_or lo i 0) (get_or hi i 0) f in
        record {
          first = omega arith;
          last = omega arith;
          la = v.la;
          lb = v.lb;
          lc = v.lc;
          lx = ly;
          few = v.few;
          some = v.some;
          walk = rw (add-one i) (walk_short d p (omega (arith, fit.run_low)) a b c x y (before hi i) m s nx (get_or lo i 0) (get_or hi i 0) v.walk t.e>k t.u>e t.top one.gap one.all g.0 g.1 push);
        }

    -- over a long run, or the last
    next_long : (a b c x : List ℕ) (m nx s i : ℕ) → Loop a b c x m nx s i → i < n → (leb d.subcarriers (get_or hi i 0) || leb (get_or lo i 0 + d.exclusion_run) (get_or hi i 0)) ≡ true
        → Loop (set a m s) (set b m (get_or lo i 0 - 1)) (set c (m + 1) nx) x (m + 1) nx (get_or hi i 0) (i + 1)
    next_long a b c x m nx s i v l f =
        let one = r.runs.each i l in
        let t = bounds a b c x m nx s i v l in
        let m<a : m < length a = omega (arith, v.la) in
        let m<b : m < length b = omega (arith, v.lb) in
        let m<c : m + 1 < length c = omega (arith, v.lc) in
        let long : (get_or lo i 0 + d.exclusion_run ≤ get_or hi i 0) ⊎ (get_or hi i 0 ≡ d.subcarriers) = sep_true d.subcarriers d.exclusion_run (get_or lo i 0) (get_or hi i 0) t.top f in
        record {
          first = omega arith;
          last = omega arith;
          la = length-set a m s ∙ v.la;
          lb = length-set b m (get_or lo i 0 - 1) ∙ v.lb;
          lc = length-set c (m + 1) nx ∙ v.lc;
          lx = v.lx;
          few = λ w. few_at w long t;
          some = omega arith;
          walk = rw (add-one i) (walk_long d p (omega (arith, fit.run_low)) a b c x (before hi i) m s nx (get_or lo i 0) (get_or hi i 0) v.walk t.e>k t.u>e t.top one.gap one.all (free r i l) long m<a m<b m<c);
        }
      where
        few_at : get_or hi i 0 < d.subcarriers → (get_or lo i 0 + d.exclusion_run ≤ get_or hi i 0) ⊎ (get_or hi i 0 ≡ d.subcarriers) → Bounds m nx s i → 20 * (m + 1) ≤ get_or hi i 0
        few_at w (inl h) t = omega (arith, fit.run_low)
        few_at w (inr h) t = absurd (omega arith)

    -- after the last run
    pub finish : (a b c x : List ℕ) (m nx s i : ℕ) → Loop a b c x m nx s i → n ≤ i → BandList d p a b c x m × (m < 256)
    finish a b c x m nx s i v l =
        let e : i ≡ n = omega (arith, v.last) in
        let k : before hi i ≡ d.subcarriers = ap (before hi) e ∙ r.top in
        (walk_end d p a b c x (before hi i) m s nx v.walk k, omega (arith, v.some, v.walk.low, fit.few))

    -- the same, as the code reads the runs

    pub begin : (a b c x : List ℕ) (u : ℕ) → u ≡ get_or hi 0 0 → length a ≡ 256 → length b ≡ 256 → length c ≡ 256 → length x ≡ capacity → Loop a b (set c 0 0) x 0 0 u 1
    begin a b c x u e la lb lc lx = rw e (start a b (set c 0 0) x la lb (length-set c 0 0 ∙ lc) lx (get_or-set_same c 0 0 0 (omega arith)))

    pub turn_long : (a b c x : List ℕ) (m nx s i e u : ℕ) (t : Bool) → Loop a b c x m nx s i → i < n → e ≡ get_or lo i 0 → u ≡ get_or hi i 0 → t ≡ (leb d.subcarriers u || leb (e + d.exclusion_run) u) → t ≡ true
        → Loop (set a m s) (set b m (e - 1)) (set c (m + 1) nx) x (m + 1) nx u (i + 1)
    turn_long a b c x m nx s i e u t v l p q f g = rw (p, q) (next_long a b c x m nx s i v l (rw (p, q) at (sym f ∙ g)))

    pub turn_short : (a b c x y : List ℕ) (m nx s i e u to : ℕ) (t : Bool) → Loop a b c x m nx s i → i < n → e ≡ get_or lo i 0 → u ≡ get_or hi i 0 → t ≡ (leb d.subcarriers u || leb (e + d.exclusion_run) u) → t ≡ false
        → to ≡ nx + (u - e) → Pushed x y nx e u → length y ≡ capacity → Loop a b c y m to s (i + 1)
    turn_short a b c x y m nx s i e u to t v l p q f g h push ly = rw (h, p, q) (next_short a b c x y m nx s i v l (rw (p, q) at (sym f ∙ g)) (rw (p, q) at push) ly)
