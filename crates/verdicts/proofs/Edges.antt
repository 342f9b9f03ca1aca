-- A plan that passes grounds 1 to 8: its tables are what grounds 6 to 8 are tried on, and its first and last runs touch the ends. Assumes nothing.
use mathlib.Core.Path.{◌≡◌, refl, sym, ap, ◌∙◌}
use mathlib.Core.Bool.{Bool, true, false, not, ◌&&◌, ◌||◌, true≢false, false≢true}
use mathlib.Core.Logic.{inl, inr}
use mathlib.Core.List.{List}
use Prim.Native.Nat.{ℕ, zero, suc, ◌+◌, ◌-◌, ◌≤◌, ◌<◌}
use native.Mathlib.Omega.{arith}
use lib.Dec.{leb, ltb}
use lib.ListN.{length, get_or}
use borrow.Author.Tests.{lt-ltb, le-leb}
use Rattle.counting.specs.Runs.{Runs, before}
use Rattle.counting.proofs.Bools.{Less, decide, or_true}
use Rattle.counting.proofs.Laws.{lowest_none}
use Rattle.ranges.specs.Reach.{hit}
use Rattle.rules.specs.declared.Device.{Device}
use Rattle.std.specs.Prelude.{Ok, None}
use Rattle.rules.specs.Plan.{Plan, plan_of, number}
use Rattle.rules.specs.Bands.{excluded, active}
use Rattle.rules.specs.Grounds.{outside, around_plc}
use Rattle.rules.specs.Fits.{Fits}
use Rattle.plan.specs.Noted.{Noted}
use Rattle.marks.specs.Marked.{Ready, grounds6to8}
use Rattle.marks.proofs.Marks.{early_fine}
use Rattle.bands.specs.BandList.{EdgeRuns}

-- runs of one test are runs of another that agrees with it
runs_same : (e f : ℕ → Bool) (size : ℕ) (lo hi : List ℕ) (n : ℕ) → ((k : ℕ) → k < size → e k ≡ f k) → Runs e size lo hi n → Runs f size lo hi n
runs_same e f size lo hi n h r = record {
  each = λ i l.
      let one = r.each i l in
      record {
        some = one.some;
        inside = one.inside;
        after = one.after;
        all = λ k a b. sym (h k (omega (arith, one.inside))) ∙ one.all k a b;
        gap = λ k a b. sym (h k (omega (arith, one.some, one.inside))) ∙ one.gap k a b;
      };
  last = λ k a b. sym (h k b) ∙ r.last k a b;
}

-- what grounds 6 to 8 are tried on
pub ready : (d : Device) (s : List ℕ) (np : ℕ) (reach hot pil rec lo hi m : List ℕ) (n l : ℕ) → Fits d → Noted d s np reach hot pil rec → Runs (hit reach) d.subcarriers lo hi n → n ≤ 2048
    → length lo ≡ 2048 → length hi ≡ 2048 → l ≡ number s 4 → length m ≡ 4096 → Ready d (plan_of s) lo hi n pil rec np l m
unfolding plan_of
ready d s np reach hot pil rec lo hi m n l fits w r few a b e size = record {
  fits = fits;
  runs = runs_same (hit reach) (excluded (plan_of s)) d.subcarriers lo hi n w.covered r;
  los = omega arith;
  his = omega arith;
  long = size;
  below = w.below;
  nums = w.nums;
  recs = w.recs;
  few = w.few;
  lp = w.lp;
  lr = w.lr;
  plc = e;
  l_low = omega (arith, w.plc_low);
  l_high = omega (arith, w.plc_high);
}

-- the first run touches 0 and the last the end
module _ (d : Device) (p : Plan) (lo hi : List ℕ) (n : ℕ) (fits : Fits d) (r : Runs (excluded p) d.subcarriers lo hi n) (low : n ≤ length lo) (high : n ≤ length hi)
    (plc-low : d.low_plc ≤ p.plc) (plc-high : p.plc ≤ d.high_plc) (six : None ≡ outside d p) (seven : None ≡ around_plc d p) where
  out_excluded : (k : ℕ) → k < d.subcarriers → (ltb k d.low_active || ltb d.high_active k) ≡ true → excluded p k ≡ true
  unfolding outside active
  out_excluded k l t = go (excluded p k) refl
    where
      go : (b : Bool) → excluded p k ≡ b → excluded p k ≡ true
      go true e = e
      go false e =
          absurd (true≢false (sym (λ j. (lt-ltb k d.subcarriers l j && not (e j)) && t j) ∙ lowest_none (λ i. active d p i && (ltb i d.low_active || ltb d.high_active i)) d.subcarriers (sym six) k l))

  bottom_excluded : excluded p 0 ≡ true
  bottom_excluded = out_excluded 0 (omega (arith, fits.top)) (ap (λ (b : Bool). b || ltb d.high_active 0) (lt-ltb 0 d.low_active fits.bottom))

  top_excluded : excluded p (d.subcarriers - 1) ≡ true
  top_excluded = out_excluded (d.subcarriers - 1) (omega (arith, fits.top)) (ap (λ (b : Bool). ltb (d.subcarriers - 1) d.low_active || b) (lt-ltb d.high_active (d.subcarriers - 1) (omega (arith, fits.top))) ∙ or_true (ltb (d.subcarriers - 1) d.low_active))

  plc_active : excluded p p.plc ≡ false
  unfolding around_plc
  plc_active = go (excluded p p.plc) refl
    where
      go : (b : Bool) → excluded p p.plc ≡ b → excluded p p.plc ≡ false
      go false e = e
      go true e =
          absurd (true≢false (sym (λ j. (e j && le-leb p.plc (p.plc + d.plc_margin) (omega arith) j) && lt-ltb p.plc (p.plc + d.plc_width + d.plc_margin) (omega (arith, fits.plc_some)) j)
          ∙ lowest_none (λ k. excluded p k && leb p.plc (k + d.plc_margin) && ltb k (p.plc + d.plc_width + d.plc_margin)) d.subcarriers (sym seven) p.plc (omega (arith, fits.plc_high, fits.plc_some))))

  before_top : before hi n ≡ d.subcarriers
  before_top = go n r
    where
      go : (m : ℕ) → Runs (excluded p) d.subcarriers lo hi m → before hi m ≡ d.subcarriers
      go zero q = absurd (true≢false (sym bottom_excluded ∙ q.last 0 (omega arith) (omega (arith, fits.top))))
      go (suc m) q = at (decide (get_or hi m 0) d.subcarriers)
        where
          at : Less (get_or hi m 0) d.subcarriers → get_or hi m 0 ≡ d.subcarriers
          at (inl (a, _)) = absurd (true≢false (sym top_excluded ∙ q.last (d.subcarriers - 1) (omega arith) (omega arith)))
          at (inr (a, _)) = omega (arith, (q.each m (omega arith)).inside)

  some_run : 0 < n
  some_run = go n before_top
    where
      go : (m : ℕ) → before hi m ≡ d.subcarriers → 0 < m
      go zero e = absurd (omega (arith, fits.top))
      go (suc m) e = omega arith

  bottom_is : get_or lo 0 0 ≡ 0
  bottom_is = go (decide 0 (get_or lo 0 0))
    where
      go : Less 0 (get_or lo 0 0) → get_or lo 0 0 ≡ 0
      go (inl (a, _)) = absurd (true≢false (sym bottom_excluded ∙ (r.each 0 some_run).gap 0 (omega arith) a))
      go (inr (a, _)) = omega arith

  two_runs : 2 ≤ n
  two_runs = go (decide 1 n)
    where
      go : Less 1 n → 2 ≤ n
      go (inl (a, _)) = a
      go (inr (a, _)) =
          let e : n ≡ 1 = omega (arith, some_run) in
          let top : get_or hi 0 0 ≡ d.subcarriers = sym (ap (before hi) e) ∙ before_top in
          absurd (false≢true (sym plc_active ∙ (r.each 0 some_run).all p.plc (omega (arith, bottom_is)) (omega (arith, fits.plc_high, fits.plc_some))))

  edge_runs : EdgeRuns d p lo hi n
  edge_runs = record { runs = r; two = two_runs; bottom = bottom_is; top = before_top; lows = low; highs = high }

-- the runs of a plan that passes grounds 6 to 8
pub edges : (d : Device) (p : Plan) (lo hi : List ℕ) (n : ℕ) (pil rec : List ℕ) (np l : ℕ) (m : List ℕ) → Ready d p lo hi n pil rec np l m → Ok tt ≡ grounds6to8 d p → EdgeRuns d p lo hi n
edges d p lo hi n pil rec np l m w e =
    let two = early_fine d p e in
    edge_runs d p lo hi n w.fits w.runs w.los w.his (omega (arith, w.plc, w.l_low)) (omega (arith, w.plc, w.l_high)) two.0 two.1
