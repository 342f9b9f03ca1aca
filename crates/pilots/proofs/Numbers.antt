-- How many continuous pilots an accepted plan has: two for each distance, and one for each kind 3 record. Assumes nothing.
use Prim.Native.Nat.{ℕ, ◌+◌, ◌≤◌, ◌<◌}
use mathlib.Core.Path.{◌≡◌, refl, sym, ap, ◌∙◌, subst}
use mathlib.Core.Bool.{Bool, true, false, ◌&&◌, ◌||◌}
use mathlib.Core.List.{List, [], ◌∷◌}
use native.Mathlib.Nat.{zero-add, le_refl}
use native.Mathlib.Omega.{arith}
use lib.Dec.{leb, ltb, eqb}
use lib.ListN.{length, length-map}
use borrow.Author.Tests.{lt-ltb, le-leb, eq-eqb, ne_eqb, eqb-true}
use Rattle.counting.specs.Search.{bit, count, when, or_else}
use Rattle.counting.proofs.Bools.{by_test, conflict, neither, or_true}
use Rattle.counting.proofs.Laws.{count_false, count_ext, lowest_none, length_those}
use Rattle.counting.proofs.Sums.{sum_cong, sum_add, count_eq}
use Rattle.rules.specs.declared.Device.{Device}
use Rattle.rules.specs.Refusals.{Finding}
use Rattle.std.specs.Prelude.{Ok, Option, Some, None}
use Rattle.rules.specs.Fits.{Fits}
use Rattle.rules.specs.Plan.{Entry, Plan, plan_of}
use Rattle.rules.specs.Bands.{any, excluded}
use Rattle.rules.specs.Roles.{one_of, predefined, names, in_plc, continuous, continuous_mark, first_mark, mark}
use Rattle.rules.specs.Grounds.{◌else◌, ground?, outside, around_plc, pilot_clash, grounds6to15, grounds1to15}
use Rattle.rules.proofs.Findings.{both_fine, no_place}
use Rattle.roles.proofs.Eight.{eight_is, eight_long, beside, place}
use Rattle.roles.proofs.Testing.{off_plc}
use Rattle.facts.proofs.Accepted.{later_fine, plc_in, few_pilots, pilots_below}
use Rattle.facts.proofs.Few.{count_members}
use Rattle.facts.proofs.Unranked.{lows, any_names}
use Rattle.pilots.specs.Pilots.{pilots_most, is_continuous, continuous_pilots}
use Rattle.pilots.specs.Claims.{Rising}

-- ---- lists in which no number stands twice

Distinct : List ℕ → Type 0
Distinct [] = Unit {0}
Distinct (x ∷ xs) = (one_of x xs ≡ false) × Distinct xs

-- of two tests of which at most one holds
either : (a b : Bool) → (a ≡ true → b ≡ false) → bit (a || b) ≡ bit a + bit b
either true b h = rw (h refl) refl
either false b h = sym (zero-add (bit b))

count_either : (t u : ℕ → Bool) (n : ℕ) → ((k : ℕ) → t k ≡ true → u k ≡ false) → count (λ k. t k || u k) n ≡ count t n + count u n
unfolding count
count_either t u n h = sum_cong _ _ n (λ k l. either (t k) (u k) (h k)) ∙ sum_add (λ k. bit (t k)) (λ k. bit (u k)) n

-- so many numbers are in a list as it is long
count_distinct : (n : ℕ) (xs : List ℕ) → Distinct xs → ((k : ℕ) → one_of k xs ≡ true → k < n) → count (λ k. one_of k xs) n ≡ length xs
unfolding one_of Distinct
count_distinct n [] once below = count_false n
count_distinct n (x ∷ xs) once below =
    let first : count (λ k. eqb k x) n ≡ 1 = count_eq n x (below x (ap (λ (b : Bool). b || one_of x xs) (eq-eqb x x refl))) in
    let rest = count_distinct n xs once.1 (λ k e. below k (ap (λ (b : Bool). eqb k x || b) e ∙ or_true (eqb k x))) in
    omega (arith, count_either (λ k. eqb k x) (λ k. one_of k xs) n (λ k e. ap (λ (q : ℕ). one_of q xs) (eqb-true k x e) ∙ once.0), first, rest)

-- every number of xs is above a, and each above the one before
Above : ℕ → List ℕ → Type 0
Above a [] = Unit {0}
Above a (x ∷ xs) = (a < x) × Above x xs

not_above : (a b : ℕ) (xs : List ℕ) → a ≤ b → Above b xs → one_of a xs ≡ false
unfolding one_of Above
not_above a b [] h r = refl
not_above a b (x ∷ xs) h r =
    ap (λ (c : Bool). c || one_of a xs) (ne_eqb a x (λ e. let l = r.0 in omega arith)) ∙ not_above a x xs (let l = r.0 in omega arith) r.1

above_distinct : (a : ℕ) (xs : List ℕ) → Above a xs → Distinct (a ∷ xs)
unfolding Distinct Above
above_distinct a [] r = (not_above a a [] (le_refl a) r, tt)
above_distinct a (x ∷ xs) r = (not_above a a (x ∷ xs) (le_refl a) r, above_distinct x xs r.1)

-- ---- the tests of an accepted plan

-- grounds 7 and 8 of 6 to 15
seven_eight : (six seven eight later : Finding) → (six else seven else eight else later) ≡ Ok tt → (seven ≡ Ok tt) × (eight ≡ Ok tt)
seven_eight six seven eight later e =
    let from-seven = both_fine seven _ (both_fine six _ e).1 in
    (from-seven.0, (both_fine eight later from-seven.1).0)

no_clash : (b : Bool) (i : ℕ) (o : Option ℕ) → or_else (when b i) o ≡ None → (b ≡ false) × (o ≡ None)
no_clash true i o e = absurd (some_is_none e)
  where
    some_is_none : Some i ≡ None → ⊥
    some_is_none z = let y : ◌≡◌ {A = ℕ} 0 1 = ap (λ (q : Option ℕ). elim q [ None ↦ 1 | Some k ↦ 0 ]) z in omega arith
no_clash false i o e = (refl, e)

earlier_none : (k : ℕ) (e : Entry) (es : List Entry) → any (names k) (e ∷ es) ≡ false → (eqb e.low k ≡ false) × (any (names k) es ≡ false)
unfolding any
earlier_none k e es h = neither (eqb e.low k) (any (names k) es) h

module _ (d : Device) (p : Plan) where
  -- the pilots of some kind 3 entries, after earlier ones
  record Clear (earlier es : List Entry) : Type 0 where
    active : (k : ℕ) → one_of k (lows es) ≡ true → excluded p k ≡ false
    off : (k : ℕ) → one_of k (lows es) ≡ true → in_plc d p k ≡ false
    other : (k : ℕ) → one_of k (lows es) ≡ true → one_of k (predefined d p.plc) ≡ false
    new : (k : ℕ) → one_of k (lows es) ≡ true → any (names k) earlier ≡ false
    once : Distinct (lows es)

  clear : (earlier es : List Entry) → pilot_clash d p earlier es ≡ None → Clear earlier es
  unfolding pilot_clash one_of Distinct
  clear earlier [] e = record {
    active = λ k h. absurd (conflict false h refl);
    off = λ k h. absurd (conflict false h refl);
    other = λ k h. absurd (conflict false h refl);
    new = λ k h. absurd (conflict false h refl);
    once = tt;
  }
  clear earlier (e ∷ es) f =
      let l = e.low in
      let two = no_clash (excluded p l || in_plc d p l || one_of l (predefined d p.plc) || any (names l) earlier) e.index _ f in
      let last = neither (excluded p l || in_plc d p l || one_of l (predefined d p.plc)) (any (names l) earlier) two.0 in
      let third = neither (excluded p l || in_plc d p l) (one_of l (predefined d p.plc)) last.0 in
      let firsts = neither (excluded p l) (in_plc d p l) third.0 in
      let r = clear (e ∷ earlier) es two.1 in
      record {
        active = λ k h. here (excluded p) firsts.0 r.active k h;
        off = λ k h. here (in_plc d p) firsts.1 r.off k h;
        other = λ k h. here (λ q. one_of q (predefined d p.plc)) third.1 r.other k h;
        new = λ k h. here (λ q. any (names q) earlier) last.1 (λ q g. (earlier_none q e earlier (r.new q g)).1) k h;
        once = (by_test (one_of l (lows es)) (λ g. absurd (conflict (eqb l l) (eq-eqb l l refl) (earlier_none l e earlier (r.new l g)).0)) (λ g. g), r.once);
      }
    where
      -- of the first, and of the others
      here : (t : ℕ → Bool) → t e.low ≡ false → ((q : ℕ) → one_of q (lows es) ≡ true → t q ≡ false) → (k : ℕ) → (eqb k e.low || one_of k (lows es)) ≡ true → t k ≡ false
      here t a rest k h =
          by_test (eqb k e.low)
          (λ g. ap t (eqb-true k e.low g) ∙ a)
          (λ g. rest k (sym (ap (λ (b : Bool). b || one_of k (lows es)) g) ∙ h))

module _ (d : Device) (fits : Fits d) (s : List ℕ) (fine : grounds1to15 d s ≡ Ok tt) where
  abbrev p : Plan
  p = plan_of s

  abbrev eight : List ℕ
  eight = predefined d p.plc

  abbrev further : List ℕ
  further = lows p.pilots

  stages : (ground? 7 (around_plc d p) ≡ Ok tt) × (ground? 8 (pilot_clash d p [] p.pilots) ≡ Ok tt)
  unfolding grounds6to15
  stages = seven_eight (ground? 6 (outside d p)) (ground? 7 (around_plc d p)) (ground? 8 (pilot_clash d p [] p.pilots)) _ (later_fine d s fine)

  cleared : Clear d p [] p.pilots
  cleared = clear d p [] p.pilots (no_place 8 (pilot_clash d p [] p.pilots) stages.1)

  -- ground 7: what stands around the PLC is active
  around : (k : ℕ) → k < d.subcarriers → p.plc ≤ k + d.plc_margin → k < p.plc + d.plc_width + d.plc_margin → excluded p k ≡ false
  unfolding around_plc
  around k b from to =
      let e = lowest_none (λ k. excluded p k && leb p.plc (k + d.plc_margin) && ltb k (p.plc + d.plc_width + d.plc_margin)) d.subcarriers (no_place 7 (around_plc d p) stages.0) k b in
      by_test (excluded p k)
      (λ x. absurd (conflict _ (λ i. x i && le-leb p.plc (k + d.plc_margin) from i && lt-ltb k (p.plc + d.plc_width + d.plc_margin) to i) e))
      (λ x. x)

  -- a predefined pilot
  record Predefined (k : ℕ) : Type 0 where
    below : k < d.subcarriers
    active : excluded p k ≡ false
    off : in_plc d p k ≡ false

  is_predefined : (k : ℕ) → one_of k eight ≡ true → Predefined k
  is_predefined k h =
      let w = place eight k h in
      let b = beside d p.plc fits (plc_in d s fine).0 w.at (omega (arith, w.inside, eight_long d p.plc fits)) in
      let from : p.plc ≤ k + d.plc_margin = omega (arith, w.is, b.from) in
      let to : k < p.plc + d.plc_width + d.plc_margin = omega (arith, w.is, b.to) in
      let below : k < d.subcarriers = omega (arith, to, (plc_in d s fine).1, fits.plc_high) in
      record { below = below; active = around k below from to; off = off_plc d p p.plc refl k (rw w.is b.off) }

  further_below : (k : ℕ) → one_of k further ≡ true → k < d.subcarriers
  further_below k h = let w = place further k h in omega (arith, w.is, pilots_below d s fine w.at w.inside)

  apart : (k : ℕ) → one_of k eight ≡ true → one_of k further ≡ false
  apart k h = by_test (one_of k further) (λ g. absurd (conflict _ h (cleared.other k g))) (λ g. g)

  -- a subcarrier is a continuous pilot if it is predefined or a kind 3 record names it
  is_either : (k : ℕ) → is_continuous d p k ≡ (one_of k eight || one_of k further)
  unfolding is_continuous mark continuous
  is_either k =
      rw (any_names k p.pilots)
      (by_test (one_of k eight)
      (λ h. let w = is_predefined k h in rw (h, w.active, w.off) refl)
      (λ h. by_test (one_of k further)
      (λ g. rw (h, g, cleared.active k g, cleared.off k g) refl)
      (λ g. rw (h, g) (neither_mark (excluded p k) (in_plc d p k)))))
    where
      neither_mark : (a b : Bool) → eqb (first_mark a b false) continuous_mark ≡ false
      neither_mark true b = refl
      neither_mark false true = refl
      neither_mark false false = refl

  both : length (continuous_pilots d p) ≡ count (λ k. one_of k eight) d.subcarriers + count (λ k. one_of k further) d.subcarriers
  unfolding continuous_pilots
  both =
      length_those (is_continuous d p) d.subcarriers ∙ count_ext (is_continuous d p) (λ k. one_of k eight || one_of k further) d.subcarriers (λ k l. is_either k)
      ∙ count_either (λ k. one_of k eight) (λ k. one_of k further) d.subcarriers apart

  -- no more than have places
  pub few : length (continuous_pilots d p) ≤ pilots_most
  few =
      let n : ℕ = d.subcarriers in
      let same : (xs : List ℕ) → count (λ k. one_of (0 + k) xs) n ≡ count (λ k. one_of k xs) n = λ xs. count_ext (λ k. one_of (0 + k) xs) (λ k. one_of k xs) n (λ k l. ap (λ (q : ℕ). one_of q xs) (zero-add k)) in
      omega (
        arith,
        both,
        same eight,
        same further,
        count_members eight 0 n,
        count_members further 0 n,
        eight_long d p.plc fits,
        length-map p.pilots (λ (e : Entry). e.low),
        few_pilots d s fine,
      )

  -- the eight rise where the distances do
  eight_distinct : Rising d.distances → Distinct eight
  eight_distinct rise =
      let l : ℕ = p.plc in
      let low = (plc_in d s fine).0 in
      let margin = fits.plc_low in
      let Some = fits.plc_some in
      let a = rise 0 (omega (arith, fits.four)) in
      let b = rise 1 (omega (arith, fits.four)) in
      let c = rise 2 (omega (arith, fits.four)) in
      let first = (fits.near 0 (omega arith)).0 in
      let last = (fits.near 3 (omega arith)).1 in
      subst Distinct (eight_is d l fits)
      (unfold Above in above_distinct _ _ (omega arith, (omega arith, (omega arith, (omega arith, (omega arith, (omega arith, (omega arith, tt))))))))

  -- two for each distance, and one for each kind 3 record
  pub number : Rising d.distances → length (continuous_pilots d p) ≡ length d.distances + length d.distances + length p.pilots
  number rise =
      omega (
        arith,
        both,
        count_distinct d.subcarriers eight (eight_distinct rise) (λ k h. (is_predefined k h).below),
        count_distinct d.subcarriers further cleared.once further_below,
        eight_long d p.plc fits,
        fits.four,
        length-map p.pilots (λ (e : Entry). e.low),
      )
