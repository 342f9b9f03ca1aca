-- Ground 8: what the loop over the kind 3 pilots keeps. Assumes nothing.
use Prim.Native.Nat.{ℕ, zero, suc, ◌+◌, ◌≤◌, ◌<◌}
use mathlib.Core.Path.{◌≡◌, refl, sym, ap, ap₂, ◌∙◌, subst}
use mathlib.Core.Bool.{Bool, true, false, not, ◌||◌, or_assoc, or_comm}
use mathlib.Core.List.{List, [], ◌∷◌, map}
use Rattle.std.specs.Prelude.{Some, None}
use native.Mathlib.Numerals.{add-one}
use native.Mathlib.Omega.{arith}
use lib.Dec.{eqb}
use lib.ListN.{length, get_or, set, take, drop}
use lib.Seq.{drop-cons, get_or-take, length-take-le}
use borrow.Author.Tests.{not-true, not-false}
use Rattle.counting.specs.Search.{when, or_else}
use Rattle.counting.proofs.Bools.{or_false, neither, eqb_sym}
use Rattle.rules.specs.declared.Device.{Device}
use Rattle.rules.specs.Plan.{Entry, Plan}
use Rattle.rules.specs.Bands.{any, excluded}
use Rattle.rules.specs.Roles.{one_of, predefined, names, in_plc, continuous, mark, continuous_mark, first_mark}
use Rattle.rules.specs.Grounds.{pilot_clash}
use Rattle.roles.proofs.Testing.{mark_is}
use Rattle.marks.specs.Marked.{Cells, Marked}
use Rattle.marks.specs.Stages.{with_pilots, Placed}
use Rattle.marks.proofs.Stretches.{cells_same}
use Rattle.marks.proofs.Placing.{Apart, pilot_more}

-- the pilots so far: the predefined ones, and those that the entries name
abbrev pub so_far : Device → Plan → List Entry → ℕ → Bool
so_far d p es k = one_of k (predefined d p.plc) || any (names k) es

-- the loop has passed q of the kind 3 pilots, and none of them clashes
pub record ClashAt (d : Device) (p : Plan) (pil rec : List ℕ) (np : ℕ) (m : List ℕ) (q : ℕ) : Type 0 where
  pub earlier : List Entry
  pub rest : List Entry
  pub same : pilot_clash d p [] p.pilots ≡ pilot_clash d p earlier rest
  pub both : (k : ℕ) → any (names k) p.pilots ≡ (any (names k) earlier || any (names k) rest)
  pub cells : Cells d.subcarriers (with_pilots d p (so_far d p earlier)) m
  pub nums : map (λ (e : Entry). e.low) rest ≡ drop q (take np pil)
  pub recs : map (λ (e : Entry). e.index) rest ≡ drop q (take np rec)

pub clash_start : (d : Device) (p : Plan) (pil rec : List ℕ) (np : ℕ) (m : List ℕ) → Placed d p pil rec np m → ClashAt d p pil rec np m 0
unfolding any with_pilots
clash_start d p pil rec np m w = record {
  earlier = [];
  rest = p.pilots;
  same = refl;
  both = λ k. refl;
  cells = cells_same d.subcarriers (with_pilots d p (λ k. one_of k (predefined d p.plc))) (with_pilots d p (so_far d p [])) m
      (λ k h. ap (first_mark (excluded p k) (in_plc d p k)) (sym (or_false (one_of k (predefined d p.plc))))) w.cells;
  nums = w.nums;
  recs = w.recs;
}

first_of : (l : List ℕ) (np q : ℕ) → q < np → np ≤ length l → drop q (take np l) ≡ get_or l q 0 ∷ drop (q + 1) (take np l)
first_of l np q h g =
    drop-cons (take np l) q 0 (subst (λ (n : ℕ). q < n) (sym (length-take-le np l g)) h)
    ∙ ap₂ (λ (x n : ℕ). x ∷ drop n (take np l)) (get_or-take np l q 0 h) (sym (add-one q))

past : (n : ℕ) (xs : List ℕ) → length xs ≤ n → drop n xs ≡ []
past zero [] g = refl
past zero (x ∷ xs) g = absurd (omega arith)
past (suc n) [] g = refl
past (suc n) (x ∷ xs) g = past n xs (omega arith)

nil_cons : {x : ℕ} {xs : List ℕ} → [] ≡ x ∷ xs → ⊥
nil_cons e = let z : ◌≡◌ {A = ℕ} 0 1 = cc in omega arith

head_is : {x y : ℕ} {xs ys : List ℕ} → x ∷ xs ≡ y ∷ ys → x ≡ y
head_is e = cc

tail_is : {x y : ℕ} {xs ys : List ℕ} → x ∷ xs ≡ y ∷ ys → xs ≡ ys
tail_is e = cc

-- a cell is clear exactly if ground 8 finds nothing there
clear_test : (a b c x : Bool) → eqb (first_mark a b (c || x)) 0 ≡ not (((a || b) || c) || x)
clear_test true b c x = refl
clear_test false true c x = refl
clear_test false false true x = refl
clear_test false false false true = refl
clear_test false false false false = refl

module _ (d : Device) (p : Plan) (pil rec : List ℕ) (np : ℕ) (start : List ℕ) (given : Placed d p pil rec np start) (m : List ℕ) (q : ℕ) (w : ClashAt d p pil rec np m q) where
  module _ (h : q < np) where
    -- the entry that stands at q
    record Next : Type 0 where
      pub e : Entry
      pub es : List Entry
      pub is : w.rest ≡ e ∷ es
      pub num : e.low ≡ get_or pil q 0
      pub nums : map (λ (x : Entry). x.low) es ≡ drop (q + 1) (take np pil)
      pub at : e.index ≡ get_or rec q 0
      pub ats : map (λ (x : Entry). x.index) es ≡ drop (q + 1) (take np rec)

    next : Next
    next = go w.rest refl (w.nums ∙ first_of pil np q h (omega (arith, given.few, given.lp))) (w.recs ∙ first_of rec np q h (omega (arith, given.few, given.lr)))
      where
        go : (r : List Entry) → w.rest ≡ r → map (λ (x : Entry). x.low) r ≡ get_or pil q 0 ∷ drop (q + 1) (take np pil)
            → map (λ (x : Entry). x.index) r ≡ get_or rec q 0 ∷ drop (q + 1) (take np rec) → Next
        go [] i a b = absurd (nil_cons a)
        go (e ∷ es) i a b = record { e = e; es = es; is = i; num = head_is a; nums = tail_is a; at = head_is b; ats = tail_is b }

    -- what ground 8 tests
    clashes : ℕ → Bool
    clashes k = excluded p k || in_plc d p k || one_of k (predefined d p.plc) || any (names k) w.earlier

    step : (b : Bool) → clashes (get_or pil q 0) ≡ b → pilot_clash d p [] p.pilots ≡ or_else (when b (get_or rec q 0)) (pilot_clash d p (next.e ∷ w.earlier) next.es)
    unfolding pilot_clash clashes
    step b t =
        let n = next in
        w.same ∙ ap (pilot_clash d p w.earlier) n.is
        ∙ ap₂ (λ (x : Bool) (i : ℕ). or_else (when x i) (pilot_clash d p (n.e ∷ w.earlier) n.es)) (ap clashes n.num ∙ t) n.at

    clear_is : eqb (get_or m (get_or pil q 0) 0) 0 ≡ not (clashes (get_or pil q 0))
    unfolding clashes with_pilots
    clear_is =
        let k = get_or pil q 0 in
        ap (λ (x : ℕ). eqb x 0) (w.cells.cell k (given.below q h)) ∙ clear_test (excluded p k) (in_plc d p k) (one_of k (predefined d p.plc)) (any (names k) w.earlier)

    pub clash_here : eqb (get_or m (get_or pil q 0) 0) 0 ≡ false → Some (get_or rec q 0) ≡ pilot_clash d p [] p.pilots
    clash_here z = sym (step true (not-false (clashes (get_or pil q 0)) (sym clear_is ∙ z)))

    -- where the cell is clear the pilot may stand
    stands : clashes (get_or pil q 0) ≡ false → Apart d p (get_or pil q 0)
    unfolding clashes
    stands t =
        let k = get_or pil q 0 in
        let a = neither (excluded p k || in_plc d p k || one_of k (predefined d p.plc)) (any (names k) w.earlier) t in
        let b = neither (excluded p k || in_plc d p k) (one_of k (predefined d p.plc)) a.0 in
        let c = neither (excluded p k) (in_plc d p k) b.0 in
        record { inside = given.below q h; active = c.0; off = c.1 }

    pub clash_on : eqb (get_or m (get_or pil q 0) 0) 0 ≡ true → ClashAt d p pil rec np (set m (get_or pil q 0) continuous_mark) (q + 1)
    unfolding any
    clash_on z =
        let t : clashes (get_or pil q 0) ≡ false = not-true (clashes (get_or pil q 0)) (sym clear_is ∙ z) in
        record {
          earlier = next.e ∷ w.earlier;
          rest = next.es;
          same = step false t;
          both = λ k. w.both k ∙ ap (λ (r : List Entry). any (names k) w.earlier || any (names k) r) next.is ∙ swap (any (names k) w.earlier) (eqb next.e.low k) (any (names k) next.es);
          cells = pilot_more d p (so_far d p w.earlier) (so_far d p (next.e ∷ w.earlier)) (get_or pil q 0) m given.fits (stands t) w.cells
              (λ k. turn (one_of k (predefined d p.plc)) (any (names k) w.earlier) (eqb next.e.low k) (eqb k (get_or pil q 0)) (ap (λ (x : ℕ). eqb x k) next.num ∙ eqb_sym (get_or pil q 0) k));
          nums = next.nums;
          recs = next.ats;
        }
      where
        swap : (a x r : Bool) → (a || (x || r)) ≡ ((x || a) || r)
        swap a x r = sym (or_assoc a x r) ∙ ap (λ (b : Bool). b || r) (or_comm a x)

        turn : (t a x y : Bool) → x ≡ y → (t || (x || a)) ≡ ((t || a) || y)
        turn t a x y e = ap (λ (b : Bool). t || b) (or_comm x a) ∙ sym (or_assoc t a x) ∙ ap (λ (b : Bool). (t || a) || b) e

  pub clash_end : np ≤ q → (None ≡ pilot_clash d p [] p.pilots) × Marked d p m
  unfolding pilot_clash with_pilots any continuous
  clash_end h = go w.rest refl
    where
      go : (r : List Entry) → w.rest ≡ r → (None ≡ pilot_clash d p [] p.pilots) × Marked d p m
      go [] e = (
        sym (w.same ∙ ap (pilot_clash d p w.earlier) e),
        cells_same d.subcarriers (with_pilots d p (so_far d p w.earlier)) (mark d p) m (λ k l. ap (λ (b : Bool). first_mark (excluded p k) (in_plc d p k) (one_of k (predefined d p.plc) || b)) (sym (all k e)) ∙ sym (mark_is d p k)) w.cells,
      )
        where
          all : (k : ℕ) → w.rest ≡ [] → any (names k) p.pilots ≡ any (names k) w.earlier
          all k e = w.both k ∙ ap (λ (r : List Entry). any (names k) w.earlier || any (names k) r) e ∙ or_false (any (names k) w.earlier)
      go (x ∷ xs) e = absurd (nil_cons (sym (sym (ap (map (λ (y : Entry). y.low)) e) ∙ w.nums ∙ past q (take np pil) (omega (arith, length-take-le np pil (omega (arith, given.few, given.lp)))))))
