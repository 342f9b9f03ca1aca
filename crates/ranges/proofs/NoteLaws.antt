-- A range noted in a table of ends. Assumes nothing.
use mathlib.Core.Path.{◌≡◌, refl, sym, ap, ◌∙◌, subst}
use mathlib.Core.Bool.{Bool, true, false, ◌&&◌, ◌||◌}
use mathlib.Core.Logic.{◌⊎◌, inl, inr}
use mathlib.Core.List.{List}
use Prim.Native.Nat.{ℕ, zero, suc, ◌+◌, ◌*◌, ◌/◌, ◌<◌, ◌≤◌, max}
use native.Mathlib.Omega.{arith}
use lib.Dec.{ltb, leb}
use lib.ListN.{length, get_or, set, length-set, replicate, length-replicate}
use lib.Seq.{set-get_or, get_or-set_same, get_or-set_other}
use borrow.Author.Tests.{lt-ltb, le-ltb, le-leb, lt-leb}
use Rattle.counting.proofs.Bools.{Less, decide, Same, decide_eq, or_false}
use Rattle.counting.proofs.Lists.{zeros}
use Rattle.ranges.specs.Reach.{noted, far, hit, Table, Flags, NotedIf}

abbrev up_to : Bool → ℕ → ℕ
up_to true v = v
up_to false v = 0

ltb_max : (k a b : ℕ) → ltb k (max a b) ≡ (ltb k a || ltb k b)
ltb_max k a b = go (decide k a) (decide k b)
  where
    go : Less k a → Less k b → ltb k (max a b) ≡ (ltb k a || ltb k b)
    go (inl (h, e)) q = lt-ltb k (max a b) (omega arith) ∙ sym (ap (λ (t : Bool). t || ltb k b) e)
    go (inr (h, e)) (inl (h', e')) = lt-ltb k (max a b) (omega arith) ∙ sym (ap (λ (t : Bool). t || ltb k b) e ∙ e')
    go (inr (h, e)) (inr (h', e')) = le-ltb k (max a b) (omega arith) ∙ sym (ap (λ (t : Bool). t || ltb k b) e ∙ e')

-- what a note leaves at n, together with what it left before
get_or_noted : (r : List ℕ) (f e n : ℕ) → n < length r → Same f n → max (up_to (ltb f n) e) (get_or (noted r f e) n 0) ≡ max (get_or r n 0) (up_to (ltb f (suc n)) e)
unfolding noted
get_or_noted r f e n h (inl (q, _)) =
    let lo : ltb f n ≡ false = le-ltb f n (omega arith) in
    let hi : ltb f (suc n) ≡ true = lt-ltb f (suc n) (omega arith) in
    let at : get_or (set r f (max (get_or r f 0) e)) n 0 ≡ max (get_or r n 0) e = ap (λ (j : ℕ). get_or (set r j (max (get_or r j 0) e)) n 0) q ∙ get_or-set_same r n (max (get_or r n 0) e) 0 h in
    rw (lo, hi, at) (omega arith)
get_or_noted r f e n h (inr (ne, _)) = rw at (go (decide f n))
  where
    at : get_or (set r f (max (get_or r f 0) e)) n 0 ≡ get_or r n 0
    at = get_or-set_other r f n (max (get_or r f 0) e) 0 (λ g. ne (sym g))

    go : Less f n → max (up_to (ltb f n) e) (get_or r n 0) ≡ max (get_or r n 0) (up_to (ltb f (suc n)) e)
    go (inl (l, lo)) = rw (lo, lt-ltb f (suc n) (omega arith)) (omega arith)
    go (inr (l, lo)) = rw (lo, le-ltb f (suc n) (omega arith)) (omega arith)

far_noted : (r : List ℕ) (f e n : ℕ) → n ≤ length r → far (noted r f e) n ≡ max (far r n) (up_to (ltb f n) e)
unfolding far
far_noted r f e zero h = rw (le-ltb f 0 (omega arith)) (omega arith)
far_noted r f e (suc n) h =
    let ih : far (noted r f e) n ≡ max (far r n) (up_to (ltb f n) e) = far_noted r f e n (omega arith) in
    omega (arith, get_or_noted r f e n h (decide_eq f n))

in_range : (f e k : ℕ) → ltb k (up_to (ltb f (suc k)) e) ≡ (leb f k && ltb k e)
in_range f e k = go (decide k f) (decide k e)
  where
    go : Less k f → Less k e → ltb k (up_to (ltb f (suc k)) e) ≡ (leb f k && ltb k e)
    go (inl (p, _)) _ = rw (le-ltb f (suc k) (omega arith), lt-leb f k p) (le-ltb k 0 (omega arith))
    go (inr (p, _)) _ = rw (lt-ltb f (suc k) (omega arith), le-leb f k p) refl

hit_noted : (r : List ℕ) (f e k : ℕ) → k < length r → hit (noted r f e) k ≡ (hit r k || (leb f k && ltb k e))
unfolding hit
hit_noted r f e k h = ap (ltb k) (far_noted r f e (suc k) h) ∙ ltb_max k (far r (suc k)) (up_to (ltb f (suc k)) e) ∙ ap (λ (b : Bool). ltb k (far r (suc k)) || b) (in_range f e k)

table_noted : (size : ℕ) (r : List ℕ) (f e : ℕ) → Table r size → f < e → e ≤ size → Table (noted r f e) size
unfolding noted
table_noted size r f e t l top = record {
  long = omega (arith, length-set r f (max (get_or r f 0) e), t.long);
  past = λ k. past k (decide_eq k f);
  fits = λ k. fits k (decide_eq k f);
}
  where
    same : get_or (set r f (max (get_or r f 0) e)) f 0 ≡ max (get_or r f 0) e
    same = get_or-set_same r f (max (get_or r f 0) e) 0 (omega (arith, t.long))

    past : (k : ℕ) → Same k f → (get_or (set r f (max (get_or r f 0) e)) k 0 ≡ 0) ⊎ (k < get_or (set r f (max (get_or r f 0) e)) k 0)
    past k (inl (q, _)) = inr (rw (q, same) (omega arith))
    past k (inr (ne, _)) = rw (get_or-set_other r f k (max (get_or r f 0) e) 0 ne) (t.past k)

    fits : (k : ℕ) → Same k f → get_or (set r f (max (get_or r f 0) e)) k 0 ≤ size
    fits k (inl (q, _)) = rw (q, same) (omega (arith, t.fits f))
    fits k (inr (ne, _)) = rw (get_or-set_other r f k (max (get_or r f 0) e) 0 ne) (t.fits k)

flags_noted : (r hot : List ℕ) (f e : ℕ) → Flags r hot → f < 4096 → Flags (noted r f e) (set hot (f / 16) 1)
unfolding noted
flags_noted r hot f e w l = record {
  many = length-set hot (f / 16) 1 ∙ w.many;
  idle = λ b z k u v. go b z k u v (decide_eq b (f / 16));
}
  where
    go : (b : ℕ) → get_or (set hot (f / 16) 1) b 0 ≡ 0 → (k : ℕ) → 16 * b ≤ k → k < 16 * b + 16 → Same b (f / 16) → get_or (set r f (max (get_or r f 0) e)) k 0 ≡ 0
    go b z k u v (inl (q, _)) =
        let one : get_or (set hot (f / 16) 1) b 0 ≡ 1 = ap (λ (x : ℕ). get_or (set hot (f / 16) 1) x 0) q ∙ get_or-set_same hot (f / 16) 1 0 (omega (arith, w.many)) in
        absurd (omega arith)
    go b z k u v (inr (ne, _)) =
        let other : k ≡ f → ⊥ = λ g. ne (omega arith) in
        get_or-set_other r f k (max (get_or r f 0) e) 0 other ∙ w.idle b (sym (get_or-set_other hot (f / 16) b 1 0 ne) ∙ z) k u v

-- the three ways of the code
module _ (size low end : ℕ) (r hot : List ℕ) (t : Table r size) (f : Flags r hot) where
  pub note_none : NotedIf false size low end r r hot
  note_none = record { table = t; flags = f; hits = λ k l. sym (or_false (hit r k)) }

  note_any : size ≤ 4096 → low < end → end ≤ size → NotedIf true size low end r (noted r low end) (set hot (low / 16) 1)
  note_any few l top = record { table = table_noted size r low end t l top; flags = flags_noted r hot low end f (omega arith); hits = λ k w. hit_noted r low end k (omega (arith, t.long)) }

  pub note_keep : size ≤ 4096 → low < end → end ≤ size → end ≤ get_or r low 0 → NotedIf true size low end r r (set hot (low / 16) 1)
  unfolding noted
  note_keep few l top h =
      let e : max (get_or r low 0) end ≡ get_or r low 0 = omega arith in
      subst (λ (x : List ℕ). NotedIf true size low end r x (set hot (low / 16) 1)) (ap (set r low) e ∙ set-get_or r low 0) (note_any few l top)

  pub note_store : size ≤ 4096 → low < end → end ≤ size → get_or r low 0 < end → NotedIf true size low end r (set r low end) (set hot (low / 16) 1)
  unfolding noted
  note_store few l top h =
      let e : max (get_or r low 0) end ≡ end = omega arith in
      subst (λ (x : List ℕ). NotedIf true size low end r x (set hot (low / 16) 1)) (ap (set r low) e) (note_any few l top)

-- a table of zeros
pub table_zero : (n size : ℕ) → size ≤ n → Table (replicate n 0) size
table_zero n size l = record { long = omega (arith, length-replicate {A = ℕ} n 0); past = λ k. inl (zeros n k); fits = λ k. omega (arith, zeros n k) }

pub flags_zero : (n : ℕ) (hot : List ℕ) → length hot ≡ 256 → Flags (replicate n 0) hot
flags_zero n hot l = record { many = l; idle = λ b z k u v. zeros n k }

far_zero : (m n : ℕ) → ◌≡◌ {A = ℕ} (far (replicate m 0) n) 0
unfolding far
far_zero m zero = refl
far_zero m (suc n) = omega (arith, far_zero m n, zeros m n)

pub hit_zero : (n k : ℕ) → hit (replicate n 0) k ≡ false
unfolding hit
hit_zero n k = le-ltb k (far (replicate n 0) (suc k)) (omega (arith, far_zero n (suc k)))
