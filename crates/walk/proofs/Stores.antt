-- A list after so many stores. Assumes nothing.
use Prim.Native.Nat.{ℕ, zero, suc, ◌+◌, ◌≤◌, ◌<◌}
use mathlib.Core.Path.{◌≡◌, refl, sym, ap, ◌∙◌}
use mathlib.Core.Logic.{by_cases, ◌≢◌}
use mathlib.Core.List.{List}
use native.Mathlib.Nat.{not-suc-le-zero}
use native.Mathlib.Decide.{dec_lt}
use native.Mathlib.Numerals.{add-one}
use native.Mathlib.Omega.{arith}
use lib.ListN.{length, get_or, set, length-set}
use lib.Seq.{get_or-set_same, get_or-set_other}
use Rattle.counting.proofs.Ranks.{InjBelow}
use Rattle.walk.specs.Stores.{stores}

pub stores_next : (at v : ℕ → ℕ) (o : ℕ) (l y : List ℕ) (k x : ℕ) → y ≡ stores at v o l → k ≡ at o → x ≡ v o → set y k x ≡ stores at v (o + 1) l
unfolding stores
stores_next at v o l y k x e ek ex = rw (add-one, e, ek, ex) refl

-- four stores, one by one
pub stores_four : (f g : ℕ → ℕ) (l : List ℕ) (k k1 k2 k3 x x1 x2 x3 : ℕ) → k ≡ f 0 → k1 ≡ f 1 → k2 ≡ f 2 → k3 ≡ f 3 → x ≡ g 0 → x1 ≡ g 1 → x2 ≡ g 2 → x3 ≡ g 3
    → set (set (set (set l k x) k1 x1) k2 x2) k3 x3 ≡ stores f g 4 l
unfolding stores
stores_four f g l k k1 k2 k3 x x1 x2 x3 e e1 e2 e3 h h1 h2 h3 = rw (e, e1, e2, e3, h, h1, h2, h3) refl

-- n more stores
pub stores_more : (at v f g : ℕ → ℕ) (o n : ℕ) (l y : List ℕ) → y ≡ stores at v o l → ((t : ℕ) → t < n → f t ≡ at (o + t)) → ((t : ℕ) → t < n → g t ≡ v (o + t))
    → stores f g n y ≡ stores at v (o + n) l
unfolding stores
stores_more at v f g o zero l y e ef eg = let z : o ≡ o + 0 = omega arith in e ∙ ap (λ (k : ℕ). stores at v k l) z
stores_more at v f g o (suc n) l y e ef eg =
    let z : o + n + 1 ≡ o + suc n = omega arith in
    stores_next at v (o + n) l (stores f g n y) (f n) (g n) (stores_more at v f g o n l y e (λ t h. ef t (omega arith)) (λ t h. eg t (omega arith))) (ef n (omega arith)) (eg n (omega arith))
    ∙ ap (λ (k : ℕ). stores at v k l) z

pub length_stores : (at v : ℕ → ℕ) (o : ℕ) (l : List ℕ) → length (stores at v o l) ≡ length l
unfolding stores
length_stores at v zero l = refl
length_stores at v (suc o) l = length-set (stores at v o l) (at o) (v o) ∙ length_stores at v o l

-- no store goes there
pub stores_miss : (at v : ℕ → ℕ) (o : ℕ) (l : List ℕ) (k : ℕ) → ((r : ℕ) → r < o → at r ≢ k) → get_or (stores at v o l) k 0 ≡ get_or l k 0
unfolding stores
stores_miss at v zero l k h = refl
stores_miss at v (suc o) l k h =
    get_or-set_other (stores at v o l) (at o) k (v o) 0 (λ z. h o (omega arith) (sym z)) ∙ stores_miss at v o l k (λ r hr. h r (omega arith))

-- the r-th store is the only one that goes to its place
pub stores_hit : (at v : ℕ → ℕ) (o : ℕ) (l : List ℕ) → InjBelow o at → (r : ℕ) → r < o → at r < length l → get_or (stores at v o l) (at r) 0 ≡ v r
unfolding stores
stores_hit at v zero l inj r h k = absurd (not-suc-le-zero h)
stores_hit at v (suc o) l inj r h k =
    by_cases (dec_lt r o)
    (λ c.
    get_or-set_other (stores at v o l) (at o) (at r) (v o) 0 (λ z. absurd (omega (arith, inj r o (omega arith) (omega arith) z)))
    ∙ stores_hit at v o l (λ p q hp hq. inj p q (omega arith) (omega arith)) r c k)
    (λ c.
    let e : r ≡ o = omega arith in
    rw e (get_or-set_same (stores at v o l) (at o) (v o) 0 (omega (arith, length_stores at v o l, ap at e))))

-- the same stores
pub stores_ext : (at at' v v' : ℕ → ℕ) (n : ℕ) (l : List ℕ) → ((r : ℕ) → r < n → at r ≡ at' r) → ((r : ℕ) → r < n → v r ≡ v' r) → stores at v n l ≡ stores at' v' n l
unfolding stores
stores_ext at at' v v' zero l ea ev = refl
stores_ext at at' v v' (suc n) l ea ev =
    rw (stores_ext at at' v v' n l (λ r h. ea r (omega arith)) (λ r h. ev r (omega arith)), ea n (omega arith), ev n (omega arith)) refl

-- one place after the other: each holds what was stored there
pub stores_up : (v : ℕ → ℕ) (n : ℕ) (l : List ℕ) → n ≤ length l → (q : ℕ) → q < n → get_or (stores (λ q. q) v n l) q 0 ≡ v q
stores_up v n l low q h = stores_hit (λ q. q) v n l (λ p q hp hq e. e) q h (omega arith)
