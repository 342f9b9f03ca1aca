-- Which places become placeholders: two cells have no place in common. Assumes nothing.
use mathlib.Core.Path.{◌≡◌, refl, sym, ap, ◌∙◌}
use mathlib.Core.Logic.{◌≢◌, by_cases}
use mathlib.Core.List.{List}
use Prim.Native.Nat.{ℕ, zero, suc, ◌+◌, ◌*◌, ◌/◌, ◌%◌, ◌≤◌, ◌<◌}
use native.Mathlib.Nat.{not-suc-le-zero, mod-lt, div-add-mod'}
use native.Mathlib.Decide.{dec_lt, ℕ_discrete}
use native.Mathlib.Omega.{arith}
use lib.ListN.{length, get_or}
use lib.Seq.{get_or-set_same, get_or-set_other}
use borrow.Author.Tests.{lt-ltb, le-ltb}
use Rattle.rules.specs.Frame.{placeholder}
use Rattle.pattern.specs.Until.{symbols_until}
use Rattle.figure.specs.Figure.{line_begins}
use Rattle.figure.proofs.Sizes.{begins_grow, same_place}
use Rattle.figure.proofs.Turns.{turn_below, below_times, line_of, turn_of, same_cell}
use Rattle.figureflushes.specs.Placeholders.{with_placeholder, with_placeholders}
use Rattle.figureflushes.proofs.Putting.{length_all_with}

-- ---- a place is one of one line, and there that of one cell and one symbol

one_place : (J r r' i i' q q' : ℕ) → i < r → i' < r' → q < J → q' < J → line_begins J r + (i * J + q) ≡ line_begins J r' + (i' * J + q')
    → (r ≡ r') × (i ≡ i') × (q ≡ q')
one_place J r r' i i' q q' hi hi' hq hq' e =
    let w = same_place J r (i * J + q) r' (i' * J + q') (below_times i q J r hi hq) (below_times i' q' J r' hi' hq') e in
    let z = same_cell J i q i' q' hq hq' w.1 in
    (w.0, z.0, z.1)

-- ---- the placeholders put

module _ (m J base : ℕ) (kc : List ℕ) where
  -- how many symbols on the pattern stands on the subcarrier of cell c
  until : ℕ → ℕ
  until c = symbols_until base (get_or kc c 0)

  -- the place of cell c that is then sent
  place_of : ℕ → ℕ
  place_of c = line_begins J (c % m) + (until c * J + c / m)

  module _ (t : List ℕ) where
    put_here : (p : ℕ) → until p < p % m → place_of p < length t → get_or (with_placeholders m J base kc t (suc p)) (place_of p) 0 ≡ placeholder
    unfolding until place_of with_placeholders with_placeholder
    put_here p c h =
        rw (lt-ltb (symbols_until base (get_or kc p 0)) (p % m) c)
        (get_or-set_same (with_placeholders m J base kc t p) (place_of p) placeholder 0 (omega (arith, length_all_with m J base kc t p)))

    put_beside : (p k : ℕ) → (until p < p % m → k ≢ place_of p) → get_or (with_placeholders m J base kc t (suc p)) k 0 ≡ get_or (with_placeholders m J base kc t p) k 0
    unfolding until place_of with_placeholders with_placeholder
    put_beside p k h =
        by_cases (dec_lt (until p) (p % m))
        (λ c.
        rw (lt-ltb (symbols_until base (get_or kc p 0)) (p % m) c)
        (get_or-set_other (with_placeholders m J base kc t p) (place_of p) k placeholder 0 (h c)))
        (λ c. rw (le-ltb (symbols_until base (get_or kc p 0)) (p % m) (omega arith)) refl)

    -- a place that is put for no cell stays
    put_other : (p k : ℕ) → ((c : ℕ) → c < p → until c < c % m → k ≢ place_of c) → get_or (with_placeholders m J base kc t p) k 0 ≡ get_or t k 0
    put_other zero k h = unfold with_placeholders in refl
    put_other (suc p) k h = put_beside p k (h p (omega arith)) ∙ put_other p k (λ c l. h c (omega arith))

    put_own : (p c : ℕ) → c < p → until c < c % m → place_of c < length t → get_or (with_placeholders m J base kc t p) (place_of c) 0 ≡ placeholder
    put_own zero c l d h = absurd (not-suc-le-zero l)
    put_own (suc p) c l d h =
        by_cases (ℕ_discrete c p)
        (λ e. rw e (put_here p (rw e at d) (rw e at h)))
        (λ e.
        let rest : get_or (with_placeholders m J base kc t p) (place_of c) 0 ≡ placeholder = put_own p c (omega arith) d h in
        by_cases (dec_lt (until p) (p % m))
        (λ g.
        by_cases (ℕ_discrete (place_of c) (place_of p))
        (λ z. rw z (put_here p g (rw z at h)))
        (λ z. put_beside p (place_of c) (λ b. z) ∙ rest))
        (λ g. put_beside p (place_of c) (λ b. absurd (omega arith)) ∙ rest))

-- ---- place i * J + q of line r, which is that of cell q * m + r

module _ (m J base : ℕ) (kc t : List ℕ) (n : ℕ) (pos : 0 < m) (all : n ≤ J * m) (long : line_begins J m ≤ length t) where
  module _ (r i q : ℕ) (hr : r < m) (hi : i < r) (hq : q < J) where
    pub placed : q * m + r < n → i ≡ symbols_until base (get_or kc (q * m + r) 0) → get_or (with_placeholders m J base kc t n) (line_begins J r + (i * J + q)) 0 ≡ placeholder
    unfolding until place_of
    placed h e =
        let c : ℕ = q * m + r in
        let line : c % m ≡ r = line_of m q r hr in
        let at : place_of m J base kc c ≡ line_begins J r + (i * J + q) = λ k. line_begins J (line k) + (sym e k * J + turn_of m q r hr k) in
        rw at at
        (put_own m J base kc t n c h (omega (arith, line)) (omega (arith, at, begins_grow J r m hr, below_times i q J r hi hq)))

    pub not_placed : (q * m + r < n → i ≡ symbols_until base (get_or kc (q * m + r) 0) → ⊥)
        → get_or (with_placeholders m J base kc t n) (line_begins J r + (i * J + q)) 0 ≡ get_or t (line_begins J r + (i * J + q)) 0
    unfolding until place_of
    not_placed h =
        put_other m J base kc t n (line_begins J r + (i * J + q))
        (λ c hc hu e.
        let below : c < J * m = omega arith in
        let z = one_place J r (c % m) i (symbols_until base (get_or kc c 0)) q (c / m) hi hu hq (turn_below m J c pos below) e in
        let own : c ≡ q * m + r = sym ((λ k. z.2 k * m + z.0 k) ∙ div-add-mod' c m) in
        h (omega (arith, own, hc)) (z.1 ∙ ap (λ (x : ℕ). symbols_until base (get_or kc x 0)) own))

  -- past the lines
  pub past_placed : (k : ℕ) → line_begins J m ≤ k → get_or (with_placeholders m J base kc t n) k 0 ≡ get_or t k 0
  unfolding until place_of
  past_placed k h =
      put_other m J base kc t n k
      (λ c hc hu e.
      let below : c < J * m = omega arith in
      absurd (omega (arith, e, begins_grow J (c % m) m (mod-lt c pos), below_times (symbols_until base (get_or kc c 0)) (c / m) J (c % m) hu (turn_below m J c pos below))))
