-- What stands in the delay lines while a symbol goes through, and what comes out. Assumes nothing.
use Prim.Native.Nat.{ℕ, zero, suc, ◌+◌, ◌-◌, ◌*◌, ◌/◌, ◌%◌, ◌≤◌, ◌<◌}
use mathlib.Core.Path.{◌≡◌, refl, sym, ap, ◌∙◌}
use mathlib.Core.Logic.{◌≢◌, by_cases}
use mathlib.Core.List.{List, [], ◌∷◌}
use native.Mathlib.Nat.{mod-lt, div-add-mod', mul-le-mul_right, min-eq_left, zero-mul}
use native.Mathlib.Decide.{dec_lt, ℕ_discrete}
use native.Mathlib.Omega.{arith}
use lib.Dec.{ltb}
use lib.ListN.{length, get_or, drop, length-append, length-take, length-drop, get_or-append}
use lib.Seq.{get_or-take, get_or-drop, get_or_at, length-sets}
use borrow.Author.Tests.{lt-ltb, le-ltb, eq-eqb, ne_eqb}
use Rattle.counting.specs.Search.{bit, pick, sum, count}
use Rattle.counting.proofs.Lists.{get_d_sets_before, get_or-sets_after, get_or-sets_in}
use Rattle.rules.specs.Frame.{filler}
use Rattle.figure.specs.Figure.{ceiling, line_begins, delay_line, line_and, cell_out, store_after, commutator, cell_in, store_at, out_at, figure_store}
use Rattle.figure.proofs.Sizes.{begins_grow}
use Rattle.figure.proofs.Turns.{on_line, on_next, on_here, on_all, turn_below}

-- ---- one cell, c, into line r of m

module _ (J m : ℕ) (s : List ℕ) (long : line_begins J m ≤ length s) (r c : ℕ) (hr : r < m) where
  line_length : length (delay_line J s r) ≡ r * J
  unfolding delay_line
  line_length =
      length-take (r * J) (drop (line_begins J r) s)
      ∙ min-eq_left (let h : r * J ≤ length (drop (line_begins J r) s) = omega (arith, length-drop (line_begins J r) s, begins_grow J r m hr) in h)

  -- the line's cells, and c behind them
  line_old : (i : ℕ) → i < r * J → get_or (line_and J s r c) i 0 ≡ get_or s (line_begins J r + i) 0
  unfolding line_and delay_line
  line_old i h =
      get_or-append (delay_line J s r) (c ∷ []) 0 i (omega (arith, line_length))
      ∙ get_or-take (r * J) (drop (line_begins J r) s) i 0 h ∙ get_or-drop (line_begins J r) s i 0

  line_new : (i : ℕ) → i ≡ r * J → get_or (line_and J s r c) i 0 ≡ c
  unfolding line_and
  line_new i e = get_or_at (delay_line J s r) c [] 0 i (line_length ∙ sym e)

  rest_length : length (drop 1 (line_and J s r c)) ≡ r * J
  unfolding line_and
  rest_length = length-drop 1 (line_and J s r c) ∙ omega (arith, length-append (delay_line J s r) (c ∷ []), line_length)

  -- the store then: line r
  after_here : (i : ℕ) → i < r * J → get_or (store_after J s r c) (line_begins J r + i) 0 ≡ get_or (line_and J s r c) (i + 1) 0
  unfolding store_after
  after_here i h =
      get_or-sets_in s (line_begins J r) (drop 1 (line_and J s r c)) 0 i (omega (arith, rest_length)) (omega (arith, begins_grow J r m hr))
      ∙ get_or-drop 1 (line_and J s r c) i 0 ∙ ap (λ (k : ℕ). get_or (line_and J s r c) k 0) (let e : 1 + i ≡ i + 1 = omega arith in e)

  -- another line
  after_other : (r' i : ℕ) → r' ≢ r → i < r' * J → get_or (store_after J s r c) (line_begins J r' + i) 0 ≡ get_or s (line_begins J r' + i) 0
  unfolding store_after
  after_other r' i ne h =
      by_cases (dec_lt r' r)
      (λ l. get_d_sets_before s (line_begins J r) (drop 1 (line_and J s r c)) 0 (line_begins J r' + i) (omega (arith, begins_grow J r' r l)))
      (λ l.
      let l' : r < r' = omega arith in
      get_or-sets_after s (line_begins J r) (drop 1 (line_and J s r c)) 0 (line_begins J r' + i) (omega (arith, rest_length, begins_grow J r r' l')))

  -- and past the lines
  after_past : (k : ℕ) → line_begins J m ≤ k → get_or (store_after J s r c) k 0 ≡ get_or s k 0
  unfolding store_after
  after_past k h = get_or-sets_after s (line_begins J r) (drop 1 (line_and J s r c)) 0 k (omega (arith, rest_length, begins_grow J r m hr))

length_after : (J : ℕ) (s : List ℕ) (r c : ℕ) → length (store_after J s r c) ≡ length s
unfolding store_after
length_after J s r c = length-sets s (line_begins J r) (drop 1 (line_and J s r c))

-- ---- what goes in

pub cell_own : (n : ℕ) (x : List ℕ) (p : ℕ) → p < n → cell_in n x p ≡ get_or x p 0
unfolding cell_in
cell_own n x p h = rw (lt-ltb p n h) refl

pub cell_dummy : (n : ℕ) (x : List ℕ) (p : ℕ) → n ≤ p → cell_in n x p ≡ filler
unfolding cell_in
cell_dummy n x p h = rw (le-ltb p n h) refl

-- ---- one symbol

module _ (m n : ℕ) (pos : 0 < m) (s x : List ℕ) (long : line_begins (ceiling n m) m ≤ length s) where
  abbrev J : ℕ
  J = ceiling n m

  -- what goes through line r: first what it held, then the cells that go in
  unfoldable pub through : ℕ → ℕ → ℕ
  through r q = pick (ltb q (r * ceiling n m)) (get_or s (line_begins (ceiling n m) r + q) 0) (cell_in n x ((q - r * ceiling n m) * m + r))

  pub through_old : (r q : ℕ) → q < r * J → through r q ≡ get_or s (line_begins J r + q) 0
  unfolding through
  through_old r q h = rw (lt-ltb q (r * ceiling n m) h) refl

  pub through_new : (r q k : ℕ) → q ≡ r * J + k → through r q ≡ cell_in n x (k * m + r)
  unfolding through
  through_new r q k e =
      let z : q - r * ceiling n m ≡ k = omega arith in
      rw (le-ltb q (r * ceiling n m) (omega arith), z) refl

  length_at : (p : ℕ) → length (store_at m n s x p) ≡ length s
  unfolding store_at
  length_at zero = refl
  length_at (suc p) = length_after (ceiling n m) (store_at m n s x p) (commutator m p) (cell_in n x p) ∙ length_at p

  -- the line of cell p, with that cell behind it
  moved_here : (p : ℕ) → ((q : ℕ) → q < p % m * J → get_or (store_at m n s x p) (line_begins J (p % m) + q) 0 ≡ through (p % m) (on_line m (p % m) p + q))
      → (q : ℕ) → q < p % m * J → get_or (line_and J (store_at m n s x p) (p % m) (cell_in n x p)) (q + 1) 0 ≡ through (p % m) (on_line m (p % m) p + (q + 1))
  moved_here p inv q h =
      let t : List ℕ = store_at m n s x p in
      let fits : line_begins (ceiling n m) m ≤ length t = rw length_at long in
      by_cases (dec_lt (q + 1) (p % m * ceiling n m))
      (λ c. line_old (ceiling n m) m t fits (p % m) (cell_in n x p) (mod-lt p pos) (q + 1) c ∙ inv (q + 1) c)
      (λ c.
      let e : on_line m (p % m) p + (q + 1) ≡ p % m * ceiling n m + p / m = omega (arith, on_here m p pos) in
      line_new (ceiling n m) m t fits (p % m) (cell_in n x p) (mod-lt p pos) (q + 1) (omega arith)
      ∙ sym (through_new (p % m) (on_line m (p % m) p + (q + 1)) (p / m) e ∙ ap (cell_in n x) (div-add-mod' p m)))

  -- place q of line r after p cells: so many went in and out
  in_lines : (p r q : ℕ) → r < m → q < r * J → get_or (store_at m n s x p) (line_begins J r + q) 0 ≡ through r (on_line m r p + q)
  unfolding store_at commutator
  in_lines zero r q hr hq =
      let z : on_line m r 0 + q ≡ q = unfold on_line count sum in omega arith in
      sym (ap (through r) z ∙ through_old r q hq)
  in_lines (suc p) r q hr hq =
      let t : List ℕ = store_at m n s x p in
      let fits : line_begins (ceiling n m) m ≤ length t = rw length_at long in
      by_cases (ℕ_discrete r (p % m))
      (λ e.
      let hq' : q < p % m * ceiling n m = rw e at hq in
      let on : on_line m (p % m) (suc p) + q ≡ on_line m (p % m) p + (q + 1) = omega (arith, on_next m (p % m) p, ap bit (eq-eqb (p % m) (p % m) refl)) in
      rw (e, on)
      (after_here (ceiling n m) m t fits (p % m) (cell_in n x p) (mod-lt p pos) q hq'
      ∙ moved_here p (λ i h. in_lines p (p % m) i (mod-lt p pos) h) q hq'))
      (λ e.
      let on : on_line m r (suc p) + q ≡ on_line m r p + q = omega (arith, on_next m r p, ap bit (ne_eqb (p % m) r (λ z. e (sym z)))) in
      rw on (after_other (ceiling n m) m t fits (p % m) (cell_in n x p) (mod-lt p pos) r q e hq ∙ in_lines p r q hr hq))

  past_lines : (p k : ℕ) → line_begins J m ≤ k → get_or (store_at m n s x p) k 0 ≡ get_or s k 0
  unfolding store_at commutator
  past_lines zero k h = refl
  past_lines (suc p) k h =
      let t : List ℕ = store_at m n s x p in
      after_past (ceiling n m) m t (rw length_at long) (p % m) (cell_in n x p) (mod-lt p pos) k h ∙ past_lines p k h

  -- what comes out as cell p goes in
  pub out_is : (p : ℕ) → p < J * m → out_at m n s x p ≡ through (p % m) (p / m)
  unfolding out_at cell_out commutator
  out_is p h =
      let t : List ℕ = store_at m n s x p in
      let fits : line_begins (ceiling n m) m ≤ length t = rw length_at long in
      by_cases (ℕ_discrete (p % m) 0)
      (λ z.
      let e : 0 ≡ p % m * ceiling n m = sym (ap (λ (r : ℕ). r * ceiling n m) z ∙ zero-mul (ceiling n m)) in
      line_new (ceiling n m) m t fits (p % m) (cell_in n x p) (mod-lt p pos) 0 e
      ∙ sym (through_new (p % m) (p / m) (p / m) (omega arith) ∙ ap (cell_in n x) (div-add-mod' p m)))
      (λ z.
      let l : 0 < p % m * ceiling n m = omega (arith, mul-le-mul_right (ceiling n m) (let one : 1 ≤ p % m = omega arith in one), turn_below m (ceiling n m) p pos h) in
      let on : on_line m (p % m) p + 0 ≡ p / m = omega (arith, on_here m p pos) in
      line_old (ceiling n m) m t fits (p % m) (cell_in n x p) (mod-lt p pos) 0 l ∙ in_lines p (p % m) 0 (mod-lt p pos) l ∙ ap (through (p % m)) on)

  -- the store after the symbol: in each line J cells on
  pub after_symbol : (r q : ℕ) → r < m → q < r * J → get_or (figure_store m n s x) (line_begins J r + q) 0 ≡ through r (J + q)
  unfolding figure_store
  after_symbol r q hr hq = in_lines (ceiling n m * m) r q hr hq ∙ ap (λ (k : ℕ). through r (k + q)) (on_all m r (ceiling n m) hr)

  pub past_symbol : (k : ℕ) → line_begins J m ≤ k → get_or (figure_store m n s x) k 0 ≡ get_or s k 0
  unfolding figure_store
  past_symbol k h = past_lines (ceiling n m * m) k h

  pub length_symbol : length (figure_store m n s x) ≡ length s
  unfolding figure_store
  length_symbol = length_at (ceiling n m * m)
