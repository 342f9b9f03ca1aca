-- The commutator's way round: how far it is, cell by cell, turn by turn. Assumes nothing.
use Prim.Native.Nat.{ℕ, suc, ◌+◌, ◌*◌, ◌%◌, ◌≤◌, ◌<◌}
use mathlib.Core.Path.{◌≡◌, refl, sym, ap, ◌∙◌}
use mathlib.Core.Logic.{◌≢◌, by_cases}
use mathlib.Core.List.{List}
use native.Mathlib.Nat.{mul-mod_left, mul-le-mul_right}
use native.Mathlib.Decide.{dec_lt, ℕ_discrete}
use native.Mathlib.Omega.{arith}
use lib.Dec.{ltb}
use lib.ListN.{length, get_or, set, length-set}
use lib.Seq.{get_or-set_same, get_or-set_other}
use borrow.Author.Tests.{lt-ltb, le-ltb, eq-eqb, ne_eqb}
use Rattle.counting.specs.Search.{pick, sum}
use Rattle.figure.specs.Figure.{line_begins, cell_in}
use Rattle.figure.proofs.Sizes.{begins_suc, begins_grow, same_place}
use Rattle.figure.proofs.Turns.{line_of, turn_of, same_cell}
use Rattle.figure.proofs.Lines.{cell_own, cell_dummy}
use Rattle.commutator.specs.Round.{with_sent, comes_out, Gone, Goes}
use Rattle.commutator.proofs.Cells.{sent_own, sent_dummy, length_sent}

-- ---- what comes out

pub out_straight : (J m : ℕ) (s x : List ℕ) (p : ℕ) → p % m ≡ 0 → comes_out J m s x p ≡ get_or x p 0
unfolding comes_out
out_straight J m s x p e = rw (eq-eqb (p % m) 0 e) refl

pub out_oldest : (J m : ℕ) (s x : List ℕ) (q r : ℕ) → 0 < r → r < m → comes_out J m s x (q * m + r) ≡ get_or s (line_begins J r + q) 0
unfolding comes_out
out_oldest J m s x q r pos h = rw (line_of m q r h, turn_of m q r h, ne_eqb r 0 (λ z. absurd (omega arith))) refl

-- ---- a place that has taken in its cell, or not yet

pub taken : (c p a b : ℕ) → c < p → pick (ltb c p) a b ≡ a
taken c p a b h = rw (lt-ltb c p h) refl

pub not_taken : (c p a b : ℕ) → p ≤ c → pick (ltb c p) a b ≡ b
not_taken c p a b h = rw (le-ltb c p h) refl

-- after a cell that is not its own
as_before : (c p a b : ℕ) → c ≢ p → pick (ltb c p) a b ≡ pick (ltb c (p + 1)) a b
as_before c p a b ne =
    by_cases (dec_lt c p)
    (λ h. taken c p a b h ∙ sym (taken c (p + 1) a b (omega arith)))
    (λ h. not_taken c p a b (omega arith) ∙ sym (not_taken c (p + 1) a b (omega arith)))

module _ (J m : ℕ) (s x : List ℕ) where
  pub gone_none : Gone J m s x (0 * m) s x
  gone_none = record {
    places = refl;
    cells = refl;
    lines = λ r i hr hi. sym (not_taken (i * m + r) (0 * m) _ _ (omega arith));
    past = λ k h. refl;
    sent = λ q h l. absurd (omega arith);
    rest = λ q h l. refl;
  }

  -- all turns
  pub gone_all : (q : ℕ) (t y : List ℕ) → q ≤ J → J ≤ q → Gone J m s x (q * m) t y → Gone J m s x (J * m) t y
  gone_all q t y h l go = let z : J * m ≡ q * m = ap (λ (k : ℕ). k * m) (omega arith) in rw z go

  -- line 0: the cell goes straight through
  pub gone_straight : (q : ℕ) (t y : List ℕ) → Gone J m s x (q * m) t y → Gone J m s x (q * m + 1) t y
  gone_straight q t y go = record {
    places = go.places;
    cells = go.cells;
    lines = λ r i hr hi.
        go.lines r i hr hi
        ∙ as_before (i * m + r) (q * m) _ _
        (λ z.
        let none : r ≡ 0 = sym (line_of m i r hr) ∙ rw z (mul-mod_left q m) in
        absurd (omega (arith, ap (λ (k : ℕ). k * J) none)));
    past = go.past;
    sent = λ k h l.
        by_cases (dec_lt k (q * m)) (λ c. go.sent k h c)
        (λ c.
        let z : k ≡ q * m = omega arith in
        go.rest k h (omega arith) ∙ sym (out_straight J m s x k (rw z (mul-mod_left q m))));
    rest = λ k h l. go.rest k h (omega arith);
  }

  -- another line, r, in turn q: one cell goes in and one comes out
  module _ (q r : ℕ) (t y : List ℕ) (go : Gone J m s x (q * m + r) t y) (hq : q < J) (pos : 0 < r) (hr : r < m) (long : line_begins J m ≤ length t) where
    inside : q < r * J
    inside = omega (arith, mul-le-mul_right J (let one : 1 ≤ r = omega arith in one))

    -- the cell that goes in
    goes_in : cell_in (length y) y (q * m + r) ≡ cell_in (length x) x (q * m + r)
    goes_in =
        let p : ℕ = q * m + r in
        by_cases (dec_lt p (length x))
        (λ c. cell_own (length y) y p (omega (arith, go.cells)) ∙ go.rest p c (omega arith) ∙ sym (cell_own (length x) x p c))
        (λ c. cell_dummy (length y) y p (omega (arith, go.cells)) ∙ sym (cell_dummy (length x) x p (omega arith)))

    -- the cell that comes out
    comes_out_lem : get_or t (line_begins J r + q) 0 ≡ comes_out J m s x (q * m + r)
    comes_out_lem = go.lines r q hr inside ∙ not_taken (q * m + r) (q * m + r) _ _ (omega arith) ∙ sym (out_oldest J m s x q r pos hr)

    stored : (r' i : ℕ) → r' < m → i < r' * J
        → get_or (set t (line_begins J r + q) (cell_in (length y) y (q * m + r))) (line_begins J r' + i) 0 ≡ pick (ltb (i * m + r') (q * m + r + 1)) (cell_in (length x) x (i * m + r')) (get_or s (line_begins J r' + i) 0)
    stored r' i hr' hi =
        by_cases (ℕ_discrete (i * m + r') (q * m + r))
        (λ z.
        let w : (i ≡ q) × (r' ≡ r) = same_cell m i r' q r hr' hr z in
        rw (w.0, w.1)
        (get_or-set_same t (line_begins J r + q) (cell_in (length y) y (q * m + r)) 0 (omega (arith, begins_grow J r m hr, inside))
        ∙ goes_in ∙ sym (taken (q * m + r) (q * m + r + 1) _ _ (omega arith))))
        (λ z.
        get_or-set_other t (line_begins J r + q) (line_begins J r' + i) (cell_in (length y) y (q * m + r)) 0
        (λ e.
        let w : (r' ≡ r) × (i ≡ q) = same_place J r' i r q hi inside e in
        z (λ k. w.1 k * m + w.0 k))
        ∙ go.lines r' i hr' hi ∙ as_before (i * m + r') (q * m + r) _ _ z)

    sent_other : (k : ℕ) → k ≢ q * m + r → get_or (with_sent y (q * m + r) (get_or t (line_begins J r + q) 0)) k 0 ≡ get_or y k 0
    sent_other k ne =
        let p : ℕ = q * m + r in
        let v : ℕ = get_or t (line_begins J r + q) 0 in
        by_cases (dec_lt p (length y))
        (λ c. ap (λ (w : List ℕ). get_or w k 0) (sent_own y p v c) ∙ get_or-set_other y p k v 0 ne)
        (λ c. ap (λ (w : List ℕ). get_or w k 0) (sent_dummy y p v (omega arith)))

    sent_upto : (k : ℕ) → k < length x → k < q * m + r + 1 → get_or (with_sent y (q * m + r) (get_or t (line_begins J r + q) 0)) k 0 ≡ comes_out J m s x k
    sent_upto k h l =
        let p : ℕ = q * m + r in
        let v : ℕ = get_or t (line_begins J r + q) 0 in
        by_cases (ℕ_discrete k p)
        (λ z.
        let own : p < length y = omega (arith, go.cells) in
        rw z (ap (λ (w : List ℕ). get_or w p 0) (sent_own y p v own) ∙ get_or-set_same y p v 0 own ∙ comes_out_lem))
        (λ z. sent_other k z ∙ go.sent k h (omega arith))

    pub gone_one : Gone J m s x (q * m + r + 1) (set t (line_begins J r + q) (cell_in (length y) y (q * m + r))) (with_sent y (q * m + r) (get_or t (line_begins J r + q) 0))
    gone_one = record {
      places = length-set t _ _ ∙ go.places;
      cells = length_sent y _ _ ∙ go.cells;
      lines = stored;
      past = λ k h. get_or-set_other t (line_begins J r + q) k _ 0 (λ z. absurd (omega (arith, begins_grow J r m hr, inside))) ∙ go.past k h;
      sent = sent_upto;
      rest = λ k h l. sent_other k (λ z. absurd (omega arith)) ∙ go.rest k h (omega arith);
    }

-- ---- one turn

-- Turn q, from the store t and the cells y on, stands on line r, of `len` cells, whose oldest is at place `at`. The store is now t', the cells y'.
pub record Turning (J m q : ℕ) (t y t' y' : List ℕ) (r at len : ℕ) : Type 0 where
  pub from : 1 ≤ r
  pub to : r ≤ m
  pub place : at ≡ line_begins J r + q
  pub long : len ≡ r * J
  pub places : length t' ≡ length t
  pub cells : length y' ≡ length y
  pub goes : Goes J m (q * m) t y (q * m + r) t' y'

module _ (J m q : ℕ) (t y : List ℕ) where
  pub turning_first : 0 < m → Turning J m q t y t y 1 q J
  unfolding line_begins sum
  turning_first pos = record {
    from = omega arith;
    to = omega arith;
    place = omega arith;
    long = omega arith;
    places = refl;
    cells = refl;
    goes = λ s x go. gone_straight J m s x q t y go;
  }

  module _ (t' y' : List ℕ) (r at len : ℕ) (go : Turning J m q t y t' y' r at len) where
    -- the place lies within the store
    pub turning_fits : r < m → q < J → line_begins J m ≤ length t → (at < length t') × (at + len ≤ length t + q)
    turning_fits hr hq fits =
        let one : J ≤ r * J = omega (arith, mul-le-mul_right J go.from) in
        let grow : line_begins J r + r * J ≤ line_begins J m = begins_grow J r m hr in
        (omega (arith, go.place, go.places), omega (arith, go.place, go.long))

    pub turning_next : r < m → q < J → line_begins J m ≤ length t → (t'' y'' : List ℕ) → t'' ≡ set t' at (cell_in (length y') y' (q * m + r)) → y'' ≡ with_sent y' (q * m + r) (get_or t' at 0)
        → Turning J m q t y t'' y'' (r + 1) (at + len) (len + J)
    turning_next hr hq fits t'' y'' et ey =
        let one : r + 1 ≡ suc r = omega arith in
        let next : q * m + (r + 1) ≡ q * m + r + 1 = omega arith in
        record {
          from = omega arith;
          to = omega arith;
          place = rw one (omega (arith, go.place, go.long, begins_suc J r));
          long = omega (arith, go.long);
          places = ap length et ∙ length-set t' _ _ ∙ go.places;
          cells = ap length ey ∙ length_sent y' _ _ ∙ go.cells;
          goes = λ s x g.
              rw (next, et, ey, go.place)
              (gone_one J m s x q r t' y' (go.goes s x g) hq go.from hr (omega (arith, go.places)));
        }

    pub turning_all : m ≤ r → Goes J m (q * m) t y ((q + 1) * m) t' y'
    turning_all h s x g =
        let z : (q + 1) * m ≡ q * m + r = omega (arith, go.to) in
        rw z (go.goes s x g)
