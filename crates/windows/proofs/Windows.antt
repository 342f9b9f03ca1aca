-- The lowest window inside a band with more than `most` excluded, from the singles of the band. For a test of any kind. Assumes nothing.
use mathlib.Core.Path.{◌≡◌, ap}
use mathlib.Core.Logic.{inl, inr}
use mathlib.Core.Bool.{Bool, true, false}
use Rattle.std.specs.Prelude.{Some, None}
use mathlib.Core.List.{List}
use Prim.Native.Nat.{ℕ, suc, max, ◌+◌, ◌-◌, ◌≤◌, ◌<◌}
use native.Mathlib.Omega.{arith}
use lib.Dec.{ltb}
use lib.ListN.{get_or}
use borrow.Author.Tests.{lt-ltb}
use Rattle.counting.specs.Search.{count, when, first}
use Rattle.counting.specs.Runs.{Singles}
use Rattle.counting.proofs.Bools.{Less, decide}
use Rattle.counting.proofs.Laws.{count_add, count_lt}
use Rattle.counting.proofs.Searches.{count_up, from_none, from_some}

-- fewer pass below k than below n
counts_below : (e : ℕ → Bool) (k n : ℕ) → count e k < count e n → k < n
counts_below e k n c = go (decide k n)
  where
    go : Less k n → k < n
    go (inl (h, _)) = h
    go (inr (h, _)) = absurd (omega (arith, count_up e n k h))

-- k passes, and no more pass below n than below k
counts_above : (e : ℕ → Bool) (k n : ℕ) → e k ≡ true → count e n ≤ count e k → n ≤ k
counts_above e k n t c = go (decide k n)
  where
    go : Less k n → n ≤ k
    go (inl (h, _)) = absurd (omega (arith, count_lt e k n h t))
    go (inr (h, _)) = h

module _ (e : ℕ → Bool) (a b : ℕ) (x : List ℕ) (from to : ℕ) (s : Singles e a b x from to) (size most : ℕ) where
  -- the excluded of the window from k on
  abbrev many : ℕ → ℕ
  many k = count (λ i. e (k + i)) size

  -- a window with more than `most`
  abbrev pub full : ℕ → Bool
  full k = ltb most (many k)

  -- single q and the `most` after it stand within one window
  abbrev pub Near : ℕ → Type 0
  Near q = (q + most < to) × (get_or x (q + most) 0 < get_or x q 0 + size)

  -- single q is the first of a full window
  full_near : (k : ℕ) → a ≤ k → k + size ≤ suc b → most < many k → (q : ℕ) → count e a + q ≡ count e k + from
      → (from ≤ q) × (k ≤ get_or x q 0) × (q + most < to) × (get_or x (q + most) 0 < k + size)
  full_near k l w h q at =
      let whole : count e (k + size) ≡ count e k + many k = count_add e k size in
      let up : count e a ≤ count e k = count_up e a k l in
      let top : count e (k + size) ≤ count e (suc b) = count_up e (k + size) (suc b) w in
      let below : q + most < to = omega (arith, s.total) in
      let low : from ≤ q = omega arith in
      let one = s.each q low (omega arith) in
      let two = s.each (q + most) (omega arith) below in
      (low, counts_above e (get_or x q 0) k one.0 (omega (arith, one.1)), below, counts_below e (get_or x (q + most) 0) (k + size) (omega (arith, two.1)))

  -- windows that hold single q and the `most` after it are full
  near_full : (q k : ℕ) → from ≤ q → q + most < to → k ≤ get_or x q 0 → get_or x (q + most) 0 < k + size → full k ≡ true
  near_full q k l w low high =
      let one = s.each q l (omega arith) in
      let two = s.each (q + most) (omega arith) w in
      let whole : count e (k + size) ≡ count e k + many k = count_add e k size in
      let up : count e k ≤ count e (get_or x q 0) = count_up e k (get_or x q 0) low in
      let top : count e (get_or x (q + most) 0) < count e (k + size) = count_lt e (get_or x (q + most) 0) (k + size) high two.0 in
      lt-ltb most (many k) (omega (arith, one.1, two.1))

  -- how many windows lie inside the band
  abbrev windows : ℕ
  windows = suc (suc b) - a - size

  -- no single is near enough to the one `most` after it
  pub window_none : ((q : ℕ) → from ≤ q → Near q → ⊥) → first (λ i. when (full (a + i)) (a + i)) windows ≡ None
  window_none h = from_none full a windows (λ k l w. go k (decide most (many k)) l w)
    where
      go : (k : ℕ) → Less most (many k) → a ≤ k → k < a + windows → full k ≡ false
      go k (inr (_, f)) l w = f
      go k (inl (m, _)) l w =
          let up : count e a ≤ count e k = count_up e a k l in
          let q : ℕ = count e k + from - count e a in
          let r = full_near k l (omega arith) m q (omega arith) in
          absurd (h q r.0 (r.2, omega (arith, r.1, r.3)))

  -- q is the lowest single that is: the lowest window ends at the single `most` after it, or starts with the band
  pub window_some : (q : ℕ) → from ≤ q → Near q → ((j : ℕ) → from ≤ j → j < q → Near j → ⊥) → a + size ≤ suc b → (k : ℕ) → k ≡ max a (suc (get_or x (q + most) 0) - size)
      → first (λ i. when (full (a + i)) (a + i)) windows ≡ Some k
  window_some q l near low w k is =
      let one = s.each q l (omega (arith, near.0)) in
      let two = s.each (q + most) (omega arith) near.0 in
      let inside : get_or x (q + most) 0 < suc b = counts_below e (get_or x (q + most) 0) (suc b) (omega (arith, two.1, s.total, near.0)) in
      let above : a ≤ get_or x q 0 = counts_above e (get_or x q 0) a one.0 (omega (arith, one.1)) in
      from_some full a windows k (omega arith) (omega arith) (near_full q k l near.0 (omega (arith, near.1)) (omega (arith, near.1)))
      (λ j l' w'. go inside j (decide most (many j)) l' w')
    where
      earlier : (j : ℕ) → from ≤ j → Near j → get_or x (j + most) 0 < get_or x (q + most) 0 → Less j q → ⊥
      earlier j l' n w' (inl (lt, _)) = low j l' lt n
      earlier j l' n w' (inr (ge, _)) =
          let one = s.each (q + most) (omega arith) near.0 in
          let two = s.each (j + most) (omega arith) n.0 in
          omega (arith, one.1, two.1, count_lt e (get_or x (j + most) 0) (get_or x (q + most) 0) w' two.0)

      go : get_or x (q + most) 0 < suc b → (j : ℕ) → Less most (many j) → a ≤ j → j < k → full j ≡ false
      go inside j (inr (_, f)) l' w' = f
      go inside j (inl (m, _)) l' w' =
          let up : count e a ≤ count e j = count_up e a j l' in
          let i : ℕ = count e j + from - count e a in
          let r = full_near j l' (omega arith) m i (omega arith) in
          absurd (earlier i r.0 (r.2, omega (arith, r.1, r.3)) (omega (arith, r.3)) (decide i q))

-- no window fits
pub window_short : (e : ℕ → Bool) (a b size most : ℕ) → suc b < a + size → first (λ i. when (ltb most (count (λ j. e (a + i + j)) size)) (a + i)) (suc (suc b) - a - size) ≡ None
unfolding first
window_short e a b size most l =
    let z : suc (suc b) - a - size ≡ 0 = omega arith in
    ap (first (λ i. when (ltb most (count (λ j. e (a + i + j)) size)) (a + i))) z
