-- The step from place to place finds the place of the next rank, or nothing after the last: for any number of rows and of cells. Assumes
-- nothing.
use Prim.Native.Nat.{ℕ, zero, suc, ◌+◌, ◌%◌, ◌/◌, ◌^◌, ◌≤◌, ◌<◌}
use mathlib.Core.Path.{◌≡◌, refl, sym, ap, ◌∙◌}
use mathlib.Core.Logic.{by_cases}
use mathlib.Core.Bool.{Bool, false, ◌&&◌}
use Rattle.std.specs.Prelude.{Option, Some, None, option_map}
use native.Mathlib.Nat.{mod-lt, mod-eq_of_lt, div-eq_of_lt, add-mod_right, add-div_right}
use native.Mathlib.Decide.{dec_lt}
use native.Mathlib.Omega.{arith}
use lib.Dec.{ltb}
use lib.Pow.{pow_pos}
use borrow.Author.Tests.{lt-ltb, le-ltb, ltb-true, ltb-false}
use Rattle.counting.specs.Search.{pick, when, rank, of_rank}
use Rattle.counting.proofs.Bools.{and_left, and_right}
use Rattle.counting.proofs.Laws.{lowest_none}
use Rattle.counting.proofs.Searches.{Lowest, lowest_some}
use Rattle.counting.proofs.Ranks.{InjBelow, rank_below, of_rank-rank}
use Rattle.rules.specs.Frame.{reversed, house_key}
use Rattle.frame.specs.Rows.{rows_before}
use Rattle.frame.proofs.House.{reversed_lt, reversed_reversed, house_key_inj}
use Rattle.walk.specs.Walk.{row_after, next_place}
use Rattle.walk.proofs.Rows.{rows_none, rows_all, rows_here, rows_next, rows_skip}

reversed_zero : (b : ℕ) → reversed b 0 ≡ 0
unfolding reversed
reversed_zero zero = refl
reversed_zero (suc b) = omega (arith, reversed_zero b)

-- the cell of rank i, if there is one
abbrev pub ranked? : (ℕ → ℕ) → ℕ → ℕ → Option ℕ
ranked? key n i = when (ltb i n) (of_rank key n i)

pub found_rank : (key : ℕ → ℕ) (n i q : ℕ) → InjBelow n key → q < n → rank key n q ≡ i → ranked? key n i ≡ Some q
found_rank key n i q inj h e =
    let l : i < n = omega (arith, rank_below key n q h) in
    ap (λ (t : Bool). when t (of_rank key n i)) (lt-ltb i n l) ∙ ap Some (ap (of_rank key n) (sym e) ∙ of_rank-rank key n inj q h)

pub past_ranks : (key : ℕ → ℕ) (n i : ℕ) → n ≤ i → ranked? key n i ≡ None
past_ranks key n i h = ap (λ (t : Bool). when t (of_rank key n i)) (le-ltb i n h)

module _ (b c n : ℕ) (hn : n ≤ c) where
  inj : InjBelow n (house_key b c)
  inj = house_key_inj b c n hn

  module _ (p : ℕ) (hp : p < n) where
    -- p stands in the i-th row read
    i : ℕ
    i = reversed b (p % 2 ^ b)

    i_lt : i < 2 ^ b
    unfolding i
    i_lt = reversed_lt b (p % 2 ^ b)

    row_is : p % 2 ^ b ≡ reversed b i
    unfolding i
    row_is = sym (reversed_reversed b (p % 2 ^ b) (mod-lt p (pow_pos b)))

    here : rank (house_key b c) n p ≡ rows_before b n i + p / 2 ^ b
    here = rows_here b n c i p hn i_lt hp row_is

    -- after its last cell come the rows read later
    last_of_row : n ≤ p + 2 ^ b → rank (house_key b c) n p + 1 ≡ rows_before b n (i + 1)
    last_of_row l = omega (arith, here, add-div_right p (pow_pos b), rows_next b n i (p + 2 ^ b) l (omega arith) (add-mod_right p (2 ^ b) ∙ row_is))

    same_row : p + 2 ^ b < n → ranked? (house_key b c) n (rank (house_key b c) n p + 1) ≡ Some (p + 2 ^ b)
    same_row l =
        let e : (p + 2 ^ b) % 2 ^ b ≡ reversed b i = add-mod_right p (2 ^ b) ∙ row_is in
        found_rank (house_key b c) n _ (p + 2 ^ b) inj l (omega (arith, rows_here b n c i (p + 2 ^ b) hn i_lt l e, here, add-div_right p (pow_pos b)))

    -- a row between, which the search passed over, has no cell
    passed : (j : ℕ) → i < j → (ltb i j && ltb (reversed b j) n) ≡ false → n ≤ reversed b j
    passed j lo e = ltb-false (reversed b j) n (sym (ap (λ (t : Bool). t && ltb (reversed b j) n) (lt-ltb i j lo)) ∙ e)

    other_row : n ≤ p + 2 ^ b → (o : Option ℕ) → row_after b n i ≡ o → ranked? (house_key b c) n (rank (house_key b c) n p + 1) ≡ option_map (reversed b) o
    unfolding row_after
    other_row l None e =
        past_ranks (house_key b c) n _
        (omega (arith, last_of_row l, rows_all b n, i_lt, rows_skip b n (i + 1) (2 ^ b) (omega (arith, i_lt)) (λ j lo hi. passed j (omega arith) (lowest_none _ (2 ^ b) e j hi))))
    other_row l (Some k) e =
        let t : ℕ → Bool = λ k. ltb i k && ltb (reversed b k) n in
        let r : Lowest t (2 ^ b) k = lowest_some t (2 ^ b) k e in
        let lo : i < k = ltb-true i k (and_left (ltb i k) (ltb (reversed b k) n) r.passes) in
        let q : ℕ = reversed b k in
        let hq : q < n = ltb-true q n (and_right (ltb i k) (ltb (reversed b k) n) r.passes) in
        let lq : q < 2 ^ b = reversed_lt b k in
        found_rank (house_key b c) n _ q inj hq
        (omega (arith, last_of_row l, rows_here b n c k q hn r.below hq (mod-eq_of_lt lq), div-eq_of_lt lq, rows_skip b n (i + 1) k (omega arith) (λ j low hi. passed j (omega arith) (r.none_under j hi))))

    -- the step goes along the row, and from its end to another row
    along : p + 2 ^ b < n → next_place b n p ≡ Some (p + 2 ^ b)
    unfolding next_place
    along l = ap (λ (t : Bool). pick t (Some (p + 2 ^ b)) (option_map (reversed b) (row_after b n (reversed b (p % 2 ^ b))))) (lt-ltb (p + 2 ^ b) n l)

    onward : n ≤ p + 2 ^ b → next_place b n p ≡ option_map (reversed b) (row_after b n (reversed b (p % 2 ^ b)))
    unfolding next_place
    onward l = ap (λ (t : Bool). pick t (Some (p + 2 ^ b)) (option_map (reversed b) (row_after b n (reversed b (p % 2 ^ b))))) (le-ltb (p + 2 ^ b) n l)

    -- it finds the place of the next rank, or nothing where there is none
    pub next_is : next_place b n p ≡ ranked? (house_key b c) n (rank (house_key b c) n p + 1)
    unfolding i
    next_is =
        by_cases (dec_lt (p + 2 ^ b) n)
        (λ l. along l ∙ sym (same_row l))
        (λ l. let h : n ≤ p + 2 ^ b = omega arith in onward h ∙ sym (other_row h (row_after b n i) refl))

  -- place 0 is read first
  pub start_is : when (ltb 0 n) 0 ≡ ranked? (house_key b c) n 0
  start_is =
      by_cases (dec_lt 0 n)
      (λ l.
      let z : rank (house_key b c) n 0 ≡ rows_before b n 0 + 0 / 2 ^ b = rows_here b n c 0 0 hn (pow_pos b) l (mod-eq_of_lt (pow_pos b) ∙ sym (reversed_zero b)) in
      ap (λ (t : Bool). when t 0) (lt-ltb 0 n l) ∙ sym (found_rank (house_key b c) n 0 0 inj l (omega (arith, z, rows_none b n, div-eq_of_lt (pow_pos b)))))
      (λ l. ap (λ (t : Bool). when t 0) (le-ltb 0 n (omega arith)) ∙ sym (past_ranks (house_key b c) n 0 (omega arith)))
