-- Columns that may be turned: a turn is a bijection of the cells, so the rank of a cell is that of the place at which it stands, and the
-- walk leads from rank to rank as it does from place to place; for any number of rows and of cells and any turn of the full columns.
-- Assumes nothing.
use Prim.Native.Nat.{ℕ, zero, suc, ◌+◌, ◌-◌, ◌*◌, ◌%◌, ◌/◌, ◌^◌, ◌≤◌, ◌<◌}
use mathlib.Core.Path.{◌≡◌, refl, sym, ap, ◌∙◌, fun_ext}
use mathlib.Core.Logic.{by_cases}
use mathlib.Core.Bool.{Bool, true, false}
use Rattle.std.specs.Prelude.{Option, Some, None, option_map, option_and_then}
use native.Mathlib.Nat.{mod-lt, mod-mod, div-add-mod', mod-add-mod, add-zero}
use native.Mathlib.Numerals.{add-one}
use native.Mathlib.Decide.{dec_lt, dec_le}
use native.Mathlib.Omega.{arith}
use lib.Dec.{ltb}
use lib.Arith.{digits_div, digits_mod}
use lib.Pow.{pow_pos}
use borrow.Author.Tests.{lt-ltb}
use Rattle.counting.specs.Search.{bit, when, count, rank, of_rank}
use Rattle.counting.proofs.Ranks.{InjBelow, rank-of_rank, of_rank_below, of_rank-rank}
use Rattle.counting.proofs.Orders.{sum_perm}
use Rattle.rules.specs.Frame.{house_key}
use Rattle.frame.proofs.House.{house_key_inj}
use Rattle.walk.specs.Walk.{next_place, turned, unturned, straight, Stays, turned_key, next_cell, walked}
use Rattle.walk.proofs.Step.{ranked?, past_ranks, next_is, start_is}

-- there and back, in a column of R rows
turn_back : (R t a : ℕ) → a < R → ((a + t) % R + (R - t % R)) % R ≡ a
turn_back R t a h =
    let u : t % R < R = mod-lt t (omega arith) in
    let e : a + t + (R - t % R) ≡ suc (t / R) * R + a = omega (arith, div-add-mod' t R) in
    mod-add-mod (a + t) R (R - t % R) ∙ ap (λ (x : ℕ). x % R) e ∙ digits_mod (suc (t / R)) h

turn_there : (R t a : ℕ) → a < R → ((a + (R - t % R)) % R + t) % R ≡ a
turn_there R t a h =
    let u : t % R < R = mod-lt t (omega arith) in
    let e : a + (R - t % R) + t ≡ suc (t / R) * R + a = omega (arith, div-add-mod' t R) in
    mod-add-mod (a + (R - t % R)) R t ∙ ap (λ (x : ℕ). x % R) e ∙ digits_mod (suc (t / R)) h

module _ (R : ℕ) (s : ℕ → ℕ) (pos : 0 < R) where
  -- a cell keeps its column
  pub turned_column : (q : ℕ) → turned R s q / R ≡ q / R
  unfolding turned
  turned_column q = digits_div (q / R) (mod-lt (q % R + s (q / R)) pos)

  pub turned_row : (q : ℕ) → turned R s q % R ≡ (q % R + s (q / R)) % R
  unfolding turned
  turned_row q = digits_mod (q / R) (mod-lt (q % R + s (q / R)) pos)

  pub unturned_column : (x : ℕ) → unturned R s x / R ≡ x / R
  unfolding unturned
  unturned_column x = digits_div (x / R) (mod-lt (x % R + (R - s (x / R) % R)) pos)

  unturned_row : (x : ℕ) → unturned R s x % R ≡ (x % R + (R - s (x / R) % R)) % R
  unfolding unturned
  unturned_row x = digits_mod (x / R) (mod-lt (x % R + (R - s (x / R) % R)) pos)

  pub unturned_turned : (q : ℕ) → unturned R s (turned R s q) ≡ q
  unturned_turned q =
      opened (turned R s q)
      ∙ rw (turned_column q, turned_row q) (ap (λ (a : ℕ). q / R * R + a) (turn_back R (s (q / R)) (q % R) (mod-lt q pos)))
      ∙ div-add-mod' q R
    where
      opened : (x : ℕ) → unturned R s x ≡ x / R * R + (x % R + (R - s (x / R) % R)) % R
      opened x = unfold unturned in refl

  pub turned_unturned : (x : ℕ) → turned R s (unturned R s x) ≡ x
  turned_unturned x =
      opened (unturned R s x)
      ∙ rw (unturned_column x, unturned_row x) (ap (λ (a : ℕ). x / R * R + a) (turn_there R (s (x / R)) (x % R) (mod-lt x pos)))
      ∙ div-add-mod' x R
    where
      opened : (q : ℕ) → turned R s q ≡ q / R * R + (q % R + s (q / R)) % R
      opened q = unfold turned in refl

  -- a column that is not turned stays
  pub turned_still : (q : ℕ) → s (q / R) ≡ 0 → turned R s q ≡ q
  unfolding turned
  turned_still q e = rw (e, add-zero (q % R), mod-mod q R) (div-add-mod' q R)

  pub unturned_still : (x : ℕ) → s (x / R) ≡ 0 → unturned R s x ≡ x
  unturned_still x e = ap (unturned R s) (sym (turned_still x e)) ∙ unturned_turned x

  module _ (n : ℕ) (stays : Stays R n s) where
    -- the places are those of the cells, since a full column stays full
    pub turned_below : (q : ℕ) → q < n → turned R s q < n
    turned_below q h =
        by_cases (dec_le (q / R * R + R) n)
        (λ c. unfold turned in omega (arith, mod-lt (q % R + s (q / R)) pos))
        (λ c. rw (turned_still q (stays (q / R) (omega arith))) h)

    pub unturned_below : (x : ℕ) → x < n → unturned R s x < n
    unturned_below x h =
        by_cases (dec_le (x / R * R + R) n)
        (λ c. unfold unturned in omega (arith, mod-lt (x % R + (R - s (x / R) % R)) pos))
        (λ c. rw (unturned_still x (stays (x / R) (omega arith))) h)

    pub places_inj : InjBelow n (turned R s)
    places_inj p q hp hq e = sym (unturned_turned p) ∙ ap (unturned R s) e ∙ unturned_turned q

-- where no column is turned, the key is the house rule's
pub straight_key : (b c : ℕ) → turned_key b c straight ≡ house_key b c
unfolding turned_key
straight_key b c = fun_ext (λ q. ap (house_key b c) (turned_still (2 ^ b) straight (pow_pos b) q refl))

-- and the step is the one from place to place
pub straight_step : (b n p : ℕ) → next_cell b n straight p ≡ next_place b n p
unfolding next_cell
straight_step b n p =
    ap (λ (x : ℕ). option_map (unturned (2 ^ b) straight) (next_place b n x)) (turned_still (2 ^ b) straight (pow_pos b) p refl) ∙ same (next_place b n p)
  where
    same : (o : Option ℕ) → option_map (unturned (2 ^ b) straight) o ≡ o
    same None = refl
    same (Some x) = ap Some (unturned_still (2 ^ b) straight (pow_pos b) x refl)

module _ (b c n : ℕ) (s : ℕ → ℕ) (hn : n ≤ c) (stays : Stays (2 ^ b) n s) where
  -- no two cells have one key
  pub key_inj : InjBelow n (turned_key b c s)
  unfolding turned_key
  key_inj p q hp hq e =
      places_inj (2 ^ b) s (pow_pos b) n stays p q hp hq
      (house_key_inj b c n hn (turned (2 ^ b) s p) (turned (2 ^ b) s q) (turned_below (2 ^ b) s (pow_pos b) n stays p hp) (turned_below (2 ^ b) s (pow_pos b) n stays q hq) e)

  -- the rank of a cell is that of its place
  pub place_rank : (p : ℕ) → rank (turned_key b c s) n p ≡ rank (house_key b c) n (turned (2 ^ b) s p)
  unfolding rank count turned_key
  place_rank p =
      sum_perm n (turned (2 ^ b) s) (places_inj (2 ^ b) s (pow_pos b) n stays) (turned_below (2 ^ b) s (pow_pos b) n stays)
      (λ x. bit (ltb (house_key b c x) (house_key b c (turned (2 ^ b) s p))))

  -- the cell of a rank stands at the place that has that rank
  place_of : (r : ℕ) → r < n → of_rank (turned_key b c s) n r ≡ unturned (2 ^ b) s (of_rank (house_key b c) n r)
  place_of r h =
      let x : ℕ = of_rank (house_key b c) n r in
      let hx : x < n = of_rank_below (house_key b c) n (house_key_inj b c n hn) r h in
      let q : ℕ = unturned (2 ^ b) s x in
      let e : rank (turned_key b c s) n q ≡ r =
      place_rank q ∙ ap (rank (house_key b c) n) (turned_unturned (2 ^ b) s (pow_pos b) x) ∙ rank-of_rank (house_key b c) n (house_key_inj b c n hn) r h in
      ap (of_rank (turned_key b c s) n) (sym e) ∙ of_rank-rank (turned_key b c s) n key_inj q (unturned_below (2 ^ b) s (pow_pos b) n stays x hx)

  found_at : (i : ℕ) → option_map (unturned (2 ^ b) s) (ranked? (house_key b c) n i) ≡ ranked? (turned_key b c s) n i
  found_at i =
      by_cases (dec_lt i n)
      (λ l.
      ap (λ (t : Bool). option_map (unturned (2 ^ b) s) (when t (of_rank (house_key b c) n i))) (lt-ltb i n l)
      ∙ ap Some (sym (place_of i l)) ∙ sym (ap (λ (t : Bool). when t (of_rank (turned_key b c s) n i)) (lt-ltb i n l)))
      (λ l.
      let h : n ≤ i = omega arith in
      ap (option_map (unturned (2 ^ b) s)) (past_ranks (house_key b c) n i h) ∙ sym (past_ranks (turned_key b c s) n i h))

  -- the step finds the cell of the next rank, or nothing where there is none
  pub step_is : (p : ℕ) → p < n → next_cell b n s p ≡ ranked? (turned_key b c s) n (rank (turned_key b c s) n p + 1)
  unfolding next_cell
  step_is p h =
      ap (option_map (unturned (2 ^ b) s))
      (next_is b c n hn (turned (2 ^ b) s p) (turned_below (2 ^ b) s (pow_pos b) n stays p h) ∙ ap (λ (r : ℕ). ranked? (house_key b c) n (r + 1)) (sym (place_rank p)))
      ∙ found_at (rank (turned_key b c s) n p + 1)

  -- the walk reads the cells by rising rank, from 0 on, and ends after the last
  pub walk_is : (i : ℕ) → walked b n s i ≡ ranked? (turned_key b c s) n i
  unfolding walked
  walk_is zero = begun (ltb 0 n) ∙ ap (option_map (unturned (2 ^ b) s)) (start_is b c n hn) ∙ found_at 0
    where
      begun : (t : Bool) → when t (unturned (2 ^ b) s 0) ≡ option_map (unturned (2 ^ b) s) (when t 0)
      begun true = refl
      begun false = refl
  walk_is (suc i) =
      by_cases (dec_lt i n)
      (λ l.
      let p : ℕ = of_rank (turned_key b c s) n i in
      let e : rank (turned_key b c s) n p ≡ i = rank-of_rank (turned_key b c s) n key_inj i l in
      ap (λ (o : Option ℕ). option_and_then (next_cell b n s) o) (walk_is i ∙ ap (λ (t : Bool). when t p) (lt-ltb i n l))
      ∙ step_is p (of_rank_below (turned_key b c s) n key_inj i l) ∙ ap (ranked? (turned_key b c s) n) (ap (λ (x : ℕ). x + 1) e ∙ add-one i))
      (λ l.
      let h : n ≤ i = omega arith in
      ap (λ (o : Option ℕ). option_and_then (next_cell b n s) o) (walk_is i ∙ past_ranks (turned_key b c s) n i h) ∙ sym (past_ranks (turned_key b c s) n (suc i) (omega arith)))
