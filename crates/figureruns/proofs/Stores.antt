-- A short and a literal store that hold the same send the same cells, and hold the same after the step; and all that is thrown away is filler.
-- Assumes nothing.
use Prim.Native.Nat.{ℕ, suc, ◌+◌, ◌-◌, ◌*◌, ◌/◌, ◌%◌, ◌≤◌, ◌<◌}
use mathlib.Core.Path.{◌≡◌, sym, ap, ◌∙◌}
use mathlib.Core.Logic.{by_cases}
use mathlib.Core.List.{List}
use native.Mathlib.Nat.{mod-lt, div-add-mod', zero-mul}
use native.Mathlib.Decide.{dec_lt, ℕ_discrete}
use native.Mathlib.Omega.{arith}
use lib.ListN.{length, get_or, replicate, length-replicate, get_or-replicate}
use Rattle.counting.proofs.Lists.{tabulate_cong, is_tabulate}
use Rattle.rules.specs.Frame.{filler}
use Rattle.rules.specs.Places.{emitter_delay, places_before, places_and, oldest, moved}
use Rattle.places.proofs.Kept.{place_old, place_new, moved_at, length_moved}
use Rattle.figure.specs.Figure.{ceiling, line_begins, cell_in, out_at, figure_store, figure_cells, thrown_away}
use Rattle.figure.proofs.Sizes.{enough}
use Rattle.figure.proofs.Turns.{turn_below, below_times}
use Rattle.figure.proofs.Lines.{cell_own, cell_dummy, through, through_old, through_new, out_is, after_symbol, length_symbol}

-- where the symbol that comes out i symbols on has its cell p in the literal store, of n cells at depth m
abbrev pub line_place : ℕ → ℕ → ℕ → ℕ → ℕ
line_place m n p i = line_begins (ceiling n m) (p % m) + (i * ceiling n m + p / m)

-- Of n cells at depth m, place i of cell p in the short store s holds what the literal store g holds there; for a dummy that is filler.
pub record Agree (m n : ℕ) (s g : List ℕ) : Type 0 where
  pub places_fit : places_before (emitter_delay m) n ≤ length s
  pub lines_fit : line_begins (ceiling n m) m ≤ length g
  pub same : (p i : ℕ) → p < n → i < p % m → get_or s (places_before (emitter_delay m) p + i) 0 ≡ get_or g (line_place m n p i) 0
  pub dummies : (p i : ℕ) → n ≤ p → p < ceiling n m * m → i < p % m → get_or g (line_place m n p i) 0 ≡ filler

module _ (m n : ℕ) (pos : 0 < m) (s g x : List ℕ) (agree : Agree m n s g) where
  abbrev J : ℕ
  J = ceiling n m

  abbrev long : line_begins J m ≤ length g
  long = agree.lines_fit

  -- what comes out of the lines as cell p goes in
  out_first : (p : ℕ) → p < J * m → p % m ≡ 0 → out_at m n g x p ≡ cell_in n x p
  out_first p h z =
      let e : p / m ≡ p % m * J + p / m = omega (arith, ap (λ (r : ℕ). r * J) z, zero-mul J) in
      out_is m n pos g x long p h ∙ through_new m n pos g x long (p % m) (p / m) (p / m) e ∙ ap (cell_in n x) (div-add-mod' p m)

  out_later : (p : ℕ) → p < J * m → 0 < p % m → out_at m n g x p ≡ get_or g (line_place m n p 0) 0
  out_later p h some =
      let e : p / m ≡ 0 * J + p / m = omega arith in
      out_is m n pos g x long p h ∙ ap (through m n pos g x long (p % m)) e
      ∙ through_old m n pos g x long (p % m) (0 * J + p / m) (below_times 0 (p / m) J (p % m) some (turn_below m J p pos h))

  -- what the lines then hold
  kept : (p i : ℕ) → p < J * m → suc i < p % m → get_or (figure_store m n g x) (line_place m n p i) 0 ≡ get_or g (line_place m n p (suc i)) 0
  kept p i h hi =
      let q : p / m < J = turn_below m J p pos h in
      let e : J + (i * J + p / m) ≡ suc i * J + p / m = omega arith in
      after_symbol m n pos g x long (p % m) (i * J + p / m) (mod-lt p pos) (below_times i (p / m) J (p % m) (omega arith) q)
      ∙ ap (through m n pos g x long (p % m)) e
      ∙ through_old m n pos g x long (p % m) (suc i * J + p / m) (below_times (suc i) (p / m) J (p % m) hi q)

  came : (p i : ℕ) → p < J * m → suc i ≡ p % m → get_or (figure_store m n g x) (line_place m n p i) 0 ≡ cell_in n x p
  came p i h hi =
      let q : p / m < J = turn_below m J p pos h in
      let e : J + (i * J + p / m) ≡ p % m * J + p / m = omega (arith, ap (λ (r : ℕ). r * J) hi) in
      after_symbol m n pos g x long (p % m) (i * J + p / m) (mod-lt p pos) (below_times i (p / m) J (p % m) (omega arith) q)
      ∙ through_new m n pos g x long (p % m) (J + (i * J + p / m)) (p / m) e ∙ ap (cell_in n x) (div-add-mod' p m)

  -- a cell of the symbol is one of the J turns
  below : (p : ℕ) → p < n → p < J * m
  below p hp = omega (arith, enough n m pos)

  cell_sent : (p : ℕ) → p < n → get_or (places_and (emitter_delay m) s x p) 0 0 ≡ out_at m n g x p
  cell_sent p hp =
      by_cases (ℕ_discrete (p % m) 0)
      (λ z. place_new (emitter_delay m) n s x agree.places_fit p 0 hp (sym z) ∙ sym (out_first p (below p hp) z ∙ cell_own n x p hp))
      (λ z.
      place_old (emitter_delay m) n s x agree.places_fit p 0 hp (omega arith) ∙ agree.same p 0 hp (omega arith)
      ∙ sym (out_later p (below p hp) (omega arith)))

  pub same_cells : oldest (emitter_delay m) n s x ≡ figure_cells m n g x
  unfolding oldest figure_cells
  same_cells = tabulate_cong (λ p. get_or (places_and (emitter_delay m) s x p) 0 0) (out_at m n g x) n cell_sent

  pub agree_next : Agree m n (moved (emitter_delay m) n s x) (figure_store m n g x)
  agree_next = record {
    places_fit = rw (length_moved (emitter_delay m)) agree.places_fit;
    lines_fit = rw (length_symbol m n pos g x long) agree.lines_fit;
    same = λ p i hp hi.
        moved_at (emitter_delay m) n s x agree.places_fit p i hp hi
        ∙ by_cases (dec_lt (suc i) (p % m))
        (λ c. place_old (emitter_delay m) n s x agree.places_fit p (suc i) hp c ∙ agree.same p (suc i) hp c ∙ sym (kept p i (below p hp) c))
        (λ c.
        let e : suc i ≡ p % m = omega arith in
        place_new (emitter_delay m) n s x agree.places_fit p (suc i) hp e ∙ sym (came p i (below p hp) e ∙ cell_own n x p hp));
    dummies = λ p i hn hp hi.
        by_cases (dec_lt (suc i) (p % m))
        (λ c. kept p i hp c ∙ agree.dummies p (suc i) hn hp c)
        (λ c. came p i hp (omega arith) ∙ cell_dummy n x p hn);
  }

  dummy_out : (p : ℕ) → n ≤ p → p < J * m → out_at m n g x p ≡ filler
  dummy_out p hn hp =
      by_cases (ℕ_discrete (p % m) 0)
      (λ z. out_first p hp z ∙ cell_dummy n x p hn)
      (λ z. out_later p hp (omega arith) ∙ agree.dummies p 0 hn hp (omega arith))

  pub all_filler : thrown_away m n g x ≡ replicate (J * m - n) filler
  unfolding thrown_away
  all_filler =
      sym
      (is_tabulate (replicate (J * m - n) filler) (J * m - n) (λ i. out_at m n g x (n + i)) (length-replicate (J * m - n) filler)
      (λ i h. get_or-replicate (J * m - n) i filler 0 h ∙ sym (dummy_out (n + i) (omega arith) (omega arith))))
