-- The pass over an end's cells, group by group. Assumes nothing.
use Prim.Native.Nat.{ℕ, zero, suc, ◌+◌, ◌-◌, ◌%◌, ◌≤◌, ◌<◌}
use mathlib.Core.Path.{◌≡◌, sym, ap, ◌∙◌}
use mathlib.Core.Logic.{by_cases}
use mathlib.Core.Bool.{Bool, true, false}
use mathlib.Core.List.{List}
use native.Mathlib.Nat.{mod-eq_of_lt, zero-mod}
use native.Mathlib.Decide.{dec_lt}
use native.Mathlib.Omega.{arith}
use lib.ListN.{length}
use Rattle.rules.specs.Fits.{capacity}
use Rattle.rules.specs.Places.{emitter_delay, places_before}
use Rattle.places.proofs.Kept.{start_suc, start_grow}
use Rattle.exchange.specs.Exchange.{end_delay, first_cell, first_delay, Exchanged, At}
use Rattle.exchange.proofs.Exchanges.{exchanged_none, exchanged_pass}
use Rattle.exchange.proofs.Groups.{delay_first, delay_last, group_next}
use Rattle.delay.specs.Shift.{Least}

-- the next group begins with cell p
pub record Passing (emitter : Bool) (m : ℕ) (s₀ x₀ s x : List ℕ) (p at last : ℕ) : Type 0 where
  pub to : p ≤ length x₀
  pub begins : p < length x₀ → p % m ≡ first_cell emitter
  pub passed : Exchanged (end_delay emitter m) s₀ x₀ p s x at last

-- the cells before the first that has a place
none_before : (emitter : Bool) (m : ℕ) (s x : List ℕ) (p last : ℕ) → p ≤ first_cell emitter → Exchanged (end_delay emitter m) s x p s x 0 last
none_before emitter m s x zero last h = exchanged_none (end_delay emitter m) s x last
none_before true m s x (suc zero) last h =
    let none : Exchanged (emitter_delay m) s x 0 s x 0 last = exchanged_none (emitter_delay m) s x last in
    exchanged_pass (emitter_delay m) s x 0 s x 0 last none (omega (arith, none.start, start_suc (emitter_delay m) 0, zero-mod m)) (zero-mod m)
none_before true m s x (suc (suc p)) last h = absurd (omega arith)
none_before false m s x (suc p) last h = absurd (omega arith)

module _ (emitter : Bool) (m : ℕ) (s₀ x₀ : List ℕ) (some : 1 < m) where
  pub passing_first : (a p last : ℕ) → a ≡ first_cell emitter → Least a (length x₀) p → Passing emitter m s₀ x₀ s₀ x₀ p 0 last
  passing_first a p last first h = record {
    to = h.1;
    begins = λ l. ap (λ (k : ℕ). k % m) (h.2 l ∙ first) ∙ mod-eq_of_lt (small emitter);
    passed = none_before emitter m s₀ x₀ p last (omega (arith, h.0));
  }
    where
      small : (emitter : Bool) → first_cell emitter < m
      small true = some
      small false = omega arith

  module _ (most : m ≤ capacity) (few : length x₀ ≤ capacity) (long : places_before (end_delay emitter m) (length x₀) ≤ length s₀) (s x : List ℕ) (p at last : ℕ) (go : Passing emitter m s₀ x₀ s x p at last) (l : p < length x₀) (e : ℕ)
      (end : Least (p + (m - 1)) (length x₀) e) where
    pub passing_some : p < e
    passing_some = by_cases (dec_lt e (length x₀)) (λ c. omega (arith, end.2 c)) (λ c. omega (arith, end.1))

    grown : places_before (end_delay emitter m) e ≤ places_before (end_delay emitter m) (length x₀)
    grown =
        by_cases (dec_lt e (length x₀))
        (λ c. omega (arith, start_grow (end_delay emitter m) e (length x₀) c))
        (λ c. let f : e ≡ length x₀ = omega (arith, end.1) in rw f (omega arith))

    pub passing_at : At emitter m p e s x p (first_delay emitter m) at
    passing_at = record {
      some = some;
      most = most;
      begins = go.begins l;
      end = omega (arith, end.0);
      from = omega arith;
      to = omega (arith, passing_some);
      delay = λ h. delay_first m p some emitter (go.begins l);
      start = go.passed.start;
      cells = omega (arith, end.1, go.passed.cells);
      few = omega (arith, go.passed.cells);
      places = omega (arith, grown, go.passed.places);
    }

    -- the group is passed, and the cell after it, which has no place
    module _ (s' x' : List ℕ) (at' last' : ℕ) (there : Exchanged (end_delay emitter m) s₀ x₀ e s' x' at' last') (p' : ℕ) (h : Least (e + 1) (length x₀) p') where
      pub passing_less : p < p'
      passing_less = by_cases (dec_lt p' (length x₀)) (λ c. omega (arith, h.2 c, passing_some)) (λ c. omega (arith, h.1))

      pub passing_next : Passing emitter m s₀ x₀ s' x' p' at' last'
      passing_next = record {
        to = h.1;
        begins = λ c. ap (λ (k : ℕ). k % m) (h.2 c) ∙ group_next m p some e (end.2 (omega (arith, h.2 c))) emitter (go.begins l);
        passed =
            by_cases (dec_lt e (length x₀))
            (λ c.
            let f : p' ≡ suc e = by_cases (dec_lt p' (length x₀)) (λ k. omega (arith, h.2 k)) (λ k. omega (arith, h.0, h.1)) in
            let fits : places_before (end_delay emitter m) (suc e) ≤ length s' = omega (arith, start_suc (end_delay emitter m) e, start_grow (end_delay emitter m) e (length x₀) c, there.places) in
            rw f (exchanged_pass (end_delay emitter m) s₀ x₀ e s' x' at' last' there fits (delay_last m p some e (end.2 c) emitter (go.begins l))))
            (λ c.
            let f : p' ≡ e = by_cases (dec_lt p' (length x₀)) (λ k. omega (arith, h.2 k)) (λ k. omega (arith, h.1, end.1)) in
            rw f there);
      }

  pub passing_end : (s x : List ℕ) (p at last : ℕ) → Passing emitter m s₀ x₀ s x p at last → length x₀ ≤ p
      → Exchanged (end_delay emitter m) s₀ x₀ (length x₀) s x (places_before (end_delay emitter m) (length x₀)) last
  passing_end s x p at last go end =
      let f : length x₀ ≡ p = omega (arith, go.to) in
      let g : places_before (end_delay emitter m) (length x₀) ≡ at = ap (places_before (end_delay emitter m)) f ∙ sym go.passed.start in
      rw (g, f) go.passed
