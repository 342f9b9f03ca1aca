-- The pass over the places, cell by cell, for any delays. Assumes nothing.
use Prim.Native.Nat.{ℕ, suc, ◌+◌, ◌-◌, ◌≤◌, ◌<◌}
use mathlib.Core.Path.{◌≡◌, refl, sym, ap, ◌∙◌}
use mathlib.Core.Logic.{by_cases}
use mathlib.Core.List.{List}
use native.Mathlib.Nat.{not-suc-le-zero}
use native.Mathlib.Decide.{dec_lt, ℕ_discrete}
use native.Mathlib.Omega.{arith}
use lib.ListN.{length, get_or, set, length-set}
use lib.Seq.{get_or-set_same, get_or-set_other}
use Rattle.counting.specs.Search.{sum}
use Rattle.rules.specs.Places.{places_before, oldest, moved}
use Rattle.places.proofs.Kept.{start_suc, Within, within, place_old, place_new, moved_at, oldest_at}
use Rattle.exchange.specs.Exchange.{Exchanged}

-- ---- the cells one by one

module _ (d : ℕ → ℕ) (s₀ x₀ : List ℕ) where
  -- one cell more leaves the places of those before as they are
  moved_suc : (p k : ℕ) → places_before d (suc p) ≤ length s₀ → k < places_before d p → get_or (moved d (suc p) s₀ x₀) k 0 ≡ get_or (moved d p s₀ x₀) k 0
  moved_suc p k long h =
      let w : Within d p k = within d p k h in
      let less : places_before d p ≤ length s₀ = omega (arith, start_suc d p) in
      rw w.is
      (moved_at d (suc p) s₀ x₀ long w.cell w.nth (omega (arith, w.below)) w.inside
      ∙ sym (moved_at d p s₀ x₀ less w.cell w.nth w.below w.inside))

  oldest_suc : (p q : ℕ) → q < p → get_or (oldest d (suc p) s₀ x₀) q 0 ≡ get_or (oldest d p s₀ x₀) q 0
  oldest_suc p q h = oldest_at d (suc p) s₀ x₀ q (omega arith) ∙ sym (oldest_at d p s₀ x₀ q h)

  pub exchanged_none : (last : ℕ) → Exchanged d s₀ x₀ 0 s₀ x₀ 0 last
  unfolding places_before sum
  exchanged_none last = record {
    start = refl;
    places = refl;
    cells = refl;
    sent = λ q h. absurd (not-suc-le-zero h);
    later = λ q h. refl;
    stored = λ k h. absurd (not-suc-le-zero h);
    newest = λ k e. absurd (omega arith);
    ahead = λ k h. refl;
  }

  module _ (p : ℕ) (s x : List ℕ) (at last : ℕ) (t : Exchanged d s₀ x₀ p s x at last) (long : places_before d (suc p) ≤ length s) where
    long₀ : places_before d (suc p) ≤ length s₀
    long₀ = omega (arith, t.places)

    -- a cell without a place
    pub exchanged_pass : d p ≡ 0 → Exchanged d s₀ x₀ (suc p) s x at last
    exchanged_pass z = record {
      start = omega (arith, t.start, start_suc d p);
      places = t.places;
      cells = t.cells;
      sent = λ q h.
          by_cases (dec_lt q p)
          (λ c. t.sent q c ∙ sym (oldest_suc p q c))
          (λ c.
          let e : q ≡ p = omega arith in
          rw e (t.later p (omega arith) ∙ sym (oldest_at d (suc p) s₀ x₀ p (omega arith) ∙ place_new d (suc p) s₀ x₀ long₀ p 0 (omega arith) (sym z))));
      later = λ q h. t.later q (omega arith);
      stored = λ k h. t.stored k h ∙ sym (moved_suc p k long₀ (omega (arith, t.start)));
      newest = λ k h. t.newest k h ∙ sym (moved_suc p k long₀ (omega (arith, t.start)));
      ahead = t.ahead;
    }

    -- a cell with places: the oldest, at the first of them, goes out, the cell that came in before takes that place, and cell p has come in
    pub exchanged_one : 0 < d p → p < length x → Exchanged d s₀ x₀ (suc p) (set s at last) (set x p (get_or s at 0)) (at + d p) (get_or x p 0)
    exchanged_one some in_x =
        let in-s : at < length s = omega (arith, t.start, start_suc d p) in record {
          start = omega (arith, t.start, start_suc d p);
          places = length-set s at last ∙ t.places;
          cells = length-set x p (get_or s at 0) ∙ t.cells;
          sent = λ q h.
              by_cases (dec_lt q p)
              (λ c. get_or-set_other x p q (get_or s at 0) 0 (λ e. omega arith) ∙ t.sent q c ∙ sym (oldest_suc p q c))
              (λ c.
              let e : q ≡ p = omega arith in
              let f : at ≡ places_before d p + 0 = omega (arith, t.start) in
              rw e
              (get_or-set_same x p (get_or s at 0) 0 in_x ∙ t.ahead at (omega arith) ∙ ap (λ (k : ℕ). get_or s₀ k 0) f
              ∙ sym (oldest_at d (suc p) s₀ x₀ p (omega arith) ∙ place_old d (suc p) s₀ x₀ long₀ p 0 (omega arith) some)));
          later = λ q h. get_or-set_other x p q (get_or s at 0) 0 (λ e. omega arith) ∙ t.later q (omega arith);
          stored = λ k h.
              by_cases (dec_lt (k + 1) at)
              (λ c. get_or-set_other s at (k + 1) last 0 (λ e. omega arith) ∙ t.stored k c ∙ sym (moved_suc p k long₀ (omega (arith, t.start))))
              (λ c.
              by_cases (ℕ_discrete (k + 1) at)
              (λ e. rw e (get_or-set_same s at last 0 in-s) ∙ t.newest k e ∙ sym (moved_suc p k long₀ (omega (arith, t.start))))
              (λ e.
              let i : ℕ = k - at in
              let f : k ≡ places_before d p + i = omega (arith, t.start) in
              let g : k + 1 ≡ places_before d p + suc i = omega (arith, t.start) in
              get_or-set_other s at (k + 1) last 0 e ∙ t.ahead (k + 1) (omega arith) ∙ ap (λ (j : ℕ). get_or s₀ j 0) g
              ∙ sym (ap (λ (j : ℕ). get_or (moved d (suc p) s₀ x₀) j 0) f ∙ moved_at d (suc p) s₀ x₀ long₀ p i (omega arith) (omega arith) ∙ place_old d (suc p) s₀ x₀ long₀ p (suc i) (omega arith) (omega arith))));
          newest = λ k h.
              let i : ℕ = k - at in
              let f : k ≡ places_before d p + i = omega (arith, t.start) in
              t.later p (omega arith)
              ∙ sym (ap (λ (j : ℕ). get_or (moved d (suc p) s₀ x₀) j 0) f ∙ moved_at d (suc p) s₀ x₀ long₀ p i (omega arith) (omega arith) ∙ place_new d (suc p) s₀ x₀ long₀ p (suc i) (omega arith) (omega arith));
          ahead = λ k h. get_or-set_other s at k last 0 (λ e. omega arith) ∙ t.ahead k (omega arith);
        }
