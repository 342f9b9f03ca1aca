-- The store after a pass over all cells, for any delays: it goes one place down, and the cell that came in last takes the last place. Assumes
-- nothing.
use Prim.Native.Nat.{ℕ, ◌+◌, ◌-◌, ◌≤◌, ◌<◌}
use mathlib.Core.Path.{◌≡◌, sym, ◌∙◌}
use mathlib.Core.Logic.{by_cases}
use mathlib.Core.List.{List}
use native.Mathlib.Decide.{dec_lt, ℕ_discrete}
use native.Mathlib.Omega.{arith}
use lib.ListN.{length, get_or, set, length-set}
use lib.Seq.{get_or-set_same, get_or-set_other, ext_get_or}
use Rattle.rules.specs.Places.{places_before, oldest, moved}
use Rattle.places.proofs.Kept.{start_grow, place_new, moved_past, length_moved, length_oldest, oldest_at}
use Rattle.exchange.specs.Exchange.{Exchanged}
use Rattle.delay.specs.Shift.{shifted}
use Rattle.delay.proofs.Shifts.{next_in, next_out, length_shifted, get_or_shifted}

module _ (d : ℕ → ℕ) (s₀ x₀ s x : List ℕ) (places last : ℕ) (t : Exchanged d s₀ x₀ (length x₀) s x (places_before d (length x₀)) last) (all : places ≡ places_before d (length x₀))
    (long : places ≤ length s₀) (some : 0 < places) where
  place_after : (k : ℕ) → k < length s₀ → get_or (set (shifted places s) (places - 1) last) k 0 ≡ get_or (moved d (length x₀) s₀ x₀) k 0
  place_after k h =
      by_cases (ℕ_discrete k (places - 1))
      (λ e.
      rw e (get_or-set_same (shifted places s) (places - 1) last 0 (omega (arith, length_shifted places s, t.places)))
      ∙ t.newest k (omega arith))
      (λ e.
      get_or-set_other (shifted places s) (places - 1) k last 0 e ∙ get_or_shifted places s k (omega (arith, t.places))
      ∙ by_cases (dec_lt (k + 1) places)
      (λ c. next_in places s k c ∙ t.stored k (omega arith))
      (λ c. next_out places s k (omega arith) ∙ t.ahead k (omega arith) ∙ sym (moved_past d (length x₀) s₀ x₀ (omega arith) k (omega arith))))

  pub stepped : (z : List ℕ) → z ≡ shifted places s → (set z (places - 1) last ≡ moved d (length x₀) s₀ x₀) × (x ≡ oldest d (length x₀) s₀ x₀)
  stepped z e =
      let size : length (set (shifted places s) (places - 1) last) ≡ length s₀ = length-set (shifted places s) (places - 1) last ∙ length_shifted places s ∙ t.places in (
        rw e (ext_get_or 0 (set (shifted places s) (places - 1) last) (moved d (length x₀) s₀ x₀) (size ∙ sym (length_moved d (length x₀) s₀ x₀)) (λ k h. place_after k (omega arith))),
        ext_get_or 0 x (oldest d (length x₀) s₀ x₀) (t.cells ∙ sym (length_oldest d (length x₀) s₀ x₀)) (λ q h. t.sent q (omega (arith, t.cells))),
      )

-- without a place nothing changes
pub still : (d : ℕ → ℕ) (s x : List ℕ) → places_before d (length x) ≡ 0 → (s ≡ moved d (length x) s x) × (x ≡ oldest d (length x) s x)
still d s x none = (
  ext_get_or 0 s (moved d (length x) s x) (sym (length_moved d (length x) s x)) (λ k h. sym (moved_past d (length x) s x (omega arith) k (omega arith))),
  ext_get_or 0 x (oldest d (length x) s x) (sym (length_oldest d (length x) s x))
      (λ q h. sym (oldest_at d (length x) s x q h ∙ place_new d (length x) s x (omega arith) q 0 h (omega (arith, start_grow d q (length x) h)))),
)
