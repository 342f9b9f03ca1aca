-- The grounds of either emitter by the places that its store needs. Assumes nothing.
use Prim.Native.Nat.{ℕ}
use mathlib.Core.Path.{◌≡◌, refl, ap, ◌∙◌}
use mathlib.Core.Bool.{false}
use mathlib.Core.List.{List}
use native.Mathlib.Omega.{arith}
use lib.Dec.{ltb}
use lib.ListN.{length}
use borrow.Author.Tests.{le-ltb}
use Rattle.counting.specs.Search.{when}
use Rattle.rules.specs.Refusals.{Finding}
use Rattle.std.specs.Prelude.{Ok, Err}
use Rattle.rules.specs.Grounds.{◌else◌, ground?}
use Rattle.rules.specs.Frame.{Frame}
use Rattle.rules.specs.Store.{emitter_places}
use Rattle.rules.specs.Steps.{Emitter, Send, short_store, ground16, ground17, profile_ground, given_grounds, send_grounds, start_grounds}
use Rattle.figure.specs.Steps.{literal_places, ground27, figure_grounds, figure_start_grounds}
use Rattle.figure.specs.Needs.{step_grounds, fresh_grounds}

-- no store is shorter than no place
not_short : (s : List ℕ) → ltb (length s) 0 ≡ false
not_short s = le-ltb (length s) 0 (omega arith)

else_none : (f : Finding) → (f else Ok tt) ≡ f
else_none (Ok tt) = refl
else_none (Err r) = refl

module _ (F : Frame) where
  -- a step of the first emitter, and of the second
  pub first_step : (e : Emitter) (a : Send) → step_grounds F (emitter_places F) 0 e a ≡ send_grounds F e a
  unfolding step_grounds send_grounds ground27 short_store
  first_step e a = λ i.
      profile_ground F a.profile a.given
      else ground16 F e.state.phase
      else ground17 F (emitter_places F) e.store a.room
      else ground? 27 (when (not_short e.store i) 0)
      else given_grounds F a.profile e.state.phase a.given

  pub second_step : (e : Emitter) (a : Send) → step_grounds F 0 (literal_places F) e a ≡ figure_grounds F e a
  unfolding step_grounds figure_grounds
  second_step e a = refl

  -- a fresh start of the first, whose store needs so many places, and of the second
  pub first_start : (places j : ℕ) (s : List ℕ) → fresh_grounds F places 0 j s ≡ start_grounds F places j s
  unfolding fresh_grounds start_grounds ground27 short_store
  first_start places j s =
      (λ i. ground16 F j else ground? 17 (when (ltb (length s) places) 0) else ground? 27 (when (not_short s i) 0))
      ∙ ap (λ (f : Finding). ground16 F j else f) (else_none (ground? 17 (when (ltb (length s) places) 0)))

  pub second_start : (j : ℕ) (s : List ℕ) → fresh_grounds F 0 (literal_places F) j s ≡ figure_start_grounds F j s
  unfolding fresh_grounds figure_start_grounds short_store
  second_start j s = λ i. ground16 F j else ground? 17 (when (not_short s i) 0) else ground27 (literal_places F) s
