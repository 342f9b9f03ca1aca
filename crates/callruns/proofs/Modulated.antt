-- A modulate call's number is 0 exactly if nothing refuses: the numbers of its grounds are 21, 17, 22 and 23. Assumes nothing.
use Prim.Native.Nat.{ℕ, ◌^◌}
use mathlib.Core.Path.{◌≡◌, refl}
use mathlib.Core.Bool.{Bool, true}
use Rattle.std.specs.Prelude.{Option, Some, None, is_ok}
use mathlib.Core.List.{List}
use lib.Dec.{eqb, ltb}
use lib.Ieee.{Float}
use Rattle.counting.proofs.Bools.{by_test}
use Rattle.rules.specs.declared.Device.{Device}
use Rattle.points.specs.Points.{load_listed}
use Rattle.points.specs.Answers.{point_answer}
use Rattle.scaling.specs.Scale.{scaled_answer}
use Rattle.modulator.specs.Symbols.{ModulateAnswer, refused_at, line_at, line_refusal, answered, fitting, modulate_step}
use Rattle.modulator.specs.Lines.{marked, unmarked, line_of, line_answer}
use Rattle.bytecells.specs.Octets.{cells_of, odd}
use Rattle.bytemodulate.specs.ByteSymbols.{modulate_bytes}
use Rattle.answers.specs.Answer.{told_modulate}

-- the number says whether it is modulated
abbrev NumberSays : ModulateAnswer → Type 0
NumberSays r = eqb (told_modulate r).number 0 ≡ is_ok r

unmarked_zero : (k cell m : ℕ) → load_listed m ≡ true → NumberSays (refused_at k (unmarked cell m))
unfolding unmarked scaled_answer point_answer
unmarked_zero k cell m t = by_test (ltb cell (2 ^ m)) (λ u. rw (t, u) refl) (λ u. rw (t, u) refl)

line_zero : (k cell m : ℕ) (minus : Bool) → NumberSays (refused_at k (line_answer cell m minus))
unfolding line_answer line_of
line_zero k cell m minus =
    by_test (load_listed m)
    (λ t. by_test (marked cell) (λ s. rw (t, s) refl) (λ s. rw (t, s) (unmarked_zero k cell m t)))
    (λ t. rw t refl)

module _ (y loads minus : List ℕ) (d : Device) (l : List Float) where
  found_zero : (n : ℕ) (k : Option ℕ) → NumberSays (answered y loads minus n k l).answer
  unfolding line_at
  found_zero n None = refl
  found_zero n (Some k) = line_zero k _ _ _

  step_zero : NumberSays (modulate_step y loads minus d l).answer
  unfolding modulate_step
  step_zero = by_test (fitting y loads minus d l) (λ t. rw t (found_zero d.subcarriers (line_refusal y loads minus d.subcarriers))) (λ t. rw t refl)

pub modulate_bytes_lem : (b loads minus : List ℕ) (d : Device) (l : List Float) → eqb (told_modulate (modulate_bytes b loads minus d l).answer).number 0 ≡ is_ok (modulate_bytes b loads minus d l).answer
unfolding modulate_bytes
modulate_bytes_lem b loads minus d l = by_test (odd b) (λ t. rw t refl) (λ t. rw t (step_zero (cells_of b) loads minus d l))
