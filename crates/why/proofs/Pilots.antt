-- Why a subcarrier is a continuous pilot, as the code finds it: l is L as it was read. Assumes nothing.
use Prim.Native.Nat.{ℕ, ◌+◌, ◌-◌, ◌≤◌, ◌<◌}
use mathlib.Core.Path.{◌≡◌, sym, ap, ◌∙◌}
use mathlib.Core.Bool.{Bool, true, false}
use mathlib.Core.List.{List}
use native.Mathlib.Omega.{arith}
use borrow.Author.Tests.{lt-ltb, le-ltb}
use Rattle.rules.specs.declared.Device.{Device}
use Rattle.rules.specs.declared.Reason.TheVariants.{PilotBelow, PilotAbove, PilotBy}
use Rattle.rules.specs.Plan.{plan_of}
use Rattle.rules.specs.Roles.{one_of, predefined}
use Rattle.reasons.specs.Reasons.{makes_pilot, first_record, pilot_reason}
use Rattle.reasons.proofs.Answers.{below_is, above_is, predefined_is, further_is}

module _ (d : Device) (s : List ℕ) (k l : ℕ) (is : l ≡ (plan_of s).plc) where
  at_plc : {b : Bool} → one_of k (predefined d l) ≡ b → one_of k (predefined d (plan_of s).plc) ≡ b
  at_plc e = sym (ap (λ (x : ℕ). one_of k (predefined d x)) is) ∙ e

  pub by_record : one_of k (predefined d l) ≡ false → PilotBy (first_record (makes_pilot k) s) ≡ pilot_reason d s k
  by_record e = sym (further_is d s k (at_plc e))

  pub by_below : one_of k (predefined d l) ≡ true → k < l → PilotBelow (l - k) ≡ pilot_reason d s k
  by_below e h =
      ap (λ (x : ℕ). PilotBelow (x - k)) is
      ∙ sym (predefined_is d s k (at_plc e) ∙ below_is d s k (lt-ltb k (plan_of s).plc (omega arith)))

  pub by_above : one_of k (predefined d l) ≡ true → l ≤ k → PilotAbove (k - (l + d.plc_width - 1)) ≡ pilot_reason d s k
  by_above e h =
      ap (λ (x : ℕ). PilotAbove (k - (x + d.plc_width - 1))) is
      ∙ sym (predefined_is d s k (at_plc e) ∙ above_is d s k (le-ltb k (plan_of s).plc (omega arith)))
