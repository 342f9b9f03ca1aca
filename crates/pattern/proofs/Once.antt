-- The pattern stands on a subcarrier once in 128 symbols. Assumes nothing.
use Prim.Native.Nat.{ℕ, ◌+◌, ◌%◌, ◌<◌}
use mathlib.Core.Path.{◌≡◌, refl}
use mathlib.Core.Logic.{by_cases}
use native.Mathlib.Decide.{ℕ_discrete}
use native.Mathlib.Omega.{arith}
use lib.Dec.{eqb}
use borrow.Author.Tests.{eq-eqb, ne_eqb}
use Rattle.rules.specs.Device.{phases}
use Rattle.pattern.specs.Until.{symbols_until}

pub once : (base k i : ℕ) → i < phases → eqb (k % phases) ((base + i) % phases) ≡ eqb i (symbols_until base k)
unfolding symbols_until
once base k i h =
    by_cases (ℕ_discrete i (symbols_until base k))
    (λ e. rw (eq-eqb i (symbols_until base k) e, eq-eqb (k % phases) ((base + i) % phases) (omega arith)) refl)
    (λ e. rw (ne_eqb i (symbols_until base k) e, ne_eqb (k % phases) ((base + i) % phases) (λ z. e (omega arith))) refl)

pub until_below : (base k : ℕ) → symbols_until base k < phases
unfolding symbols_until
until_below base k = omega arith
