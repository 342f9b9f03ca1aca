-- What filling a modulator symbol answers and leaves, return by return. Assumes nothing.
use Prim.Native.Nat.{ℕ, ◌*◌, ◌<◌, ◌≤◌}
use mathlib.Core.Path.{◌≡◌, refl, sym, ap, ◌∙◌}
use mathlib.Core.Bool.{Bool, true, false, ◌&&◌}
use mathlib.Core.List.{List, []}
use Rattle.std.specs.Prelude.{Option, None, Ok}
use lib.Dec.{eqb, ltb}
use lib.Ieee.{Float}
use borrow.Author.Tests.{eqb-true, lt-ltb, le-ltb}
use Rattle.counting.specs.Search.{when, lowest}
use Rattle.counting.proofs.Bools.{and_left, and_right}
use Rattle.rules.specs.declared.Device.{Device}
use Rattle.rules.specs.Refusals.{refusal}
use Rattle.loadlimits.specs.Limits.{unadmitted}
use Rattle.loadlimits.proofs.Admitting.{refusal_is}
use Rattle.modulator.specs.Symbols.{modulates, refused_point, refused_at, line_at, filled_to, line_refusal, answered, fitting, modulate_step}

-- the lengths are those of n subcarriers
pub record Lengths (n symbol loads minus out : ℕ) : Type 0 where
  pub cells : symbol ≡ n
  pub each : loads ≡ n
  pub signs : minus ≡ n
  pub numbers : out ≡ 2 * n

pub lengths : (n symbol loads minus out : ℕ) → (eqb symbol n && eqb loads n && eqb minus n && eqb out (2 * n)) ≡ true → Lengths n symbol loads minus out
lengths n symbol loads minus out t =
    let three = and_left (eqb symbol n && eqb loads n && eqb minus n) (eqb out (2 * n)) t in
    let two = and_left (eqb symbol n && eqb loads n) (eqb minus n) three in
    record {
      cells = eqb-true symbol n (and_left (eqb symbol n) (eqb loads n) two);
      each = eqb-true loads n (and_right (eqb symbol n) (eqb loads n) two);
      signs = eqb-true minus n (and_right (eqb symbol n && eqb loads n) (eqb minus n) three);
      numbers = eqb-true out (2 * n) (and_right (eqb symbol n && eqb loads n && eqb minus n) (eqb out (2 * n)) t);
    }

-- nothing is refused below n
pub passed : (symbol loads : List ℕ) (k n : ℕ) → n ≤ k → ((minus : List ℕ) → when (ltb k n) k ≡ line_refusal symbol loads minus n) → lowest (unadmitted symbol loads) n ≡ None
passed symbol loads k n h w = refusal_is symbol loads [] n ∙ sym (w []) ∙ ap (λ (b : Bool). when b k) (le-ltb k n h)

module _ (symbol loads minus : List ℕ) (d : Device) (l : List Float) where
  -- 17
  pub unfit : fitting symbol loads minus d l ≡ false → modulates (refused_point (refusal 17 0) 0) l ≡ modulate_step symbol loads minus d l
  unfolding modulate_step
  unfit f = rw f refl

  -- 22 and 23
  pub refuses : (k n : ℕ) → fitting symbol loads minus d l ≡ true → n ≡ d.subcarriers → k < n → when (ltb k n) k ≡ line_refusal symbol loads minus n
      → modulates (refused_at k (line_at symbol loads minus k)) l ≡ modulate_step symbol loads minus d l
  unfolding modulate_step
  refuses k n f e h w =
      rw f
      (ap (λ (o : Option ℕ). answered symbol loads minus d.subcarriers o l)
      (ap (λ (b : Bool). when b k) (sym (lt-ltb k n h)) ∙ w ∙ ap (line_refusal symbol loads minus) e))

  -- no refusal
  pub modulated : (k n : ℕ) → fitting symbol loads minus d l ≡ true → n ≡ d.subcarriers → n ≤ k → when (ltb k n) k ≡ line_refusal symbol loads minus n
      → modulates (Ok tt) (filled_to symbol loads minus n l) ≡ modulate_step symbol loads minus d l
  unfolding modulate_step
  modulated k n f e h w =
      ap (λ (m : ℕ). modulates (Ok tt) (filled_to symbol loads minus m l)) e
      ∙ rw f
      (ap (λ (o : Option ℕ). answered symbol loads minus d.subcarriers o l)
      (ap (λ (b : Bool). when b k) (sym (le-ltb k n h)) ∙ w ∙ ap (line_refusal symbol loads minus) e))
