-- Grounds 6 and 7 from the first active or excluded subcarrier of a stretch. Assumes nothing.
use Prim.Native.Nat.{ℕ, ◌+◌, ◌-◌, ◌≤◌, ◌<◌}
use mathlib.Core.Path.{◌≡◌, sym, ap, ap₂, ◌∙◌}
use mathlib.Core.Logic.{◌⊎◌, inl, inr}
use mathlib.Core.Bool.{Bool, true, false, not, ◌&&◌, ◌||◌, true≢false}
use Rattle.std.specs.Prelude.{Some, None}
use native.Mathlib.Omega.{arith}
use lib.Dec.{ltb, leb}
use borrow.Author.Tests.{lt-ltb, le-ltb, le-leb, lt-leb}
use Rattle.counting.proofs.Laws.{lowest_none, none_lowest}
use Rattle.counting.proofs.Searches.{lowest_at}
use Rattle.counting.proofs.Bools.{Less, decide, decide_bool, and_false}
use Rattle.rules.specs.declared.Device.{Device}
use Rattle.rules.specs.Plan.{Plan}
use Rattle.rules.specs.Bands.{excluded, active}
use Rattle.rules.specs.Grounds.{outside, around_plc}
use Rattle.rules.specs.Fits.{Fits}
use Rattle.marks.specs.Stages.{FirstOf, Free}

module _ (d : Device) (p : Plan) (fits : Fits d) where
  -- k is active outside the range of active subcarriers
  abbrev out : ℕ → Bool
  out k = active d p k && (ltb k d.low_active || ltb d.high_active k)

  idle : (k : ℕ) → excluded p k ≡ true → out k ≡ false
  unfolding active
  idle k e = ap (λ (b : Bool). (ltb k d.subcarriers && not b) && (ltb k d.low_active || ltb d.high_active k)) e
      ∙ ap (λ (b : Bool). b && (ltb k d.low_active || ltb d.high_active k)) (and_false (ltb k d.subcarriers))

  inside : (k : ℕ) → d.low_active ≤ k → k ≤ d.high_active → out k ≡ false
  inside k a b = ap₂ (λ (x y : Bool). active d p k && (x || y)) (le-ltb k d.low_active a) (le-ltb d.high_active k b) ∙ and_false (active d p k)

  here : (k : ℕ) → k < d.subcarriers → excluded p k ≡ false → (ltb k d.low_active || ltb d.high_active k) ≡ true → out k ≡ true
  unfolding active
  here k h e t = ap₂ (λ (b c : Bool). (b && not c) && (ltb k d.low_active || ltb d.high_active k)) (lt-ltb k d.subcarriers h) e ∙ t

  pub six_low : (k : ℕ) → FirstOf false (excluded p) 0 d.low_active k → k < d.low_active → Some k ≡ outside d p
  unfolding outside
  six_low k f l =
      let w : k < d.subcarriers = omega (arith, fits.rise, fits.top) in
      sym (lowest_at out k d.subcarriers w (here k w (f.some l) (ap (λ (b : Bool). b || ltb d.high_active k) (lt-ltb k d.low_active l))) (λ i a b. idle i (f.none i a b)))

  module _ (k : ℕ) (f : FirstOf false (excluded p) 0 d.low_active k) (l : d.low_active ≤ k) (j : ℕ) (g : FirstOf false (excluded p) (d.high_active + 1) d.subcarriers j) where
    below : (i : ℕ) → i < j → out i ≡ false
    below i h = go (decide i d.low_active) (decide d.high_active i)
      where
        go : Less i d.low_active → Less d.high_active i → out i ≡ false
        go (inl (a, _)) _ = idle i (f.none i (omega arith) (omega arith))
        go (inr (a, _)) (inr (b, _)) = inside i a b
        go (inr (a, _)) (inl (b, _)) = idle i (g.none i (omega arith) h)

    pub six_high : j < d.subcarriers → Some j ≡ outside d p
    unfolding outside
    six_high h =
        sym (lowest_at out j d.subcarriers h
        (here j h (g.some h) (ap₂ (λ (x y : Bool). x || y) (le-ltb j d.low_active (omega (arith, g.low, fits.rise))) (lt-ltb d.high_active j (omega (arith, g.low)))))
        (λ i a b. below i b))

    pub six_none : d.subcarriers ≤ j → None ≡ outside d p
    unfolding outside
    six_none h = sym (none_lowest out d.subcarriers (λ i b. below i (omega arith)))

-- k is excluded around the PLC
abbrev near : Device → Plan → ℕ → Bool
near d p k = excluded p k && leb p.plc (k + d.plc_margin) && ltb k (p.plc + d.plc_width + d.plc_margin)

module _ (d : Device) (p : Plan) (fits : Fits d) (l : ℕ) (plc : l ≡ p.plc) (low : d.low_plc ≤ l) (high : l ≤ d.high_plc) (r : ℕ)
    (f : FirstOf true (excluded p) (l - d.plc_margin) (l + d.plc_width + d.plc_margin) r) where
  clear : (k : ℕ) → (k < r) ⊎ (l + d.plc_width + d.plc_margin ≤ r) → near d p k ≡ false
  clear k = go (decide k (l - d.plc_margin)) (decide k (l + d.plc_width + d.plc_margin))
    where
      active_here : excluded p k ≡ false → near d p k ≡ false
      active_here e = ap (λ (x : Bool). x && leb p.plc (k + d.plc_margin) && ltb k (p.plc + d.plc_width + d.plc_margin)) e

      go : Less k (l - d.plc_margin) → Less k (l + d.plc_width + d.plc_margin) → (k < r) ⊎ (l + d.plc_width + d.plc_margin ≤ r) → near d p k ≡ false
      go (inl (a, _)) _ _ =
          ap (λ (x : Bool). (excluded p k && x) && ltb k (p.plc + d.plc_width + d.plc_margin)) (lt-leb p.plc (k + d.plc_margin) (omega arith))
          ∙ ap (λ (x : Bool). x && ltb k (p.plc + d.plc_width + d.plc_margin)) (and_false (excluded p k))
      go (inr (a, _)) (inl (b, _)) (inl h) = active_here (f.none k a h)
      go (inr (a, _)) (inl (b, _)) (inr h) = active_here (f.none k a (omega arith))
      go (inr (a, _)) (inr (b, _)) _ =
          ap (λ (x : Bool). (excluded p k && leb p.plc (k + d.plc_margin)) && x) (le-ltb k (p.plc + d.plc_width + d.plc_margin) (omega arith))
          ∙ and_false (excluded p k && leb p.plc (k + d.plc_margin))

  pub seven_some : r < l + d.plc_width + d.plc_margin → Some r ≡ around_plc d p
  unfolding around_plc
  seven_some h =
      sym (lowest_at (near d p) r d.subcarriers (omega (arith, fits.plc_high))
      (ap₂ (λ (x y : Bool). x && y && ltb r (p.plc + d.plc_width + d.plc_margin)) (f.some h) (le-leb p.plc (r + d.plc_margin) (omega (arith, f.low))) ∙ lt-ltb r (p.plc + d.plc_width + d.plc_margin) (omega arith))
      (λ k _ u. clear k (inl u)))

  pub seven_none : l + d.plc_width + d.plc_margin ≤ r → None ≡ around_plc d p
  unfolding around_plc
  seven_none h = sym (none_lowest (near d p) d.subcarriers (λ k u. clear k (inr h)))

-- no subcarrier around the PLC is excluded, where ground 7 does not hold
pub around_active : (d : Device) (p : Plan) (l : ℕ) → Free d p l → (k : ℕ) → l ≤ k + d.plc_margin → k < l + d.plc_width + d.plc_margin → excluded p k ≡ false
unfolding around_plc
around_active d p l w k a b = go (decide_bool (excluded p k))
  where
    in_range : k < d.subcarriers
    in_range = omega (arith, w.high, w.fits.plc_high)

    go : (excluded p k ≡ true) ⊎ (excluded p k ≡ false) → excluded p k ≡ false
    go (inr e) = e
    go (inl e) =
        absurd (true≢false (sym (λ j. (e j && le-leb p.plc (k + d.plc_margin) (omega (arith, w.plc)) j) && lt-ltb k (p.plc + d.plc_width + d.plc_margin) (omega (arith, w.plc)) j)
        ∙ lowest_none (near d p) d.subcarriers (sym w.around) k in_range))
