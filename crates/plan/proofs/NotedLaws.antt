-- What a chain with no ground says of its records, and what the walk leaves: grounds 1 to 5 from those of the chain, and the filled tables. Assumes nothing.
use mathlib.Core.Path.{◌≡◌, refl, sym, ap, ◌∙◌}
use mathlib.Core.Bool.{Bool, true, false}
use mathlib.Core.List.{List, [], ◌∷◌, map}
use Prim.Native.Nat.{ℕ, zero, suc, ◌+◌, ◌/◌, ◌≤◌, ◌<◌}
use native.Mathlib.Nat.{le_of_suc-le-suc}
use native.Mathlib.Omega.{arith}
use lib.ListN.{length, get_or, take}
use lib.Seq.{get_or-take, length-take-le}
use Rattle.counting.specs.Search.{bit, when}
use Rattle.counting.proofs.Bools.{or_false}
use Rattle.counting.proofs.Lists.{append-nil}
use Rattle.rules.specs.declared.Device.{Device}
use Rattle.rules.specs.Refusals.{Finding, refused_by}
use Rattle.std.specs.Prelude.{Ok}
use Rattle.rules.specs.Plan.{Entry, number, entry, leads, chain, chain_from, only, is_plc, is_pilot, plan_of}
use Rattle.rules.specs.Bands.{any, excluded}
use Rattle.rules.specs.Grounds.{◌else◌, ground?, bad_length, pilots_max, record_grounds, chain_grounds, grounds1to5}
use Rattle.ranges.specs.Reach.{hit}
use Rattle.rules.proofs.Findings.{both_fine}
use Rattle.records.proofs.RecordLaws.{length_fine, fine_first, fine_plc, fine_depth, fine_few, fine_pilot}
use Rattle.plan.specs.Noted.{Noted}
use Rattle.plan.specs.Walk.{Left}

-- ground 1, and past it
pub bad_length_lem : (d : Device) (s : List ℕ) → bad_length s ≡ true → refused_by 1 0 ≡ grounds1to5 d s
unfolding grounds1to5
bad_length_lem d s e = sym (ap (λ (b : Bool). ground? 1 (when b 0) else chain_grounds d (length s / 8) 0 (chain s)) e)

pub good_length : (d : Device) (s : List ℕ) {g : Finding} → bad_length s ≡ false → chain_grounds d (length s / 8) 0 (chain s) ≡ g → g ≡ grounds1to5 d s
unfolding grounds1to5
good_length d s e h = sym (ap (λ (b : Bool). ground? 1 (when b 0) else chain_grounds d (length s / 8) 0 (chain s)) e ∙ h)

module _ (d : Device) where
  -- record 0 of a chain with no ground is of kind 1, and no ground holds in it
  pub first_fine : (s : List ℕ) (r : ℕ) → 0 < r → chain_grounds d r 0 (chain_from s r r 0) ≡ Ok tt → (record_grounds d r 0 (entry s 0) ≡ Ok tt) × (is_plc (entry s 0) ≡ true)
  unfolding chain_grounds chain_from entry
  first_fine s zero l f = absurd (omega arith)
  first_fine s (suc r) l f =
      let g : record_grounds d (suc r) 0 (entry s 0) ≡ Ok tt =
      (both_fine (record_grounds d (suc r) 0 (entry s 0)) (chain_grounds d (suc r) (0 + bit (is_pilot (entry s 0))) (elim (leads (suc r) 0 (entry s 0).next) [ true ↦ chain_from s (suc r) r (entry s 0).next | false ↦ [] ])) f).0 in
      (g, fine_first d (suc r) 0 (entry s 0) g refl)

  -- the PLC of a chain with no ground
  pub plc_in : (s : List ℕ) (r : ℕ) → 0 < r → chain_grounds d r 0 (chain_from s r r 0) ≡ Ok tt → (d.low_plc ≤ number s 4) × (number s 4 ≤ d.high_plc)
  unfolding entry
  plc_in s r l f = let g = first_fine s r l f in fine_plc d r 0 (entry s 0) g.0 g.1

  -- the depth of a chain with no ground
  pub depth_in : (s : List ℕ) (r : ℕ) → 0 < r → chain_grounds d r 0 (chain_from s r r 0) ≡ Ok tt → (0 < number s 6) × (number s 6 ≤ d.depth_max)
  unfolding entry
  depth_in s r l f = let g = first_fine s r l f in fine_depth d r 0 (entry s 0) g.0 g.1

  -- after n pilots, a chain with no ground has no more than are allowed
  pub pilots_few : (r n : ℕ) (es : List Entry) → chain_grounds d r n es ≡ Ok tt → n ≤ pilots_max → n + length (only is_pilot es) ≤ pilots_max
  unfolding chain_grounds only
  pilots_few r n [] f l = omega arith
  pilots_few r n (e ∷ es) f l =
      let two = both_fine (record_grounds d r n e) (chain_grounds d r (n + bit (is_pilot e)) es) f in
      go (is_pilot e) (pilots_few r (n + bit (is_pilot e)) es two.1 (fine_few d r n e two.0 l))
    where
      go : (t : Bool) → n + bit t + length (only is_pilot es) ≤ pilots_max → n + length {A = Entry} (elim t [ true ↦ e ∷ only is_pilot es | false ↦ only is_pilot es ]) ≤ pilots_max
      go true h = omega arith
      go false h = omega arith

  -- the pilots of a chain with no ground
  pub pilots_in : (r n : ℕ) (es : List Entry) → chain_grounds d r n es ≡ Ok tt → (q : ℕ) → q < length (map (λ (e : Entry). e.low) (only is_pilot es)) → get_or (map (λ (e : Entry). e.low) (only is_pilot es)) q 0 < d.subcarriers
  unfolding chain_grounds only
  pilots_in r n [] f q l = absurd (omega arith)
  pilots_in r n (e ∷ es) f q l =
      let two = both_fine (record_grounds d r n e) (chain_grounds d r (n + bit (is_pilot e)) es) f in
      go (is_pilot e) refl two.0 (pilots_in r (n + bit (is_pilot e)) es two.1) q l
    where
      lows : List Entry → List ℕ
      lows xs = map (λ (x : Entry). x.low) xs

      go : (t : Bool) → is_pilot e ≡ t → record_grounds d r n e ≡ Ok tt → ((q : ℕ) → q < length (lows (only is_pilot es)) → get_or (lows (only is_pilot es)) q 0 < d.subcarriers)
          → (q : ℕ) → q < length (lows (elim t [ true ↦ e ∷ only is_pilot es | false ↦ only is_pilot es ])) → get_or (lows (elim t [ true ↦ e ∷ only is_pilot es | false ↦ only is_pilot es ])) q 0 < d.subcarriers
      go false k g below q l = below q l
      go true k g below zero l = fine_pilot d r n e g k
      go true k g below (suc q) l = below q (le_of_suc-le-suc l)

  -- the whole chain has been walked
  module _ {s : List ℕ} {np : ℕ} {reach hot pil rec : List ℕ} (w : Left d s (length s / 8) np reach hot pil rec []) where
    pub left_fine : chain_grounds d (length s / 8) 0 (chain s) ≡ Ok tt
    unfolding chain_grounds
    left_fine = w.finding

    nums : map (λ (e : Entry). e.low) (only is_pilot (chain s)) ≡ take np pil
    unfolding only
    nums = w.nums ∙ append-nil (take np pil)

    pub noted : bad_length s ≡ false → Noted d s np reach hot pil rec
    unfolding plan_of excluded only any chain
    noted b =
        let size = length_fine s b in
        let plc = plc_in s (length s / 8) (omega (arith, size.some)) left_fine in
        record {
          long = size.some;
          table = w.table;
          flags = w.flags;
          covered = λ k l. sym (w.covered k l ∙ or_false (hit reach k));
          nums = nums;
          recs = w.recs ∙ append-nil (take np rec);
          below = below;
          few = w.few;
          lp = w.lp;
          lr = w.lr;
          plc_low = plc.0;
          plc_high = plc.1;
        }
      where
        below : (q : ℕ) → q < np → get_or pil q 0 < d.subcarriers
        below q l =
            let same : get_or (map (λ (e : Entry). e.low) (only is_pilot (chain s))) q 0 ≡ get_or pil q 0 = ap (λ (x : List ℕ). get_or x q 0) nums ∙ get_or-take np pil q 0 l in
            let long : length (map (λ (e : Entry). e.low) (only is_pilot (chain s))) ≡ np = ap length nums ∙ length-take-le np pil (omega (arith, w.few, w.lp)) in
            omega (arith, pilots_in (length s / 8) 0 (chain s) left_fine q (omega arith))
