-- Few subcarriers have no rank: those excluded, the PLC, and the pilots. Assumes nothing.
use Prim.Native.Nat.{ℕ, ◌+◌, ◌*◌, ◌-◌, ◌≤◌, ◌<◌}
use mathlib.Core.Path.{◌≡◌, refl, ap₂}
use mathlib.Core.Bool.{Bool, true, false, not, ◌&&◌, ◌||◌}
use mathlib.Core.List.{List, [], ◌∷◌, map, reverse}
use native.Mathlib.Omega.{arith}
use lib.ListN.{length, length-append, length-map, length-reverse}
use borrow.Author.Tests.{lt-ltb}
use Rattle.counting.specs.Search.{bit, count}
use Rattle.counting.proofs.Sums.{sum_le, sum_add}
use Rattle.rules.specs.declared.Device.{Device}
use Rattle.rules.specs.Plan.{Entry, Plan}
use Rattle.rules.specs.Bands.{any, excluded, active, excluded_in}
use Rattle.rules.specs.Roles.{one_of, predefined, names, in_plc, continuous, ranked}
use Rattle.counting.proofs.Bools.{eqb_sym}
use Rattle.facts.proofs.Few.{count_members, count_range}

-- the numbers that kind 3 records name
abbrev pub lows : List Entry → List ℕ
lows es = map (λ (e : Entry). e.low) es

pub any_names : (k : ℕ) (es : List Entry) → any (names k) es ≡ one_of k (lows es)
unfolding any one_of
any_names k [] = refl
any_names k (e ∷ es) = ap₂ ◌||◌ (eqb_sym e.low k) (any_names k es)

module _ (d : Device) (p : Plan) where
  length_predefined : length (predefined d p.plc) ≡ 2 * length d.distances
  unfolding predefined
  length_predefined =
      let below : ℕ → ℕ = λ x. p.plc - x in
      let above : ℕ → ℕ = λ x. p.plc + d.plc_width - 1 + x in
      omega (arith, length-append (map below (reverse d.distances)) (map above d.distances), length-map (reverse d.distances) below, length-reverse d.distances, length-map d.distances above)

  -- a subcarrier without a rank is excluded, of the PLC, or a pilot
  not_ranked : (k : ℕ) → k < d.subcarriers → bit (not (ranked d p k)) ≤ bit (excluded p k) + (bit (in_plc d p k) + (bit (one_of k (predefined d p.plc)) + bit (one_of k (lows p.pilots))))
  unfolding ranked active continuous
  not_ranked k l = rw (lt-ltb k d.subcarriers l, any_names k p.pilots) (go (excluded p k) (in_plc d p k) (one_of k (predefined d p.plc)) (one_of k (lows p.pilots)))
    where
      go : (x y z w : Bool) → bit (not (((true && not x) && not y) && not (z || w))) ≤ bit x + (bit y + (bit z + bit w))
      go true y z w = omega arith
      go false true z w = omega arith
      go false false true w = omega arith
      go false false false true = omega arith
      go false false false false = omega arith

  -- at most so many of n subcarriers from a on have no rank
  pub few_unranked : (a n : ℕ) → a + n ≤ d.subcarriers
      → count (λ i. not (ranked d p (a + i))) n ≤ excluded_in p a n + d.plc_width + 2 * length d.distances + length p.pilots
  unfolding count excluded_in in_plc
  few_unranked a n h =
      let pre : List ℕ = predefined d p.plc in
      let further : List ℕ = lows p.pilots in
      omega (
        arith,
        sum_le (λ i. bit (not (ranked d p (a + i)))) (λ i. bit (excluded p (a + i)) + (bit (in_plc d p (a + i)) + (bit (one_of (a + i) pre) + bit (one_of (a + i) further)))) n (λ i l. not_ranked (a + i) (omega arith)),
        sum_add (λ i. bit (excluded p (a + i))) (λ i. bit (in_plc d p (a + i)) + (bit (one_of (a + i) pre) + bit (one_of (a + i) further))) n,
        sum_add (λ i. bit (in_plc d p (a + i))) (λ i. bit (one_of (a + i) pre) + bit (one_of (a + i) further)) n,
        sum_add (λ i. bit (one_of (a + i) pre)) (λ i. bit (one_of (a + i) further)) n,
        count_range p.plc d.plc_width a n,
        count_members pre a n,
        count_members further a n,
        length_predefined,
        length-map p.pilots (λ (e : Entry). e.low),
      )
