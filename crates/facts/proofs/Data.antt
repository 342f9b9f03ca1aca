-- N_D is at least 1 at each phase of an accepted plan: a stretch of the wide band has few subcarriers without a rank, and the phases at which
-- one input symbol is sent scatter few of the others. Assumes nothing.
use Prim.Native.Nat.{ℕ, ◌+◌, ◌*◌, ◌≤◌, ◌<◌}
use mathlib.Core.Path.{◌≡◌, sym, ap}
use mathlib.Core.List.{List}
use native.Mathlib.Nat.{add_assoc, mul-le-mul_right}
use native.Mathlib.Omega.{arith}
use Rattle.counting.specs.Search.{bit, count}
use Rattle.counting.proofs.Sums.{sum_cong}
use Rattle.rules.specs.declared.Device.{Device}
use Rattle.std.specs.Prelude.{Ok}
use Rattle.rules.specs.Device.{phases}
use Rattle.rules.specs.Plan.{Plan, plan_of}
use Rattle.rules.specs.Bands.{excluded, excluded_in}
use Rattle.rules.specs.Grounds.{grounds1to15}
use Rattle.rules.specs.Frame.{frame_of, data_count}
use Rattle.frame.proofs.Some as frame-some
use Rattle.facts.specs.Roomy.{Roomy}
use Rattle.facts.proofs.Accepted.{later_fine, depth_in, few_pilots}
use Rattle.facts.proofs.Scattered.{scattered_turns}
use Rattle.facts.proofs.Framed.{sound}
use Rattle.facts.proofs.Bands.{Wide, wide_band}
use Rattle.facts.proofs.Few.{cover}
use Rattle.facts.proofs.Unranked.{few_unranked}

-- the excluded in the stretch from the wide band's lowest subcarrier on
few_excluded : (d : Device) (p : Plan) (r : Roomy d) (w : Wide d p) → excluded_in p w.from (r.turns * phases) ≤ r.windows * d.long_max
unfolding excluded_in count
few_excluded d p r w =
    let f : ℕ → ℕ = λ i. bit (excluded p (w.from + i)) in
    cover f d.long_window d.long_max (r.turns * phases) r.inside
    (λ x h. omega (
      arith,
      sum_cong (λ i. f (x + i)) (λ i. bit (excluded p (w.from + x + i))) d.long_window (λ i l. ap (λ (k : ℕ). bit (excluded p k)) (sym (add_assoc w.from x i))),
      w.few x (omega (arith, r.wide)),
    ))
    r.windows (r.turns * phases) (omega arith) r.covered

pub some_data : (d : Device) (s : List ℕ) → Roomy d → grounds1to15 d s ≡ Ok tt → (j : ℕ) → j < phases → 1 ≤ data_count (frame_of d (plan_of s)) j
unfolding frame_of
some_data d s r fine =
    let p : Plan = plan_of s in
    let n : ℕ = r.turns * phases in
    let w : Wide d p = wide_band d p (omega (arith, r.wide, r.room)) (later_fine d s fine) in
    let fits : w.from + n ≤ d.subcarriers = omega (arith, w.below, r.wide) in
    frame-some.some_data (frame_of d p) (sound d s r.depth fine) w.from n r.turns fits (λ j l. scattered_turns d p r.turns j w.from)
    (omega (
      arith,
      few_unranked d p w.from n fits,
      few_excluded d p r w,
      few_pilots d s fine,
      mul-le-mul_right r.turns (depth_in d s fine).1,
      r.room,
    ))
