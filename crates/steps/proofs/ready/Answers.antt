-- `steps::ready` meets its contract: grounds 16 and 17, or what the cells make of the plan. Assumes nothing.
use Prim.Native.Nat.{ℕ}
use mathlib.Core.Path.{◌≡◌, sym, ap, ◌∙◌}
use mathlib.Core.List.{List}
use native.Mathlib.Omega.{arith}
use lib.ListN.{length, replicate, length-replicate}
use Rattle.std.specs.Prelude.{Ok}
use Rattle.rules.specs.Plan.{plan_of}
use Rattle.rules.specs.Grounds.{◌else◌}
use Rattle.rules.specs.Frame.{frame_of}
use Rattle.rules.specs.Steps.{ground16, ground17}
use Rattle.rules.proofs.Findings.{passed_on}
use Rattle.spots.proofs.Frames.{data_le}
use Rattle.steps.proofs.Accepted.{cells_low}
use Rattle.steps.proofs.Lent.{lent, count_ready, refused_ready}
use Rattle.steps.proofs.ready.Goals as goal
use Rattle.steps.proofs.ready.Goals.{In_ok-lent_grounds}

-- neither ground 16 nor 17 holds, for a store and a symbol of these lengths
passed : (c : In_ok-lent_grounds) (s y : List ℕ) → length s ≡ c.args.places → length y ≡ c.args.width
    → Ok tt ≡ (ground16 (frame_of c.args.d (plan_of c.args.plan.now)) c.args.phase else ground17 (frame_of c.args.d (plan_of c.args.plan.now)) c.args.need s y)
passed c s y es ey = sym c.in_ok-lent_grounds.was ∙ c.lent_grounds.ensures s y es ey

pub returns-in_err-lent_grounds : goal.returns-in_err-lent_grounds
returns-in_err-lent_grounds c =
    rw (passed_on _ c.from_residual.ensures)
    (record { answer = λ s y es ey. refused_ready (frame_of c.args.d (plan_of c.args.plan.now)) c.args.phase c.args.need s y c.args.j _ _ (sym c.in_err-lent_grounds.was ∙ c.lent_grounds.ensures s y es ey); made = tt })

pub prepare-nd-requires : goal.prepare-nd-requires
unfolding frame_of
prepare-nd-requires c =
    let a = c.args in
    let r = c.requires.0 in
    let m = c.requires.1 in
    let s : List ℕ = replicate a.places 0 in
    let y : List ℕ = replicate a.width 0 in
    let w = lent (frame_of c.args.d (plan_of c.args.plan.now)) a.phase a.need s y (passed (goal.at.prepare-nd-requires c).In_ok-lent_grounds s y (length-replicate a.places 0) (length-replicate a.width 0)) in
    (r.fits, r.studied, m, omega (arith, m, r.deep), omega (arith, m, r.shallow), c.requires.2 w.phase_in, c.requires.3, r.all, omega (arith, c.requires.4))

pub overflow_cast-result : goal.overflow_cast-result
overflow_cast-result c =
    record { fits = omega (arith, c.prepare-nd.ensures.number, data_le (frame_of c.args.d (plan_of c.args.plan.now)) c.args.j, cells_low c.args.d (plan_of c.args.plan.now) c.requires.0.fits) }

pub returns : goal.returns
returns c =
    let a = c.args in
    let all = c.requires.0.all in record {
      answer = λ s y es ey. ap Ok c.prepare-nd.ensures.number ∙ count_ready (frame_of c.args.d (plan_of c.args.plan.now)) a.phase a.need s y a.j (passed (goal.at.returns c).In_ok-lent_grounds s y es ey);
      made = record {
        ranks = λ i h. c.prepare-nd.ensures.ranks i (omega (arith, h, all));
        spots = λ p h. c.prepare-nd.ensures.spots p (omega (arith, h, all));
        flags = λ p h. c.prepare-nd.ensures.flags p (omega (arith, h, all));
      };
    }
