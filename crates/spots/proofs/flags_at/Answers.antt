-- `spots::flags_at` meets its contract. Assumes nothing.
use Prim.Native.Nat.{ℕ, ◌+◌, ◌≤◌}
use mathlib.Core.Path.{sym, ap, subst}
use native.Mathlib.Omega.{arith}
use lib.ListN.{length}
use Rattle.counting.proofs.Laws.{count_le}
use Rattle.rules.specs.Plan.{plan_of}
use Rattle.rules.specs.Frame.{frame_of}
use Rattle.spots.proofs.Frames.{cells_le, flags_are}
use Rattle.spots.proofs.Plans.{turning_of}
use Rattle.spots.proofs.flags_at.Goals as goal

pub holders-n-requires : goal.holders-n-requires
unfolding plan_of frame_of
holders-n-requires c =
    let start = c in
    let pre = start.requires in
    let fits = pre.0 in
    (pre.4, pre.5, omega (arith, c.number_at-l.ensures.0, pre.2, pre.6, fits.plc_high, fits.few), omega (arith, pre.7, cells_le (frame_of start.args.d (plan_of start.args.plan.now)), fits.few), pre.9)

pub overflow_sub-result : goal.overflow_sub-result
overflow_sub-result c =
    let n = length c.args.kc.now in
    let few : c.holders-n.result ≤ n = subst (λ (x : ℕ). x ≤ n) (sym c.holders-n.ensures.number) (count_le _ n) in
    omega (arith, few)

pub returns : goal.returns
unfolding plan_of frame_of
returns c =
    let start = c in
    let a = start.args in
    let pre = start.requires in
    let hold = c.holders-n in
    let base = ap (λ (x : ℕ). x + a.d.plc_width) c.number_at-l.ensures.0 in
    record { flags = (flags_are (frame_of a.d (plan_of a.plan.now)) _ (turning_of a.d (plan_of a.plan.now)) a.j a.kc.now _ _ pre.3 base pre.8 pre.7 hold.new.flag hold.result hold.ensures.flags hold.ensures.number).0; number = (flags_are (frame_of a.d (plan_of a.plan.now)) _ (turning_of a.d (plan_of a.plan.now)) a.j a.kc.now _ _ pre.3 base pre.8 pre.7 hold.new.flag hold.result hold.ensures.flags hold.ensures.number).1 }
