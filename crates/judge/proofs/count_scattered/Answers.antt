-- `judge::count_scattered` meets its contract: n is the count below k, and k is at the phase. Assumes nothing.
use mathlib.Core.Path.{◌≡◌, refl, sym, ap, ◌∙◌}
use mathlib.Core.Bool.{Bool, true, false}
use Prim.Native.Nat.{ℕ, ◌+◌, ◌%◌}
use native.Mathlib.Omega.{arith}
use lib.Dec.{eqb}
use lib.ListN.{get_or}
use Rattle.std.specs.Int.{from_bool}
use Rattle.counting.specs.Search.{bit}
use Rattle.counting.proofs.Laws.{bit_le}
use Rattle.rules.specs.Plan.{plan_of}
use Rattle.marks.proofs.Marks.{zero_ranked}
use Rattle.judge.proofs.Counts.{Counted, counted_start, counted_on, counted_few, all_counted}
use Rattle.judge.proofs.count_scattered.Goals as goal
use Rattle.judge.proofs.count_scattered.Goals.{After-from-n}

as_bit : (b : Bool) → from_bool b ≡ bit b
as_bit true = refl
as_bit false = refl

pub loop-k-init : goal.loop-k-init
loop-k-init c =
    let d = c.args.d in
    counted_start d (plan_of c.args.plan.now) c.args.j _ (ap (λ (x : ℕ). (x + d.plc_width + c.args.j) % 128) c.requires.2)

pub overflow_add-n : goal.overflow_add-n
overflow_add-n c =
    let b = eqb (get_or c.args.m.now c.loop-k.k 0) 0 in
    omega (arith, counted_few _ _ _ _ _ c.loop-k.invariant, c.requires.0.few, c.from-n.ensures, as_bit b, bit_le b)

-- one turn
turned : (c : After-from-n) → Counted c.args.d (plan_of c.args.plan.now) c.args.j (c.loop-k.n + c.from-n.result) (c.loop-k.k + 128)
turned c =
    let a = c.args in
    let l = c.loop-k in
    let b = eqb (get_or a.m.now l.k 0) 0 in
    counted_on a.d (plan_of a.plan.now) a.j l.n l.k _ l.invariant c.loop-k-test.true b
    (sym (zero_ranked a.d (plan_of a.plan.now) a.m.now c.requires.1.marked l.k c.loop-k-test.true)) (ap (λ (x : ℕ). l.n + x) (c.from-n.ensures ∙ as_bit b))

pub loop-k-preserved : goal.loop-k-preserved
loop-k-preserved c = turned (goal.at.loop-k-preserved c).After-from-n

pub returns : goal.returns
returns c = c.loop-k.invariant.total ∙ all_counted c.args.d (plan_of c.args.plan.now) c.args.j c.loop-k.k c.loop-k-test.false

-- the next step would pass the last subcarrier
pub returns-2 : goal.returns-2
returns-2 c =
    (turned (goal.at.returns-2 c).After-from-n).total ∙ all_counted c.args.d (plan_of c.args.plan.now) c.args.j (c.loop-k.k + 128) (omega arith)
