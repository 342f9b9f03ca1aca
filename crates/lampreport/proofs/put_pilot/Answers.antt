-- `lampreport::put_pilot` meets its contract. Assumes nothing.
use Prim.Native.Nat.{◌≤◌}
use mathlib.Core.Path.{◌≡◌, ap, ap₂, ◌∙◌}
use mathlib.Core.List.{◌++◌}
use native.Mathlib.Omega.{arith}
use lib.ListN.{length, take}
use Rattle.text.specs.Text.{decimal}
use Rattle.text.proofs.Decimals.{fewest_decimal, decimal_short}
use Rattle.lampreport.proofs.Lines.{spaced_one}
use Rattle.lampreport.proofs.put_pilot.Goals as goal
use Rattle.lampreport.proofs.put_pilot.Goals.{After-decimal-n}

-- the digits made are the number's text
made : (c : After-decimal-n) → take c.decimal-n.result c.decimal-n.new.out ≡ decimal c.args.k
made c = let k = c.args.k in c.decimal-n.ensures.digits ∙ fewest_decimal k c.decimal-n.result c.decimal-n.ensures.len

-- up to ten
few : (c : After-decimal-n) → length (take c.decimal-n.result c.decimal-n.new.out) ≤ 10
few c = let s = c in omega (arith, ap length (made c), decimal_short s.args.k (omega (arith, s.ranges.k)))

pub put-requires : goal.put-requires
put-requires c =
    let s = c in
    let put = c.put-next in
    (omega (arith, few (goal.at.put-requires c).After-decimal-n, s.requires.0, put.ensures.number, put.auto.out), omega (arith, s.requires.1, put.auto.out))

pub returns : goal.returns
returns c =
    let s = c in
    let d = c in
    let put = c.put-next in
    let last = c.put in
    let digits = few (goal.at.returns c).After-decimal-n in record { number = (omega (arith, last.ensures.number, put.ensures.number), omega (arith, last.ensures.number, put.ensures.number, digits)); line = last.ensures.line ∙ ap₂ ◌++◌ put.ensures.line (made (goal.at.returns c).After-decimal-n) ∙ spaced_one (take s.args.at s.args.out.now) s.args.k }
