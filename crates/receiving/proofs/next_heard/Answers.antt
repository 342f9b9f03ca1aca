-- `receiving::next_heard` meets its contract. Assumes nothing.
use Prim.Native.Nat.{ℕ, ◌+◌}
use mathlib.Core.Path.{◌≡◌, sym, ap, ◌∙◌}
use mathlib.Core.Bool.{Bool}
use native.Mathlib.Omega.{arith}
use Rattle.counting.specs.Search.{pick}
use Rattle.receiving.proofs.next_heard.Goals as goal
use Rattle.receiving.proofs.next_heard.Goals.{then-warms, else-warms}

pub overflow_add-result : goal.overflow_add-result
overflow_add-result c = let g = c in elim c.if-warms.branch [ then-warms w ↦ omega (arith, w.more-is, g.requires.0, g.requires.1) | else-warms w ↦ omega (arith, w.more-is, g.requires.0, g.requires.1) ]

pub returns : goal.returns
returns c =
    let heard = c.args.heard in
    let said = c.warms.ensures in
    elim c.if-warms.branch [ then-warms w ↦ ap (λ (k : ℕ). heard + k) w.more-is ∙ ap (λ (t : Bool). pick t (heard + 1) heard) (sym w.if-warms.true ∙ said) | else-warms w ↦ let same : heard + c.if-warms.more ≡ heard = omega (arith, w.more-is) in same ∙ ap (λ (t : Bool). pick t (heard + 1) heard) (sym w.if-warms.false ∙ said) ]
