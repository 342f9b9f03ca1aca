-- `ranked::one_more` meets its contract. Assumes nothing.
use mathlib.Core.Path.{sym, ap, ◌∙◌}
use mathlib.Core.Bool.{Bool}
use native.Mathlib.Omega.{arith}
use Prim.Native.Nat.{◌+◌}
use borrow.Author.Tests.{eq-eqb, ne_eqb}
use Rattle.counting.specs.Search.{bit}
use Rattle.ranked.proofs.one_more.Goals as goal

pub returns-then-x-eq0 : goal.returns-then-x-eq0
returns-then-x-eq0 c = ap (λ (b : Bool). c.args.n + bit b) (sym (eq-eqb c.args.x 0 c.if-x-eq0.true))

pub returns : goal.returns
returns c = sym (ap (λ (b : Bool). c.args.n + bit b) (ne_eqb c.args.x 0 c.if-x-eq0.false) ∙ omega arith)
