-- `byteemitter::some_halved` meets its contract. Assumes nothing.
use mathlib.Core.Path.{refl, sym, ap, ◌∙◌}
use mathlib.Core.Bool.{Bool, true, ◌||◌}
use Rattle.counting.proofs.Bools.{conflict}
use Rattle.bytecells.specs.Octets.{odd}
use Rattle.byteemitter.proofs.some_halved.Goals as goal

pub returns-then-halved : goal.returns-then-halved
returns-then-halved c =
    let g = c in
    let odd-store = sym c.halved.ensures.0 ∙ c.if-halved.true in
    (sym (ap (λ (t : Bool). t || odd g.args.input.now || odd g.args.symbol.now) odd-store), λ e. absurd (conflict true refl e))

pub returns-then-halved-2 : goal.returns-then-halved-2
returns-then-halved-2 c =
    let g = c in
    let even_store = sym c.halved.ensures.0 ∙ c.if-halved.false in
    let odd-input = sym c.halved-2.ensures.0 ∙ c.if-halved-2.true in
    (sym (λ i. even_store i || odd-input i || odd g.args.symbol.now), λ e. absurd (conflict true refl e))

pub returns : goal.returns
returns c =
    let g = c in
    let w = c.halved in
    let v = c.halved-2 in
    let u = c.halved-3 in
    let even_store = sym w.ensures.0 ∙ c.if-halved.false in
    let even_input = sym v.ensures.0 ∙ c.if-halved-2.false in (
      u.ensures.0 ∙ sym (λ i. even_store i || even_input i || odd g.args.symbol.now),
      λ e. (w.ensures.1 c.if-halved.false, v.ensures.1 c.if-halved-2.false, u.ensures.1 e),
    )
