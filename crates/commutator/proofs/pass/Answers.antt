-- `commutator::pass` meets its contract: the store and the cells are those of the figure. The cells of q turns have gone in. Assumes nothing.
use Prim.Native.Nat.{ℕ, ◌≤◌}
use mathlib.Core.Path.{ap}
use native.Mathlib.Omega.{arith}
use lib.ListN.{length}
use Rattle.figure.specs.Figure.{line_begins}
use Rattle.commutator.proofs.Rounds.{gone_none, gone_all}
use Rattle.commutator.proofs.Symbols.{symbol_is}
use Rattle.commutator.proofs.pass.Goals as goal
use Rattle.commutator.proofs.pass.Goals.{At-loop-q}

-- the lines lie within the store
fits : (c : At-loop-q) → line_begins c.ceiling-j.result c.args.m ≤ length c.loop-q.store
fits c = omega (arith, ap (λ (k : ℕ). line_begins k c.args.m) c.ceiling-j.ensures.0, c.requires.3, c.loop-q.invariant.places)

pub loop-q-init : goal.loop-q-init
loop-q-init c = gone_none _ _ _ _

pub turn-requires : goal.turn-requires
turn-requires c = (c.requires.0, c.requires.1, c.ceiling-j.ensures.1, c.loop-q-test.true, fits (goal.at.turn-requires c).At-loop-q)

pub loop-q-preserved : goal.loop-q-preserved
loop-q-preserved c = c.turn.ensures _ _ c.loop-q.invariant

pub rotate_lines-requires : goal.rotate_lines-requires
rotate_lines-requires c = (c.requires.0, c.requires.1, c.ceiling-j.ensures.1, fits (goal.at.rotate_lines-requires c).At-loop-q)

pub returns : goal.returns
returns c =
    let a = c.args in
    let j = c.ceiling-j in
    let l = c.loop-q in
    let gone = gone_all j.result a.m a.store.now a.cells.now l.q l.store l.cells (omega arith) c.loop-q-test.false l.invariant in
    let is = symbol_is a.m j.result c.requires.0 a.store.now a.cells.now _ _ _ j.ensures.0 c.requires.3 gone c.rotate_lines.ensures in
    record { stored = is.0; sent = is.1 }
