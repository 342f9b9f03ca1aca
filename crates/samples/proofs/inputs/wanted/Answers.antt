-- `samples::inputs::wanted` meets its contract. Assumes nothing.
use Prim.Native.Nat.{ℕ}
use mathlib.Core.Path.{sym, ap, ◌∙◌}
use borrow.Author.Tests.{le-leb, lt-leb}
use Rattle.samples.specs.Inputs.{data_cell}
use Rattle.samples.proofs.inputs.wanted.Goals as goal

pub returns-then-count-place : goal.returns-then-count-place
returns-then-count-place c = simp (le-leb _ _ c.if-count-place.true)

pub returns-then-is_flush : goal.returns-then-is_flush
returns-then-is_flush c = simp (lt-leb _ _ c.if-count-place.false, sym c.is_flush.ensures ∙ c.if-is_flush.true)

pub returns : goal.returns
returns c =
    simp (lt-leb _ _ c.if-count-place.false, sym c.is_flush.ensures ∙ c.if-is_flush.false)
    (c.cell.ensures ∙ ap (λ (s : ℕ). data_cell s c.args.limits.now c.args.place) c.seed.ensures)
