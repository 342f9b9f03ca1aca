-- `byteflushes::put_placeholder` meets its contract. Assumes nothing.
use Prim.Native.Nat.{◌+◌}
use mathlib.Core.Path.{sym, ◌∙◌}
use mathlib.Core.List.{[], ◌∷◌}
use borrow.Author.Tests.{lt-ltb, le-ltb}
use Rattle.rules.specs.Frame.{placeholder}
use Rattle.flushes.specs.Placeholders.{with_placeholder}
use Rattle.bytecells.proofs.OctetLaws.{put_bytes}
use Rattle.byteflushes.proofs.put_placeholder.Goals as goal

pub returns-then-i-delay : goal.returns-then-i-delay
unfolding with_placeholder
returns-then-i-delay c =
    let g = c in
    let a = g.args in
    rw (lt-ltb _ _ c.if-i-delay.true) (c.write_cells.ensures ∙ put_bytes a.store.now (a.at + a.i) (placeholder ∷ []) g.requires.0)

pub returns-else-i-delay : goal.returns-else-i-delay
unfolding with_placeholder
returns-else-i-delay c = rw (le-ltb _ _ c.if-i-delay.false) (sym c.requires.0)
