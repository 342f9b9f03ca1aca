-- `copies::put` meets its contract. Assumes nothing.
use mathlib.Core.Path.{refl}
use native.Mathlib.Numerals.{add-one}
use native.Mathlib.Omega.{arith}
use lib.ListN.{length-set}
use Rattle.copies.proofs.put.Goals as goal

pub bounds-copy-at-2 : goal.bounds-copy-at-2
bounds-copy-at-2 c = simp length-set (omega arith)

pub returns : goal.returns
returns c = rw add-one refl
