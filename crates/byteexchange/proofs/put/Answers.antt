-- `byteexchange::put` meets its contract. Assumes nothing.
use native.Mathlib.Omega.{arith}
use lib.ListN.{length-set}
use Rattle.byteexchange.proofs.Puts.{put_cell}
use Rattle.byteexchange.proofs.put.Goals as goal

pub bounds-store-i-2 : goal.bounds-store-i-2
bounds-store-i-2 c = simp length-set (omega arith)

pub returns : goal.returns
returns c =
    let a = c.args in
    rw (c.high_byte.ensures, c.low_byte.ensures) (put_cell a.store.now a.i a.x c.requires.0)
