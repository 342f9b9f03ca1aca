-- `eightbytes::put_four` meets its contract. Assumes nothing.
use Prim.Native.Nat.{◌+◌}
use mathlib.Core.Path.{refl}
use native.Mathlib.Omega.{arith}
use lib.ListN.{length-set}
use Rattle.rules.specs.Bits.{digits, stream_bits}
use Rattle.eightbytes.proofs.Puts.{put_byte}
use Rattle.eightbytes.proofs.put_four.Goals as goal

pub bounds-stream-at-2 : goal.bounds-stream-at-2
bounds-stream-at-2 c = simp length-set (omega arith)

pub bounds-stream-at-3 : goal.bounds-stream-at-3
bounds-stream-at-3 c = simp length-set (omega arith)

pub bounds-stream-at-4 : goal.bounds-stream-at-4
bounds-stream-at-4 c = simp length-set (omega arith)

pub returns : goal.returns
returns c =
    let s = stream_bits c.args.stream.now in
    let at = c.args.at in
    let v = c.args.v in
    put_byte s _ at 3 (at + 3) v _ (simp length-set (omega arith)) refl refl
    (put_byte s _ at 2 (at + 2) v _ (simp length-set (omega arith)) refl refl
    (put_byte s _ at 1 (at + 1) v _ (simp length-set (omega arith)) refl refl
    (put_byte s c.args.stream.now at 0 at v _ (omega arith) (omega arith) (omega arith) (unfold digits in refl))))
