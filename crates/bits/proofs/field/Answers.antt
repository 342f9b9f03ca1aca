-- `bits::field` meets its contract. A shift to the right divides, `1 << l` is 2 ^ l. Assumes nothing.
use Prim.Native.Nat.{◌/◌, ◌^◌}
use mathlib.Core.Path.{refl}
use native.Mathlib.Omega.{arith}
use Rattle.bits.proofs.Windows.{one_shl, mod_small}
use Rattle.bits.proofs.field.Goals as goal

pub overflow_cast-result-3 : goal.overflow_cast-result-3
overflow_cast-result-3 c = rw (one_shl c.args.l 64 (omega arith)) (record { fits = omega (arith, mod_small (c.args.w / 2 ^ c.args.o) c.args.l 14 c.requires.1) })

pub returns : goal.returns
returns c = rw (one_shl c.args.l 64 (omega arith)) refl
