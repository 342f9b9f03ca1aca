-- `profiles::limit_of` meets its contract. Assumes nothing.
use Prim.Native.Nat.{◌<◌}
use native.Mathlib.Omega.{arith}
use Rattle.counting.specs.Search.{tabulate}
use Rattle.counting.proofs.Lists.{get_d_tabulate}
use Rattle.rules.specs.Loads.{point_load, load_limit}
use Rattle.profiles.proofs.limit_of.Goals as goal

pub returns : goal.returns
unfolding tabulate load_limit point_load
returns c = let l : c.load_index.result < 15 = omega (arith, c.requires) in rw c.load_index.ensures (get_d_tabulate load_limit 15 0 c.args.load (omega (arith, c.requires)))
