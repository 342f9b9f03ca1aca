-- `bands::separates` meets its contract. Assumes nothing.
use mathlib.Core.Path.{sym, ap}
use mathlib.Core.Bool.{Bool, ◌||◌}
use Prim.Native.Nat.{◌+◌}
use lib.Dec.{leb}
use borrow.Author.Tests.{le-leb, lt-leb}
use Rattle.bands.proofs.separates.Goals as goal

pub returns-then-size-u : goal.returns-then-size-u
returns-then-size-u c = sym (ap (λ (b : Bool). b || leb (c.args.e + c.args.run) c.args.u) (le-leb c.args.size _ c.if-size-u.true))

pub returns : goal.returns
returns c = sym (ap (λ (b : Bool). b || leb (c.args.e + c.args.run) c.args.u) (lt-leb c.args.size _ c.if-size-u.false))
