-- `loadlimits::fill_limits` meets its contract. Assumes nothing.
use Prim.Native.Nat.{ℕ}
use mathlib.Core.Path.{sym, ap, ◌∙◌}
use mathlib.Core.Logic.{by_cases}
use mathlib.Core.List.{List}
use native.Mathlib.Decide.{dec_lt}
use native.Mathlib.Omega.{arith}
use lib.ListN.{length, get_or}
use Rattle.counting.proofs.Lists.{zeros}
use Rattle.loadlimits.proofs.Admitting.{limit_past}
use Rattle.loadlimits.proofs.fill_limits.Goals as goal

pub loop-load-init : goal.loop-load-init
loop-load-init c = (
  ap length c.requires,
  record { done = λ q h k. absurd (omega arith); rest = λ q h k. ap (λ (t : List ℕ). get_or t q 0) c.requires ∙ zeros 256 q },
)

pub returns : goal.returns
returns c =
    let l = c.loop-load in
    record {
      long = l.invariant.0;
      each = λ m h.
          by_cases (dec_lt m 15) (λ k. l.invariant.1.done m h (omega arith)) (λ k. l.invariant.1.rest m h (omega arith) ∙ sym (limit_past m (omega arith)));
    }
