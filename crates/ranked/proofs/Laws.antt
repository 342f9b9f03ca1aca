-- N_I from the marks, and an answer by the last ground. Assumes nothing.
use mathlib.Core.Path.{◌≡◌, sym, ap}
use mathlib.Core.List.{List}
use Prim.Native.Nat.{ℕ}
use Rattle.counting.specs.Search.{count, is_zero}
use Rattle.counting.proofs.Laws.{count_ext}
use Rattle.rules.specs.declared.Device.{Device}
use Rattle.rules.specs.Refusals.{refused_by}
use Rattle.std.specs.Prelude.{Ok, Option, Some, None}
use Rattle.rules.specs.Plan.{Plan}
use Rattle.rules.specs.Roles.{ranked_count}
use Rattle.rules.specs.Grounds.{ground?, answer}
use Rattle.marks.specs.Marked.{Marked}
use Rattle.marks.proofs.Marks.{zero_ranked}

-- N_I: the cells that are 0 are those of the subcarriers with a rank
pub zeros_is : (d : Device) (p : Plan) (m : List ℕ) → Marked d p m → count (is_zero m) d.subcarriers ≡ ranked_count d p
unfolding ranked_count is_zero
zeros_is d p m w = count_ext _ _ d.subcarriers (zero_ranked d p m w)

-- the answer by the last ground
pub whole : (o : Option ℕ) (g n : ℕ) → o ≡ None → Ok n ≡ answer (ground? g o) n
whole o g n e = sym (ap (λ (x : Option ℕ). answer (ground? g x) n) e)

pub halt : (o : Option ℕ) (g k n : ℕ) → o ≡ Some k → refused_by g k ≡ answer (ground? g o) n
halt o g k n e = sym (ap (λ (x : Option ℕ). answer (ground? g x) n) e)
