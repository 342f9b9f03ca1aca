-- A number put behind the first ones of a list. Assumes nothing.
use mathlib.Core.Path.{sym, ap, ◌∙◌, ◌≡◌}
use mathlib.Core.Bool.{true, false}
use mathlib.Core.List.{List}
use Prim.Native.Nat.{ℕ, ◌<◌}
use native.Mathlib.Nat.{add-zero}
use native.Mathlib.Numerals.{add-one}
use native.Mathlib.Omega.{arith}
use lib.ListN.{length, set, take, length-set}
use lib.Seq.{take-suc-set}
use Rattle.counting.proofs.Lists.{append-nil}
use Rattle.plan.specs.Walk.{PutIf}

pub put_none : (np v : ℕ) (l : List ℕ) → length l ≡ 128 → PutIf false np v l l
put_none np v l s = record { front = ap (λ (n : ℕ). take n l) (add-zero np) ∙ sym (append-nil (take np l)); size = s }

pub put_some : (np v : ℕ) (l : List ℕ) → length l ≡ 128 → np < 128 → PutIf true np v l (set l np v)
put_some np v l s h = record { front = ap (λ (n : ℕ). take n (set l np v)) (add-one np) ∙ take-suc-set l np v (omega arith); size = length-set l np v ∙ s }
