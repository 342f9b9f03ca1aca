-- `copies::extend` meets its contract. Assumes nothing.
use Prim.Native.Nat.{ℕ, ◌+◌, ◌*◌, ◌≤◌, ◌<◌}
use mathlib.Core.Path.{◌≡◌, refl, sym, ap, ◌∙◌}
use mathlib.Core.List.{List, ◌++◌}
use native.Mathlib.Nat.{zero-add}
use native.Mathlib.Omega.{arith}
use lib.ListN.{length, drop, length-append, length-drop}
use lib.Seq.{sets, sets-eq}
use Rattle.chains.proofs.LastLaws.{last_inside}
use Rattle.copies.proofs.Bytes.{copy_stored}
use Rattle.copies.proofs.extend.Goals as goal
use Rattle.copies.proofs.extend.Goals.{After-copy_from_slice}

-- the last chain record lies in the plan
inside : (c : After-copy_from_slice) → 8 * c.args.end + 7 < length c.args.plan.now
inside c = rw c.requires.2 (last_inside c.args.plan.now c.requires.0)

-- the plan's bytes before the rest of the copy are stored from 0 on
stored : (s l b : List ℕ) → length s ≤ length l → b ≡ s → b ++ drop (length s) l ≡ sets l 0 s
stored s l b h e = ap (λ (x : List ℕ). x ++ drop (length s) l) e ∙ sym (rw zero-add at (sets-eq s l 0 (omega arith)))

pub overflow_mul-end : goal.overflow_mul-end
overflow_mul-end c = omega (arith, inside (goal.at.overflow_mul-end c).After-copy_from_slice)

pub overflow_add-end : goal.overflow_add-end
overflow_add-end c = omega (arith, inside (goal.at.overflow_add-end c).After-copy_from_slice)

pub put-requires : goal.put-requires
put-requires c =
    simp (length-append, length-drop) (omega (arith, inside (goal.at.put-requires c).After-copy_from_slice, ap length c.copy_from_slice.ensures.after))

pub returns : goal.returns
returns c =
    let s = c.args.plan.now in (
      copy_stored c.args.copy.now _ _ _ s _ _ _ (stored s c.args.copy.now _ (omega arith) c.copy_from_slice.ensures.after) c.requires.2 c.put.ensures c.put_range.ensures c.requires.3 (last_inside s c.requires.0),
      refl,
    )
