-- `bits::lacks_bits` meets its contract. Assumes nothing.
use Prim.Native.Nat.{ℕ, ◌+◌, ◌-◌, ◌*◌, ◌/◌, ◌%◌}
use mathlib.Core.Path.{◌≡◌, sym, ◌∙◌}
use mathlib.Core.Logic.{by_cases}
use native.Mathlib.Decide.{dec_lt}
use native.Mathlib.Omega.{arith}
use lib.Dec.{ltb}
use borrow.Author.Tests.{lt-ltb, le-ltb}
use Rattle.bits.proofs.lacks_bits.Goals as goal

-- in bytes, rounded up
in_bytes : (bytes start need : ℕ) → (need ≡ 0 → ⊥) → ltb bytes (start / 8 + need / 8 + (start % 8 + need % 8 + 7) / 8) ≡ ltb (bytes * 8 - start) need
in_bytes bytes start need h =
    let n : ℕ = start / 8 + need / 8 + (start % 8 + need % 8 + 7) / 8 in
    by_cases (dec_lt bytes n)
    (λ l. lt-ltb bytes n l ∙ sym (lt-ltb (bytes * 8 - start) need (omega arith)))
    (λ l. le-ltb bytes n (omega arith) ∙ sym (le-ltb (bytes * 8 - start) need (omega arith)))

pub returns-then-need-eq0 : goal.returns-then-need-eq0
returns-then-need-eq0 c = sym (le-ltb (c.args.bytes * 8 - c.args.start) c.args.need (omega arith))

pub returns : goal.returns
returns c = in_bytes c.args.bytes c.args.start c.args.need c.if-need-eq0.false
