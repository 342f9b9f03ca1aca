-- A number's bits put into a stream part by part, and its bytes one by one. Assumes nothing.
use Prim.Native.Nat.{ℕ, ◌+◌, ◌*◌, ◌%◌, ◌/◌, ◌^◌, ◌<◌}
use mathlib.Core.Path.{◌≡◌, sym, ap, ◌∙◌}
use mathlib.Core.Bool.{Bool}
use mathlib.Core.List.{List}
use native.Mathlib.Omega.{arith}
use lib.ListN.{length, set}
use lib.Seq.{sets}
use Rattle.rules.specs.Bits.{digits, stream_bits}
use Rattle.bits.proofs.BitLaws.{length_digits, digits_mod, digits_split}
use Rattle.bits.proofs.FillLaws.{sets-append}
use Rattle.bits.proofs.Streams.{stream_set}

-- k bits of v more, after j of them
pub put_more : (s t u : List Bool) (a b j k v : ℕ) → b ≡ a + j → t ≡ sets s a (digits j v) → u ≡ sets t b (digits k (v / 2 ^ j)) → u ≡ sets s a (digits (j + k) v)
put_more s t u a b j k v eb et eu =
    let n : b ≡ a + length (digits j v) = rw length_digits eb in
    eu ∙ rw (et, n) (sets-append s a (digits j v) (digits k (v / 2 ^ j)) ∙ ap (sets s a) (sym (digits_split j k v)))

-- byte k of v, after those below it
pub put_byte : (s : List Bool) (b : List ℕ) (at k p v x : ℕ) → p < length b → p ≡ at + k → x ≡ v / 2 ^ (k * 8) % 256 → stream_bits b ≡ sets s (at * 8) (digits (k * 8) v)
    → stream_bits (set b p x) ≡ sets s (at * 8) (digits (k * 8 + 8) v)
put_byte s b at k p v x h ep ex e =
    put_more s (stream_bits b) (stream_bits (set b p x)) (at * 8) (p * 8) (k * 8) 8 v (omega arith) e
    (stream_set b p x h ∙ ap (sets (stream_bits b) (p * 8)) (ap (digits 8) ex ∙ digits_mod 8 (v / 2 ^ (k * 8))))
