-- What a receive step over bytes answers and leaves, from what one over their cells does; and the tests of ground 21. Assumes nothing.
use Prim.Native.Nat.{ℕ}
use mathlib.Core.Path.{◌≡◌, refl, sym, ap, ◌∙◌}
use mathlib.Core.Bool.{true, false, ◌||◌}
use mathlib.Core.List.{List}
use lib.ListN.{length}
use lib.Seq.{sets}
use Rattle.counting.specs.Search.{count, is_zero}
use Rattle.counting.proofs.Lists.{length_tabulate, sets_all}
use Rattle.rules.specs.declared.Device.{Device}
use Rattle.rules.specs.declared.ReceiverState.{ReceiverState}
use Rattle.rules.specs.Refusals.{ReceiveAnswer, refusal, refused_step}
use Rattle.rules.specs.Receive.{Receiving, hears, receive_step}
use Rattle.fill.specs.Flags.{taken_data}
use Rattle.bytecells.specs.Octets.{cells_of, bytes_of, odd}
use Rattle.bytecells.specs.ByteSteps.{heard_bytes, receive_bytes}

-- what is answered and left over cells, as bytes
pub as_bytes : (r : ReceiveAnswer) (s b s' b' : List ℕ) (out : Receiving) → s ≡ bytes_of s' → b ≡ bytes_of b' → hears r s' b' ≡ out → hears r s b ≡ heard_bytes out
as_bytes r s b s' b' out es eb e = (λ i. hears r (es i) (eb i)) ∙ ap heard_bytes e

-- the data taken from x fills a list g of as many places
pub taken_fills : (flag x g : List ℕ) → count (is_zero flag) (length x) ≡ length g → sets g 0 (taken_data flag x) ≡ taken_data flag x
unfolding taken_data
taken_fills flag x g e = sets_all g (taken_data flag x) (sym e ∙ sym (length_tabulate _ (count (is_zero flag) (length x))))

-- ---- ground 21

module _ (d : Device) (s w : List ℕ) (v : ReceiverState) (store y b : List ℕ) where
  -- refused by 21
  pub refused_odd : (odd store || odd y || odd b) ≡ true → hears (refused_step (refusal 21 0) v) store b ≡ receive_bytes d s w v store y b
  unfolding receive_bytes
  refused_odd e = rw e refl

  -- left to the grounds from 1 on
  pub left_whole : (odd store || odd y || odd b) ≡ false → heard_bytes (receive_step d s w v (cells_of store) (cells_of y) (cells_of b)) ≡ receive_bytes d s w v store y b
  unfolding receive_bytes
  left_whole e = rw e refl
