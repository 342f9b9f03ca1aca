-- What a fresh start over two-byte cells answers and leaves: ground 21, and else the answer and the cells of the start beneath. Assumes nothing.
use mathlib.Core.Path.{◌≡◌, sym, ap, ◌∙◌}
use mathlib.Core.Bool.{Bool, true, false}
use mathlib.Core.List.{List}
use Prim.Native.Nat.{ℕ, ◌*◌, ◌≤◌}
use native.Mathlib.Omega.{arith}
use lib.ListN.{length}
use Rattle.counting.specs.Search.{pick}
use Rattle.rules.specs.declared.Device.{Device}
use Rattle.rules.specs.Refusals.{StartAnswer, ListenAnswer, refused_by}
use Rattle.rules.specs.Steps.{Starting, starts, start_step}
use Rattle.rules.specs.Receive.{Listening, listens, listen_step}
use Rattle.bytecells.specs.Octets.{cells_of, bytes_of, odd, Whole}
use Rattle.bytecells.specs.ByteSteps.{started_bytes, listened_bytes, start_bytes, listen_bytes}
use Rattle.bytecells.proofs.OctetLaws.{whole_length}

-- ---- the bytes of n places lie within a store that has their cells

pub places_bytes : (b : List ℕ) (n : ℕ) → Whole b → n ≤ length (cells_of b) → 2 * n ≤ length b
places_bytes b n w h = omega (arith, h, whole_length b w)

-- ---- the same answer, and a store that is the cells c as bytes

pub start_written : (a : StartAnswer) (b c : List ℕ) (r : Starting) → b ≡ bytes_of c → starts a c ≡ r → starts a b ≡ started_bytes r
start_written a b c r eb er = ap (starts a) eb ∙ ap (λ (x : Starting). started_bytes x) er

pub listen_written : (a : ListenAnswer) (b c : List ℕ) (r : Listening) → b ≡ bytes_of c → listens a c ≡ r → listens a b ≡ listened_bytes r
listen_written a b c r eb er = ap (listens a) eb ∙ ap (λ (x : Listening). listened_bytes x) er

-- ---- ground 21, or what the start over the cells answers

module _ (d : Device) (s : List ℕ) (j : ℕ) (store : List ℕ) where
  start_by : Bool → Starting
  start_by t = pick t (starts (refused_by 21 0) store) (started_bytes (start_step d s j (cells_of store)))

  pub odd_start : odd store ≡ true → starts (refused_by 21 0) store ≡ start_bytes d s j store
  unfolding start_bytes start_by
  odd_start e = sym (ap start_by e)

  pub even_start : odd store ≡ false → started_bytes (start_step d s j (cells_of store)) ≡ start_bytes d s j store
  unfolding start_bytes start_by
  even_start e = sym (ap start_by e)

  listen_by : Bool → Listening
  listen_by t = pick t (listens (refused_by 21 0) store) (listened_bytes (listen_step d s j (cells_of store)))

  pub odd_listen : odd store ≡ true → listens (refused_by 21 0) store ≡ listen_bytes d s j store
  unfolding listen_bytes listen_by
  odd_listen e = sym (ap listen_by e)

  pub even_listen : odd store ≡ false → listened_bytes (listen_step d s j (cells_of store)) ≡ listen_bytes d s j store
  unfolding listen_bytes listen_by
  even_listen e = sym (ap listen_by e)
