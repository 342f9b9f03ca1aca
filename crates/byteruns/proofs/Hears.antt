-- A receiver's run over bytes: its accepted steps are, through the cells of the bytes, those of the cell steps that 21 does not refuse. Assumes nothing.
use Prim.Native.Nat.{ℕ}
use mathlib.Core.Path.{◌≡◌, refl, sym, ap, ◌∙◌}
use mathlib.Core.Bool.{Bool, true, false, ◌||◌}
use mathlib.Core.List.{List, map}
use Rattle.counting.proofs.Bools.{by_test}
use Rattle.rules.specs.declared.Device.{Device}
use Rattle.rules.specs.Refusals.{refusal, refused_step, refused_by}
use Rattle.std.specs.Prelude.{Ok, is_ok}
use Rattle.rules.specs.Receive.{Receiver, Arrival, Receiving, hears, Listening, listens, listen_step, hear_step, receive_step}
use Rattle.bytecells.specs.Octets.{cells_of, odd}
use Rattle.bytecells.specs.ByteSteps.{listened_bytes, heard_bytes, listen_bytes, receive_bytes}
use Rattle.bytecells.proofs.OctetLaws.{cells_bytes}
use Rattle.runs.specs.Run.{cell_entries, receiver_left, outcome_of, receivings, heard, outcomes, receiver_after, FreshReceiver}
use Rattle.byteruns.specs.ByteEntries.{hear_bytes, byte_entries}
use Rattle.byteruns.proofs.Kept.{map_twice, after_keeps, Reading, kept, kept_accepted, kept_after}
use Rattle.byteruns.proofs.Starts as start
use Rattle.byteruns.proofs.Starts.{even_bytes, Form}

-- what is read of a receiver, of what a step is given, and of what it leaves
unfoldable pub read_receiver : Receiver → Receiver
read_receiver v = record { state = v.state; store = cells_of v.store }

unfoldable pub read_arrival : Arrival → Arrival
read_arrival a = record { profile = a.profile; symbol = cells_of a.symbol; buffer = cells_of a.buffer }

read_receiving : Receiving → Receiving
read_receiving r = hears r.answer (cells_of r.store) (cells_of r.buffer)

-- 21
odd_arrival : Receiver → Arrival → Bool
odd_arrival v a = odd v.store || odd a.symbol || odd a.buffer

read_heard : (r : Receiving) → read_receiving (heard_bytes r) ≡ r
unfolding read_receiving
read_heard r = λ i. hears r.answer (cells_bytes r.store i) (cells_bytes r.buffer i)

module _ (d : Device) (s : List ℕ) where
  hear_odd : (v : Receiver) (a : Arrival) → odd_arrival v a ≡ true → hear_bytes d s v a ≡ hears (refused_step (refusal 21 0) v.state) v.store a.buffer
  unfolding odd_arrival receive_bytes
  hear_odd v a h = rw h refl

  hear_even : (v : Receiver) (a : Arrival) → odd_arrival v a ≡ false → hear_bytes d s v a ≡ heard_bytes (hear_step d s (read_receiver v) (read_arrival a))
  unfolding odd_arrival receive_bytes receive_step read_receiver read_arrival
  hear_even v a h = rw h refl

  away : (v : Receiver) (a : Arrival) → odd_arrival v a ≡ true → (is_ok (hear_bytes d s v a).answer ≡ false) × (receiver_left (hear_bytes d s v a) ≡ v)
  away v a h = (ap (λ (r : Receiving). is_ok r.answer) (hear_odd v a h), ap receiver_left (hear_odd v a h))

  same : (v : Receiver) (a : Arrival) → odd_arrival v a ≡ false → read_receiving (hear_bytes d s v a) ≡ hear_step d s (read_receiver v) (read_arrival a)
  same v a h = ap read_receiving (hear_even v a h) ∙ read_heard (hear_step d s (read_receiver v) (read_arrival a))

  reading : Reading Receiver Arrival Receiving Receiver Arrival Receiving
  unfolding read_receiving read_receiver
  reading = record {
    step = hear_bytes d s;
    ok = λ r. is_ok r.answer;
    left = receiver_left;
    step' = hear_step d s;
    ok' = λ r. is_ok r.answer;
    left' = receiver_left;
    skip = odd_arrival;
    state = read_receiver;
    asked = read_arrival;
    result = read_receiving;
    ok_same = λ r. refl;
    left_same = λ r. refl;
    away = away;
    same = same;
  }

  module _ (v : Receiver) (steps : List Arrival) where
    -- the cell steps: those that 21 does not refuse
    pub cell_arrivals : List Arrival
    cell_arrivals = kept reading v steps

    receivings_same : map (λ x. (read_arrival x.0, read_receiving x.1)) (receivings (byte_entries d s) v steps) ≡ receivings (cell_entries d s) (read_receiver v) cell_arrivals
    unfolding cell_arrivals reading
    receivings_same = kept_accepted reading v steps

    pub heard_same : heard (byte_entries d s) v steps ≡ heard (cell_entries d s) (read_receiver v) cell_arrivals
    unfolding heard read_arrival
    heard_same =
        sym (map_twice (λ x. (read_arrival x.0, read_receiving x.1)) (λ x. x.0.symbol) (receivings (byte_entries d s) v steps))
        ∙ ap (map (λ x. x.0.symbol)) receivings_same

    pub outcome_same : outcomes (byte_entries d s) v steps ≡ outcomes (cell_entries d s) (read_receiver v) cell_arrivals
    unfolding outcomes read_receiving
    outcome_same =
        sym (map_twice (λ x. (read_arrival x.0, read_receiving x.1)) (λ x. outcome_of x.1.answer x.1.buffer) (receivings (byte_entries d s) v steps))
        ∙ ap (map (λ x. outcome_of x.1.answer x.1.buffer)) receivings_same

    pub after_same : read_receiver (receiver_after (byte_entries d s) v steps) ≡ receiver_after (cell_entries d s) (read_receiver v) cell_arrivals
    unfolding cell_arrivals reading
    after_same = kept_after reading v steps

  -- the store keeps whole cells
  keeps_even : (v : Receiver) (a : Arrival) → odd v.store ≡ false → odd (receiver_left (hear_bytes d s v a)).store ≡ false
  keeps_even v a h =
      by_test (odd_arrival v a)
      (λ q. ap (λ (x : Receiver). odd x.store) (away v a q).1 ∙ h)
      (λ q. ap (λ (r : Receiving). odd r.store) (hear_even v a q) ∙ even_bytes _)

  pub even_after : (v : Receiver) (steps : List Arrival) → odd v.store ≡ false → odd (receiver_after (byte_entries d s) v steps).store ≡ false
  even_after v steps h = after_keeps (hear_bytes d s) receiver_left (λ x. odd x.store ≡ false) keeps_even v steps h

  -- one more step of whole cells is accepted if the cell step is
  pub hears_whole : (v : Receiver) (a : Arrival) → odd v.store ≡ false → odd a.symbol ≡ false → odd a.buffer ≡ false
      → is_ok (hear_step d s (read_receiver v) (read_arrival a)).answer ≡ true → is_ok (hear_bytes d s v a).answer ≡ true
  unfolding odd_arrival
  hears_whole v a hs hy hb t = ap (λ (r : Receiving). is_ok r.answer) (hear_even v a (λ i. hs i || hy i || hb i)) ∙ t

-- ---- a fresh start

form : Form Listening
form = record {
  ok = λ r. is_ok r.answer;
  store = λ r. r.store;
  read = λ r. listens r.answer (cells_of r.store);
  write = listened_bytes;
  away = listens (refused_by 21 0);
  read_write = λ r i. listens r.answer (cells_bytes r.store i);
  ok_write = λ r. refl;
  store_write = λ r. refl;
  never = λ lent. refl;
}

module _ (d : Device) (s : List ℕ) (j : ℕ) where
  pub listens_whole : (lent : List ℕ) → odd lent ≡ false → is_ok (listen_step d s j (cells_of lent)).answer ≡ true → is_ok (listen_bytes d s j lent).answer ≡ true
  unfolding form listen_bytes
  listens_whole = start.starts_whole form (listen_step d s j)

  module _ (v : Receiver) (f : FreshReceiver (byte_entries d s) j v) where
    pub fresh_cells : FreshReceiver (cell_entries d s) j (read_receiver v)
    unfolding form read_receiver listen_bytes
    fresh_cells = record {
      lent = cells_of f.lent;
      start = start.started_cells form (listen_step d s j) f.lent (listens (Ok v.state) v.store) f.start refl;
    }

    pub fresh_even : odd v.store ≡ false
    unfolding form listen_bytes
    fresh_even = start.started_even form (listen_step d s j) f.lent (listens (Ok v.state) v.store) f.start refl
