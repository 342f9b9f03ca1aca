-- Demand 3 and the other claims hold of the entries over two-byte cells, because they hold of those over cells. Assumes nothing.
use Prim.Native.Nat.{ℕ, ◌<◌}
use mathlib.Core.Path.{◌≡◌, refl, sym, ap, ◌∙◌, subst}
use mathlib.Core.Bool.{true, false, not, ◌||◌}
use mathlib.Core.List.{List, []}
use mathlib.Core.Logic.{◌↔◌}
use lib.ListN.{length, replicate}
use borrow.Author.Tests.{not-true}
use Rattle.counting.proofs.Bools.{by_test}
use Rattle.rules.specs.declared.Device.{Device}
use Rattle.std.specs.Prelude.{Ok, is_ok}
use Rattle.rules.specs.Device.{khz50}
use Rattle.rules.specs.Plan.{plan_of}
use Rattle.rules.specs.Grounds.{grounds1to15, verdict}
use Rattle.rules.specs.Frame.{Frame, frame_of, Given, flush, symbol}
use Rattle.rules.specs.Steps.{Emitter, Send, send_step}
use Rattle.rules.specs.Receive.{Receiver, Arrival, hear_step}
use Rattle.bytecells.specs.Octets.{cells_of, odd}
use Rattle.bytecells.specs.ByteSteps.{sent_bytes}
use Rattle.frame.specs.Counted.{phase_of}
use Rattle.runs.specs.Run.{Entries, cell_entries, input, sent, emitter_after, heard, receiver_after, Fresh, FreshReceiver}
use Rattle.runs.specs.Follow.{Flushed, Follows}
use Rattle.runs.specs.Demand3.{Returned, Demand3}
use Rattle.runs.specs.Claims.{InputAt, PlanClaims}
use Rattle.verdicts.proofs.Verdicts.{no_ground}
use Rattle.runs.proofs.Steps.{frame_entries_lem, fresh_in}
use Rattle.runs.proofs.Streams.{streams}
use Rattle.runs.proofs.Claims.{accepted_demand3, accepted_claims}
use Rattle.byteruns.specs.ByteEntries.{byte_entries, send_given}
use Rattle.byteruns.proofs.Sends.{read_emitter, read_profile, cell_send, odd_given, cell_sends, send_odd, send_even, under_cells, input_same, sent_same, after_same, even_after, fresh_cells, fresh_even, starts_whole, sends_whole, sent_whole}
use Rattle.byteruns.proofs.Fills.{fill_cells, fill_answer, fills_as}
use Rattle.byteruns.proofs.Hears as hears
use Rattle.byteruns.proofs.Hears.{read_receiver, read_arrival, cell_arrivals, heard_same, outcome_same, listens_whole, hears_whole}

module _ (d : Device) (s : List ℕ) (F : Frame) where
  -- what the receiver hands back
  returned : (j : ℕ) (e : Emitter) (steps : List Send) (gs : List Given) (ys : List (List ℕ)) (v : Receiver) → FreshReceiver (byte_entries d s) j v → (arrivals : List Arrival)
      → Returned F (cell_entries d s) j (cell_sends d s e steps) gs ys (read_receiver v) (cell_arrivals d s v arrivals) → Returned F (byte_entries d s) j steps gs ys v arrivals
  returned j e steps gs ys v f arrivals r = record {
    each = rw (outcome_same d s v arrivals, heard_same d s v arrivals) r.each;
    warms = rw (outcome_same d s v arrivals, heard_same d s v arrivals) r.warms;
    back = rw (outcome_same d s v arrivals, heard_same d s v arrivals) r.back;
    next = rw (heard_same d s v arrivals) (λ w listed under a given wy wb h is room.
        hears_whole d s (receiver_after (byte_entries d s) v arrivals) a (hears.even_after d s v arrivals (hears.fresh_even d s j v f)) (not-true (odd a.symbol) wy) (not-true (odd a.buffer) wb)
        (ap (λ (x : Receiver). is_ok (hear_step d s x (read_arrival a)).answer) (hears.after_same d s v arrivals)
        ∙ unfold read_arrival in r.next w listed (under_cells d s w e steps under) (read_arrival a) given refl refl h is room));
  }

  module _ (D : Demand3 F (cell_entries d s)) where
    bytes_unique : (j : ℕ) (e e' : Emitter) → Fresh (byte_entries d s) j e → Fresh (byte_entries d s) j e' → (steps steps' : List Send)
        → Flushed F.depth (input (byte_entries d s) e steps) → Flushed F.depth (input (byte_entries d s) e' steps')
        → (sent (byte_entries d s) e steps ≡ sent (byte_entries d s) e' steps') ↔ (input (byte_entries d s) e steps ≡ input (byte_entries d s) e' steps')
    bytes_unique j e e' f f' steps steps' =
        rw (input_same d s e steps, sent_same d s e steps, input_same d s e' steps', sent_same d s e' steps')
        (D.unique j (read_emitter e) (read_emitter e') (fresh_cells d s j e f) (fresh_cells d s j e' f') (cell_sends d s e steps) (cell_sends d s e' steps'))

    bytes_returned : (j : ℕ) (e : Emitter) (v : Receiver) → Fresh (byte_entries d s) j e → FreshReceiver (byte_entries d s) j v → (steps : List Send) (arrivals : List Arrival)
        → Follows (sent (byte_entries d s) e steps) (heard (byte_entries d s) v arrivals)
        → Returned F (byte_entries d s) j steps (input (byte_entries d s) e steps) (sent (byte_entries d s) e steps) v arrivals
    bytes_returned j e v f g steps arrivals =
        rw (input_same d s e steps, sent_same d s e steps, heard_same d s v arrivals) (λ follows.
        returned j e steps (input (cell_entries d s) (read_emitter e) (cell_sends d s e steps)) (sent (cell_entries d s) (read_emitter e) (cell_sends d s e steps)) v g arrivals
        (D.returned j (read_emitter e) (read_receiver v) (fresh_cells d s j e f) (hears.fresh_cells d s j v g) (cell_sends d s e steps) (cell_arrivals d s v arrivals) follows))

  -- the data of one more step, in cells
  input_cells_lem : (w : List ℕ) (j : ℕ) (ds : List ℕ) → InputAt F (byte_entries d s) w j ds → InputAt F (cell_entries d s) w j (cells_of ds)
  input_cells_lem w j ds fit = record { whole = refl; many = fit.many; small = fit.small }

  -- one more step of a run is accepted if the cell step is
  one_more : (e : Emitter) (steps : List Send) (g : Given) (w room : List ℕ) → odd_given (emitter_after (byte_entries d s) e steps) room g ≡ false
      → is_ok (send_step d s (emitter_after (cell_entries d s) (read_emitter e) (cell_sends d s e steps)) (cell_send w room g)).answer ≡ true
      → is_ok (send_given d s (emitter_after (byte_entries d s) e steps) w room g).answer ≡ true
  one_more e steps g w room h t =
      sends_whole d s (emitter_after (byte_entries d s) e steps) w room g h
      (ap (λ (x : Emitter). is_ok (send_step d s x (cell_send w room g)).answer) (after_same d s e steps) ∙ t)

  -- a step that is accepted is the same under load 14 everywhere
  fourteen : PlanClaims F (cell_entries d s) → (e : Emitter) (g : Given) (w room : List ℕ) → is_ok (send_given d s e w room g).answer ≡ true
      → send_given d s e (replicate F.width 14) room g ≡ send_given d s e w room g
  unfolding read_profile
  fourteen C e flush w room t = refl
  fourteen C e (symbol ds) w room t =
      let fourteens : List ℕ = replicate F.width 14 in
      by_test (odd_given e room (symbol ds))
      (λ q. send_odd d s e fourteens room (symbol ds) q ∙ sym (send_odd d s e w room (symbol ds) q))
      (λ q.
      send_even d s e fourteens room (symbol ds) q
      ∙ ap sent_bytes (C.fourteen_same (read_emitter e) (symbol (cells_of ds)) w (cells_of room) (sent_whole d s e w room (symbol ds) q t))
      ∙ sym (send_even d s e w room (symbol ds) q))

  pub bytes_claims : PlanClaims F (cell_entries d s) → PlanClaims F (byte_entries d s)
  unfolding odd_given read_profile
  bytes_claims C = record {
    some_data = C.some_data;
    counts = C.counts;
    marked = λ j e f steps. rw (sent_same d s e steps) (C.marked j (read_emitter e) (fresh_cells d s j e f) (cell_sends d s e steps));
    loaded = λ w listed j e f steps under.
        rw (sent_same d s e steps) (C.loaded w listed j (read_emitter e) (fresh_cells d s j e f) (cell_sends d s e steps) (under_cells d s w e steps under));
    started = λ j lent hj w h. starts_whole d s j lent (not-true (odd lent) w) (C.started j (cells_of lent) hj refl h);
    listens = λ j lent hj w h. listens_whole d s j lent (not-true (odd lent) w) (C.listens j (cells_of lent) hj refl h);
    emits = λ j e f steps w ds room listed fit u h.
        one_more e steps (symbol ds) w room (λ i. even_after d s e steps (fresh_even d s j e f) i || not-true (odd ds) fit.whole i || not-true (odd room) u i)
        (C.emits j (read_emitter e) (fresh_cells d s j e f) (cell_sends d s e steps) w (cells_of ds) (cells_of room) listed
        (input_cells_lem w _ ds (subst (λ (ys : List (List ℕ)). InputAt F (byte_entries d s) w (phase_of F j (length ys)) ds) (sent_same d s e steps) fit)) refl h);
    flushes = λ j e f steps w room u h.
        one_more e steps flush w room (λ i. even_after d s e steps (fresh_even d s j e f) i || not-true (odd room) u i)
        (C.flushes j (read_emitter e) (fresh_cells d s j e f) (cell_sends d s e steps) [] (cells_of room) refl h);
    flush_same = λ e w w' room. refl;
    fourteen_same = fourteen C;
    fills = λ w listed j hj stream a room u h fits.
        fill_answer d s w j stream a room (not-true (odd room) u) ∙ C.fills w listed j hj stream a (cells_of room) refl h fits;
    filled = λ w listed j stream a n room left e.
        let made = fill_cells d s w j stream a room n left e in
        let fit : InputAt F (cell_entries d s) w j (cells_of left) = C.filled w listed j stream a n (cells_of room) (cells_of left) made.0 in
        record { whole = ap not made.1; many = fit.many; small = fit.small };
  }

-- a plan that no ground refuses
module _ (d : Device) (s : List ℕ) (fine : grounds1to15 d s ≡ Ok tt) where
  phase_in : (j : ℕ) (e : Emitter) → Fresh (byte_entries d s) j e → j < (frame_of d (plan_of s)).phases
  phase_in j e f =
      (fresh_in (frame_of d (plan_of s)) j (read_emitter e)
      (subst (λ (E : Entries). Fresh E j (read_emitter e)) (frame_entries_lem d s fine) (fresh_cells d s j e f))).phase_in

  pub bytes_demand3 : Demand3 (frame_of d (plan_of s)) (cell_entries d s) → PlanClaims (frame_of d (plan_of s)) (cell_entries d s) → Demand3 (frame_of d (plan_of s)) (byte_entries d s)
  bytes_demand3 D C =
      let F : Frame = frame_of d (plan_of s) in
      record {
        placed = λ j e f steps.
            rw (input_same d s e steps, sent_same d s e steps) (D.placed j (read_emitter e) (fresh_cells d s j e f) (cell_sends d s e steps));
        unique = bytes_unique d s F D;
        returned = bytes_returned d s F D;
        streams = λ w listed. streams F (byte_entries d s) w (fills_as d s fine w) listed C.some_data phase_in (bytes_unique d s F D) (bytes_returned d s F D);
      }

-- every plan that the 50 kHz device accepts
module _ (s : List ℕ) (n : ℕ) (e : verdict khz50 s ≡ Ok n) where
  pub accepted_demand3_bytes : Demand3 (frame_of khz50 (plan_of s)) (byte_entries khz50 s)
  accepted_demand3_bytes = bytes_demand3 khz50 s (no_ground khz50 s n (sym e)) (accepted_demand3 s n e) (accepted_claims s n e)

  pub accepted_claims_bytes : PlanClaims (frame_of khz50 (plan_of s)) (byte_entries khz50 s)
  accepted_claims_bytes = bytes_claims khz50 s (frame_of khz50 (plan_of s)) (accepted_claims s n e)
