-- No fresh start and no step that is given what it asks for is refused. Assumes nothing.
use Prim.Native.Nat.{ℕ, ◌≤◌, ◌<◌}
use mathlib.Core.Path.{◌≡◌, refl, sym, ap, ◌∙◌}
use mathlib.Core.Bool.{true, not}
use mathlib.Core.List.{List}
use native.Mathlib.Omega.{arith}
use lib.Dec.{ltb}
use lib.ListN.{length, get_or}
use borrow.Author.Tests.{le-ltb, lt-leb, eq-eqb}
use Rattle.counting.specs.Search.{when, select}
use Rattle.counting.proofs.Laws.{none_lowest}
use Rattle.rules.specs.Refusals.{Finding}
use Rattle.std.specs.Prelude.{Ok, Err, is_ok}
use Rattle.rules.specs.Grounds.{◌else◌, ground?}
use Rattle.rules.specs.Frame.{Frame, cells, spot, is_data, data_count, Given, flush, symbol}
use Rattle.rules.specs.Loads.{ground25, load_limit, data_loads, ground19}
use Rattle.rules.specs.Store.{emitter_places, receiver_places, fresh_store, filler_store}
use Rattle.rules.specs.Steps.{Emitter, Send, Starting, starts, ground16, short_store, ground17, profile_ground, ground18, given_grounds, send_grounds, start_grounds, frame_start, frame_step}
use Rattle.rules.specs.Receive.{Listening, listens, frame_listen}
use Rattle.rules.proofs.Findings.{both_fine}
use Rattle.rules.proofs.Loads.{fourteens, fourteens_at, fourteens_fine, limit_14}
use Rattle.frame.specs.Counted.{phase_of}
use Rattle.frame.proofs.Cells.{data_cell_lem, spot_below}
use Rattle.frame.proofs.Loads.{load_at}
use Rattle.runs.specs.Run.{sent, emitter_after}
use Rattle.runs.specs.Claims.{InputAt}
use Rattle.runs.proofs.Steps.{frame_entries, Within, top, given_within, within_top, fine_given, step_fine, sent_fine, FreshIn}
use Rattle.runs.proofs.Grounds.{send_grounds_at, send_grounds_lem}

-- ---- fresh starts

module _ (F : Frame) (j : ℕ) (lent : List ℕ) (hj : j < F.phases) where
  pub start_fine : (places : ℕ) → places ≤ length lent → start_grounds F places j lent ≡ Ok tt
  unfolding start_grounds ground16 short_store
  start_fine places fits = λ i. ground? 16 (when (lt-leb F.phases j hj i) 0) else ground? 17 (when (le-ltb (length lent) places fits i) 0)

  pub starts_fine : emitter_places F ≤ length lent → is_ok (frame_start F j lent).answer ≡ true
  unfolding frame_start
  starts_fine fits =
      let left : Finding → Starting = λ f. elim f [ Ok _ ↦ starts (Ok (record { phase = j })) (fresh_store F j lent) | Err r ↦ starts (Err r) lent ] in
      ap (λ (f : Finding). is_ok (left f).answer) (start_fine (emitter_places F) fits)

  pub listens_fine : receiver_places F ≤ length lent → is_ok (frame_listen F j lent).answer ≡ true
  unfolding frame_listen
  listens_fine fits =
      let left : Finding → Listening = λ f. elim f [ Ok _ ↦ listens (Ok (record { phase = j; heard = 0 })) (filler_store F lent) | Err r ↦ listens (Err r) lent ] in
      ap (λ (f : Finding). is_ok (left f).answer) (start_fine (receiver_places F) fits)

-- ---- one more step

-- no ground refuses data of the right count and size
data_fine : (F : Frame) (w : List ℕ) (j : ℕ) (ds : List ℕ) → InputAt F (frame_entries F) w j ds → given_grounds F w j (symbol ds) ≡ Ok tt
unfolding given_grounds ground18 ground19
data_fine F w j ds f = λ i.
    ground? 18 (when (not (eq-eqb (length ds) (data_count F j) f.many i)) 0)
    else ground? 19
    (none_lowest (λ c. ltb (load_limit (get_or (data_loads F w j) c 0)) (get_or ds c 0)) (length ds)
    (λ c l. le-ltb (load_limit (get_or (data_loads F w j) c 0)) (get_or ds c 0) (f.small c l)) i)

flush_fine : (F : Frame) (w : List ℕ) (j : ℕ) → given_grounds F w j flush ≡ Ok tt
unfolding given_grounds
flush_fine F w j = refl

module _ (F : Frame) (j : ℕ) (e : Emitter) (fresh : FreshIn F j e) (steps : List Send) where
  sends : (a : Send) → profile_ground F a.profile a.given ≡ Ok tt → length a.room ≡ F.width
      → given_grounds F a.profile (phase_of F j (length (sent (frame_entries F) e steps))) a.given ≡ Ok tt
      → is_ok (frame_step F (emitter_after (frame_entries F) e steps) a).answer ≡ true
  unfolding send_grounds_at
  sends a hp hl hg =
      (sent_fine F (emitter_after (frame_entries F) e steps) a).1
      (send_grounds_lem F j e fresh steps a ∙ (λ i. hp i else ground? 17 (when (not (eq-eqb (length a.room) F.width hl i)) 0) else hg i))

  pub emits : (w ds room : List ℕ) → ground25 F.width w ≡ Ok tt → InputAt F (frame_entries F) w (phase_of F j (length (sent (frame_entries F) e steps))) ds → length room ≡ F.width
      → is_ok (frame_step F (emitter_after (frame_entries F) e steps) (record { given = symbol ds; profile = w; room = room })).answer ≡ true
  unfolding profile_ground
  emits w ds room listed f hl =
      sends (record { given = symbol ds; profile = w; room = room }) listed hl (data_fine F w (phase_of F j (length (sent (frame_entries F) e steps))) ds f)

  pub flushes : (w room : List ℕ) → length room ≡ F.width
      → is_ok (frame_step F (emitter_after (frame_entries F) e steps) (record { given = flush; profile = w; room = room })).answer ≡ true
  unfolding profile_ground
  flushes w room hl = sends (record { given = flush; profile = w; room = room }) refl hl (flush_fine F w (phase_of F j (length (sent (frame_entries F) e steps))))

-- ---- the same step under other profiles

module _ (F : Frame) (e : Emitter) where
  pub flush_same : (w w' room : List ℕ) → frame_step F e (record { given = flush; profile = w; room = room }) ≡ frame_step F e (record { given = flush; profile = w'; room = room })
  unfolding frame_step send_grounds profile_ground given_grounds
  flush_same w w' room = refl

  -- data within the limits of any profile is within those of load 14 everywhere
  fourteen_given : (g : Given) (w : List ℕ) (j : ℕ) → profile_ground F w g ≡ Ok tt → given_grounds F w j g ≡ Ok tt
      → (profile_ground F (fourteens F.width) g ≡ Ok tt) × (given_grounds F (fourteens F.width) j g ≡ Ok tt)
  unfolding profile_ground given_grounds
  fourteen_given flush w j p f = (refl, refl)
  fourteen_given (symbol ds) w j p f =
      let h : Within F top j (symbol ds) = within_top F w j (symbol ds) (unfold profile_ground in p) (given_within F w j (symbol ds) (unfold given_grounds in f)) in (
        fourteens_fine F.width,
        data_fine F (fourteens F.width) j ds
            (record {
              whole = refl;
              many = h.0;
              small = λ c l.
                  let k : ℕ = spot F (select (is_data F j) (cells F) c) in
                  let c' : c < data_count F j = omega (arith, h.0) in
                  let on : k < F.width = spot_below F (select (is_data F j) (cells F) c) (data_cell_lem F j c c').below in
                  let is : get_or (data_loads F (fourteens F.width) j) c 0 ≡ 14 = load_at F (fourteens F.width) j c c' ∙ fourteens_at F.width k on in
                  rw (is, limit_14) (h.1 c l);
            }),
      )

  pub fourteen_same : (g : Given) (w room : List ℕ) → is_ok (frame_step F e (record { given = g; profile = w; room = room })).answer ≡ true
      → frame_step F e (record { given = g; profile = fourteens F.width; room = room }) ≡ frame_step F e (record { given = g; profile = w; room = room })
  unfolding send_grounds
  fourteen_same g w room t =
      let a : Send = record { given = g; profile = w; room = room } in
      let b : Send = record { given = g; profile = fourteens F.width; room = room } in
      let fine : send_grounds F e a ≡ Ok tt = (sent_fine F e a).0 t in
      let f = fine_given F e a fine in
      let q = fourteen_given g w e.state.phase f.0 f.1 in
      let late = (both_fine (profile_ground F w g) (ground16 F e.state.phase else ground17 F (emitter_places F) e.store room else given_grounds F w e.state.phase g) fine).1 in
      let lent = both_fine (ground16 F e.state.phase) (ground17 F (emitter_places F) e.store room else given_grounds F w e.state.phase g) late in
      let same : send_grounds F e b ≡ Ok tt = λ i.
      q.0 i
      else lent.0 i
      else (both_fine (ground17 F (emitter_places F) e.store room) (given_grounds F w e.state.phase g) lent.1).0 i
      else q.1 i in
      step_fine F e b same ∙ sym (step_fine F e a fine)
