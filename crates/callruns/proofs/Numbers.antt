-- No ground has the number 0, so an answer's number is 0 exactly if no ground refuses. Assumes nothing.
use Prim.Native.Nat.{ℕ, ◌+◌, ◌-◌, ◌*◌, ◌/◌}
use mathlib.Core.Path.{◌≡◌, refl, sym, ap, ◌∙◌}
use mathlib.Core.Bool.{Bool, true, false, not, ◌&&◌, ◌||◌}
use mathlib.Core.List.{List, [], ◌∷◌}
use lib.Dec.{leb, ltb, eqb}
use lib.ListN.{length, get_or}
use borrow.Author.Tests.{not-true}
use Rattle.counting.specs.Search.{bit, when, lowest}
use Rattle.counting.proofs.Bools.{by_test}
use Rattle.rules.specs.declared.Device.{Device}
use Rattle.rules.specs.declared.Refusal.{Refusal}
use Rattle.rules.specs.declared.Reason.TheVariants as a-reason
use Rattle.rules.specs.Refusals.{Finding, Verdict, RoleAnswer, CountAnswer, WhyAnswer, refused_by}
use Rattle.std.specs.Prelude.{Ok, Err, Option, Some, None, is_ok}
use Rattle.rules.specs.Device.{phases}
use Rattle.rules.specs.Plan.{Entry, Plan, plan_of, chain, is_pilot}
use Rattle.rules.specs.Grounds.{◌else◌, ground?, bad_length, bad_form, bad_next, pilots_max, bad_numbers, outside, around_plc, pilot_clash, narrow_band, no_wide_band, much_excluded, much_in_band, full_window, many_ranked, record_grounds, chain_grounds, grounds1to5, grounds6to15, grounds1to15, answer, verdict}
use Rattle.rules.specs.Roles.{ranked_count, role}
use Rattle.rules.specs.Answers.{role_in, role_answer}
use Rattle.rules.specs.Frame.{Frame, frame_of, data_count, Given, flush, symbol}
use Rattle.rules.specs.Filling.{Filling, fills, bit_count, ground26, fill_grounds, unfill_grounds, frame_fill, frame_unfill, fill_step, unfill_step}
use Rattle.rules.specs.Bits.{filled_from, unfilled_into}
use Rattle.rules.specs.Loads.{profile_load, ground25, load_limit, data_loads, ground19}
use Rattle.rules.specs.Store.{emitter_places, receiver_places, fresh_store, filler_store}
use Rattle.rules.specs.Steps.{Emitter, Send, Sending, Starting, starts, refused, ground16, short_store, ground17, profile_ground, ground18, given_grounds, send_grounds, accepted, frame_step, start_grounds, frame_start, frame_count, send_step, start_step, data_count_answer}
use Rattle.rules.specs.Receive as receive
use Rattle.rules.specs.Receive.{Receiver, Arrival, Receiving, Listening, listens, turned_away, short_buffer, wrong_cell, receiver_ground16, receiver_ground17, ground20, receive_grounds, received, frame_receive, frame_listen, hear_step, listen_step}
use Rattle.copies.specs.Copy.{copy_with}
use Rattle.exclusion.specs.Trial.{trial_verdict, too_large, trial_of_numbers}
use Rattle.reasons.specs.Reasons.{why_answer, named}
use Rattle.reasons.proofs.Answers.{same_role}
use Rattle.answers.specs.Answer.{told_role, told_why, told_count, told_start, told_listen, told_send, told_receive}
use Rattle.pilots.specs.declared.PilotAnswer.{PilotAnswer}
use Rattle.pilots.specs.Pilots.{continuous_pilots, listing, no_listing, pilots_answer}
use Rattle.lamprecord.specs.Record.{lamp_cap, bad_record}
use Rattle.lampgrounds.specs.Steps.{Hearing, leaves_record, no_lights, lamp_grounds, lamp_finding, lamp_hears, lamp_step}

-- why a subcarrier has its role is refused as the role is
same_number : (w : WhyAnswer) → (told_why w).number ≡ (told_role (named w)).number
same_number (Ok (a-reason.ExcludedBy i)) = refl
same_number (Ok (a-reason.PlcBy i)) = refl
same_number (Ok (a-reason.PilotBelow x)) = refl
same_number (Ok (a-reason.PilotAbove x)) = refl
same_number (Ok (a-reason.PilotBy i)) = refl
same_number (Ok (a-reason.ScatteredOnly q)) = refl
same_number (Ok (a-reason.DataBut q)) = refl
same_number (Err r) = refl

same_ok : (w : WhyAnswer) → is_ok (named w) ≡ is_ok w
same_ok (Ok r) = refl
same_ok (Err r) = refl

-- ---- the number of a ground

-- a ground that is found has a number other than 0
numbered : Finding → Bool
numbered (Ok tt) = true
numbered (Err r) = not (eqb r.number 0)

more : (n : ℕ) (o : Option ℕ) (g : Finding) → not (eqb n 0) ≡ true → numbered g ≡ true → numbered (ground? n o else g) ≡ true
unfolding numbered
more n None g h hg = hg
more n (Some place) g h hg = h

last : (n : ℕ) (o : Option ℕ) → not (eqb n 0) ≡ true → numbered (ground? n o) ≡ true
unfolding numbered
last n None h = refl
last n (Some place) h = h

both : (f g : Finding) → numbered f ≡ true → numbered g ≡ true → numbered (f else g) ≡ true
unfolding numbered
both (Ok tt) g hf hg = hg
both (Err r) g hf hg = hf

module _ (d : Device) where
  record_numbered : (r pilots : ℕ) (e : Entry) → numbered (record_grounds d r pilots e) ≡ true
  unfolding record_grounds
  record_numbered r pilots e =
      more 2 (when (bad_form e) e.index) _ refl
      (more 3 (when (bad_next r e) e.index) _ refl
      (more 4 (when (bad_numbers d e) e.index) _ refl (last 5 (when (is_pilot e && leb pilots_max pilots) e.index) refl)))

  chain_numbered : (r pilots : ℕ) (es : List Entry) → numbered (chain_grounds d r pilots es) ≡ true
  unfolding chain_grounds
  chain_numbered r pilots [] = unfold numbered in refl
  chain_numbered r pilots (e ∷ es) = both (record_grounds d r pilots e) (chain_grounds d r (pilots + bit (is_pilot e)) es) (record_numbered r pilots e) (chain_numbered r (pilots + bit (is_pilot e)) es)

  early_numbered : (s : List ℕ) → numbered (grounds1to5 d s) ≡ true
  unfolding grounds1to5
  early_numbered s = more 1 (when (bad_length s) 0) _ refl (chain_numbered (length s / 8) 0 (chain s))

  later_numbered : (p : Plan) → numbered (grounds6to15 d p) ≡ true
  unfolding grounds6to15
  later_numbered p =
      more 6 (outside d p) _ refl
      (more 7 (around_plc d p) _ refl
      (more 8 (pilot_clash d p [] p.pilots) _ refl
      (more 9 (narrow_band d p) _ refl
      (more 10 (when (no_wide_band d p) 0) _ refl
      (more 11 (when (much_excluded d p) 0) _ refl
      (more 12 (much_in_band d p) _ refl
      (more 13 (full_window d p d.long_window d.long_max) _ refl
      (more 14 (full_window d p d.short_window d.short_max) _ refl (last 15 (when (many_ranked d p) 0) refl)))))))))

  plan_numbered : (s : List ℕ) → numbered (grounds1to15 d s) ≡ true
  unfolding grounds1to15
  plan_numbered s = both (grounds1to5 d s) (grounds6to15 d (plan_of s)) (early_numbered s) (later_numbered (plan_of s))

module _ (F : Frame) where
  phase_numbered : (j : ℕ) → numbered (ground16 F j) ≡ true
  unfolding ground16
  phase_numbered j = last 16 (when (leb F.phases j) 0) refl

  start_numbered : (places j : ℕ) (st : List ℕ) → numbered (start_grounds F places j st) ≡ true
  unfolding start_grounds
  start_numbered places j st = both (ground16 F j) (ground? 17 (when (short_store places st) 0)) (phase_numbered j) (last 17 (when (short_store places st) 0) refl)

  loads_numbered : (w : List ℕ) → numbered (ground25 F.width w) ≡ true
  unfolding ground25
  loads_numbered w = more 25 (when (not (eqb (length w) F.width)) 0) _ refl (last 25 (lowest (λ k. not (profile_load (get_or w k 0))) F.width) refl)

  profile_numbered : (w : List ℕ) (g : Given) → numbered (profile_ground F w g) ≡ true
  unfolding profile_ground
  profile_numbered w flush = unfold numbered in refl
  profile_numbered w (symbol ds) = loads_numbered w

  count_numbered : (j n : ℕ) → numbered (ground18 F j n) ≡ true
  unfolding ground18
  count_numbered j n = last 18 (when (not (eqb n (data_count F j))) 0) refl

  data_numbered : (w : List ℕ) (j : ℕ) (ds : List ℕ) → numbered (ground19 F w j ds) ≡ true
  unfolding ground19
  data_numbered w j ds = last 19 (lowest (λ i. ltb (load_limit (get_or (data_loads F w j) i 0)) (get_or ds i 0)) (length ds)) refl

  given_numbered : (w : List ℕ) (j : ℕ) (g : Given) → numbered (given_grounds F w j g) ≡ true
  unfolding given_grounds
  given_numbered w j flush = unfold numbered in refl
  given_numbered w j (symbol ds) = both (ground18 F j (length ds)) (ground19 F w j ds) (count_numbered j (length ds)) (data_numbered w j ds)

  send_numbered : (e : Emitter) (a : Send) → numbered (send_grounds F e a) ≡ true
  unfolding send_grounds ground16 ground17
  send_numbered e a =
      both (profile_ground F a.profile a.given) _ (profile_numbered a.profile a.given)
      (more 16 (when (leb F.phases e.state.phase) 0) _ refl
      (more 17 (when (short_store (emitter_places F) e.store || not (eqb (length a.room) F.width)) 0) _ refl (given_numbered a.profile e.state.phase a.given)))

  receive_numbered : (v : Receiver) (a : Arrival) → numbered (receive_grounds F v a) ≡ true
  unfolding receive_grounds receiver_ground16 receiver_ground17 ground20
  receive_numbered v a =
      both (ground25 F.width a.profile) _ (loads_numbered a.profile)
      (more 16 (when (leb F.phases v.state.phase || leb F.depth v.state.heard) 0) _ refl
      (more 17 (when (short_store (receiver_places F) v.store || not (eqb (length a.symbol) F.width) || short_buffer F v.state a.buffer) 0) _ refl
      (last 20 (lowest (wrong_cell F a.profile v.state.phase a.symbol) F.width) refl)))

  fill_numbered : (w : List ℕ) (j m n a : ℕ) → numbered (fill_grounds F w j m n a) ≡ true
  unfolding fill_grounds ground26
  fill_numbered w j m n a =
      both (ground25 F.width w) _ (loads_numbered w)
      (both (ground16 F j) _ (phase_numbered j) (both (ground18 F j m) _ (count_numbered j m) (last 26 (when (ltb (n * 8 - a) (bit_count F w j)) 0) refl)))

  unfill_numbered : (w : List ℕ) (j : ℕ) (ds : List ℕ) (n a : ℕ) → numbered (unfill_grounds F w j ds n a) ≡ true
  unfolding unfill_grounds
  unfill_numbered w j ds n a = both (fill_grounds F w j (length ds) n a) (ground19 F w j ds) (fill_numbered w j (length ds) n a) (data_numbered w j ds)

-- ---- the number of an answer

-- what is made where nothing is found, and what else
by_ground : {T : Type 0} (number : T → ℕ) (ok : T → Bool) (f : Finding) (made : T) (away : Refusal → T) → numbered f ≡ true → eqb (number made) 0 ≡ ok made
    → ((r : Refusal) → (number (away r) ≡ r.number) × (ok (away r) ≡ false))
    → eqb (number (elim f [ Ok _ ↦ made | Err r ↦ away r ])) 0 ≡ ok (elim f [ Ok _ ↦ made | Err r ↦ away r ])
unfolding numbered
by_ground number ok (Ok tt) made away h hm ha = hm
by_ground number ok (Err r) made away h hm ha = ap (λ (x : ℕ). eqb x 0) (ha r).0 ∙ not-true (eqb r.number 0) h ∙ sym (ha r).1

-- a verdict that a finding makes
answer_zero : (f : Finding) (m : ℕ) → numbered f ≡ true → eqb (told_count (answer f m)).number 0 ≡ is_ok (answer f m)
unfolding numbered
answer_zero (Ok tt) m h = refl
answer_zero (Err r) m h = not-true (eqb r.number 0) h

pub verdict_zero : (d : Device) (s : List ℕ) → eqb (told_count (verdict d s)).number 0 ≡ is_ok (verdict d s)
unfolding verdict
verdict_zero d s = answer_zero (grounds1to15 d s) (ranked_count d (plan_of s)) (plan_numbered d s)

module _ (d : Device) (s : List ℕ) where
  pub trial_zero : (first last : ℕ) → eqb (told_count (trial_of_numbers d s first last)).number 0 ≡ is_ok (trial_of_numbers d s first last)
  unfolding trial_of_numbers trial_verdict
  trial_zero a b =
      by_test (too_large a b)
      (λ t. rw t (answer_zero (grounds1to5 d s else ground? 1 (when (ltb 4096 (length s + 8)) 0) else refused_by 4 (length s / 8)) 0
      (both (grounds1to5 d s) _ (early_numbered d s) (more 1 (when (ltb 4096 (length s + 8)) 0) (refused_by 4 (length s / 8)) refl (unfold numbered in refl)))))
      (λ t. rw t (by_ground (λ (v : Verdict). (told_count v).number) is_ok (grounds1to5 d s) (verdict d (copy_with s a b)) (λ r. Err r) (early_numbered d s) (verdict_zero d (copy_with s a b)) (λ r. (refl, refl))))

  pub role_zero : (k j : ℕ) → eqb (told_role (role_answer d s k j)).number 0 ≡ is_ok (role_answer d s k j)
  unfolding role_answer role_in
  role_zero k j =
      by_ground (λ (r : RoleAnswer). (told_role r).number) is_ok (grounds1to15 d s) (role_in d s k j) (λ r. Err r) (plan_numbered d s)
      (go (leb d.subcarriers k || leb phases j))
      (λ r. (refl, refl))
    where
      made : Bool → RoleAnswer
      made b = elim b [ true ↦ refused_by 16 0 | false ↦ Ok (role d (plan_of s) j k) ]

      go : (b : Bool) → eqb (told_role (made b)).number 0 ≡ is_ok (made b)
      go true = refl
      go false = refl

  pub why_zero : (k j : ℕ) → eqb (told_why (why_answer d s k j)).number 0 ≡ is_ok (why_answer d s k j)
  why_zero k j =
      ap (λ (n : ℕ). eqb n 0) (same_number (why_answer d s k j) ∙ ap (λ (r : RoleAnswer). (told_role r).number) (same_role d s k j))
      ∙ role_zero k j ∙ sym (ap is_ok (same_role d s k j)) ∙ same_ok (why_answer d s k j)

  pub count_zero : (j : ℕ) → eqb (told_count (data_count_answer d s j)).number 0 ≡ is_ok (data_count_answer d s j)
  unfolding data_count_answer frame_count
  count_zero j =
      let F : Frame = frame_of d (plan_of s) in
      by_ground (λ (r : CountAnswer). (told_count r).number) is_ok (grounds1to15 d s) (frame_count F j) (λ r. Err r) (plan_numbered d s)
      (by_ground (λ (r : CountAnswer). (told_count r).number) is_ok (ground16 F j) (Ok (data_count F j)) (λ r. Err r) (phase_numbered F j) refl (λ r. (refl, refl)))
      (λ r. (refl, refl))

  pub start_zero : (j : ℕ) (st : List ℕ) → eqb (told_start (start_step d s j st).answer).number 0 ≡ is_ok (start_step d s j st).answer
  unfolding start_step frame_start
  start_zero j st =
      let F : Frame = frame_of d (plan_of s) in
      let away : Refusal → Starting = λ r. starts (Err r) st in
      by_ground (λ (r : Starting). (told_start r.answer).number) (λ r. is_ok r.answer) (grounds1to15 d s) (frame_start F j st) away (plan_numbered d s)
      (by_ground (λ (r : Starting). (told_start r.answer).number) (λ r. is_ok r.answer) (start_grounds F (emitter_places F) j st)
      (starts (Ok (record { phase = j })) (fresh_store F j st)) away (start_numbered F (emitter_places F) j st) refl (λ r. (refl, refl)))
      (λ r. (refl, refl))

  pub listen_zero : (j : ℕ) (st : List ℕ) → eqb (told_listen (listen_step d s j st).answer).number 0 ≡ is_ok (listen_step d s j st).answer
  unfolding listen_step frame_listen
  listen_zero j st =
      let F : Frame = frame_of d (plan_of s) in
      let away : Refusal → Listening = λ r. listens (Err r) st in
      by_ground (λ (r : Listening). (told_listen r.answer).number) (λ r. is_ok r.answer) (grounds1to15 d s) (frame_listen F j st) away (plan_numbered d s)
      (by_ground (λ (r : Listening). (told_listen r.answer).number) (λ r. is_ok r.answer) (start_grounds F (receiver_places F) j st)
      (listens (Ok (record { phase = j; heard = 0 })) (filler_store F st)) away (start_numbered F (receiver_places F) j st) refl (λ r. (refl, refl)))
      (λ r. (refl, refl))

  pub send_zero : (e : Emitter) (a : Send) → eqb (told_send (send_step d s e a).answer).number 0 ≡ is_ok (send_step d s e a).answer
  unfolding send_step frame_step accepted
  send_zero e a =
      let F : Frame = frame_of d (plan_of s) in
      by_ground (λ (r : Sending). (told_send r.answer).number) (λ r. is_ok r.answer) (grounds1to15 d s) (frame_step F e a) (refused e a) (plan_numbered d s)
      (by_ground (λ (r : Sending). (told_send r.answer).number) (λ r. is_ok r.answer) (send_grounds F e a) (accepted F e a.given) (refused e a) (send_numbered F e a) refl (λ r. (refl, refl)))
      (λ r. (refl, refl))

  pub hear_zero : (v : Receiver) (a : Arrival) → eqb (told_receive (hear_step d s v a).answer).number 0 ≡ is_ok (hear_step d s v a).answer
  unfolding hear_step frame_receive received
  hear_zero v a =
      let F : Frame = frame_of d (plan_of s) in
      by_ground (λ (r : Receiving). (told_receive r.answer).number) (λ r. is_ok r.answer) (grounds1to15 d s) (frame_receive F v a) (turned_away v a) (plan_numbered d s)
      (by_ground (λ (r : Receiving). (told_receive r.answer).number) (λ r. is_ok r.answer) (receive_grounds F v a) (received F v a) (turned_away v a) (receive_numbered F v a)
      (by_test (receive.warming F v.state) (λ q. rw q refl) (λ q. rw q refl)) (λ r. (refl, refl)))
      (λ r. (refl, refl))

  -- what is filled, and what filling that is refused leaves
  away : List ℕ → Refusal → Filling
  away l r = fills (Err r) l

  pub fill_zero : (w : List ℕ) (j : ℕ) (stream : List ℕ) (a : ℕ) (room : List ℕ)
      → eqb (told_count (fill_step d s w j stream a room).answer).number 0 ≡ is_ok (fill_step d s w j stream a room).answer
  unfolding fill_step frame_fill away
  fill_zero w j stream a room =
      let F : Frame = frame_of d (plan_of s) in
      by_ground (λ (r : Filling). (told_count r.answer).number) (λ r. is_ok r.answer) (grounds1to15 d s) (frame_fill F w j stream a room) (away room) (plan_numbered d s)
      (by_ground (λ (r : Filling). (told_count r.answer).number) (λ r. is_ok r.answer) (fill_grounds F w j (length room) (length stream) a)
      (fills (Ok (bit_count F w j)) (filled_from (data_loads F w j) stream a)) (away room) (fill_numbered F w j (length room) (length stream) a) refl (λ r. (refl, refl)))
      (λ r. (refl, refl))

  pub unfill_zero : (w : List ℕ) (j : ℕ) (ds : List ℕ) (a : ℕ) (stream : List ℕ)
      → eqb (told_count (unfill_step d s w j ds a stream).answer).number 0 ≡ is_ok (unfill_step d s w j ds a stream).answer
  unfolding unfill_step frame_unfill away
  unfill_zero w j ds a stream =
      let F : Frame = frame_of d (plan_of s) in
      by_ground (λ (r : Filling). (told_count r.answer).number) (λ r. is_ok r.answer) (grounds1to15 d s) (frame_unfill F w j ds a stream) (away stream) (plan_numbered d s)
      (by_ground (λ (r : Filling). (told_count r.answer).number) (λ r. is_ok r.answer) (unfill_grounds F w j ds (length stream) a)
      (fills (Ok (bit_count F w j)) (unfilled_into (data_loads F w j) ds stream a)) (away stream) (unfill_numbered F w j ds (length stream) a) refl (λ r. (refl, refl)))
      (λ r. (refl, refl))

  pub pilots_zero : eqb (told_count (pilots_answer d s).answer).number 0 ≡ is_ok (pilots_answer d s).answer
  unfolding pilots_answer
  pilots_zero =
      by_ground (λ (p : PilotAnswer). (told_count p.answer).number) (λ p. is_ok p.answer) (grounds1to15 d s) (listing (continuous_pilots d (plan_of s))) no_listing (plan_numbered d s) refl (λ r. (refl, refl))

  lamp_numbered : (r : List ℕ) (n : ℕ) → numbered (lamp_finding d s r n) ≡ true
  unfolding lamp_finding lamp_grounds
  lamp_numbered r n =
      both (grounds1to15 d s) _ (plan_numbered d s)
      (more 28 (when (bad_record lamp_cap (length (continuous_pilots d (plan_of s))) r) 0) _ refl (last 17 (when (not (eqb n d.subcarriers)) 0) refl))

  pub lamp_zero : (r y : List ℕ) → eqb (told_count (lamp_step d s r y).answer.answer).number 0 ≡ is_ok (lamp_step d s r y).answer.answer
  unfolding lamp_step lamp_hears
  lamp_zero r y =
      by_ground (λ (m : Hearing). (told_count m.answer.answer).number) (λ m. is_ok m.answer.answer) (lamp_finding d s r (length y)) (lamp_hears d s r y) (λ x. leaves_record (no_lights x) r) (lamp_numbered r (length y)) refl (λ r. (refl, refl))
