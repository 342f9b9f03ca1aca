-- From a fresh start the short store gives the same as the long store, under every plan that the 50 kHz device accepts. Assumes nothing.
use Prim.Native.Nat.{ℕ, ◌*◌, ◌≤◌, ◌<◌}
use mathlib.Core.Path.{◌≡◌, sym, ap, subst₂}
use mathlib.Core.Bool.{true}
use mathlib.Core.List.{List}
use lib.ListN.{length}
use Rattle.rules.specs.declared.Device.{Device}
use Rattle.rules.specs.Refusals.{Finding}
use Rattle.std.specs.Prelude.{Ok, Err, is_ok}
use Rattle.rules.specs.Device.{khz50, phases}
use Rattle.rules.specs.Plan.{plan_of}
use Rattle.rules.specs.Grounds.{grounds1to15, verdict}
use Rattle.rules.specs.Frame.{Frame, frame_of, cells}
use Rattle.rules.specs.Steps as short
use Rattle.frame.proofs.Cells.{Sound}
use Rattle.facts.proofs.Framed.{sound}
use Rattle.facts.proofs.Sizes.{khz50_roomy}
use Rattle.verdicts.proofs.Verdicts.{no_ground}
use Rattle.runs.proofs.Steps.{frame_entries, frame_entries_lem, fresh_in}
use Rattle.runs.proofs.Hears.{listens_in}
use Rattle.runs.proofs.Accepts.{start_fine}
use Rattle.longstore.specs.Store.{fresh_store, filler_store}
use Rattle.longstore.specs.Steps.{Starting, starts, refused, short_store, start_grounds, frame_start, frame_step, start_step, send_step}
use Rattle.longstore.specs.Receive.{Listening, listens, turned_away, frame_listen, frame_receive, listen_step, hear_step}
use Rattle.longstore.specs.Run.{long_entries}
use Rattle.longstore.specs.Same.{Same, SameAsLong}
use Rattle.longstore.proofs.Entries.{long_frame}
use Rattle.longstore.proofs.Emitters.{emitter_alike}
use Rattle.longstore.proofs.Receivers.{receiver_alike}

-- ---- fresh starts with the long store

module _ (F : Frame) (j : ℕ) (lent : List ℕ) (hj : j < F.phases) (fits : F.depth * cells F ≤ length lent) where
  fine : start_grounds F j lent ≡ Ok tt
  unfolding start_grounds short_store short.start_grounds short.short_store
  fine = start_fine F j lent hj (F.depth * cells F) fits

  started : is_ok (frame_start F j lent).answer ≡ true
  unfolding frame_start
  started =
      let left : Finding → Starting = λ f. elim f [ Ok _ ↦ starts (Ok (record { phase = j; row = 0 })) (fresh_store F j lent) | Err r ↦ starts (Err r) lent ] in
      ap (λ (f : Finding). is_ok (left f).answer) fine

  listening : is_ok (frame_listen F j lent).answer ≡ true
  unfolding frame_listen
  listening =
      let left : Finding → Listening = λ f. elim f [ Ok _ ↦ listens (Ok (record { phase = j; row = 0; heard = 0 })) (filler_store F lent) | Err r ↦ listens (Err r) lent ] in
      ap (λ (f : Finding). is_ok (left f).answer) fine

-- ---- the claim

frame_same : (F : Frame) → Sound F → Same F (frame_entries F) (long_frame F)
frame_same F ok = record {
  emitted = λ j e l fresh long. emitter_alike F ok j e l (fresh_in F j e fresh) long;
  received = λ j v l fresh long. receiver_alike F ok j v l (listens_in F j v fresh) long;
  started = started F;
  listens = listening F;
}

-- the entries with the long store of a plan that no ground refuses are those of its frame
long_entries_lem : (d : Device) (s : List ℕ) → grounds1to15 d s ≡ Ok tt → long_entries d s ≡ long_frame (frame_of d (plan_of s))
unfolding start_step send_step listen_step hear_step
long_entries_lem d s fine = λ i. record {
  start = λ j lent. elim (fine i) [ Ok _ ↦ frame_start (frame_of d (plan_of s)) j lent | Err r ↦ starts (Err r) lent ];
  send = λ e a. elim (fine i) [ Ok _ ↦ frame_step (frame_of d (plan_of s)) e a | Err r ↦ refused e a r ];
  listen = λ j lent. elim (fine i) [ Ok _ ↦ frame_listen (frame_of d (plan_of s)) j lent | Err r ↦ listens (Err r) lent ];
  hear = λ v a. elim (fine i) [ Ok _ ↦ frame_receive (frame_of d (plan_of s)) v a | Err r ↦ turned_away v a r ];
}

-- any device whose depths are no more than the phases: every plan that no ground refuses
pub same_as_long : (d : Device) (s : List ℕ) → d.depth_max ≤ phases → grounds1to15 d s ≡ Ok tt → SameAsLong d s
same_as_long d s h fine =
    subst₂ (Same (frame_of d (plan_of s))) (sym (frame_entries_lem d s fine)) (sym (long_entries_lem d s fine)) (frame_same (frame_of d (plan_of s)) (sound d s h fine))

-- every plan that the 50 kHz device accepts
pub accepted_same : (s : List ℕ) (n : ℕ) → verdict khz50 s ≡ Ok n → SameAsLong khz50 s
accepted_same s n e = same_as_long khz50 s khz50_roomy.depth (no_ground khz50 s n (sym e))
