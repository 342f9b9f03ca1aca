-- Demand 3 and the other claims hold of every plan whose frame is sound and has a data cell at each phase; so of every plan that the 50 kHz device accepts. Assumes nothing.
use Prim.Native.Nat.{ℕ, ◌≤◌, ◌<◌}
use mathlib.Core.Path.{◌≡◌, refl, sym, subst}
use mathlib.Core.Logic.{◌↔◌}
use mathlib.Core.List.{List}
use native.Mathlib.Omega.{arith}
use lib.ListN.{length}
use Rattle.rules.specs.declared.Device.{Device}
use Rattle.std.specs.Prelude.{Ok}
use Rattle.rules.specs.Device.{khz50, phases}
use Rattle.rules.specs.Plan.{Plan, plan_of}
use Rattle.rules.specs.Grounds.{grounds1to15, verdict}
use Rattle.rules.specs.Frame.{Frame, frame_of, data_count}
use Rattle.rules.specs.Loads.{limit_at}
use Rattle.rules.specs.Steps.{Emitter, Send}
use Rattle.rules.specs.Receive.{Receiver, Arrival}
use Rattle.frame.specs.Counted.{Counts}
use Rattle.frame.proofs.Cells.{Sound}
use Rattle.facts.specs.Roomy.{Roomy}
use Rattle.facts.proofs.Framed.{sound, counted}
use Rattle.facts.proofs.Data.{some_data}
use Rattle.facts.proofs.Sizes.{khz50_roomy}
use Rattle.verdicts.proofs.Verdicts.{no_ground}
use Rattle.runs.specs.Run.{cell_entries, input, sent, Fresh, heard, FreshReceiver}
use Rattle.runs.specs.Follow.{Flushed, Follows}
use Rattle.runs.specs.Demand3.{Returned, Demand3}
use Rattle.runs.specs.Claims.{PlanClaims}
use Rattle.runs.proofs.Steps.{frame_entries, top, frame_entries_lem, fresh_in}
use Rattle.runs.proofs.Hears.{listens_in}
use Rattle.runs.proofs.Places.{placed}
use Rattle.runs.proofs.Fitting.{fitting}
use Rattle.runs.proofs.Unique.{unique}
use Rattle.runs.proofs.Return.{returned}
use Rattle.runs.proofs.Emit.{limited_top, limited_under}
use Rattle.runs.proofs.Accepts.{starts_fine, listens_fine, emits, flushes, flush_same, fourteen_same}
use Rattle.runs.proofs.Fills.{fill_fine, fills_count, filled_input}
use Rattle.runs.proofs.Streams.{FillsAs, streams}

-- the entries of a plan's frame
module _ (d : Device) (p : Plan) (ok : Sound (frame_of d p)) (some : (j : ℕ) → j < phases → 1 ≤ data_count (frame_of d p) j) where
  frame_unique : (j : ℕ) (e e' : Emitter) → Fresh (frame_entries (frame_of d p)) j e → Fresh (frame_entries (frame_of d p)) j e' → (steps steps' : List Send)
      → Flushed (frame_of d p).depth (input (frame_entries (frame_of d p)) e steps) → Flushed (frame_of d p).depth (input (frame_entries (frame_of d p)) e' steps')
      → (sent (frame_entries (frame_of d p)) e steps ≡ sent (frame_entries (frame_of d p)) e' steps') ↔ (input (frame_entries (frame_of d p)) e steps ≡ input (frame_entries (frame_of d p)) e' steps')
  frame_unique j e e' f f' steps steps' = let F : Frame = frame_of d p in unique F ok (unfold frame_of in some) j e e' (fresh_in F j e f) (fresh_in F j e' f') steps steps'

  frame_returned : (j : ℕ) (e : Emitter) (v : Receiver) → Fresh (frame_entries (frame_of d p)) j e → FreshReceiver (frame_entries (frame_of d p)) j v → (steps : List Send) (arrivals : List Arrival)
      → Follows (sent (frame_entries (frame_of d p)) e steps) (heard (frame_entries (frame_of d p)) v arrivals)
      → Returned (frame_of d p) (frame_entries (frame_of d p)) j steps (input (frame_entries (frame_of d p)) e steps) (sent (frame_entries (frame_of d p)) e steps) v arrivals
  unfolding frame_of
  frame_returned j e v f g steps arrivals follows =
      let F : Frame = frame_of d p in
      returned F ok j e (fresh_in F j e f) steps v (listens_in F j v g) arrivals
      (λ w under. fitting d p (limit_at w) ok j e (fresh_in F j e f) steps (limited_under F w steps under)) follows

  frame_fills : (w : List ℕ) → FillsAs (frame_of d p) (frame_entries (frame_of d p)) w
  frame_fills w = record { fill_as = λ j b a room n left e. e; unfill_as = λ j x a c h. refl }

  frame_demand3 : Demand3 (frame_of d p) (frame_entries (frame_of d p))
  unfolding frame_of
  frame_demand3 =
      let F : Frame = frame_of d p in
      record {
        placed = λ j e f steps. placed d p ok j e (fresh_in F j e f) steps;
        unique = frame_unique;
        returned = frame_returned;
        streams = λ w listed. streams F (frame_entries F) w (frame_fills w) listed some (λ j e f. (fresh_in F j e f).phase_in) frame_unique frame_returned;
      }

  frame_claims : Counts (frame_of d p) → PlanClaims (frame_of d p) (frame_entries (frame_of d p))
  unfolding frame_of
  frame_claims all =
      let F : Frame = frame_of d p in
      record {
        some_data = some;
        counts = all;
        marked = λ j e f steps. fitting d p top ok j e (fresh_in F j e f) steps (limited_top F steps);
        loaded = λ w listed j e f steps under. fitting d p (limit_at w) ok j e (fresh_in F j e f) steps (limited_under F w steps under);
        started = λ j lent hj w h. starts_fine F j lent hj h;
        listens = λ j lent hj w h. listens_fine F j lent hj h;
        emits = λ j e f steps w ds room listed fit u h. emits F j e (fresh_in F j e f) steps w ds room listed fit h;
        flushes = λ j e f steps w room u h. flushes F j e (fresh_in F j e f) steps w room h;
        flush_same = flush_same F;
        fourteen_same = fourteen_same F;
        fills = λ w listed j hj stream a room u h fits. fills_count F w j stream a room (fill_fine F w j (length room) (length stream) a listed hj h (omega arith));
        filled = λ w listed j stream a n room left e. filled_input F w j stream a n room left e;
      }

-- a roomy device: every plan that no ground refuses
module _ (d : Device) (s : List ℕ) (roomy : Roomy d) (fine : grounds1to15 d s ≡ Ok tt) where
  pub roomy_demand3 : Demand3 (frame_of d (plan_of s)) (cell_entries d s)
  roomy_demand3 = subst (Demand3 (frame_of d (plan_of s))) (sym (frame_entries_lem d s fine)) (frame_demand3 d (plan_of s) (sound d s roomy.depth fine) (some_data d s roomy fine))

  pub roomy_claims : PlanClaims (frame_of d (plan_of s)) (cell_entries d s)
  roomy_claims =
      subst (PlanClaims (frame_of d (plan_of s))) (sym (frame_entries_lem d s fine))
      (frame_claims d (plan_of s) (sound d s roomy.depth fine) (some_data d s roomy fine) (counted d s roomy.depth fine))

-- every plan that the 50 kHz device accepts
module _ (s : List ℕ) (n : ℕ) (e : verdict khz50 s ≡ Ok n) where
  pub accepted_demand3 : Demand3 (frame_of khz50 (plan_of s)) (cell_entries khz50 s)
  accepted_demand3 = roomy_demand3 khz50 s khz50_roomy (no_ground khz50 s n (sym e))

  pub accepted_claims : PlanClaims (frame_of khz50 (plan_of s)) (cell_entries khz50 s)
  accepted_claims = roomy_claims khz50 s khz50_roomy (no_ground khz50 s n (sym e))
