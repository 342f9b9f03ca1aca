-- What the grounds of either emitter ask of its store: places by 17, and places by 27. The code of both shares them. Assumes nothing.
use Rattle.std.specs.Prelude.{ℕ, Bool, List}
use Rattle.counting.specs.Search.{pick, when}
use Rattle.rules.specs.declared.Device.{Device}
use Rattle.rules.specs.Refusals.{Finding}
use Rattle.rules.specs.Grounds.{◌else◌, ground?}
use Rattle.rules.specs.Frame.{Frame}
use Rattle.rules.specs.Store.{emitter_places}
use Rattle.rules.specs.Steps.{Emitter, Send, Sending, Starting, short_store, ground16, ground17, profile_ground, given_grounds, send_step, start_step}
use Rattle.figure.specs.Steps.{literal_places, ground27, figure_send_step, figure_start_step}

-- the places that the store needs by 17, and those by 27: the literal store of the second emitter, or the first emitter's
abbrev pub places17 : Bool → Frame → ℕ
places17 literal F = pick literal 0 (emitter_places F)

abbrev pub places27 : Bool → Frame → ℕ
places27 literal F = pick literal (literal_places F) 0

module _ (F : Frame) (by17 by27 : ℕ) where
  -- the grounds of a step whose store needs so many places
  unfoldable pub step_grounds : Emitter → Send → Finding
  step_grounds e a =
      profile_ground F a.profile a.given
      else ground16 F e.state.phase
      else ground17 F by17 e.store a.room
      else ground27 by27 e.store
      else given_grounds F a.profile e.state.phase a.given

  -- the grounds of such a fresh start
  unfoldable pub fresh_grounds : ℕ → List ℕ → Finding
  fresh_grounds j s = ground16 F j else ground? 17 (when (short_store by17 s) 0) else ground27 by27 s

-- a step and a fresh start of either emitter
abbrev pub step_of : Bool → Device → List ℕ → Emitter → Send → Sending
step_of literal d s e a = pick literal (figure_send_step d s e a) (send_step d s e a)

abbrev pub start_of : Bool → Device → List ℕ → ℕ → List ℕ → Starting
start_of literal d s j store = pick literal (figure_start_step d s j store) (start_step d s j store)
