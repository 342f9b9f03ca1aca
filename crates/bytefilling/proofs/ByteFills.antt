-- What filling and the way back over bytes answer and leave: ground 21, and else what they do over the cells. Assumes nothing.
use Prim.Native.Nat.{ℕ}
use mathlib.Core.Path.{◌≡◌, refl, sym, ap, ◌∙◌}
use mathlib.Core.Bool.{true, false}
use mathlib.Core.List.{List}
use Rattle.rules.specs.declared.Device.{Device}
use Rattle.rules.specs.Refusals.{CountAnswer, refused_by}
use Rattle.rules.specs.Filling.{fills, fill_step, unfill_step}
use Rattle.bytecells.specs.Octets.{cells_of, bytes_of, odd, Whole}
use Rattle.bytecells.specs.ByteSteps.{filled_bytes, fill_bytes, unfill_bytes}

module _ (d : Device) (s w : List ℕ) (j : ℕ) (stream : List ℕ) (a : ℕ) (room : List ℕ) where
  pub fill_odd : odd room ≡ true → fills (refused_by 21 0) room ≡ fill_bytes d s w j stream a room
  unfolding fill_bytes
  fill_odd e = rw e refl

  module _ (e : odd room ≡ false) where
    fill_whole : filled_bytes (fill_step d s w j stream a (cells_of room)) ≡ fill_bytes d s w j stream a room
    unfolding fill_bytes
    fill_whole = rw e refl

    -- cells that are left, as bytes
    pub fill_left : (r : CountAnswer) (left cells : List ℕ) → left ≡ bytes_of cells → fills r cells ≡ fill_step d s w j stream a (cells_of room) → fills r left ≡ fill_bytes d s w j stream a room
    fill_left r left cells is h = ap (fills r) is ∙ ap filled_bytes h ∙ fill_whole

    -- whole cells that are left as they were
    pub fill_stays : Whole room → (r : CountAnswer) → fills r (cells_of room) ≡ fill_step d s w j stream a (cells_of room) → fills r room ≡ fill_bytes d s w j stream a room
    fill_stays u r h = fill_left r room (cells_of room) (sym u) h

module _ (d : Device) (s w : List ℕ) (j : ℕ) (ds : List ℕ) (a : ℕ) (stream : List ℕ) where
  pub unfill_odd : odd ds ≡ true → fills (refused_by 21 0) stream ≡ unfill_bytes d s w j ds a stream
  unfolding unfill_bytes
  unfill_odd e = rw e refl

  pub unfill_whole : odd ds ≡ false → unfill_step d s w j (cells_of ds) a stream ≡ unfill_bytes d s w j ds a stream
  unfolding unfill_bytes
  unfill_whole e = rw e refl
