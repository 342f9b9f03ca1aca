-- What the lamp and the list over bytes answer and leave, by the tests of ground 21. Assumes nothing.
use Prim.Native.Nat.{ℕ, ◌*◌, ◌≤◌, ◌<◌}
use mathlib.Core.Path.{◌≡◌, refl, ap, ◌∙◌}
use mathlib.Core.Bool.{true, false}
use mathlib.Core.List.{List}
use lib.ListN.{length}
use borrow.Author.Tests.{lt-ltb, le-ltb}
use Rattle.counting.proofs.Bools.{or_true}
use Rattle.rules.specs.declared.Device.{Device}
use Rattle.rules.specs.Refusals.{CountAnswer, refused_by}
use Rattle.bytecells.specs.Octets.{cells_of, odd}
use Rattle.pilots.specs.Pilots.{pilots_most, pilots_answer}
use Rattle.lampgrounds.specs.declared.LampAnswer.{LampAnswer}
use Rattle.lampgrounds.specs.Steps.{Hearing, leaves_record, lamp_step}
use Rattle.bytelamp.specs.ByteLamp.{put_if, leaves_list, listed, leaves_lamp, with_lights, short_list, short_lights, pilots_bytes, lamp_bytes}

module _ (d : Device) (s l : List ℕ) where
  pub list_short : length l < 2 * pilots_most → leaves_list (refused_by 21 0) l ≡ pilots_bytes d s l
  unfolding pilots_bytes short_list
  list_short h = rw (lt-ltb (length l) (2 * pilots_most) h) refl

  pub list_left : 2 * pilots_most ≤ length l → listed (pilots_answer d s) l ≡ pilots_bytes d s l
  unfolding pilots_bytes short_list
  list_left h = rw (le-ltb (length l) (2 * pilots_most) h) refl

  module _ (y r : List ℕ) where
    pub lamp_odd : odd y ≡ true → leaves_lamp (refused_by 21 0) r l ≡ lamp_bytes d s y r l
    unfolding lamp_bytes
    lamp_odd e = rw e refl

    pub lamp_short : length l < pilots_most → leaves_lamp (refused_by 21 0) r l ≡ lamp_bytes d s y r l
    unfolding lamp_bytes short_lights
    lamp_short h = rw (lt-ltb (length l) pilots_most h, or_true (odd y)) refl

    pub lamp_left : odd y ≡ false → pilots_most ≤ length l → with_lights (lamp_step d s r (cells_of y)) l ≡ lamp_bytes d s y r l
    unfolding lamp_bytes short_lights
    lamp_left e h = rw (e, le-ltb (length l) pilots_most h) refl

    -- what the lamp answered and left over the cells, put into bytes
    pub lamp_put : (m : LampAnswer) (counts left : List ℕ) (a : CountAnswer) → leaves_record m counts ≡ lamp_step d s r (cells_of y) → a ≡ m.answer → left ≡ put_if m.answer m.lights l
        → leaves_lamp a counts left ≡ with_lights (lamp_step d s r (cells_of y)) l
    lamp_put m counts left a step is put = (λ i. leaves_lamp (is i) counts (put i)) ∙ ap (λ (x : Hearing). with_lights x l) step
