-- Filling over bytes, and the way back: what 21 does not refuse is done in the cells of the bytes. Assumes nothing.
use Prim.Native.Nat.{ℕ}
use mathlib.Core.Path.{◌≡◌, refl, sym, ap, ◌∙◌}
use mathlib.Core.Bool.{false}
use mathlib.Core.List.{List}
use native.Mathlib.Omega.{arith}
use borrow.Author.Tests.{not-true}
use Rattle.counting.proofs.Bools.{by_test}
use Rattle.rules.specs.declared.Device.{Device}
use Rattle.rules.specs.Refusals.{refused_by}
use Rattle.std.specs.Prelude.{Ok}
use Rattle.rules.specs.Plan.{plan_of}
use Rattle.rules.specs.Grounds.{grounds1to15}
use Rattle.rules.specs.Frame.{frame_of}
use Rattle.rules.specs.Filling.{Filling, fills, fill_step, unfill_step}
use Rattle.bytecells.specs.Octets.{cells_of, odd}
use Rattle.bytecells.specs.ByteSteps.{filled_bytes, fill_bytes, unfill_bytes}
use Rattle.bytecells.proofs.OctetLaws.{cells_bytes}
use Rattle.runs.specs.Run.{Entries}
use Rattle.runs.proofs.Steps.{frame_entries_lem}
use Rattle.runs.proofs.Streams.{FillsAs}
use Rattle.byteruns.specs.ByteEntries.{byte_entries}
use Rattle.byteruns.proofs.Starts.{even_bytes}

-- what is left, as cells
read_filling : Filling → Filling
read_filling r = fills r.answer (cells_of r.left)

not_count : (n place m : ℕ) (l l' : List ℕ) → fills (refused_by n place) l ≡ fills (Ok m) l' → ⊥
not_count n place m l l' e =
    let other : refused_by n place ≡ Ok m = ap (λ (r : Filling). r.answer) e in
    let z : ◌≡◌ {A = ℕ} 0 1 = cc in
    omega arith

module _ (d : Device) (s w : List ℕ) (j : ℕ) where
  -- filling that takes n bits takes them in cells, and leaves whole cells
  pub fill_cells : (stream : List ℕ) (a : ℕ) (room : List ℕ) (n : ℕ) (left : List ℕ) → fill_bytes d s w j stream a room ≡ fills (Ok n) left
      → (fill_step d s w j stream a (cells_of room) ≡ fills (Ok n) (cells_of left)) × (odd left ≡ false)
  unfolding fill_bytes read_filling
  fill_cells stream a room n left e =
      let r : Filling = fill_step d s w j stream a (cells_of room) in
      by_test (odd room) (λ q. absurd (not_count 21 0 n room left (rw q at e)))
      (λ q.
      let made : filled_bytes r ≡ fills (Ok n) left = rw q at e in (
        ap (fills r.answer) (sym (cells_bytes r.left)) ∙ ap read_filling made,
        ap (λ (x : Filling). odd x.left) (sym made) ∙ even_bytes r.left,
      ))

  pub fill_answer : (stream : List ℕ) (a : ℕ) (room : List ℕ) → odd room ≡ false → (fill_bytes d s w j stream a room).answer ≡ (fill_step d s w j stream a (cells_of room)).answer
  unfolding fill_bytes
  fill_answer stream a room h = rw h refl

  pub unfill_cells : (ds : List ℕ) (a : ℕ) (stream : List ℕ) → odd ds ≡ false → unfill_bytes d s w j ds a stream ≡ unfill_step d s w j (cells_of ds) a stream
  unfolding unfill_bytes
  unfill_cells ds a stream h = rw h refl

-- under a plan that no ground refuses
pub fills_as : (d : Device) (s : List ℕ) → grounds1to15 d s ≡ Ok tt → (w : List ℕ) → FillsAs (frame_of d (plan_of s)) (byte_entries d s) w
fills_as d s fine w = record {
  fill_as = λ j stream a room n left e. sym (ap (λ (E : Entries). E.fill w j stream a (cells_of room)) (frame_entries_lem d s fine)) ∙ (fill_cells d s w j stream a room n left e).0;
  unfill_as = λ j x a c h. unfill_cells d s w j x a c (not-true (odd x) h) ∙ ap (λ (E : Entries). E.unfill w j (cells_of x) a c) (frame_entries_lem d s fine);
}
