-- The pilot rule: every cell of a sent symbol is its role's mark, or data or filler for the role data. Assumes nothing.
use Prim.Native.Nat.{ℕ, ◌+◌, ◌-◌, ◌%◌, ◌≤◌, ◌<◌}
use mathlib.Core.Path.{◌≡◌, refl, sym, ap, ◌∙◌, subst}
use mathlib.Core.Logic.{by_cases}
use mathlib.Core.Bool.{true, false, not, ◌||◌}
use mathlib.Core.List.{List, []}
use native.Mathlib.Nat.{mod-add-mod, add-mod_right}
use native.Mathlib.Decide.{dec_lt}
use native.Mathlib.Omega.{arith}
use lib.Dec.{leb, eqb}
use lib.ListN.{length, get_or, get_or-replicate}
use borrow.Author.Tests.{le-leb, eq-eqb}
use Rattle.counting.specs.Search.{count, select}
use Rattle.counting.proofs.Bools.{or_true, by_test}
use Rattle.counting.proofs.Laws.{count_lt}
use Rattle.counting.proofs.Select.{select-count}
use Rattle.rules.specs.declared.Device.{Device}
use Rattle.rules.specs.Plan.{Plan}
use Rattle.rules.specs.Roles.{role}
use Rattle.rules.specs.Frame.{Frame, frame_of, cells, spot, holder, delay, phase_back, held, is_data, data_count, Given, flush, symbol, data_list, input_cells, line_symbol, filler, fits_role}
use Rattle.rules.specs.Steps.{Emitter, Send}
use Rattle.roles.proofs.Fitting.{cell_fits, fits_role_lem}
use Rattle.frame.specs.Counted.{phase_of}
use Rattle.frame.proofs.Cells.{Sound, input_data, input_held, holder_below, spot_holder, line_ranked, line_unranked}
use Rattle.runs.specs.Run.{input, sent}
use Rattle.runs.proofs.Steps.{frame_entries, Within, FreshIn}
use Rattle.runs.proofs.Emit.{AllWithin, Limited, given_before, closed_cells, given_late, given_early, delay_below, length_sent, input_within}
use Rattle.runs.proofs.Places.{closed_at, sent_at}

module _ (F : Frame) (limit : ℕ → ℕ) (ok : Sound F) (j : ℕ) (gs : List Given) where
  -- what was given at each number, flushes before the start, is within the limits at its phase
  before_within : AllWithin F limit j gs → (i q : ℕ) → i < length gs → Within F limit (phase_back F (j + i) (delay F q)) (given_before F gs (i + F.depth - delay F q))
  before_within fine i q h =
      by_cases (dec_lt i (delay F q))
      (λ c. rw (given_early F gs (i + F.depth - delay F q) (omega (arith, delay_below F ok q))) tt)
      (λ c.
      let e : i + F.depth - delay F q ≡ F.depth + (i - delay F q) = omega arith in
      let w : j + i + (F.phases - delay F q) ≡ j + (i - delay F q) + F.phases = omega (arith, delay_below F ok q, ok.depth_le) in
      rw (e, given_late F gs (i - delay F q), w, add-mod_right) (fine (i - delay F q) (omega arith)))

  -- what was given holds data, or filler for a flush
  given_cell : (t : ℕ) (g : Given) (c k : ℕ) → Within F limit t g → c < data_count F t → spot F (select (is_data F t) (cells F) c) ≡ k
      → (leb (get_or (data_list F t g) c 0) (limit k) || eqb (get_or (data_list F t g) c 0) filler) ≡ true
  unfolding data_list
  given_cell t flush c k h l on = rw (get_or-replicate (data_count F t) c filler 0 l) (or_true (leb filler (limit k)))
  given_cell t (symbol ds) c k h l on =
      let fits : get_or ds c 0 ≤ limit k = subst (λ (x : ℕ). get_or ds c 0 ≤ limit x) on (h.1 c (omega (arith, h.0))) in
      rw (le-leb (get_or ds c 0) (limit k) fits) refl

  data_before : (t q : ℕ) → q < cells F → held F t q ≡ false → count (is_data F t) q < data_count F t
  unfolding data_count is_data
  data_before t q hq h = count_lt (is_data F t) q (cells F) hq (ap not h)

  -- the pattern that a cell of an earlier input meets where it is sent
  held_back : (a q : ℕ) → held F (phase_back F a (delay F q)) q ≡ F.pattern (a % F.phases) (spot F q)
  unfolding held
  held_back a q =
      ap (λ (x : ℕ). F.pattern x (spot F q))
      (mod-add-mod (a + (F.phases - delay F q)) F.phases (delay F q)
      ∙ ap (λ (x : ℕ). x % F.phases) (let e : a + (F.phases - delay F q) + delay F q ≡ a + F.phases = omega (arith, delay_below F ok q, ok.depth_le) in e)
      ∙ add-mod_right a F.phases)

  closed_fits : AllWithin F limit j gs → (i k : ℕ) → i < length gs → k < F.width → cell_fits F (limit k) (phase_of F j i) k (get_or (line_symbol F (closed_cells F j gs i)) k 0) ≡ true
  unfolding cell_fits is_data
  closed_fits fine i k hi hk =
      by_test (F.ranked k)
      (λ r.
      let q : ℕ = holder F k in
      let hq : q < cells F = holder_below F ok.key_inj k hk r in
      let t : ℕ = phase_back F (j + i) (delay F q) in
      let g : Given = given_before F gs (i + F.depth - delay F q) in
      let v : get_or (line_symbol F (closed_cells F j gs i)) k 0 ≡ get_or (input_cells F t g) q 0 = line_ranked F ok.key_inj (closed_cells F j gs i) k hk r ∙ closed_at F j gs i q hq in
      let at : held F t q ≡ F.pattern (phase_of F j i) k = held_back (j + i) q ∙ ap (F.pattern (phase_of F j i)) (spot_holder F ok.key_inj k hk r) in
      by_test (F.pattern (phase_of F j i) k)
      (λ h. rw (v ∙ input_held F t g q hq (at ∙ h), r, h) refl)
      (λ h. rw (v ∙ input_data F t g q hq (at ∙ h), r, h)
      (given_cell t g (count (is_data F t) q) k (before_within fine i q hi) (data_before t q hq (at ∙ h))
      (ap (spot F) (select-count (is_data F t) (cells F) q hq (ap not (at ∙ h))) ∙ spot_holder F ok.key_inj k hk r))))
      (λ r. rw (r, line_unranked F ok.key_inj (closed_cells F j gs i) k hk r) (eq-eqb (F.mark k) (F.mark k) refl))

-- every cell of every symbol of a run from a fresh start, of steps within limits
pub fitting : (d : Device) (p : Plan) (limit : ℕ → ℕ) → Sound (frame_of d p) → (j : ℕ) (e : Emitter) → FreshIn (frame_of d p) j e → (steps : List Send) → Limited (frame_of d p) limit steps
    → (n k : ℕ) → n < length (sent (frame_entries (frame_of d p)) e steps) → k < d.subcarriers
    → fits_role (limit k) (role d p (phase_of (frame_of d p) j n) k) (get_or (get_or (sent (frame_entries (frame_of d p)) e steps) n []) k 0) ≡ true
fitting d p limit ok j e fresh steps lim n k hn hk =
    let F : Frame = frame_of d p in
    let gs : List Given = input (frame_entries F) e steps in
    let hi : n < length gs = omega (arith, length_sent F e steps) in
    sym (fits_role_lem d p (limit k) (phase_of F j n) k (get_or (get_or (sent (frame_entries F) e steps) n []) k 0) hk)
    ∙ ap (λ (y : List ℕ). cell_fits F (limit k) (phase_of F j n) k (get_or y k 0)) (sent_at F ok j e fresh steps n hi)
    ∙ closed_fits F limit ok j gs (input_within F j e fresh steps limit lim) n k hi (unfold frame_of in hk)
