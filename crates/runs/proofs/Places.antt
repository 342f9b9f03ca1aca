-- Where each cell of a run is sent: the place of a data cell has the role data, and what was given stands there. Assumes nothing.
use Prim.Native.Nat.{ℕ, ◌+◌, ◌-◌, ◌%◌, ◌<◌}
use mathlib.Core.Path.{◌≡◌, refl, sym, ap, ◌∙◌}
use mathlib.Core.Bool.{true, false, not, ◌&&◌}
use mathlib.Core.List.{List, []}
use native.Mathlib.Nat.{mod-add-mod, add-mod_right}
use native.Mathlib.Omega.{arith}
use lib.Dec.{ltb}
use lib.ListN.{length, get_or}
use borrow.Author.Tests.{not-true}
use Rattle.counting.specs.Search.{count}
use Rattle.counting.proofs.Bools.{and_left, and_right}
use Rattle.counting.proofs.Lists.{get_d_tabulate}
use Rattle.rules.specs.declared.Device.{Device}
use Rattle.rules.specs.declared.Role.TheVariants.{Data}
use Rattle.rules.specs.Plan.{Plan}
use Rattle.rules.specs.Bands.{excluded, active}
use Rattle.rules.specs.Roles.{in_plc, continuous, scattered_at, role, ranked}
use Rattle.rules.specs.Frame.{Frame, frame_of, cells, spot, delay, phase_back, held, is_data, data_count, Given, flush, symbol, data_list, input_cells, line_symbol}
use Rattle.rules.specs.Steps.{Emitter, Send}
use Rattle.frame.specs.Counted.{phase_of}
use Rattle.frame.proofs.Cells.{Sound, data_cell_lem, data_cell_held, data_cell_at, spot_below, spot_ranked, spot_inj, line_spot}
use Rattle.roles.proofs.Testing.{role_is}
use Rattle.runs.specs.Run.{input, sent}
use Rattle.runs.specs.Demand3.{data_cell, sent_number, Placed}
use Rattle.runs.proofs.Steps.{frame_entries, FreshIn}
use Rattle.runs.proofs.Emit.{given_before, closed_cells, closed_sent, given_late, delay_below, length_sent, sent_closed, input_top}

-- ---- the role of a place

-- a subcarrier that has a rank has the role data, where the scattered pattern does not stand
pub data_role : (d : Device) (p : Plan) (j k : ℕ) → ranked d p k ≡ true → scattered_at d p j k ≡ false → role d p j k ≡ Data
unfolding ranked active
data_role d p j k r free =
    let in-band : (active d p k && not (in_plc d p k)) ≡ true = and_left _ (not (continuous d p k)) r in
    let off : excluded p k ≡ false = not-true _ (and_right (ltb k d.subcarriers) _ (and_left _ (not (in_plc d p k)) in-band)) in
    let no_plc : in_plc d p k ≡ false = not-true _ (and_right (active d p k) _ in-band) in
    let no_pilot : continuous d p k ≡ false = not-true _ (and_right (active d p k && not (in_plc d p k)) _ r) in
    sym (role_is d p j k false false false false off no_plc no_pilot free)

-- ---- cells and places of any frame

module _ (F : Frame) (j t : ℕ) where
  -- the pattern that a cell meets where it is sent
  held_sent : (q : ℕ) → held F (phase_of F j t) q ≡ F.pattern (phase_of F j (sent_number F t q)) (spot F q)
  unfolding held
  held_sent q =
      ap (λ (x : ℕ). F.pattern x (spot F q))
      (mod-add-mod (j + t) F.phases (delay F q) ∙ ap (λ (x : ℕ). x % F.phases) (let e : j + t + delay F q ≡ j + (t + delay F q) = omega arith in e))

  module _ (c : ℕ) (h : c < data_count F (phase_of F j t)) where
    pub cell_below : data_cell F j t c < cells F
    cell_below = (data_cell_lem F (phase_of F j t) c h).below

    pub cell_before : count (is_data F (phase_of F j t)) (data_cell F j t c) ≡ c
    cell_before = (data_cell_lem F (phase_of F j t) c h).before

    pub place_free : F.pattern (phase_of F j (sent_number F t (data_cell F j t c))) (spot F (data_cell F j t c)) ≡ false
    place_free = sym (held_sent (data_cell F j t c)) ∙ data_cell_held F (phase_of F j t) c h

-- ---- a run from a fresh start

-- cell q of the symbol sent as number i, in the closed form
pub closed_at : (F : Frame) (j : ℕ) (gs : List Given) (i q : ℕ) → q < cells F
    → get_or (closed_cells F j gs i) q 0 ≡ get_or (input_cells F (phase_back F (j + i) (delay F q)) (given_before F gs (i + F.depth - delay F q))) q 0
unfolding closed_cells
closed_at F j gs i q h = get_d_tabulate _ (cells F) 0 q h

module _ (F : Frame) (ok : Sound F) (j : ℕ) where
  -- cell q of input t is cell q of the symbol sent q mod M later
  pub closed_later : (gs : List Given) (t q : ℕ) → q < cells F
      → get_or (closed_cells F j gs (sent_number F t q)) q 0 ≡ get_or (input_cells F (phase_of F j t) (get_or gs t flush)) q 0
  closed_later gs t q h =
      let e : t + delay F q + F.depth - delay F q ≡ F.depth + t = omega arith in
      let w : j + (t + delay F q) + (F.phases - delay F q) ≡ j + t + F.phases = omega (arith, delay_below F ok q, ok.depth_le) in
      closed_at F j gs (sent_number F t q) q h ∙ rw (e, given_late F gs t, w, add-mod_right) refl

  module _ (e : Emitter) (fresh : FreshIn F j e) (steps : List Send) where
    -- sent symbol i
    pub sent_at : (i : ℕ) → i < length (input (frame_entries F) e steps)
        → get_or (sent (frame_entries F) e steps) i [] ≡ line_symbol F (closed_cells F j (input (frame_entries F) e steps) i)
    unfolding closed_sent
    sent_at i h =
        ap (λ (ys : List (List ℕ)). get_or ys i []) (sent_closed F j e fresh steps ok) ∙ get_d_tabulate _ (length (input (frame_entries F) e steps)) [] i h

    -- cell q of input t stands at its place
    pub cell_stands : (t q : ℕ) → q < cells F → sent_number F t q < length (input (frame_entries F) e steps)
        → get_or (get_or (sent (frame_entries F) e steps) (sent_number F t q) []) (spot F q) 0
        ≡ get_or (input_cells F (phase_of F j t) (get_or (input (frame_entries F) e steps) t flush)) q 0
    cell_stands t q hq h =
        ap (λ (y : List ℕ). get_or y (spot F q) 0) (sent_at (sent_number F t q) h)
        ∙ line_spot F ok.key_inj _ q hq ∙ closed_later (input (frame_entries F) e steps) t q hq

    symbol_length : (t : ℕ) (ds : List ℕ) → t < length (input (frame_entries F) e steps) → get_or (input (frame_entries F) e steps) t flush ≡ symbol ds
        → length ds ≡ data_count F (phase_of F j t)
    symbol_length t ds h is = (rw is at (input_top F j e fresh steps t h)).0

    number_stands : (t c : ℕ) (ds : List ℕ) → t < length (input (frame_entries F) e steps) → get_or (input (frame_entries F) e steps) t flush ≡ symbol ds → c < length ds
        → sent_number F t (data_cell F j t c) < length (sent (frame_entries F) e steps)
        → get_or (get_or (sent (frame_entries F) e steps) (sent_number F t (data_cell F j t c)) []) (spot F (data_cell F j t c)) 0 ≡ get_or ds c 0
    unfolding data_list
    number_stands t c ds h is l reached =
        let c' : c < data_count F (phase_of F j t) = omega (arith, l, symbol_length t ds h is) in
        cell_stands t (data_cell F j t c) (cell_below F j t c c') (rw length_sent at reached)
        ∙ ap (λ (g : Given). get_or (input_cells F (phase_of F j t) g) (data_cell F j t c) 0) is
        ∙ data_cell_at F (phase_of F j t) c (symbol ds) c'

-- ---- the claim, of a run under the frame of a plan

pub placed : (d : Device) (p : Plan) → Sound (frame_of d p) → (j : ℕ) (e : Emitter) → FreshIn (frame_of d p) j e → (steps : List Send)
    → Placed (frame_of d p) j (input (frame_entries (frame_of d p)) e steps) (sent (frame_entries (frame_of d p)) e steps)
unfolding frame_of
placed d p ok j e fresh steps =
    let F : Frame = frame_of d p in
    record {
      one_each = length_sent F e steps;
      all_given = symbol_length F ok j e fresh steps;
      cell = cell_below F j;
      own_cell = λ t c c' h h' same. sym (cell_before F j t c h) ∙ ap (count (is_data F (phase_of F j t))) same ∙ cell_before F j t c' h';
      own_place = λ t t' q q' h h' same at.
          let qq : q ≡ q' = spot_inj F ok.key_inj q q' h h' at in
          (omega (arith, ap (delay F) qq), qq);
      inside = λ t c h. spot_below F (data_cell F j t c) (cell_below F j t c h);
      role_data = λ t c h.
          data_role d p (phase_of F j (sent_number F t (data_cell F j t c))) (spot F (data_cell F j t c))
          (spot_ranked F (data_cell F j t c) (cell_below F j t c h)) (place_free F j t c h);
      stands = number_stands F ok j e fresh steps;
    }
