-- The closed form of a run: the symbols sent from a fresh start are a function of the frame, the starting phase and the input alone. Assumes nothing.
use Prim.Native.Nat.{ℕ, zero, suc, ◌+◌, ◌-◌, ◌%◌, ◌≤◌, ◌<◌}
use mathlib.Core.Path.{◌≡◌, refl, sym, ap, ◌∙◌, subst}
use mathlib.Core.Logic.{by_cases}
use mathlib.Core.List.{List, [], ◌∷◌, ◌++◌, map}
use native.Mathlib.Nat.{mod-lt, mod-eq_of_lt, mod-add-mod, add-mod_right, le_of_suc-le-suc, not-suc-le-zero, add-zero}
use native.Mathlib.Decide.{dec_lt}
use native.Mathlib.Omega.{arith}
use lib.ListN.{length, get_or, replicate, length-replicate, get_or-replicate, length-map, get_or-append}
use lib.Seq.{length-sets, ext_get_or, get_or-append-add}
use Rattle.counting.specs.Search.{tabulate}
use Rattle.counting.proofs.Lists.{length_tabulate, get_d_tabulate, get_or-sets_0, get_or-map_in}
use Rattle.std.specs.Prelude.{Ok}
use Rattle.rules.specs.Frame.{Frame, cells, delay, next_phase, phase_back, Given, flush, symbol, input_cells, line_symbol}
use Rattle.rules.specs.Places.{joined, places_before}
use Rattle.rules.specs.Store.{emitter_places, fresh_places, fresh_store}
use Rattle.rules.specs.Loads.{limit_at}
use Rattle.rules.specs.Steps.{Emitter, Send, profile_ground, given_grounds, send_grounds, next_state, sent_store, sent_symbol}
use Rattle.rules.proofs.Findings.{by_finding}
use Rattle.frame.specs.Counted.{phase_of}
use Rattle.frame.proofs.Cells.{Sound}
use Rattle.places.specs.Sent.{places_sent}
use Rattle.places.proofs.Kept.{start_grow, joined_length, joined_at, early, late, length-places_sent, length_cells}
use Rattle.runs.specs.Run.{accepted_steps, UnderProfile, input, sent}
use Rattle.runs.proofs.Steps.{frame_entries, Within, top, given_within, within_top, fine_given, next, input_sent, input_ground, sent_symbol_lem, sent_ground, FreshIn, fresh_emitter}

-- ---- a run is that of its accepted steps

-- the input symbols of what accepted steps were given, from phase j on
inputs : Frame → ℕ → List Given → List (List ℕ)
inputs F j [] = []
inputs F j (g ∷ gs) = input_cells F j g ∷ inputs F (next_phase F j) gs

length_inputs : (F : Frame) (j : ℕ) (gs : List Given) → length (inputs F j gs) ≡ length gs
unfolding inputs
length_inputs F j [] = refl
length_inputs F j (g ∷ gs) = ap suc (length_inputs F (next_phase F j) gs)

-- the phase of a symbol, from the phase after the start's
pub phase_next : (F : Frame) (j i : ℕ) → phase_of F (next_phase F j) i ≡ phase_of F j (suc i)
phase_next F j i = mod-add-mod (j + 1) F.phases i ∙ ap (λ (x : ℕ). x % F.phases) (let z : j + 1 + i ≡ j + suc i = omega arith in z)

pub phase_first : (F : Frame) (j : ℕ) → j < F.phases → phase_of F j 0 ≡ j
phase_first F j h = rw (add-zero, mod-eq_of_lt h) refl

pub next_in : (F : Frame) (j : ℕ) → j < F.phases → next_phase F j < F.phases
next_in F j h = mod-lt (j + 1) (omega arith)

inputs_at : (F : Frame) (j : ℕ) (gs : List Given) → j < F.phases → (i : ℕ) → i < length gs → get_or (inputs F j gs) i [] ≡ input_cells F (phase_of F j i) (get_or gs i flush)
unfolding inputs
inputs_at F j [] hj i h = absurd (not-suc-le-zero h)
inputs_at F j (g ∷ gs) hj zero h = ap (λ (x : ℕ). input_cells F x g) (sym (phase_first F j hj))
inputs_at F j (g ∷ gs) hj (suc i) h =
    inputs_at F (next_phase F j) gs (next_in F j hj) i (le_of_suc-le-suc h) ∙ ap (λ (x : ℕ). input_cells F x (get_or gs i flush)) (phase_next F j i)

-- the cells that accepted steps send, given gs
cells_sent : Frame → Emitter → List Given → List (List ℕ)
cells_sent F e gs = places_sent (delay F) (cells F) e.store (inputs F e.state.phase gs)

sent_cells : (F : Frame) (e : Emitter) (steps : List Send) → sent (frame_entries F) e steps ≡ map (line_symbol F) (cells_sent F e (input (frame_entries F) e steps))
unfolding sent input accepted_steps cells_sent places_sent inputs sent_symbol sent_store next next_state
sent_cells F e [] = refl
sent_cells F e (a ∷ rest) =
    by_finding (send_grounds F e a)
    (λ h. rw (sent_symbol_lem F e a rest h, input_sent F e a rest h, sent_cells F (next F e a.given) rest) refl)
    (λ n place h. rw (sent_ground F e a rest n place h, input_ground F e a rest n place h) (sent_cells F e rest))

-- each accepted step sends one symbol
pub length_sent : (F : Frame) (e : Emitter) (steps : List Send) → length (sent (frame_entries F) e steps) ≡ length (input (frame_entries F) e steps)
unfolding cells_sent
length_sent F e steps =
    let gs : List Given = input (frame_entries F) e steps in
    ap length (sent_cells F e steps) ∙ length-map (cells_sent F e gs) (line_symbol F)
    ∙ length-places_sent (delay F) (cells F) e.store (inputs F e.state.phase gs)
    ∙ length_inputs F e.state.phase gs

-- ---- what the accepted steps were given

-- all of gs is within limits, from phase j on
abbrev pub AllWithin : Frame → (ℕ → ℕ) → ℕ → List Given → Type 0
AllWithin F limit j gs = (i : ℕ) → i < length gs → Within F limit (phase_of F j i) (get_or gs i flush)

within_cons : (F : Frame) (limit : ℕ → ℕ) (j : ℕ) (g : Given) (gs : List Given) → j < F.phases → Within F limit j g → AllWithin F limit (next_phase F j) gs → AllWithin F limit j (g ∷ gs)
within_cons F limit j g gs hj h hs zero l = subst (λ (x : ℕ). Within F limit x g) (sym (phase_first F j hj)) h
within_cons F limit j g gs hj h hs (suc i) l = subst (λ (x : ℕ). Within F limit x (get_or gs i flush)) (phase_next F j i) (hs i (le_of_suc-le-suc l))

-- what each step of a list is given is within limits wherever no ground refuses it
abbrev pub Limited : Frame → (ℕ → ℕ) → List Send → Type 0
Limited F limit [] = Unit {0}
Limited F limit (a ∷ rest) =
    ((j : ℕ) → profile_ground F a.profile a.given ≡ Ok tt → given_grounds F a.profile j a.given ≡ Ok tt → Within F limit j a.given) × Limited F limit rest

-- of all steps: 16383
pub limited_top : (F : Frame) (steps : List Send) → Limited F top steps
limited_top F [] = tt
limited_top F (a ∷ rest) = (λ j p g. within_top F a.profile j a.given p (given_within F a.profile j a.given g), limited_top F rest)

-- of steps under one profile: the limits of its loads
profile_within : (F : Frame) (w u : List ℕ) (j : ℕ) (g : Given) → ((ds : List ℕ) → g ≡ symbol ds → u ≡ w) → given_grounds F u j g ≡ Ok tt → Within F (limit_at w) j g
profile_within F w u j flush is h = tt
profile_within F w u j (symbol ds) is h = given_within F w j (symbol ds) (subst (λ (x : List ℕ). given_grounds F x j (symbol ds) ≡ Ok tt) (is ds refl) h)

pub limited_under : (F : Frame) (w : List ℕ) (steps : List Send) → UnderProfile w steps → Limited F (limit_at w) steps
limited_under F w [] u = tt
limited_under F w (a ∷ rest) u = (λ j p g. profile_within F w a.profile j a.given u.0 g, limited_under F w rest u.1)

input_all : (F : Frame) (limit : ℕ → ℕ) (e : Emitter) (steps : List Send) → Limited F limit steps → e.state.phase < F.phases
    → AllWithin F limit e.state.phase (input (frame_entries F) e steps)
unfolding input accepted_steps next next_state
input_all F limit e [] lim hj = λ i h. absurd (not-suc-le-zero h)
input_all F limit e (a ∷ rest) lim hj =
    by_finding (send_grounds F e a)
    (λ h.
    let f = fine_given F e a h in
    rw (input_sent F e a rest h)
    (within_cons F limit e.state.phase a.given (input (frame_entries F) (next F e a.given) rest) hj (lim.0 e.state.phase f.0 f.1)
    (input_all F limit (next F e a.given) rest lim.1 (next_in F e.state.phase hj))))
    (λ n place h. rw (input_ground F e a rest n place h) (input_all F limit e rest lim.1 hj))

-- ---- the closed form

-- what the steps of a fresh emitter were given, those before the start counted as flushes: number M + k is the accepted step k
unfoldable pub given_before : Frame → List Given → ℕ → Given
given_before F gs k = get_or (replicate F.depth flush ++ gs) k flush

-- the cells of sent symbol i: cell p is that of the input symbol p mod M before
unfoldable pub closed_cells : Frame → ℕ → List Given → ℕ → List ℕ
closed_cells F j gs i =
    tabulate (λ p. get_or (input_cells F (phase_back F (j + i) (delay F p)) (given_before F gs (i + F.depth - delay F p))) p 0) (cells F)

-- the symbols that a run from a fresh start at phase j with the input gs sends
unfoldable pub closed_sent : Frame → ℕ → List Given → List (List ℕ)
closed_sent F j gs = tabulate (λ i. line_symbol F (closed_cells F j gs i)) (length gs)

pub given_late : (F : Frame) (gs : List Given) (i : ℕ) → given_before F gs (F.depth + i) ≡ get_or gs i flush
unfolding given_before
given_late F gs i =
    ap (λ (n : ℕ). get_or (replicate F.depth flush ++ gs) (n + i) flush) (sym (length-replicate F.depth flush))
    ∙ get_or-append-add (replicate F.depth flush) gs i flush

pub given_early : (F : Frame) (gs : List Given) (i : ℕ) → i < F.depth → given_before F gs i ≡ flush
unfolding given_before
given_early F gs i h = get_or-append (replicate F.depth flush) gs flush i (rw length-replicate h) ∙ get_or-replicate F.depth i flush flush h

pub delay_below : (F : Frame) → Sound F → (p : ℕ) → delay F p < F.depth
delay_below F ok p = mod-lt p ok.depth_pos

module _ (F : Frame) (ok : Sound F) (j : ℕ) (hj : j < F.phases) (lent : List ℕ) (fits : emitter_places F ≤ length lent) where
  store_fits : places_before (delay F) (cells F) ≤ length (fresh_store F j lent)
  unfolding fresh_store emitter_places
  store_fits = rw length-sets fits

  fresh_length : (p : ℕ) → p < cells F → length (fresh_places F j p) ≡ delay F p
  unfolding fresh_places
  fresh_length p hp = length_tabulate _ (delay F p)

  -- place i of cell p in the fresh store
  pub fresh_at : (p i : ℕ) → p < cells F → i < delay F p
      → get_or (fresh_store F j lent) (places_before (delay F) p + i) 0 ≡ get_or (input_cells F (phase_back F j (delay F p - i)) flush) p 0
  unfolding fresh_store fresh_places emitter_places
  fresh_at p i hp h =
      let n : length (joined (fresh_places F j) (cells F)) ≡ places_before (delay F) (cells F) = joined_length (fresh_places F j) (delay F) (cells F) fresh_length in
      get_or-sets_0 lent (joined (fresh_places F j) (cells F)) 0 (places_before (delay F) p + i) (omega (arith, start_grow (delay F) p (cells F) hp)) (omega arith)
      ∙ joined_at (fresh_places F j) (delay F) (cells F) fresh_length p i hp h ∙ get_d_tabulate _ (delay F p) 0 i h

  module _ (gs : List Given) where
    out : List (List ℕ)
    out = places_sent (delay F) (cells F) (fresh_store F j lent) (inputs F j gs)

    cell_late : (i p : ℕ) → i < length gs → p < cells F → delay F p ≤ i
        → get_or (get_or out i []) p 0 ≡ get_or (input_cells F (phase_back F (j + i) (delay F p)) (given_before F gs (i + F.depth - delay F p))) p 0
    unfolding out
    cell_late i p hi hp h =
        let e : i + F.depth - delay F p ≡ F.depth + (i - delay F p) = omega arith in
        let w : j + i + (F.phases - delay F p) ≡ j + (i - delay F p) + F.phases = omega (arith, delay_below F ok p, ok.depth_le) in
        late (delay F) (cells F) (inputs F j gs) (fresh_store F j lent) store_fits i p (rw length_inputs hi) hp h
        ∙ rw (inputs_at F j gs hj (i - delay F p) (omega arith), e, given_late F gs (i - delay F p), w, add-mod_right) refl

    cell_early : (i p : ℕ) → i < length gs → p < cells F → i < delay F p
        → get_or (get_or out i []) p 0 ≡ get_or (input_cells F (phase_back F (j + i) (delay F p)) (given_before F gs (i + F.depth - delay F p))) p 0
    unfolding out
    cell_early i p hi hp h =
        let w : j + (F.phases - (delay F p - i)) ≡ j + i + (F.phases - delay F p) = omega (arith, delay_below F ok p, ok.depth_le) in
        early (delay F) (cells F) (inputs F j gs) (fresh_store F j lent) store_fits i p (rw length_inputs hi) hp h
        ∙ fresh_at p i hp h
        ∙ rw (given_early F gs (i + F.depth - delay F p) (omega (arith, delay_below F ok p)), w) refl

    out_closed : (i : ℕ) → i < length gs → get_or out i [] ≡ closed_cells F j gs i
    unfolding out closed_cells
    out_closed i hi =
        let n : length (get_or out i []) ≡ cells F = length_cells (delay F) (cells F) (fresh_store F j lent) (inputs F j gs) i (rw length_inputs hi) in
        ext_get_or 0 (get_or out i []) (closed_cells F j gs i) (n ∙ sym (length_tabulate _ (cells F)))
        (λ p hp'.
        let hp : p < cells F = rw n at hp' in
        by_cases (dec_lt i (delay F p)) (λ c. cell_early i p hi hp c) (λ c. cell_late i p hi hp (omega arith))
        ∙ sym (get_d_tabulate _ (cells F) 0 p hp))

    length_out : length out ≡ length gs
    unfolding out
    length_out = length-places_sent (delay F) (cells F) (fresh_store F j lent) (inputs F j gs) ∙ length_inputs F j gs

    out_sent : map (line_symbol F) out ≡ closed_sent F j gs
    unfolding closed_sent
    out_sent =
        let n : length (map (line_symbol F) out) ≡ length gs = length-map out (line_symbol F) ∙ length_out in
        ext_get_or [] (map (line_symbol F) out) (closed_sent F j gs) (n ∙ sym (length_tabulate _ (length gs)))
        (λ i hi.
        let hi' : i < length gs = rw n at hi in
        get_or-map_in (line_symbol F) out i [] [] (rw length_out hi') ∙ ap (line_symbol F) (out_closed i hi') ∙ sym (get_d_tabulate _ (length gs) [] i hi'))

  fresh_closed : (steps : List Send) → sent (frame_entries F) (fresh_emitter F j lent) steps ≡ closed_sent F j (input (frame_entries F) (fresh_emitter F j lent) steps)
  unfolding fresh_emitter out cells_sent
  fresh_closed steps = sent_cells F (fresh_emitter F j lent) steps ∙ out_sent (input (frame_entries F) (fresh_emitter F j lent) steps)

-- a run from a fresh start: what it sends, and that what it was given is within limits
module _ (F : Frame) (j : ℕ) (e : Emitter) (fresh : FreshIn F j e) (steps : List Send) where
  pub sent_closed : Sound F → sent (frame_entries F) e steps ≡ closed_sent F j (input (frame_entries F) e steps)
  sent_closed ok = rw fresh.is_fresh (fresh_closed F ok j fresh.phase_in fresh.lent fresh.fits steps)

  pub input_within : (limit : ℕ → ℕ) → Limited F limit steps → AllWithin F limit j (input (frame_entries F) e steps)
  unfolding fresh_emitter
  input_within limit lim = rw fresh.is_fresh (input_all F limit (fresh_emitter F j fresh.lent) steps lim fresh.phase_in)

  pub input_top : AllWithin F top j (input (frame_entries F) e steps)
  input_top = input_within top (limited_top F steps)
