-- How a fresh store is filled: with filler, place after place, and an emitter's then with the placeholders, cell after cell. Assumes nothing.
use mathlib.Core.Path.{◌≡◌, refl, sym, ap, ◌∙◌}
use mathlib.Core.Bool.{Bool, not}
use mathlib.Core.Logic.{by_cases}
use mathlib.Core.List.{List, [], ◌∷◌, ◌++◌}
use Prim.Native.Nat.{ℕ, zero, suc, ◌+◌, ◌-◌, ◌%◌, ◌≤◌, ◌<◌}
use native.Mathlib.Nat.{add-zero, add-suc, suc-add, zero-add, mod-lt, mod-add-mod, add-mod_right}
use native.Mathlib.Decide.{dec_lt, ℕ_discrete}
use native.Mathlib.Omega.{arith}
use lib.Dec.{eqb}
use lib.ListN.{length, get_or, set, replicate, length-replicate, get_or-replicate}
use lib.Seq.{sets, length-sets, get_or-set_same, get_or-set_other, ext_get_or}
use borrow.Author.Tests.{lt-ltb, le-ltb, eq-eqb, ne_eqb}
use Rattle.counting.specs.Search.{pick, count, tabulate}
use Rattle.counting.proofs.Bools.{by_test}
use Rattle.counting.proofs.Laws.{count_lt}
use Rattle.counting.proofs.Lists.{length_tabulate, get_d_tabulate, tabulate_cong, get_d_sets_before, get_or-sets_after, get_or-sets_in, get_or-sets_0}
use Rattle.rules.specs.declared.Device.{Device}
use Rattle.rules.specs.Device.{phases}
use Rattle.rules.specs.Plan.{plan_of}
use Rattle.rules.specs.Frame.{Frame, frame_of, cells, spot, delay, phase_back, held, is_data, data_count, data_list, input_cells, flush, placeholder, filler}
use Rattle.rules.specs.Places.{emitter_delay, joined, places_before}
use Rattle.rules.specs.Store.{emitter_places, receiver_places, fresh_places, fresh_store, filler_store}
use Rattle.frame.proofs.Cells.{input_held, input_data}
use Rattle.spots.specs.Tied.{Turning}
use Rattle.spots.proofs.Plans.{turning_of}
use Rattle.places.proofs.Kept.{start_grow, joined_length}
use Rattle.places.proofs.Sizes.{emitter_places_are}
use Rattle.pattern.specs.Until.{symbols_until}
use Rattle.pattern.proofs.Once.{once}
use Rattle.flushes.specs.Spotted.{Spotted}
use Rattle.flushes.specs.Placeholders.{with_placeholder, with_placeholders}
use Rattle.flushes.proofs.Putting.{length_with}

-- ---- filler

-- a receiver's store: all its places
pub all_filler : (F : Frame) (s : List ℕ) (n : ℕ) → n ≡ receiver_places F → sets s 0 (replicate n filler) ≡ filler_store F s
unfolding filler_store
all_filler F s n e = ap (λ (k : ℕ). sets s 0 (replicate k filler)) e

-- ---- placeholders put among filler

-- place k of a cell on which the pattern stands i symbols on
abbrev made_place : ℕ → ℕ → ℕ
made_place i k = pick (eqb k i) placeholder filler

-- a list stored after another is both stored
sets-append : (s : List ℕ) (at : ℕ) (xs ys : List ℕ) → sets (sets s at xs) (at + length xs) ys ≡ sets s at (xs ++ ys)
sets-append s at [] ys = ap (λ (i : ℕ). sets s i ys) (add-zero at)
sets-append s at (x ∷ xs) ys = ap (λ (i : ℕ). sets (sets (set s at x) (suc at) xs) i ys) (add-suc at (length xs) ∙ sym (suc-add at (length xs))) ∙ sets-append (set s at x) (suc at) xs ys

-- a list stored over one as long
sets_over : (s xs ys : List ℕ) → length xs ≡ length ys → length ys ≤ length s → sets (sets s 0 xs) 0 ys ≡ sets s 0 ys
sets_over s xs ys e h =
    ext_get_or 0 (sets (sets s 0 xs) 0 ys) (sets s 0 ys) (length-sets (sets s 0 xs) 0 ys ∙ length-sets s 0 xs ∙ sym (length-sets s 0 ys))
    (λ k l.
    by_cases (dec_lt k (length ys))
    (λ c. get_or-sets_0 (sets s 0 xs) ys 0 k c (rw length-sets h) ∙ sym (get_or-sets_0 s ys 0 k c h))
    (λ c. get_or-sets_after (sets s 0 xs) 0 ys 0 k (omega arith) ∙ get_or-sets_after s 0 xs 0 k (omega arith) ∙ sym (get_or-sets_after s 0 ys 0 k (omega arith))))

-- the n places of a cell, which hold filler
module _ (s : List ℕ) (at n i : ℕ) (long : at + n ≤ length s) (full : (k : ℕ) → k < n → get_or s (at + k) 0 ≡ filler) where
  -- any place but the i-th stays
  stays : (k : ℕ) → (k < at + n → at ≤ k → k - at ≡ i → ⊥) → get_or (with_placeholder at n i s) k 0 ≡ get_or s k 0
  unfolding with_placeholder
  stays k h =
      by_cases (dec_lt i n)
      (λ c. rw (lt-ltb i n c) (get_or-set_other s (at + i) k placeholder 0 (λ z. h (omega arith) (omega arith) (omega arith))))
      (λ c. rw (le-ltb i n (omega arith)) refl)

  own : (k : ℕ) → k < n → get_or (with_placeholder at n i s) (at + k) 0 ≡ made_place i k
  own k h =
      by_cases (ℕ_discrete k i)
      (λ e. rw (eq-eqb k i e) (holds k h e))
      (λ e. rw (ne_eqb k i e) (stays (at + k) (λ a b z. e (omega arith)) ∙ full k h))
    where
      holds : (k : ℕ) → k < n → k ≡ i → get_or (with_placeholder at n i s) (at + k) 0 ≡ placeholder
      holds k h e =
          let c : i < n = omega arith in
          unfold with_placeholder in rw (lt-ltb i n c, e) (get_or-set_same s (at + i) placeholder 0 (omega arith))

  cell_put : with_placeholder at n i s ≡ sets s at (tabulate (made_place i) n)
  cell_put =
      ext_get_or 0 (with_placeholder at n i s) (sets s at (tabulate (made_place i) n)) (length_with at n i s ∙ sym (length-sets s at (tabulate (made_place i) n)))
      (λ k l.
      by_cases (dec_lt k at)
      (λ c. stays k (λ a b z. absurd (omega arith)) ∙ sym (get_d_sets_before s at (tabulate (made_place i) n) 0 k c))
      (λ c.
      by_cases (dec_lt k (at + n))
      (λ g.
      let e : at + (k - at) ≡ k = omega arith in
      let low : k - at < n = omega arith in
      rw e at (own (k - at) low ∙ sym (get_or-sets_in s at (tabulate (made_place i) n) 0 (k - at) (rw length_tabulate low) (omega arith) ∙ get_d_tabulate (made_place i) n 0 (k - at) low)))
      (λ g. stays k (λ a b z. absurd (omega arith)) ∙ sym (get_or-sets_after s at (tabulate (made_place i) n) 0 k (omega (arith, length_tabulate (made_place i) n))))))

-- the places of cell p, whose subcarrier is kc p
made_places : ℕ → ℕ → List ℕ → ℕ → List ℕ
made_places m base kc p = tabulate (made_place (symbols_until base (get_or kc p 0))) (emitter_delay m p)

module _ (m base n : ℕ) (kc t : List ℕ) (long : places_before (emitter_delay m) n ≤ length t) (full : (k : ℕ) → k < places_before (emitter_delay m) n → get_or t k 0 ≡ filler) where
  made : ℕ → List ℕ
  made = made_places m base kc

  length_made : (p : ℕ) → length (joined made p) ≡ places_before (emitter_delay m) p
  unfolding made made_places
  length_made p = joined_length made (emitter_delay m) p (λ q h. length_tabulate (made_place (symbols_until base (get_or kc q 0))) (emitter_delay m q))

  -- one more cell
  next_put : (p : ℕ) → sets (sets t 0 (joined made p)) (places_before (emitter_delay m) p) (made p) ≡ sets t 0 (joined made (suc p))
  unfolding joined
  next_put p =
      ap (λ (k : ℕ). sets (sets t 0 (joined made p)) k (made p)) (sym (zero-add (length (joined made p)) ∙ length_made p))
      ∙ sets-append t 0 (joined made p) (made p)

  all_put : (p : ℕ) → p ≤ n → with_placeholders m base kc t p ≡ sets t 0 (joined made p)
  unfolding with_placeholders made made_places
  all_put zero h = unfold joined in refl
  all_put (suc p) h =
      let at : ℕ = places_before (emitter_delay m) p in
      let i : ℕ = symbols_until base (get_or kc p 0) in
      let grow : at + emitter_delay m p ≤ places_before (emitter_delay m) n = start_grow (emitter_delay m) p n h in
      ap (with_placeholder at (emitter_delay m p) i) (all_put p (omega arith))
      ∙ cell_put (sets t 0 (joined made p)) at (emitter_delay m p) i (omega (arith, length-sets t 0 (joined made p)))
      (λ k l. get_or-sets_after t 0 (joined made p) 0 (at + k) (omega (arith, length_made p)) ∙ full (at + k) (omega arith))
      ∙ next_put p

-- ---- a fresh emitter's places

-- a flush has placeholders and filler
pub flush_cell : (F : Frame) (j p : ℕ) → p < cells F → get_or (input_cells F j flush) p 0 ≡ pick (held F j p) placeholder filler
unfolding data_list is_data data_count
flush_cell F j p hp =
    by_test (held F j p)
    (λ q. rw q (input_held F j flush p hp q))
    (λ q. rw q (input_data F j flush p hp q ∙ get_or-replicate (data_count F j) (count (is_data F j) p) filler 0 (count_lt (is_data F j) p (cells F) hp (ap not q))))

module _ (F : Frame) (base : ℕ) (t : Turning F base) (j : ℕ) (fits : F.depth ≤ F.phases) (pos : 0 < F.depth) where
  -- place i of cell p is sent at phase j + i
  pub held_until : (p i : ℕ) → i < delay F p → held F (phase_back F j (delay F p - i)) p ≡ eqb i (symbols_until (base + j) (spot F p))
  unfolding held
  held_until p i h =
      let d : delay F p < F.depth = mod-lt p pos in
      let e : j + (F.phases - (delay F p - i)) + delay F p ≡ j + i + F.phases = omega arith in
      ap (λ (x : ℕ). F.pattern x (spot F p)) (mod-add-mod (j + (F.phases - (delay F p - i))) F.phases (delay F p) ∙ ap (λ (x : ℕ). x % F.phases) e ∙ add-mod_right (j + i) F.phases)
      ∙ t.pattern ((j + i) % F.phases) (spot F p)
      ∙ ap (eqb (spot F p % phases)) (turn i)
      ∙ once (base + j) (spot F p) i (omega (arith, t.period))
    where
      turn : (i : ℕ) → (base + (j + i) % F.phases) % phases ≡ (base + j + i) % phases
      turn i = ap (λ (x : ℕ). (base + (j + i) % x) % phases) t.period ∙ omega arith

  places_are : (p : ℕ) → p < cells F → fresh_places F j p ≡ tabulate (made_place (symbols_until (base + j) (spot F p))) (delay F p)
  unfolding fresh_places
  places_are p hp =
      tabulate_cong _ _ (delay F p)
      (λ i h. flush_cell F (phase_back F j (delay F p - i)) p hp ∙ ap (λ (b : Bool). pick b placeholder filler) (held_until p i h))

-- lists joined, each as another
joined_cong : (f g : ℕ → List ℕ) (n : ℕ) → ((p : ℕ) → p < n → f p ≡ g p) → joined f n ≡ joined g n
unfolding joined
joined_cong f g zero h = refl
joined_cong f g (suc n) h = λ i. joined_cong f g n (λ p l. h p (omega arith)) i ++ h n (omega arith) i

-- the store that is made of s: filler in all places of the cells, and then their placeholders; kc are their subcarriers
fresh_is : (F : Frame) (base : ℕ) → Turning F base → (j : ℕ) → F.depth ≤ F.phases → 0 < F.depth → (m from places : ℕ) (kc s t y : List ℕ)
    → m ≡ F.depth → length kc ≡ cells F → from ≡ base + j → ((p : ℕ) → p < length kc → get_or kc p 0 ≡ spot F p)
    → places ≡ places_before (emitter_delay m) (length kc) → emitter_places F ≤ length s
    → t ≡ sets s 0 (replicate places filler) → y ≡ with_placeholders m from kc t (length kc) → y ≡ fresh_store F j s
unfolding fresh_store made_places made
fresh_is F base turning j fits pos m from places kc s t y em en ef spots ep long et ey =
    let n : ℕ = length kc in
    let filled : List ℕ = replicate places filler in
    let need : places_before (emitter_delay m) n ≡ emitter_places F = emitter_places_are F m n em en in
    let size : length t ≡ length s = ap length et ∙ length-sets s 0 filled in
    let full : length filled ≡ places = length-replicate places filler in
    let same : joined (made_places m from kc) n ≡ joined (fresh_places F j) (cells F) =
    joined_cong _ (fresh_places F j) n (λ p h. rw (em, ef, spots p h) (sym (places_are F base turning j fits pos p (omega (arith, h, en))))) ∙ ap (joined (fresh_places F j)) en in
    let long' : places_before (emitter_delay m) n ≤ length t = omega arith in
    let fill : (k : ℕ) → k < places_before (emitter_delay m) n → get_or t k 0 ≡ filler =
    λ k h. ap (λ (l : List ℕ). get_or l k 0) et ∙ get_or-sets_0 s filled 0 k (omega arith) (omega arith) ∙ get_or-replicate places k filler 0 (omega arith) in
    ey ∙ all_put m from n kc t long' fill n (omega arith)
    ∙ ap (λ (l : List ℕ). sets l 0 (joined (made_places m from kc) n)) et
    ∙ sets_over s filled (joined (made_places m from kc) n) (full ∙ ep ∙ sym (length_made m from n kc t long' fill n)) (omega (arith, length_made m from n kc t long' fill n))
    ∙ ap (sets s 0) same

-- the same under a plan whose cells have the subcarriers kc
module _ (d : Device) (s kc : List ℕ) (w : Spotted d s kc) (m : ℕ) (em : m ≡ (plan_of s).depth) where
  pub places_of : places_before (emitter_delay m) (length kc) ≡ emitter_places (frame_of d (plan_of s))
  unfolding frame_of
  places_of = emitter_places_are (frame_of d (plan_of s)) m (length kc) em w.all

  pub fresh_of : (j l places : ℕ) → l ≡ (plan_of s).plc → places ≡ places_before (emitter_delay m) (length kc) → (store t y : List ℕ)
      → emitter_places (frame_of d (plan_of s)) ≤ length store → t ≡ sets store 0 (replicate places filler) → y ≡ with_placeholders m (l + d.plc_width + j) kc t (length kc)
      → y ≡ fresh_store (frame_of d (plan_of s)) j store
  unfolding frame_of
  fresh_of j l places el ep store t y long et ey =
      fresh_is (frame_of d (plan_of s)) _ (turning_of d (plan_of s)) j w.shallow w.deep m (l + d.plc_width + j) places kc store t y em w.all
      (ap (λ (x : ℕ). x + d.plc_width + j) el) w.spots ep long et ey
