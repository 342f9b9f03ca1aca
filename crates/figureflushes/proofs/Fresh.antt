-- What is made is a fresh literal store: filler in all places of the lines, and then the placeholders of the cells. Assumes nothing.
use mathlib.Core.Path.{◌≡◌, refl, sym, ap, ◌∙◌}
use mathlib.Core.Bool.{Bool}
use mathlib.Core.Logic.{by_cases}
use mathlib.Core.List.{List}
use Prim.Native.Nat.{ℕ, ◌+◌, ◌-◌, ◌*◌, ◌/◌, ◌%◌, ◌≤◌, ◌<◌}
use native.Mathlib.Nat.{mod-lt, div-add-mod'}
use native.Mathlib.Decide.{dec_lt, ℕ_discrete}
use native.Mathlib.Omega.{arith}
use lib.Dec.{eqb}
use lib.ListN.{length, get_or, replicate, length-replicate, get_or-replicate}
use lib.Seq.{sets, length-sets, ext_get_or}
use borrow.Author.Tests.{lt-ltb, le-ltb, eq-eqb, ne_eqb}
use Rattle.counting.specs.Search.{pick}
use Rattle.counting.proofs.Lists.{get_or-sets_after, get_or-sets_0}
use Rattle.rules.specs.declared.Device.{Device}
use Rattle.rules.specs.Plan.{plan_of}
use Rattle.rules.specs.Frame.{Frame, frame_of, cells, spot, phase_back, held, placeholder, filler}
use Rattle.spots.specs.Tied.{Turning}
use Rattle.spots.proofs.Plans.{turning_of}
use Rattle.places.proofs.Kept.{Within}
use Rattle.pattern.specs.Until.{symbols_until}
use Rattle.flushes.specs.Spotted.{Spotted}
use Rattle.flushes.proofs.Fresh.{flush_cell, held_until}
use Rattle.figure.specs.Figure.{ceiling, line_begins}
use Rattle.figure.specs.Steps.{J, literal_places, fresh_place, fresh_literal}
use Rattle.figure.proofs.Sizes.{enough, begins_grow, in_line, begins_at}
use Rattle.figure.proofs.Turns.{turn_below, below_times, line_of, turn_of}
use Rattle.figure.proofs.Fresh.{fresh_at, fresh_past, length_fresh}
use Rattle.figureflushes.specs.Placeholders.{with_placeholders}
use Rattle.figureflushes.proofs.Putting.{length_all_with}
use Rattle.figureflushes.proofs.Places.{placed, not_placed, past_placed}

-- ---- place i * J + q of line r

-- that of a dummy
fresh_dummy : (F : Frame) (j r i q : ℕ) → q < J F → cells F ≤ q * F.depth + r → fresh_place F j r (i * J F + q) ≡ filler
unfolding fresh_place
fresh_dummy F j r i q hq h = rw (line_of (J F) i q hq, le-ltb (q * F.depth + r) (cells F) h) refl

module _ (F : Frame) (base : ℕ) (turning : Turning F base) (j : ℕ) (fits : F.depth ≤ F.phases) (pos : 0 < F.depth) where
  -- that of a cell is sent i symbols on
  fresh_cell_lem : (r i q : ℕ) → r < F.depth → i < r → q < J F → q * F.depth + r < cells F
      → fresh_place F j r (i * J F + q) ≡ pick (eqb i (symbols_until (base + j) (spot F (q * F.depth + r)))) placeholder filler
  unfolding fresh_place
  fresh_cell_lem r i q hr hi hq h =
      let p : ℕ = q * F.depth + r in
      let line : p % F.depth ≡ r = line_of F.depth q r hr in
      let stands : held F (phase_back F j (r - i)) p ≡ eqb i (symbols_until (base + j) (spot F p)) =
      rw line at (held_until F base turning j fits pos p i (omega (arith, line))) in
      rw (line_of (J F) i q hq, turn_of (J F) i q hq, lt-ltb p (cells F) h)
      (flush_cell F (phase_back F j (r - i)) p h ∙ ap (λ (b : Bool). pick b placeholder filler) stands)

-- ---- the store that is made of t, which holds filler in all places of the lines; kc are the subcarriers of the cells

module _ (F : Frame) (base : ℕ) (turning : Turning F base) (j : ℕ) (fits : F.depth ≤ F.phases) (pos : 0 < F.depth)
    (kc t : List ℕ) (en : length kc ≡ cells F) (spots : (p : ℕ) → p < length kc → get_or kc p 0 ≡ spot F p)
    (long : line_begins (J F) F.depth ≤ length t) (full : (k : ℕ) → k < line_begins (J F) F.depth → get_or t k 0 ≡ filler) where
  made : List ℕ
  made = with_placeholders F.depth (J F) (base + j) kc t (cells F)

  all : cells F ≤ J F * F.depth
  all = enough (cells F) F.depth pos

  -- place i * J + q of line r
  made_place_lem : (r i q : ℕ) → r < F.depth → i < r → q < J F → get_or made (line_begins (J F) r + (i * J F + q)) 0 ≡ fresh_place F j r (i * J F + q)
  unfolding made
  made_place_lem r i q hr hi hq =
      let p : ℕ = q * F.depth + r in
      let u : ℕ = symbols_until (base + j) (spot F p) in
      let k : ℕ = line_begins (J F) r + (i * J F + q) in
      let stays : get_or t k 0 ≡ filler = full k (omega (arith, begins_grow (J F) r F.depth hr, below_times i q (J F) r hi hq)) in
      by_cases (dec_lt p (cells F))
      (λ c.
      let is : symbols_until (base + j) (get_or kc p 0) ≡ u = ap (symbols_until (base + j)) (spots p (omega (arith, c, en))) in
      let fresh : fresh_place F j r (i * J F + q) ≡ pick (eqb i u) placeholder filler = fresh_cell_lem F base turning j fits pos r i q hr hi hq c in
      by_cases (ℕ_discrete i u)
      (λ e.
      placed F.depth (J F) (base + j) kc t (cells F) pos all long r i q hr hi hq c (e ∙ sym is)
      ∙ sym (fresh ∙ rw (eq-eqb i u e) refl))
      (λ e.
      not_placed F.depth (J F) (base + j) kc t (cells F) pos all long r i q hr hi hq (λ l z. e (z ∙ is))
      ∙ stays ∙ sym (fresh ∙ rw (ne_eqb i u e) refl)))
      (λ c.
      not_placed F.depth (J F) (base + j) kc t (cells F) pos all long r i q hr hi hq (λ l z. c l)
      ∙ stays ∙ sym (fresh_dummy F j r i q hq (omega arith)))

  -- place x of line r
  made_at : (r x : ℕ) → r < F.depth → x < r * J F → get_or made (line_begins (J F) r + x) 0 ≡ fresh_place F j r x
  made_at r x hr hx =
      by_cases (dec_lt 0 (J F))
      (λ c. rw (div-add-mod' x (J F)) at (made_place_lem r (x / J F) (x % J F) hr (turn_below (J F) r x c hx) (mod-lt x c)))
      (λ c. let z : J F ≡ 0 = omega arith in absurd (omega (arith, hx, ap (λ (k : ℕ). r * k) z)))

  made_is : (s : List ℕ) → length t ≡ length s → ((k : ℕ) → line_begins (J F) F.depth ≤ k → get_or t k 0 ≡ get_or s k 0) → made ≡ fresh_literal F j s
  unfolding made literal_places
  made_is s size rest =
      ext_get_or 0 made (fresh_literal F j s) (length_all_with F.depth (J F) (base + j) kc t (cells F) ∙ size ∙ sym (length_fresh F j s))
      (λ k l.
      by_cases (dec_lt k (line_begins (J F) F.depth))
      (λ c.
      let w : Within (λ r. r * J F) F.depth k = in_line (J F) F.depth k c in
      rw (begins_at (J F) F.depth k w) at (made_at w.cell w.nth w.below w.inside ∙ sym (fresh_at F j s (omega arith) w.cell w.nth w.below w.inside)))
      (λ c.
      past_placed F.depth (J F) (base + j) kc t (cells F) pos all long k (omega arith)
      ∙ rest k (omega arith) ∙ sym (fresh_past F j s k (omega arith))))

-- ---- filler stored in the first n places

module _ (s t : List ℕ) (n : ℕ) (et : t ≡ sets s 0 (replicate n filler)) where
  filled_in : n ≤ length s → (k : ℕ) → k < n → get_or t k 0 ≡ filler
  filled_in long k h =
      ap (λ (l : List ℕ). get_or l k 0) et
      ∙ get_or-sets_0 s (replicate n filler) 0 k (omega (arith, length-replicate n filler)) (omega (arith, length-replicate n filler))
      ∙ get_or-replicate n k filler 0 h

  filled_past : (k : ℕ) → n ≤ k → get_or t k 0 ≡ get_or s k 0
  filled_past k h = ap (λ (l : List ℕ). get_or l k 0) et ∙ get_or-sets_after s 0 (replicate n filler) 0 k (omega (arith, length-replicate n filler))

  filled_length : length t ≡ length s
  filled_length = ap length et ∙ length-sets s 0 (replicate n filler)

-- ---- the store made under a plan whose cells have the subcarriers kc

module _ (d : Device) (s kc : List ℕ) (w : Spotted d s kc) (m : ℕ) (em : m ≡ (plan_of s).depth) where
  pub places_of : line_begins (ceiling (length kc) m) m ≡ literal_places (frame_of d (plan_of s))
  unfolding frame_of literal_places
  places_of = λ k. line_begins (ceiling (w.all k) (em k)) (em k)

  pub fresh_of : (j l places : ℕ) → l ≡ (plan_of s).plc → places ≡ line_begins (ceiling (length kc) m) m → (store t y : List ℕ)
      → literal_places (frame_of d (plan_of s)) ≤ length store → t ≡ sets store 0 (replicate places filler)
      → y ≡ with_placeholders m (ceiling (length kc) m) (l + d.plc_width + j) kc t (length kc) → y ≡ fresh_literal (frame_of d (plan_of s)) j store
  unfolding frame_of literal_places made
  fresh_of j l places el ep store t y long et ey =
      let F : Frame = frame_of d (plan_of s) in
      let need : places ≡ line_begins (J F) F.depth = ep ∙ places_of in
      let size : length t ≡ length store = filled_length store t places et in
      ey ∙ (λ k. with_placeholders (em k) (ceiling (w.all k) (em k)) (el k + d.plc_width + j) kc t (w.all k))
      ∙ made_is F _ (turning_of d (plan_of s)) j w.shallow w.deep kc t w.all w.spots (omega arith) (λ k h. filled_in store t places et (omega arith) k (omega arith))
      store size (λ k h. filled_past store t places et k (omega arith))
