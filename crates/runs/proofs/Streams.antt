-- Bit streams through runs: what the entries' filling and way back are, of entries over cells or over bytes, tells the stream from the symbols, and gives it back. Assumes
-- nothing.
use Prim.Native.Nat.{ℕ, zero, suc, ◌+◌, ◌-◌, ◌*◌, ◌≤◌, ◌<◌}
use mathlib.Core.Path.{◌≡◌, refl, sym, ap, ap₂, ◌∙◌, subst}
use mathlib.Core.Bool.{Bool, true}
use mathlib.Core.List.{List, [], ◌∷◌, ◌++◌}
use mathlib.Core.Logic.{◌↔◌, by_cases}
use native.Mathlib.Decide.{dec_lt}
use native.Mathlib.Nat.{add-zero}
use native.Mathlib.Omega.{arith}
use lib.Dec.{ltb}
use lib.ListN.{length, get_or, take, drop, replicate, get_or-replicate, length-replicate, take-append-drop, length-drop, get_or-eq_default}
use lib.Seq.{sets, take-take, take-nil, drop-drop, length-take-le}
use borrow.Author.Tests.{ltb-false}
use Rattle.counting.proofs.Laws.{lowest_none}
use Rattle.rules.specs.Refusals.{refused_by}
use Rattle.std.specs.Prelude.{Ok}
use Rattle.rules.specs.Grounds.{◌else◌}
use Rattle.rules.specs.Frame.{Frame, data_count, next_phase, Given, flush, symbol, data_list, filler}
use Rattle.counting.specs.Bytes.{Octets}
use Rattle.rules.specs.Bits.{value, total, cell_bits, cells_from, stream_bits, bytes_from, bits_between, with_bits, filled_from}
use Rattle.rules.specs.Loads.{ground25, load_limit, data_loads, ground19}
use Rattle.rules.specs.Filling.{Filling, fills, bit_count, fill_grounds, unfill_grounds, frame_fill, frame_unfill}
use Rattle.rules.specs.Steps.{Emitter, Send}
use Rattle.rules.specs.Receive.{Receiver, Arrival}
use Rattle.rules.proofs.Findings.{both_fine, no_place, by_finding}
use Rattle.rules.proofs.Loads.{loaded, limit_top}
use Rattle.bits.proofs.FillLaws.{length_bits, length_cells, cell_below, cells_inj, length_stream, between_none, between_more, cells_between, with_none, length_with, with_more, unfilled_with}
use Rattle.frame.specs.Counted.{phase_of}
use Rattle.frame.proofs.Loads.{length_loads, load_at}
use Rattle.runs.specs.Run.{Entries, input, sent, Fresh, Outcome, warming, handed, refused, heard, outcomes, FreshReceiver}
use Rattle.runs.specs.Follow.{Flushed, Follows}
use Rattle.runs.specs.Demand3.{Returned}
use Rattle.runs.specs.Streams.{bits_taken, FilledFrom, FilledAt, FilledIn, way_back, HandedOut, Streams}
use Rattle.runs.proofs.Emit.{phase_next, phase_first, next_in}
use Rattle.runs.proofs.Fills.{fill_fine, fill_passed, fill_told_lem, filled_length, filled_19, unfill_accepted, unfill_refused}

-- what the entries' filling and way back are, in cells
pub record FillsAs (F : Frame) (E : Entries) (w : List ℕ) : Type 0 where
  pub fill_as : (j : ℕ) (b : List ℕ) (a : ℕ) (room : List ℕ) (n : ℕ) (left : List ℕ) → E.fill w j b a room ≡ fills (Ok n) left
      → frame_fill F w j b a (E.read room) ≡ fills (Ok n) (E.read left)
  pub unfill_as : (j : ℕ) (x : List ℕ) (a : ℕ) (c : List ℕ) → E.whole x ≡ true → E.unfill w j x a c ≡ frame_unfill F w j (E.read x) a c

-- ---- parts of lists of bits

drop-take : (n t : ℕ) (l : List Bool) → drop t (take n l) ≡ take (n - t) (drop t l)
drop-take n zero l = ap (λ (k : ℕ). take k l) (let z : n ≡ n - 0 = omega arith in z)
drop-take zero (suc t) l = let z : 0 - suc t ≡ 0 = omega arith in rw z refl
drop-take (suc n) (suc t) [] = sym (take-nil (suc n - suc t))
drop-take (suc n) (suc t) (b ∷ l) = drop-take n t l ∙ ap (λ (k : ℕ). take k (drop t l)) (let z : n - t ≡ suc n - suc t = omega arith in z)

-- only as many bits matter as the loads add up to
cells_take : (ls : List ℕ) (n : ℕ) (bs : List Bool) → total ls ≤ n → cells_from ls (take n bs) ≡ cells_from ls bs
unfolding cells_from total
cells_take [] n bs h = refl
cells_take (l ∷ ls) n bs h =
    ap₂ ◌∷◌ (ap value (take-take l n bs (omega arith))) (ap (cells_from ls) (drop-take n l bs) ∙ cells_take ls (n - l) (drop l bs) (omega arith))

-- a list of no bits
no_bits : (bs : List Bool) → length bs ≡ 0 → bs ≡ []
no_bits [] e = refl
no_bits (b ∷ bs) e = absurd (omega arith)

length_between : (b : List ℕ) (a n : ℕ) → n ≤ length b * 8 - a → length (bits_between b a (a + n)) ≡ n
unfolding bits_between
length_between b a n h =
    let e : a + n - a ≡ n = omega arith in
    length-take-le (a + n - a) (drop a (stream_bits b)) (rw (length-drop, length_stream) (omega arith)) ∙ e

symbol_data : (F : Frame) (j : ℕ) (ds : List ℕ) → data_list F j (symbol ds) ≡ ds
unfolding data_list
symbol_data F j ds = refl

-- bytes with other bits are bytes
with_octets : (c : List ℕ) (k : ℕ) (bs : List Bool) → Octets (with_bits c k bs)
unfolding with_bits bytes_from
with_octets c k bs i h =
    let eights : List ℕ = replicate (length c) 8 in
    let n : length eights ≡ length c = length-replicate {A = ℕ} (length c) 8 in
    let l : i < length eights = omega (arith, length_cells eights (sets (stream_bits c) k bs)) in
    let eight : get_or eights i 0 ≡ 8 = get_or-replicate {A = ℕ} (length c) i 8 0 (omega (arith, n)) in
    rw eight at (cell_below eights (sets (stream_bits c) k bs) i l)

-- ---- one run

module _ (F : Frame) (E : Entries) (w : List ℕ) where
  pub filled_inj : (j : ℕ) (gs : List Given) (bs bs' : List Bool) → FilledFrom F E w j gs bs → FilledFrom F E w j gs bs' → bs ≡ bs'
  unfolding bit_count
  filled_inj j [] bs bs' f f' = f ∙ sym f'
  filled_inj j (flush ∷ gs) bs bs' f f' = filled_inj (next_phase F j) gs bs bs' f f'
  filled_inj j (symbol ds ∷ gs) bs bs' f f' =
      let t : ℕ = bit_count F w j in
      sym (take-append-drop t bs)
      ∙ ap₂ ◌++◌ (cells_inj (data_loads F w j) bs bs' f.0 f'.0 (sym f.1 ∙ f'.1)) (filled_inj (next_phase F j) gs (drop t bs) (drop t bs') f.2 f'.2)
      ∙ take-append-drop t bs'

  module _ (same : FillsAs F E w) where
    -- a data symbol that was filled: the bits it took, its cells, its phase, and that the bits were there
    at_told : (j : ℕ) (b : List ℕ) (a n : ℕ) (ds : List ℕ) → FilledAt F E w j b a n ds
        → (n ≡ bit_count F w j) × (ds ≡ filled_from (data_loads F w j) b a) × (j < F.phases) × (bit_count F w j ≤ length b * 8 - a)
    at_told j b a n ds f =
        let t = fill_told_lem F w j b a (E.read f.room) n (E.read f.left) (same.fill_as j b a f.room n f.left f.fill) in
        let q = fill_passed F w j (length (E.read f.room)) (length b) a t.0 in
        (t.1, sym f.cells ∙ t.2, q.0, q.2)

    -- the bits end no earlier than they start, and no more are taken than remain
    ends : (j : ℕ) (gs : List Given) (b : List ℕ) (a z : ℕ) → FilledIn F E w j gs b a z → (a ≤ z) × (z - a ≤ length b * 8 - a)
    ends j [] b a z f = (omega arith, omega arith)
    ends j (flush ∷ gs) b a z f = ends (next_phase F j) gs b a z f
    ends j (symbol ds ∷ gs) b a z f =
        let n : ℕ = f.0 in
        let t = at_told j b a n ds f.1.0 in
        let r = ends (next_phase F j) gs b (a + n) z f.1.1 in
        (omega (arith, r.0), omega (arith, t.0, t.3, r.0, r.1))

    -- a stream in bytes is one of bits
    pub in_from : (j : ℕ) (gs : List Given) (b : List ℕ) (a z : ℕ) → FilledIn F E w j gs b a z → FilledFrom F E w j gs (bits_between b a z)
    unfolding filled_from bits_between bit_count
    in_from j [] b a z f = let e : z - a ≡ 0 = omega arith in rw e refl
    in_from j (flush ∷ gs) b a z f = in_from (next_phase F j) gs b a z f
    in_from j (symbol ds ∷ gs) b a z f =
        let ls : List ℕ = data_loads F w j in
        let t : ℕ = total ls in
        let told = at_told j b a f.0 ds f.1.0 in
        let r = ends (next_phase F j) gs b (a + f.0) z f.1.1 in
        let q = ends j (symbol ds ∷ gs) b a z f in
        let n : length (bits_between b a z) ≡ z - a = length-take-le (z - a) (drop a (stream_bits b)) (rw (length-drop, length_stream) q.1) in
        let d : drop t (bits_between b a z) ≡ bits_between b (a + f.0) z =
        drop-take (z - a) t (drop a (stream_bits b))
        ∙ ap₂ (λ (k : ℕ) (l : List Bool). take k l) (let y : z - a - t ≡ z - (a + f.0) = omega (arith, told.0) in y) (drop-drop t a (stream_bits b) ∙ ap (λ (k : ℕ). drop (a + k) (stream_bits b)) (sym told.0)) in (
          omega (arith, r.0, n, told.0),
          told.1 ∙ sym (cells_take ls (z - a) (drop a (stream_bits b)) (omega (arith, r.0, told.0))),
          subst (FilledFrom F E w (next_phase F j) gs) (sym d) (in_from (next_phase F j) gs b (a + f.0) z f.1.1),
        )

    -- ---- the way back

    -- all are flushes, and take no bits
    AllFlush : List Given → Type 0
    AllFlush [] = Unit {0}
    AllFlush (g ∷ gs) = (g ≡ flush) × AllFlush gs

    flush_ends : (j : ℕ) (gs : List Given) (b : List ℕ) (a z : ℕ) → AllFlush gs → FilledIn F E w j gs b a z → a ≡ z
    unfolding AllFlush
    flush_ends j [] b a z h f = f
    flush_ends j (flush ∷ gs) b a z h f = flush_ends (next_phase F j) gs b a z h.1 f
    flush_ends j (symbol ds ∷ gs) b a z h f = absurd (no_flush ds h.0)
      where
        no_flush : (xs : List ℕ) → symbol xs ≡ flush → ⊥
        no_flush xs e = let y : ◌≡◌ {A = ℕ} 0 1 = cc in omega arith

    -- the symbols xs are the data of the first of gs, from phase j on, and all after them are flushes
    Hands : ℕ → List (List ℕ) → List Given → Type 0
    Hands j [] gs = AllFlush gs
    Hands j (x ∷ xs) [] = ⊥
    Hands j (x ∷ xs) (g ∷ gs) = (E.whole x ≡ true) × (E.read x ≡ data_list F j g) × Hands (next_phase F j) xs gs

    module _ (listed : ground25 F.width w ≡ Ok tt) (some : (j : ℕ) → j < F.phases → 1 ≤ data_count F j) where
      -- filler is no data: the way back of a flush is refused, changes nothing and takes no bits
      flush_refused : (j k : ℕ) (c : List ℕ)
          → (bits_taken (frame_unfill F w j (data_list F j flush) k c).answer ≡ 0) × ((frame_unfill F w j (data_list F j flush) k c).left ≡ c)
      unfolding data_list unfill_grounds ground19
      flush_refused j k c =
          let ds : List ℕ = replicate (data_count F j) filler in
          by_finding (unfill_grounds F w j ds (length c) k)
          (λ e.
          let f = both_fine (fill_grounds F w j (length ds) (length c) k) (ground19 F w j ds) e in
          let one : 0 < data_count F j = some j (fill_passed F w j (length ds) (length c) k f.0).0 in
          let first : get_or ds 0 0 ≡ filler = get_or-replicate {A = ℕ} (data_count F j) 0 filler 0 one in
          let fits : get_or ds 0 0 ≤ load_limit (get_or (data_loads F w j) 0 0) =
          ltb-false _ _ (lowest_none (λ i. ltb (load_limit (get_or (data_loads F w j) i 0)) (get_or ds i 0)) (length ds) (no_place 19 _ f.1) 0 (omega (arith, length-replicate {A = ℕ} (data_count F j) filler))) in
          let small : get_or (data_loads F w j) 0 0 ≤ 14 = rw (load_at F w j 0 one) ((loaded F.width w listed).small _) in
          absurd (omega (arith, first, fits, limit_top (get_or (data_loads F w j) 0 0) small)))
          (λ n place e.
          let r : frame_unfill F w j ds k c ≡ fills (refused_by n place) c = unfill_refused F w j ds k c n place e in
          (ap (λ (x : Filling). bits_taken x.answer) r, ap (λ (x : Filling). x.left) r))

      -- the way back of a data symbol that was filled
      data_back : (j : ℕ) (b : List ℕ) (a k : ℕ) (c : List ℕ) → j < F.phases → bit_count F w j ≤ length b * 8 - a → bit_count F w j ≤ length c * 8 - k
          → frame_unfill F w j (filled_from (data_loads F w j) b a) k c ≡ fills (Ok (bit_count F w j)) (with_bits c k (bits_between b a (a + bit_count F w j)))
      unfolding unfill_grounds bit_count
      data_back j b a k c hj hb hc =
          let ls : List ℕ = data_loads F w j in
          let ds : List ℕ = filled_from ls b a in
          unfill_accepted F w j ds k c
          (λ i. fill_fine F w j (length ds) (length c) k listed hj (filled_length F w j b a) hc i else filled_19 F w j b a i)
          ∙ ap (fills (Ok (total ls))) (unfilled_with ls ds c k ∙ ap (with_bits c k) (bits j b a hb))
        where
          bits : (j : ℕ) (b : List ℕ) (a : ℕ) → total (data_loads F w j) ≤ length b * 8 - a → cell_bits (data_loads F w j) (filled_from (data_loads F w j) b a) ≡ bits_between b a (a + total (data_loads F w j))
          bits j b a h =
              by_cases (dec_lt 0 (total (data_loads F w j)))
              (λ l. cells_between (data_loads F w j) b a (omega arith))
              (λ l.
              let e : a + total (data_loads F w j) ≡ a = omega arith in
              no_bits _ (length_bits (data_loads F w j) _ (filled_length F w j b a ∙ sym (length_loads F w j)) ∙ (let y : total (data_loads F w j) ≡ 0 = omega arith in y))
              ∙ sym (ap (bits_between b a) e ∙ between_none b a))

      way : (j : ℕ) (xs : List (List ℕ)) (gs : List Given) → Hands j xs gs → (b : List ℕ) (a z : ℕ) → FilledIn F E w j gs b a z
          → (c : List ℕ) (k : ℕ) → Octets c → k + (z - a) ≤ length c * 8 → way_back F E w j xs k c ≡ (with_bits c k (bits_between b a z), k + (z - a))
      unfolding way_back Hands
      way j [] gs h b a z f c k o room =
          let e : z ≡ a = sym (flush_ends j gs b a z h f) in
          let n : k + (z - a) ≡ k = omega arith in
          sym (λ i. ((ap (λ (y : ℕ). with_bits c k (bits_between b a y)) e ∙ ap (with_bits c k) (between_none b a) ∙ with_none c k o) i, n i))
      way j (x ∷ xs) [] h b a z f c k o room = absurd h
      way j (x ∷ xs) (flush ∷ gs) h b a z f c k o room =
          let u : E.unfill w j x k c ≡ frame_unfill F w j (data_list F j flush) k c = same.unfill_as j x k c h.0 ∙ ap (λ (y : List ℕ). frame_unfill F w j y k c) h.1 in
          let r = flush_refused j k c in
          let n : k + bits_taken (E.unfill w j x k c).answer ≡ k = ap (λ (y : Filling). k + bits_taken y.answer) u ∙ ap (λ (y : ℕ). k + y) r.0 ∙ add-zero k in
          ap₂ (λ (y : ℕ) (t : List ℕ). way_back F E w (next_phase F j) xs y t) n (ap (λ (y : Filling). y.left) u ∙ r.1)
          ∙ way (next_phase F j) xs gs h.2 b a z f c k o room
      way j (x ∷ xs) (symbol ds ∷ gs) h b a z f c k o room =
          let n : ℕ = f.0 in
          let t = at_told j b a n ds f.1.0 in
          let r = ends (next_phase F j) gs b (a + n) z f.1.1 in
          let bs : List Bool = bits_between b a (a + n) in
          let u : E.unfill w j x k c ≡ fills (Ok n) (with_bits c k bs) =
          same.unfill_as j x k c h.0
          ∙ ap (λ (y : List ℕ). frame_unfill F w j y k c) (h.1 ∙ symbol_data F j ds ∙ t.1)
          ∙ data_back j b a k c t.2 t.3 (omega (arith, t.0, r.0, room))
          ∙ ap (λ (m : ℕ). fills (Ok m) (with_bits c k (bits_between b a (a + m)))) (sym t.0) in
          let size : length bs ≡ n = length_between b a n (omega (arith, t.0, t.3)) in
          let m : ℕ = z - (a + n) in
          let all : a + n + m ≡ z = omega (arith, r.0) in
          ap₂ (λ (y : ℕ) (q : List ℕ). way_back F E w (next_phase F j) xs y q) (ap (λ (y : Filling). k + bits_taken y.answer) u) (ap (λ (y : Filling). y.left) u)
          ∙ way (next_phase F j) xs gs h.2 b (a + n) z f.1.1 (with_bits c k bs) (k + n) (with_octets c k bs) (rw (length_with c k bs) (omega (arith, r.0, room)))
          ∙ (λ i. (
            (ap (λ (y : ℕ). with_bits (with_bits c k bs) (k + y) (bits_between b (a + n) z)) (sym size)
                ∙ with_more c k bs (bits_between b (a + n) z)
                ∙ ap (with_bits c k) (ap (λ (y : ℕ). bs ++ bits_between b (a + n) y) (sym all) ∙ between_more b a n m ∙ ap (bits_between b a) all)) i,
            (let y : k + n + (z - (a + n)) ≡ k + (z - a) = omega (arith, r.0) in y) i,
          ))

-- ---- what is handed out

-- the cells of an outcome
cells_out : Outcome → List ℕ
cells_out (handed n xs) = xs
cells_out warming = []
cells_out refused = []

out_cells : (n m : ℕ) (xs ys : List ℕ) → handed n xs ≡ handed m ys → xs ≡ ys
unfolding cells_out
out_cells n m xs ys e = ap cells_out e

no_outcome : (n : ℕ) (xs : List ℕ) → refused ≡ handed n xs → ⊥
no_outcome n xs e = let y : ◌≡◌ {A = ℕ} 0 1 = cc in omega arith

module _ (F : Frame) (E : Entries) (w : List ℕ) (same : FillsAs F E w) where
  -- the same number by number
  hands_from : (j : ℕ) (xs : List (List ℕ)) (gs : List Given) → j < F.phases → length xs ≤ length gs
      → ((t : ℕ) → t < length xs → (E.whole (get_or xs t []) ≡ true) × (E.read (get_or xs t []) ≡ data_list F (phase_of F j t) (get_or gs t flush)))
      → ((i : ℕ) → length xs ≤ i → i < length gs → get_or gs i flush ≡ flush) → Hands F E w same j xs gs
  unfolding Hands AllFlush
  hands_from j [] [] hj l h rest = tt
  hands_from j [] (g ∷ gs) hj l h rest = (rest 0 (omega arith) (omega arith), hands_from (next_phase F j) [] gs (next_in F j hj) (omega arith) (λ t u. absurd (omega arith)) (λ i u v. rest (suc i) (omega arith) (omega arith)))
  hands_from j (x ∷ xs) [] hj l h rest = absurd (omega arith)
  hands_from j (x ∷ xs) (g ∷ gs) hj l h rest =
      let first = h 0 (omega arith) in (
        first.0,
        first.1 ∙ ap (λ (p : ℕ). data_list F p g) (phase_first F j hj),
        hands_from (next_phase F j) xs gs (next_in F j hj) (omega arith)
            (λ t u. let r = h (suc t) (omega arith) in (r.0, r.1 ∙ ap (λ (p : ℕ). data_list F p (get_or gs t flush)) (sym (phase_next F j t))))
            (λ i u v. rest (suc i) (omega arith) (omega arith)),
      )

  -- the claim, of entries of which the rest of demand 3 holds
  module _ (listed : ground25 F.width w ≡ Ok tt) (some : (j : ℕ) → j < F.phases → 1 ≤ data_count F j) (phase_in : (j : ℕ) (e : Emitter) → Fresh E j e → j < F.phases)
      (unique : (j : ℕ) (e e' : Emitter) → Fresh E j e → Fresh E j e' → (steps steps' : List Send) → Flushed F.depth (input E e steps) → Flushed F.depth (input E e' steps')
      → (sent E e steps ≡ sent E e' steps') ↔ (input E e steps ≡ input E e' steps'))
      (returned : (j : ℕ) (e : Emitter) (v : Receiver) → Fresh E j e → FreshReceiver E j v → (steps : List Send) (arrivals : List Arrival)
      → Follows (sent E e steps) (heard E v arrivals) → Returned F E j steps (input E e steps) (sent E e steps) v arrivals) where
    handed_is : (j : ℕ) (e : Emitter) (v : Receiver) → Fresh E j e → FreshReceiver E j v → (steps : List Send) (arrivals : List Arrival)
        → Follows (sent E e steps) (heard E v arrivals) → (xs : List (List ℕ)) → HandedOut F E w v arrivals xs → (t : ℕ) → t < length xs
        → E.read (get_or xs t []) ≡ data_list F (phase_of F j t) (get_or (input E e steps) t flush)
    handed_is j e v fresh listens steps arrivals follows xs out t h =
        let r = returned j e v fresh listens steps arrivals follows in
        by_cases (dec_lt (t + (F.depth - 1)) (length (heard E v arrivals)))
        (λ l. out_cells _ _ _ _ (sym (out.cells t h) ∙ r.back t l))
        (λ l. absurd (no_outcome _ _ (sym (get_or-eq_default (outcomes E v arrivals) refused {n = t + (F.depth - 1)} (omega (arith, r.each))) ∙ out.cells t h)))

    pub streams : Streams F E w
    streams = record {
      bits = λ j e e' fresh fresh' steps steps' flushed flushed' bs bs' f f' eq.
          let g : input E e steps ≡ input E e' steps' = (unique j e e' fresh fresh' steps steps' flushed flushed').0 eq in
          filled_inj F E w j (input E e steps) bs bs' f (subst (λ (gs : List Given). FilledFrom F E w j gs bs') (sym g) f');
      bytes = λ j e e' fresh fresh' steps steps' flushed flushed' b b' a z a' z' f f' eq.
          let g : input E e steps ≡ input E e' steps' = (unique j e e' fresh fresh' steps steps' flushed flushed').0 eq in
          filled_inj F E w j (input E e steps) (bits_between b a z) (bits_between b' a' z') (in_from F E w same j (input E e steps) b a z f)
          (subst (λ (gs : List Given). FilledFrom F E w j gs (bits_between b' a' z')) (sym g) (in_from F E w same j (input E e' steps') b' a' z' f'));
      back = λ j e v fresh listens steps arrivals follows xs out few rest b a z f c k o room.
          way F E w same listed some j xs (input E e steps)
          (hands_from j xs (input E e steps) (phase_in j e fresh) few (λ t h. (out.whole t h, handed_is j e v fresh listens steps arrivals follows xs out t h)) rest)
          b a z f c k o room;
    }
