-- Runs whose data symbols are filled from a bit stream, each symbol's bits starting where the last one's ended, and what is claimed of them (document 02, request 07), of
-- entries over cells or over bytes. Statements only. Assumes nothing.
use Rattle.std.specs.Prelude.{ℕ, ◌+◌, ◌-◌, ◌*◌, ◌≤◌, ◌<◌, ◌≡◌, Bool, true, List, [], ◌∷◌, length, get_or, drop, Ok, Err}
use Rattle.rules.specs.Refusals.{CountAnswer}
use Rattle.rules.specs.Frame.{Frame, next_phase, Given, flush, symbol}
use Rattle.counting.specs.Bytes.{Octets}
use Rattle.rules.specs.Bits.{cells_from, bits_between, with_bits}
use Rattle.rules.specs.Loads.{data_loads}
use Rattle.rules.specs.Filling.{fills, bit_count}
use Rattle.rules.specs.Steps.{Emitter, Send}
use Rattle.rules.specs.Receive.{Receiver, Arrival}
use Rattle.runs.specs.Run.{Entries, input, sent, Fresh, handed, refused, heard, outcomes, FreshReceiver}
use Rattle.runs.specs.Follow.{Flushed, Follows}

-- how many bits an answer says were taken: a refusal takes none
abbrev pub bits_taken : CountAnswer → ℕ
bits_taken (Ok n) = n
bits_taken (Err r) = 0

module _ (F : Frame) (E : Entries) (w : List ℕ) where
  -- The data symbols of an input, from phase j on, are filled from the bits bs, which are used up; a flush takes none.
  abbrev pub FilledFrom : ℕ → List Given → List Bool → Type 0
  FilledFrom j [] bs = bs ≡ []
  FilledFrom j (flush ∷ gs) bs = FilledFrom (next_phase F j) gs bs
  FilledFrom j (symbol ds ∷ gs) bs = (bit_count F w j ≤ length bs) × (ds ≡ cells_from (data_loads F w j) bs) × FilledFrom (next_phase F j) gs (drop (bit_count F w j) bs)

  -- the cells ds are those that filling leaves at phase j, from bit a of the stream on; it takes n bits
  pub record FilledAt (j : ℕ) (stream : List ℕ) (a n : ℕ) (ds : List ℕ) : Type 0 where
    pub room : List ℕ
    pub left : List ℕ
    pub fill : E.fill w j stream a room ≡ fills (Ok n) left
    pub cells : E.read left ≡ ds

  -- The data symbols of an input, from phase j on, are filled from a stream in bytes, from bit a up to bit z, by the entry's own filling; a flush takes none.
  abbrev pub FilledIn : ℕ → List Given → List ℕ → ℕ → ℕ → Type 0
  FilledIn j [] stream a z = a ≡ z
  FilledIn j (flush ∷ gs) stream a z = FilledIn (next_phase F j) gs stream a z
  FilledIn j (symbol ds ∷ gs) stream a z = (n : ℕ) × (FilledAt j stream a n ds × FilledIn (next_phase F j) gs stream (a + n) z)

  -- The way back of the data symbols xs, from phase j on, symbol after symbol: the stream from bit a on, each symbol's bits starting where the last one's ended, and the
  -- bit at which they end. What is refused, as the filler of a flush is, changes nothing and takes none.
  unfoldable pub way_back : ℕ → List (List ℕ) → ℕ → List ℕ → List ℕ × ℕ
  way_back j [] a stream = (stream, a)
  way_back j (x ∷ xs) a stream = way_back (next_phase F j) xs (a + bits_taken (E.unfill w j x a stream).answer) (E.unfill w j x a stream).left

  -- xs are the first data symbols that a receiver's accepted steps handed out, in order, as its caller has them
  pub record HandedOut (v : Receiver) (arrivals : List Arrival) (xs : List (List ℕ)) : Type 0 where
    pub whole : (t : ℕ) → t < length xs → E.whole (get_or xs t []) ≡ true
    pub cells : (t : ℕ) → t < length xs
        → get_or (outcomes E v arrivals) (t + (F.depth - 1)) refused ≡ handed (length (E.read (get_or xs t []))) (E.read (get_or xs t []))

  -- claimed of runs through the entries E under the profile w
  pub record Streams : Type 0 where
    -- in flushed runs different bit streams, whole symbols each, give different symbols
    pub bits : (j : ℕ) (e e' : Emitter) → Fresh E j e → Fresh E j e' → (steps steps' : List Send)
        → Flushed F.depth (input E e steps) → Flushed F.depth (input E e' steps')
        → (bs bs' : List Bool) → FilledFrom j (input E e steps) bs → FilledFrom j (input E e' steps') bs'
        → sent E e steps ≡ sent E e' steps' → bs ≡ bs'
    -- the same of streams in bytes, from bit a up to bit z
    pub bytes : (j : ℕ) (e e' : Emitter) → Fresh E j e → Fresh E j e' → (steps steps' : List Send)
        → Flushed F.depth (input E e steps) → Flushed F.depth (input E e' steps')
        → (b b' : List ℕ) (a z a' z' : ℕ) → FilledIn j (input E e steps) b a z → FilledIn j (input E e' steps') b' a' z'
        → sent E e steps ≡ sent E e' steps' → bits_between b a z ≡ bits_between b' a' z'
    -- The stream comes back: the way back of what a following receiver hands out, into any stream c from bit k on, leaves in c the bits of the stream and no others, where
    -- all that is not handed out yet are flushes.
    pub back : (j : ℕ) (e : Emitter) (v : Receiver) → Fresh E j e → FreshReceiver E j v → (steps : List Send) (arrivals : List Arrival)
        → Follows (sent E e steps) (heard E v arrivals)
        → (xs : List (List ℕ)) → HandedOut v arrivals xs → length xs ≤ length (input E e steps)
        → ((i : ℕ) → length xs ≤ i → i < length (input E e steps) → get_or (input E e steps) i flush ≡ flush)
        → (b : List ℕ) (a z : ℕ) → FilledIn j (input E e steps) b a z
        → (c : List ℕ) (k : ℕ) → Octets c → k + (z - a) ≤ length c * 8
        → way_back j xs k c ≡ (with_bits c k (bits_between b a z), k + (z - a))
