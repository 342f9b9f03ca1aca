-- What the entries answer and leave when they are lent only the first cells: past those nothing changes. Assumes nothing.
use Rattle.std.specs.Prelude.{ℕ, ◌≡◌, List, ◌++◌, take, drop, Ok, Err}
use Rattle.counting.specs.Search.{pick}
use Rattle.rules.specs.Refusals.{Verdict, CountAnswer}
use Rattle.rules.specs.Device.{khz50}
use Rattle.rules.specs.Steps.{Sending as Sent, Starting, leaves, starts, emit_step, flush_step, start_step}
use Rattle.rules.specs.Receive.{Receiving as Heard, Listening, hears, listens, receive_step, listen_step}
use Rattle.trials.specs.declared.Sending.{Sending}
use Rattle.trials.specs.declared.Receiving.{Receiving}

-- the number of a count, 0 of a refusal
abbrev pub counted : CountAnswer → ℕ
counted (Ok n) = n
counted (Err r) = 0

-- so many places under an accepted plan, 0 under a refused one
abbrev pub needed : ℕ → Verdict → ℕ
needed places (Ok n) = places
needed places (Err r) = 0

-- the first r cells are the first n of them, or all
pub record Front (r n : ℕ) (cells : List ℕ) : Type 0 where
  pub same : take r cells ≡ take n cells
  pub rest : drop r cells ≡ drop n cells

-- a step on the first n cells of store and the first w of symbol, with what stands after them
abbrev pub sent_over : ℕ → ℕ → List ℕ → List ℕ → Sent → Sent
sent_over n w store symbol s = leaves s.answer (s.store ++ drop n store) (s.symbol ++ drop w symbol)

-- a flush, or an emit under the profile w of the first cells of the data
abbrev pub send_part : List ℕ → List ℕ → Sending → List ℕ → List ℕ → List ℕ → Sent
send_part plan w g store cells symbol =
    sent_over g.store g.symbol store symbol
    (pick g.flush
    (flush_step khz50 plan (record { phase = g.phase }) (take g.store store) (take g.symbol symbol))
    (emit_step khz50 plan w (record { phase = g.phase }) (take g.store store) (take g.count cells) (take g.symbol symbol)))

-- a step on the first n cells of store and the first b of the data buffer, with what stands after them
abbrev pub heard_over : ℕ → ℕ → List ℕ → List ℕ → Heard → Heard
heard_over n b store buffer s = hears s.answer (s.store ++ drop n store) (s.buffer ++ drop b buffer)

-- a receive under the profile w of the first cells of the symbol
abbrev pub receive_part : List ℕ → List ℕ → Receiving → List ℕ → List ℕ → List ℕ → Heard
receive_part plan w g store symbol buffer =
    heard_over g.store g.buffer store buffer
    (receive_step khz50 plan w (record { phase = g.phase; heard = g.heard }) (take g.store store) (take g.symbol symbol) (take g.buffer buffer))

-- a fresh emitter in the first n cells, with what stands after them
abbrev pub start_part : List ℕ → ℕ → ℕ → List ℕ → Starting
start_part plan j n store = let s = start_step khz50 plan j (take n store) in starts s.answer (s.store ++ drop n store)

-- a fresh receiver in the first n cells, with what stands after them
abbrev pub listen_part : List ℕ → ℕ → ℕ → List ℕ → Listening
listen_part plan j n store = let s = listen_step khz50 plan j (take n store) in listens s.answer (s.store ++ drop n store)
