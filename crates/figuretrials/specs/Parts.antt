-- What the second emitter's entries answer and leave when they are lent only the first cells: past those nothing changes (crate trials has the first
-- emitter's). Assumes nothing.
use Rattle.std.specs.Prelude.{ℕ, List, ◌++◌, take, drop}
use Rattle.counting.specs.Search.{pick}
use Rattle.rules.specs.Device.{khz50}
use Rattle.rules.specs.Steps.{Sending as Sent, Starting, starts}
use Rattle.figure.specs.Steps.{figure_emit_step, figure_flush_step, figure_start_step}
use Rattle.trials.specs.declared.Sending.{Sending}
use Rattle.trials.specs.Parts.{sent_over}

-- a flush, or an emit under the profile w of the first cells of the data
abbrev pub send_part : List ℕ → List ℕ → Sending → List ℕ → List ℕ → List ℕ → Sent
send_part plan w g store cells symbol =
    sent_over g.store g.symbol store symbol
    (pick g.flush
    (figure_flush_step khz50 plan (record { phase = g.phase }) (take g.store store) (take g.symbol symbol))
    (figure_emit_step khz50 plan w (record { phase = g.phase }) (take g.store store) (take g.count cells) (take g.symbol symbol)))

-- a fresh second emitter in the first n cells, with what stands after them
abbrev pub start_part : List ℕ → ℕ → ℕ → List ℕ → Starting
start_part plan j n store = let s = figure_start_step khz50 plan j (take n store) in starts s.answer (s.store ++ drop n store)
