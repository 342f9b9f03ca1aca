-- The entries over two-byte cells, as a run steps through them (requests 01 and 07): the functions that their contracts cite. Assumes nothing.
use Rattle.std.specs.Prelude.{ℕ, ◌≡◌, false, not, List, map}
use Rattle.rules.specs.declared.Device.{Device}
use Rattle.rules.specs.Frame.{Given, flush, symbol}
use Rattle.rules.specs.Steps.{Emitter, Send, Sending}
use Rattle.rules.specs.Receive.{Receiver, Arrival, Receiving}
use Rattle.counting.specs.Bytes.{Octets}
use Rattle.bytecells.specs.Octets.{cells_of, bytes_of, odd}
use Rattle.bytecells.specs.ByteSteps.{start_bytes, listen_bytes, emit_bytes, flush_bytes, receive_bytes, fill_bytes, unfill_bytes}
use Rattle.runs.specs.Run.{Entries, sendings, sent}

module _ (d : Device) (s : List ℕ) where
  -- an emit or a flush step, by what is given, under a load profile and in the lent symbol; a flush is given no profile
  abbrev pub send_given : Emitter → List ℕ → List ℕ → Given → Sending
  send_given e w room flush = flush_bytes d s e.state e.store room
  send_given e w room (symbol ds) = emit_bytes d s w e.state e.store ds room

  abbrev pub send_bytes : Emitter → Send → Sending
  send_bytes e a = send_given e a.profile a.room a.given

  abbrev pub hear_bytes : Receiver → Arrival → Receiving
  hear_bytes v a = receive_bytes d s a.profile v.state v.store a.symbol a.buffer

  -- a list of bytes is one of whole cells if its length is even
  abbrev pub byte_entries : Entries
  byte_entries = record {
    start = start_bytes d s;
    send = send_bytes;
    listen = listen_bytes d s;
    hear = hear_bytes;
    fill = fill_bytes d s;
    unfill = unfill_bytes d s;
    whole = λ b. not (odd b);
    read = cells_of;
  }

  -- the claims speak of the cells of the symbols sent; the bytes that the steps left are the bytes of those cells, and no others
  abbrev pub BytesSent : Type 0
  BytesSent = (e : Emitter) (steps : List Send) → map (λ x. x.1.symbol) (sendings byte_entries e steps) ≡ map bytes_of (sent byte_entries e steps)

-- nor is anything of what a step is given lost in its cells: two lists of bytes, of whole cells, that have the same cells are the same
abbrev pub SameBytes : Type 0
SameBytes = (b b' : List ℕ) → Octets b → Octets b' → odd b ≡ false → odd b' ≡ false → cells_of b ≡ cells_of b' → b ≡ b'
