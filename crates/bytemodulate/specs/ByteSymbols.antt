-- What filling a modulator symbol from two-byte cells answers and leaves (request 04): ground 21, tried before the others, and else what
-- filling it from the cells of the bytes does. Assumes nothing.
use Rattle.std.specs.Prelude.{ℕ, List, Float}
use Rattle.counting.specs.Search.{pick}
use Rattle.rules.specs.declared.Device.{Device}
use Rattle.bytecells.specs.Octets.{cells_of, odd}
use Rattle.rules.specs.Refusals.{refusal}
use Rattle.modulator.specs.Symbols.{Modulating, refused_point, modulates, modulate_step}

-- the bytes of a symbol on the line, the load of each subcarrier, the sign of each subcarrier's pilot, and the lent modulator symbol
unfoldable pub modulate_bytes : List ℕ → List ℕ → List ℕ → Device → List Float → Modulating
modulate_bytes bytes loads minus d l = pick (odd bytes) (modulates (refused_point (refusal 21 0) 0) l) (modulate_step (cells_of bytes) loads minus d l)
