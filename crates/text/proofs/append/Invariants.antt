-- `text::append` meets its contract. The loop's invariant: the line is the one given with the bytes before the index more. Assumes nothing.
use lib.ListN.{take}
use Rattle.text.specs.Bytes.{Longer}
use Rattle.text.proofs.append.Given as goal

abbrev pub invariant-loop-byte : goal.invariant-loop-byte
invariant-loop-byte l = Longer l.initial.longer (take l.byte-index l.bytes) l.longer
