-- `words::word_number` meets its contract. The loop's invariant, `Reading`: `value` is not above `most`, and what the word says follows
-- from `value` and the bytes left. Assumes nothing.
use Rattle.words.proofs.Words.{Reading}
use Rattle.words.proofs.word_number.Given as goal

abbrev pub invariant-loop-byte : goal.invariant-loop-byte
invariant-loop-byte l = Reading l.word l.most l.value l.byte-index
