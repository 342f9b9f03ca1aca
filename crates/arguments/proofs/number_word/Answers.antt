-- What a word is found to say is at most `most`.
use Rattle.words.proofs.Words.{up_to}
use Rattle.arguments.proofs.number_word.Goals as goal

pub returns : goal.returns
returns g c = rw c.word_number.ensures (up_to _ _)
