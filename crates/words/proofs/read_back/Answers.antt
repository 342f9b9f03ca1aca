-- `words::read_back` meets its contract: the claim is the law `read_back`. Assumes nothing.
use Rattle.words.proofs.Words.{read_back}
use Rattle.words.proofs.read_back.Goals as goal

pub returns : goal.returns
returns c = read_back
