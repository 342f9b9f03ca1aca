-- `text::ok_line` meets its contract. Assumes nothing.
use Rattle.text.specs.Text.{ok_line}
use Rattle.text.proofs.ok_line.Goals as goal

pub returns : goal.returns
unfolding ok_line
returns c = c.line_of.ensures
