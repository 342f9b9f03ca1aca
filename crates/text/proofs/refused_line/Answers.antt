-- `text::refused_line` meets its contract. Assumes nothing.
use Rattle.text.specs.Text.{refused_line}
use Rattle.text.proofs.refused_line.Goals as goal

pub returns : goal.returns
unfolding refused_line
returns c = c.line_of.ensures
