-- `whyreport::why_line` meets its contract. Assumes nothing.
use mathlib.Core.Path.{ap, ◌∙◌}
use Rattle.whyreport.specs.WhyLine.{answer_line, why_line}
use Rattle.whyreport.proofs.why_line.Goals as goal

pub returns : goal.returns
unfolding why_line
returns c = record { result_value = c.answer_line.ensures.result_value ∙ ap answer_line c.why.ensures; prefix_len = c.answer_line.ensures.prefix_len }
