-- The digits made are the number's text.
use Rattle.std.proofs.Common.{◌∙◌}
use Rattle.text.proofs.Decimals.{fewest_decimal}
use Rattle.console.proofs.print_number.Goals as goal

pub returns-clause-prints : goal.returns-clause-prints
returns-clause-prints g c = rw (c.decimal-k.ensures.digits ∙ fewest_decimal c.args.n c.decimal-k.result c.decimal-k.ensures.len) at c.print.ensures.prints
