-- A # prints as the number, and any other byte as it is.
use Rattle.std.proofs.Common.{subst}
use Rattle.std.specs.Io.KnownBytes.{Appends}
use Rattle.console.proofs.Printing.{piece_hash, piece_other}
use Rattle.console.proofs.print_piece.Goals as goal

pub returns-then-byte-eq35-clause-prints : goal.returns-then-byte-eq35-clause-prints
returns-then-byte-eq35-clause-prints g c h = subst (Appends _ _) (piece_hash _ _ c.if-byte-eq35.true) (c.print_number.ensures.prints h)

pub returns-clause-prints : goal.returns-clause-prints
returns-clause-prints g c h = subst (Appends _ _) (piece_other _ _ c.if-byte-eq35.false) (c.print.ensures.prints h)
