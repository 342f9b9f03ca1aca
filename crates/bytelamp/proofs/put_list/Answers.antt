-- `bytelamp::put_list` meets its contract. Assumes nothing.
use mathlib.Core.Path.{sym, ap, ◌∙◌}
use native.Mathlib.Omega.{arith}
use Rattle.rules.specs.Refusals.{CountAnswer}
use Rattle.std.specs.Prelude.{Ok}
use Rattle.rules.proofs.Findings.{passed_on}
use Rattle.bytecells.specs.Octets.{bytes_of}
use Rattle.bytelamp.specs.ByteLamp.{put_if, leaves_list}
use Rattle.bytelamp.proofs.put_list.Goals as goal

pub write_cells-requires : goal.write_cells-requires
write_cells-requires c = let s = c in omega (arith, s.requires.0, s.requires.1)

pub returns-in_err-n : goal.returns-in_err-n
returns-in_err-n c =
    let a = c.args in
    rw (passed_on _ c.from_residual.ensures) (ap (λ (x : CountAnswer). leaves_list x (put_if x (bytes_of a.p.list) a.list.now)) (sym c.in_err-n.was))

pub returns : goal.returns
returns c =
    let a = c.args in
    ap (leaves_list (Ok _)) c.write_cells.ensures
    ∙ ap (λ (x : CountAnswer). leaves_list x (put_if x (bytes_of a.p.list) a.list.now)) (sym c.in_ok-n.was)
