-- What a further read takes stands behind what was read before it.
use Rattle.std.proofs.Common.{◌≡◌, ℕ, ◌+◌, List, ◌++◌, take, drop, arith, sym, ap, subst, ◌∙◌}
use lib.Seq.{take-add}
use Rattle.std.specs.Io.KnownBytes.{Consumes}
use Rattle.std.proofs.KnownBytes.{Consumes-trans}
use Rattle.console.proofs.read_open.Goals as goal

-- the bytes before a place, and those behind it
joined : (from n : ℕ) (old new : List ℕ) → take from new ≡ take from old → take from old ++ take n (drop from new) ≡ take (from + n) new
joined from n old new e = ap (λ (l : List ℕ). l ++ take n (drop from new)) (sym e) ∙ sym (take-add from n new)

pub loop-done-preserved : goal.loop-done-preserved
loop-done-preserved g c =
    let e = joined c.loop-done.done c.in_ok-n.n _ _ c.in_ok-n.ensures.before in
    record { within = omega (arith, c.in_ok-n.ensures.holds); takes = subst (Consumes _ _) e (Consumes-trans _ _ _ _ _ c.loop-done.invariant.takes c.in_ok-n.ensures.takes.0) }
