-- `modulate::fill_from` meets its contract. The loop has filled the subcarriers below k. Assumes nothing.
use mathlib.Core.Path.{◌≡◌}
use Rattle.modulator.specs.Symbols.{filled_to}
use Rattle.modulate.proofs.fill_from.Given as goal

abbrev pub invariant-loop-k : goal.invariant-loop-k
invariant-loop-k l = l.out ≡ filled_to l.symbol l.loads l.minus l.k l.initial.out
