-- `flushes::put_filler` meets its contract. Assumes nothing.
use Prim.Native.Nat.{ℕ}
use mathlib.Core.Path.{◌≡◌, sym, ap, ◌∙◌}
use mathlib.Core.List.{List, ◌++◌}
use native.Mathlib.Omega.{arith}
use native.Mathlib.Nat.{zero-add}
use lib.ListN.{drop, length, replicate, length-replicate}
use lib.Seq.{length-take-le}
use Rattle.std.proofs.Common.{rules}
use Rattle.std.proofs.lemmas.List.Edits.{sets-eq}
use Rattle.rules.specs.Frame.{filler}
use Rattle.flushes.proofs.put_filler.Goals as goal

pub returns : goal.returns
returns c =
    let a = c.args in
    let s = a.store.now in
    let r : List ℕ = replicate a.n filler in
    let size : length r ≡ a.n = length-replicate a.n filler in
    let full : c.fill.new.self ≡ r = c.fill.ensures.after (λ y h. search rules) ∙ ap (λ (k : ℕ). replicate k filler) (length-take-le a.n s c.requires) in
    rw full (sym (sets-eq r s 0 (omega (arith, size, c.requires)) ∙ ap (λ (k : ℕ). r ++ drop k s) (zero-add (length r) ∙ size)))
