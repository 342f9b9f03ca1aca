-- `answerbytes::tell` meets its contract. Assumes nothing.
use Prim.Native.Nat.{ℕ}
use mathlib.Core.Path.{refl, ap, ◌∙◌}
use mathlib.Core.List.{List}
use lib.Seq.{sets}
use Rattle.answerbytes.specs.Layout.{four, layout, written}
use Rattle.answerbytes.proofs.tell.Goals as goal

pub returns : goal.returns
unfolding written layout four
returns c =
    let t = c.args.t in
    let at : ℕ → ℕ → List ℕ → List ℕ = λ i x y. sets y i (four x) in
    record { number = refl; answer = c.put_four-4.ensures ∙ ap (at 12 t.value) (c.put_four-3.ensures ∙ ap (at 8 t.heard) (c.put_four-2.ensures ∙ ap (at 4 t.phase) c.put_four.ensures)) }
