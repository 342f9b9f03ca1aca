-- Laws of a line that grows. Assumes nothing.
use mathlib.Core.Path.{ap, ◌∙◌}
use mathlib.Core.List.{List, ◌++◌, append_assoc}
use Prim.Native.Nat.{ℕ}
use native.Mathlib.Omega.{arith}
use lib.ListN.{length-append}
use Rattle.text.specs.declared.Line.{Line}
use Rattle.text.specs.Bytes.{written, Longer}

-- some bytes more, and then others
pub longer_on : {l m r : Line} {xs ys : List ℕ} → Longer l xs m → Longer m ys r → Longer l (xs ++ ys) r
longer_on {l = l} {xs = xs} {ys = ys} f g = record {
  len = omega (arith, length-append xs ys);
  text = g.text ∙ ap (λ (b : List ℕ). b ++ ys) f.text ∙ append_assoc (written l) xs ys;
  size = g.size;
}
