-- `places::emitter_places` meets its contract. Assumes nothing.
use Prim.Native.Nat.{ℕ, ◌+◌, ◌*◌, ◌/◌}
use mathlib.Core.Path.{◌≡◌, sym, ap₂, ◌∙◌}
use native.Mathlib.Nat.{mod-lt, div-le_self}
use native.Mathlib.Omega.{arith}
use Rattle.counting.specs.Search.{sum}
use Rattle.rules.specs.Places.{emitter_delay, places_before}
use Rattle.places.proofs.Sizes.{emitter_size, emitter_fits}
use Rattle.places.proofs.emitter_places.Goals as goal
use Rattle.places.proofs.emitter_places.Goals.{After-triangle-2}

whole : (c : After-triangle-2)
    → c.args.n / c.args.m * c.triangle.result + c.triangle-2.result
    ≡ places_before (emitter_delay c.args.m) c.args.n
whole c =
    let g = c in
    ap₂ (λ (x y : ℕ). g.args.n / g.args.m * x + y) c.triangle.ensures c.triangle-2.ensures ∙ sym (emitter_size g.args.m g.args.n g.requires.0)

pub overflow_mul-result : goal.overflow_mul-result
overflow_mul-result c =
    let g = c in
    let e : g.args.n / g.args.m * c.triangle.result ≡ g.args.n / g.args.m * sum (λ i. i) g.args.m = rw c.triangle.ensures in
    omega (arith, emitter_size g.args.m g.args.n g.requires.0, emitter_fits g.args.m g.args.n g.requires.0 g.requires.1 g.requires.2)

pub triangle-requires-2 : goal.triangle-requires-2
triangle-requires-2 c = omega (arith, mod-lt c.args.n c.requires.0, div-le_self c.args.n c.args.m)

pub overflow_add-result : goal.overflow_add-result
overflow_add-result c =
    let g = c in
    omega (arith, whole c, emitter_fits g.args.m g.args.n g.requires.0 g.requires.1 g.requires.2)

pub returns : goal.returns
returns c = whole c
