-- `modulate::modulate` meets its contract: one law for each return. Assumes nothing.
use Prim.Native.Nat.{ℕ, ◌*◌}
use mathlib.Core.Path.{◌≡◌, sym, ap, ◌∙◌}
use mathlib.Core.Bool.{true}
use mathlib.Core.List.{List}
use native.Mathlib.Omega.{arith}
use lib.ListN.{length}
use lib.Ieee.{Float}
use Rattle.rules.specs.declared.Device.{Device}
use Rattle.rules.specs.Device.{khz50}
use Rattle.std.specs.Prelude.{Ok}
use Rattle.modulator.specs.Symbols.{ModulateAnswer, modulates, fitting}
use Rattle.modulate.proofs.Modulating.{Lengths, lengths, passed, unfit, refuses, modulated}
use Rattle.modulate.proofs.modulate.Goals as goal
use Rattle.modulate.proofs.modulate.Goals.{After-lengths_fit, Else-not-lengths_fit}

-- whether the lengths fit
tried : (c : After-lengths_fit) → let a = c.args in fitting a.symbol.now a.loads.now a.minus.now khz50 a.out.now ≡ c.lengths_fit.result
unfolding fitting
tried c =
    let a = c.args in
    ap (λ (d : Device). fitting a.symbol.now a.loads.now a.minus.now d a.out.now) (sym c.khz50_device-d.ensures) ∙ sym c.lengths_fit.ensures

-- where they have been tried, they do
fit : (c : Else-not-lengths_fit) → let a = c.args in fitting a.symbol.now a.loads.now a.minus.now khz50 a.out.now ≡ true
unfolding fitting
fit c =
    let a = c.args in
    ap (λ (d : Device). fitting a.symbol.now a.loads.now a.minus.now d a.out.now) (sym c.khz50_device-d.ensures) ∙ sym c.lengths_fit.ensures
    ∙ c.if-not-lengths_fit.false

sizes : (c : Else-not-lengths_fit) → let a = c.args in Lengths khz50.subcarriers (length a.symbol.now) (length a.loads.now) (length a.minus.now) (length a.out.now)
unfolding fitting
sizes c = lengths _ _ _ _ _ (fit c)

pub lengths_fit-requires : goal.lengths_fit-requires
lengths_fit-requires c = omega (arith, ap (λ (d : Device). d.subcarriers) c.khz50_device-d.ensures)

pub returns-then-not-lengths_fit : goal.returns-then-not-lengths_fit
returns-then-not-lengths_fit c =
    let a = c.args in
    unfit a.symbol.now a.loads.now a.minus.now khz50 a.out.now (tried (goal.at.returns-then-not-lengths_fit c).After-lengths_fit ∙ c.if-not-lengths_fit.true)

pub first_refused-k-requires : goal.first_refused-k-requires
first_refused-k-requires c = let s = sizes c in s.each ∙ sym s.cells

pub refusal-requires : goal.refusal-requires
refusal-requires c =
    let s = sizes (goal.at.refusal-requires c).Else-not-lengths_fit in
    (omega (arith, s.cells), c.if-k-symbol.true, omega (arith, s.cells, s.each, c.if-k-symbol.true), omega (arith, s.cells, s.signs, c.if-k-symbol.true))

pub returns-then-k-symbol : goal.returns-then-k-symbol
returns-then-k-symbol c =
    let a = c.args in
    let k = c.first_refused-k in
    ap (λ (r : ModulateAnswer). modulates r a.out.now) c.refusal.ensures
    ∙ refuses a.symbol.now a.loads.now a.minus.now khz50 a.out.now k.result (length a.symbol.now) (fit (goal.at.returns-then-k-symbol c).Else-not-lengths_fit) (sizes (goal.at.returns-then-k-symbol c).Else-not-lengths_fit).cells c.if-k-symbol.true (k.ensures a.minus.now)

pub fill-requires : goal.fill-requires
fill-requires c =
    let a = c.args in
    let s = sizes (goal.at.fill-requires c).Else-not-lengths_fit in
    let k = c.first_refused-k in (
      s.each ∙ sym s.cells,
      s.signs ∙ sym s.cells,
      s.numbers ∙ ap (λ (n : ℕ). 2 * n) (sym s.cells),
      passed a.symbol.now a.loads.now k.result (length a.symbol.now) c.if-k-symbol.false k.ensures,
    )

pub returns : goal.returns
returns c =
    let a = c.args in
    let k = c.first_refused-k in
    ap (λ (l : List Float). modulates (Ok tt) l) c.fill.ensures
    ∙ modulated a.symbol.now a.loads.now a.minus.now khz50 a.out.now k.result (length a.symbol.now) (fit (goal.at.returns c).Else-not-lengths_fit) (sizes (goal.at.returns c).Else-not-lengths_fit).cells c.if-k-symbol.false (k.ensures a.minus.now)
