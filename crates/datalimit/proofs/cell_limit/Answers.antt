-- `datalimit::cell_limit` meets its contract. Assumes nothing.
use Prim.Native.Nat.{ℕ, ◌<◌}
use mathlib.Core.Path.{◌≡◌, ap, ◌∙◌}
use mathlib.Core.List.{List}
use native.Mathlib.Omega.{arith}
use lib.ListN.{get_or}
use Rattle.counting.proofs.Lists.{get_d_tabulate}
use Rattle.rules.specs.Loads.{load_limit}
use Rattle.datalimit.proofs.cell_limit.Goals as goal

pub returns : goal.returns
returns c =
    let a = c in
    let k = c.wide-k.result in
    let l = c.load_index.result in
    let e : l ≡ get_or a.args.profile.now (get_or a.args.kc.now a.args.p 0) 0 = c.load_index.ensures ∙ ap (λ (i : ℕ). get_or a.args.profile.now i 0) c.wide-k.ensures.0 in
    let h : l < 15 = omega (arith, e, a.requires.4 (get_or a.args.kc.now a.args.p 0)) in
    ap (λ (t : List ℕ). get_or t l 0) a.requires.0 ∙ get_d_tabulate load_limit 15 0 l h ∙ ap load_limit e
