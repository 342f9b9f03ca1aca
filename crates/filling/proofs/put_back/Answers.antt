-- `filling::put_back` meets its contract. Refused by 19, or put back. Assumes nothing.
use Prim.Native.Nat.{ℕ, ◌<◌}
use mathlib.Core.Path.{◌≡◌, sym, ap, ◌∙◌}
use mathlib.Core.List.{List}
use native.Mathlib.Omega.{arith}
use lib.Dec.{ltb}
use lib.ListN.{length, get_or}
use Rattle.counting.specs.Search.{lowest}
use Rattle.std.specs.Prelude.{Option, Ok, Err}
use Rattle.rules.specs.Refusals.{Finding, refused_by}
use Rattle.rules.specs.Grounds.{ground?}
use Rattle.rules.specs.Bits.{unfilled_into}
use Rattle.rules.specs.Loads.{load_limit}
use Rattle.rules.specs.Filling.{fills}
use Rattle.filling.specs.Measured.{put_back}
use Rattle.filling.proofs.Starts.{unfill_start, start_fits}
use Rattle.filling.proofs.put_back.Goals as goal

-- what 19 leaves of a finding
left : (ls ds : List ℕ) (need : ℕ) (stream : List ℕ) (a : ℕ) (f : Finding) → f ≡ ground? 19 (lowest (λ i. ltb (load_limit (get_or ls i 0)) (get_or ds i 0)) (length ds))
    → elim f [ Ok _ ↦ fills (Ok need) (unfilled_into ls ds stream a) | Err r ↦ fills (Err r) stream ] ≡ put_back ls ds need stream a
unfolding put_back
left ls ds need stream a f e = ap (λ (x : Finding). elim x [ Ok _ ↦ fills (Ok need) (unfilled_into ls ds stream a) | Err r ↦ fills (Err r) stream ]) e

pub first_over-requires : goal.first_over-requires
first_over-requires c = let g = c in (g.requires.1, omega (arith, g.requires.0), g.requires.2)

pub returns-in-Some : goal.returns-in-Some
returns-in-Some c = let a = c.args in left a.loads.now a.ds.now a.need a.stream.now a.start (refused_by 19 _) (ap (λ (f : Option ℕ). ground? 19 f) (sym c.in-Some.is) ∙ ap (ground? 19) c.first_over.ensures)

pub unfill_into-requires : goal.unfill_into-requires
unfill_into-requires c =
    let g = c in
    let a = g.args in
    let f = c.from_bit.ensures in
    (g.requires.0, g.requires.2, g.requires.3, start_fits a.loads.now a.start _ (λ z. f.0 (g.requires.3 ∙ z)) (λ z. f.1 (omega (arith, g.requires.3, z))) (length a.stream.now) (λ z. let y : 0 < a.need = omega (arith, g.requires.3, z) in omega (arith, g.requires.4 y, g.requires.3)))

pub returns : goal.returns
returns c =
    let g = c in
    let a = g.args in
    let f = c.from_bit.ensures in
    ap (fills (Ok a.need)) (c.unfill_into.ensures ∙ unfill_start a.loads.now a.start _ (λ z. f.0 (g.requires.3 ∙ z)) (λ z. f.1 (omega (arith, g.requires.3, z))) a.ds.now a.stream.now (sym g.requires.0))
    ∙ left a.loads.now a.ds.now a.need a.stream.now a.start (Ok tt) (ap (λ (f : Option ℕ). ground? 19 f) (sym c.in_default.is) ∙ ap (ground? 19) c.first_over.ensures)
