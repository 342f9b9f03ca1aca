-- The cells that a load profile allows stand on the line at `point_load` of their load. Assumes nothing.
use Prim.Native.Nat.{ℕ, zero, suc, ◌≤◌, ◌<◌}
use mathlib.Core.Path.{◌≡◌, refl, ap, ◌∙◌}
use mathlib.Core.Bool.{Bool, true, false, not, ◌||◌}
use mathlib.Core.List.{List, map}
use native.Mathlib.Omega.{arith}
use lib.Dec.{leb}
use lib.ListN.{get_or}
use borrow.Author.Tests.{eqb-true, leb-true}
use Rattle.counting.proofs.Bools.{by_test}
use Rattle.counting.proofs.Lists.{get_or-map_in}
use Rattle.counting.proofs.Laws.{none_lowest}
use Rattle.gray.proofs.Computed.{below}
use Rattle.std.specs.Prelude.{Ok, None}
use Rattle.rules.specs.declared.Role.{Role}
use Rattle.rules.specs.declared.Role.TheVariants.{Excluded, Plc, Continuous, Scattered, Data}
use Rattle.rules.specs.Frame.{fits_role, filler}
use Rattle.rules.specs.Loads.{profile_load, ground25, point_load, load_limit, limit_at}
use Rattle.rules.proofs.Loads.{load_small, loaded, limit_top, within_point}
use Rattle.points.specs.Points.{point_of, load_listed}
use Rattle.scaling.specs.Scale.{scaled_point}
use Rattle.scaling.proofs.Sweep.{holds}
use Rattle.scaling.proofs.NearLaws.{scaled_at}
use Rattle.modulator.specs.declared.OnLine.TheVariants.{Point}
use Rattle.modulator.specs.Lines.{line_from, unmarked, marked, mark_line, line_of, line_answer}
use Rattle.modulator.specs.Symbols.{refused, line_at, is_minus, line_refusal}
use Rattle.modulator.specs.Claims.{ProfileClaims}
use Rattle.modulator.proofs.LineLaws.{below_marks, at_marks}

fits : ℕ → Bool
fits l = not (profile_load l) || load_listed (point_load l)

listed : (l : ℕ) → profile_load l ≡ true → load_listed (point_load l) ≡ true
unfolding fits profile_load point_load load_listed
listed l e = let t : fits l ≡ true = holds (fits l) (below fits 15 tt l (omega (arith, load_small l e))) in rw e at t

cell : (l x : ℕ) (minus : Bool) → profile_load l ≡ true → x ≤ load_limit l
    → line_answer x (point_load l) minus ≡ Ok (Point (scaled_point (point_load l) (point_of (point_load l) x)))
unfolding line_answer line_of unmarked
cell l x minus e h =
    rw (listed l e, below_marks x (omega (arith, h, limit_top l (load_small l e)))) (ap line_from (scaled_at (point_load l) x (listed l e) (within_point l x h)))

mark : (l x : ℕ) (minus : Bool) → profile_load l ≡ true → marked x ≡ true → line_answer x (point_load l) minus ≡ Ok (mark_line x minus)
unfolding line_answer line_of
mark l x minus e m = rw (listed l e, m) refl

-- a load other than 0 is given as it is
pub same_load : (l : ℕ) → (l ≡ 0 → ⊥) → l ≡ point_load l
unfolding point_load
same_load zero h = absurd (h refl)
same_load (suc l) h = refl

-- ---- a symbol

Stands : ℕ → ℕ → Bool → Type 0
Stands l x minus = refused (line_answer x (point_load l) minus) ≡ false

cell_stands : (l x : ℕ) (minus : Bool) → profile_load l ≡ true → x ≤ load_limit l → Stands l x minus
unfolding Stands
cell_stands l x minus e h = ap refused (cell l x minus e h)

mark_stands : (l x : ℕ) (minus : Bool) → profile_load l ≡ true → 0x8000 ≤ x → x < 0x8005 → Stands l x minus
unfolding Stands
mark_stands l x minus e low high = ap refused (mark l x minus e (at_marks x low high))

stands : (l x : ℕ) (minus : Bool) → profile_load l ≡ true → (r : Role) → fits_role (load_limit l) r x ≡ true → Stands l x minus
stands l x minus e Excluded f = let q : x ≡ 0x8002 = eqb-true x 0x8002 f in mark_stands l x minus e (omega arith) (omega arith)
stands l x minus e Plc f = let q : x ≡ 0x8004 = eqb-true x 0x8004 f in mark_stands l x minus e (omega arith) (omega arith)
stands l x minus e Continuous f = let q : x ≡ 0x8003 = eqb-true x 0x8003 f in mark_stands l x minus e (omega arith) (omega arith)
stands l x minus e Scattered f = let q : x ≡ 0x8000 = eqb-true x 0x8000 f in mark_stands l x minus e (omega arith) (omega arith)
stands l x minus e Data f =
    by_test (leb x (load_limit l)) (λ t. cell_stands l x minus e (leb-true x (load_limit l) t))
    (λ t. let q : x ≡ filler = eqb-true x filler (rw t at f) in mark_stands l x minus e (omega arith) (omega arith))

symbol : (n : ℕ) (w y minus : List ℕ) → ground25 n w ≡ Ok tt → ((k : ℕ) → k < n → (r : Role) × (fits_role (limit_at w k) r (get_or y k 0) ≡ true))
    → line_refusal y (map point_load w) minus n ≡ None
unfolding line_at Stands
symbol n w y minus fine fit =
    let all = loaded n w fine in
    none_lowest (λ k. refused (line_at y (map point_load w) minus k)) n
    (λ k h.
    ap (λ (l : ℕ). refused (line_answer (get_or y k 0) l (is_minus (get_or minus k 0)))) (get_or-map_in point_load w k 0 0 (omega (arith, all.long)))
    ∙ stands (get_or w k 0) (get_or y k 0) (is_minus (get_or minus k 0)) (all.listed k h) (fit k h).0 (fit k h).1)

pub profile_claims : ProfileClaims
profile_claims = record { listed = listed; cell = cell; mark = mark; symbol = symbol }
