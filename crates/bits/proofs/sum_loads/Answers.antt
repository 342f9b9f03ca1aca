-- `bits::sum_loads` meets its contract. Assumes nothing.
use Rattle.std.proofs.Common.{rules, ℕ, ◌≡◌, List, [], ◌∷◌, length, refl, ap, ◌∙◌, sum, arith, ◌+◌}
use Rattle.std.proofs.lemmas.List.Sums.{sum_by-cons}
use Rattle.rules.specs.Bits.{total}
use Rattle.bits.proofs.Windows.{total_some, total_all}
use Rattle.bits.proofs.sum_loads.Goals as goal

-- the total is the sum
sum_total : (ls : List ℕ) → sum ls ≡ total ls
unfolding total
sum_total [] = refl
sum_total (l ∷ ls) = sum_by-cons (λ x. x) l ls ∙ ap (λ n. l + n) (sum_total ls)

pub returns : goal.returns
returns c =
    let ls = c.args.loads.now in
    let added : c.sum-sum.result ≡ sum ls = search rules in
    (added ∙ sum_total ls, omega (arith, sum_total ls, total_some ls 0 (length ls) c.requires.1, total_all ls (length ls) (omega arith)))
