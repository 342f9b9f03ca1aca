-- What reading took is what the reader had first, as far as there was room. Assumes nothing.
use Rattle.std.proofs.Common.{◌≡◌, ℕ, ◌<◌, List, [], ◌++◌, length, take, arith, sym, ap, subst, ◌∙◌, append-nil, None, Some, IfSome, take_all}
use mathlib.Core.Logic.{by_cases}
use native.Mathlib.Decide.{dec_lt}
use lib.Seq.{take-append_seam}
use Rattle.std.specs.Prelude.{Option}
use Rattle.std.specs.Io.KnownBytes.{Appends}
use Rattle.io.specs.Counts.{IsPrefixLen}
use Rattle.console.specs.Reading.{Takes}

-- where the front of the bytes is all that was there, or fills them
front : (xs ys bytes : List ℕ) (n : ℕ) → IsPrefixLen n bytes → xs ≡ take n bytes ++ ys → (n < length bytes → ys ≡ []) → take (length bytes) xs ≡ take n bytes
front xs ys bytes n p e end =
    by_cases (dec_lt n (length bytes))
    (λ (l : n < length bytes).
    let same = e ∙ ap (λ (r : List ℕ). take n bytes ++ r) (end l) ∙ append-nil (take n bytes) in
    ap (take (length bytes)) same ∙ take_all (length bytes) (take n bytes) (omega (arith, p.1)))
    (λ m.
    let long : length bytes ≡ length (take n bytes) = omega (arith, p.0, p.1) in
    ap (take (length bytes)) e ∙ ap (λ (k : ℕ). take k (take n bytes ++ ys)) long ∙ take-append_seam (take n bytes) ys)

pub taken : (old new : Option (List ℕ)) (n : ℕ) (bytes : List ℕ) → IsPrefixLen n bytes → Takes old new (Some n) bytes
    → IfSome old (λ xs. take (length bytes) xs ≡ take n bytes)
taken None new n bytes p t = tt
taken (Some xs) None n bytes p t = absurd t.0
taken (Some xs) (Some ys) n bytes p t = front xs ys bytes n p t.0 t.1

-- what was printed of the bytes that were read is what is printed of the reader's first bytes
pub taken_line : {X : Type 0} (held : X → Option (List ℕ)) (line : List ℕ → List ℕ) (old new : Option (List ℕ)) (n room : ℕ) (bytes : List ℕ) (before read printed after : X)
    → length bytes ≡ room → IsPrefixLen n bytes → Takes old new (Some n) bytes → read ≡ before → after ≡ printed
    → Appends (held read) (held printed) (line (take n bytes)) → IfSome old (λ xs. Appends (held before) (held after) (line (take room xs)))
taken_line held line None new n room bytes before read printed after l p t e f a = tt
taken_line held line (Some xs) new n room bytes before read printed after l p t e f a =
    let same = ap (λ (k : ℕ). take k xs) (sym l) ∙ taken (Some xs) new n bytes p t in
    let moved = subst (λ x. Appends (held x) (held printed) (line (take n bytes))) e a in
    subst (λ (k : List ℕ). Appends (held before) (held after) (line k)) (sym same) (subst (λ x. Appends (held before) (held x) (line (take n bytes))) (sym f) moved)
