-- The pilot lamp's record and its lights (document 02, Req 10), for any list of pilots and any cap. Symbols are lists of cells; those that were heard
-- stand with the latest first. Assumes nothing.
use Rattle.std.specs.Prelude.{ℕ, suc, ◌+◌, min, Bool, true, not, ◌&&◌, ◌||◌, List, [], ◌∷◌, map, ltb, eqb, length, get_or, take, replicate}
use Rattle.counting.specs.Search.{bit, pick, lowest, is_none, tabulate}
use Rattle.rules.specs.Roles.{continuous_mark}

-- "counts capped at 128", and so many of the last symbols count
abbrev pub lamp_cap : ℕ
lamp_cap = 128

-- "its cell held the continuous mark": that of subcarrier k in the symbol y
unfoldable pub holds_mark : List ℕ → ℕ → Bool
holds_mark y k = eqb (get_or y k 0) continuous_mark

-- "how many in a row up to the latest held the mark" at subcarrier k
unfoldable pub in_row : List (List ℕ) → ℕ → ℕ
in_row [] k = 0
in_row (y ∷ ys) k = pick (holds_mark y k) (suc (in_row ys k)) 0

-- the test holds of every symbol
unfoldable pub every : (List ℕ → Bool) → List (List ℕ) → Bool
every t [] = true
every t (y ∷ ys) = t y && every t ys

-- "fresh all 0", with n pilots
unfoldable pub fresh_record : ℕ → List ℕ
fresh_record n = replicate (suc n) 0

-- pilot i of a record is lit: at least one symbol was heard, and its count is that of all that count
unfoldable pub lit : List ℕ → ℕ → Bool
lit r i = ltb 0 (get_or r 0 0) && eqb (get_or r (suc i) 0) (get_or r 0 0)

-- the lights of a record in n places: 1 lit, 0 dark, and 0 past the last pilot
unfoldable pub lights : ℕ → List ℕ → List ℕ
lights n r = tabulate (λ i. bit (lit r i)) n

module _ (cap : ℕ) where
  unfoldable pub capped : ℕ → ℕ
  capped n = min n cap

  -- the record of pilots ks after all that was heard: "the symbols heard, then per pilot .. how many in a row", all capped
  unfoldable pub lamp_record : List ℕ → List (List ℕ) → List ℕ
  lamp_record ks ys = capped (length ys) ∷ map (λ k. capped (in_row ys k)) ks

  -- the record of n pilots after one more symbol, in which pilot i held the mark where the test says so
  unfoldable pub next_by : (ℕ → Bool) → ℕ → List ℕ → List ℕ
  next_by t n r = capped (get_or r 0 0 + 1) ∷ tabulate (λ i. pick (t i) (capped (get_or r (suc i) 0 + 1)) 0) n

  -- the record of pilots ks after one more symbol y
  unfoldable pub next_record : List ℕ → List ℕ → List ℕ → List ℕ
  next_record ks y r = next_by (λ i. holds_mark y (get_or ks i 0)) (length ks) r

  -- a light "worked out afresh from all that was heard": "lit if at least one symbol was heard and its cell held the continuous mark in each of
  -- the last 128 heard, or in all heard while there are fewer"
  unfoldable pub lit_afresh : List (List ℕ) → ℕ → Bool
  lit_afresh ys k = ltb 0 (length ys) && every (λ y. holds_mark y k) (take cap ys)

  -- "a count above 128 or above its first": count i of a record
  unfoldable pub bad_count : List ℕ → ℕ → Bool
  bad_count r i = ltb cap (get_or r i 0) || ltb (get_or r 0 0) (get_or r i 0)

  -- 28: "a lamp record of the wrong length or with a count above 128 or above its first", with n pilots
  unfoldable pub bad_record : ℕ → List ℕ → Bool
  bad_record n r = not (eqb (length r) (suc n)) || not (is_none (lowest (bad_count r) (length r)))
