-- The pilot lamp over whole lists of symbols (document 02, Req 10): from a fresh record on, under one plan, with the record each time as the
-- lamp left it. Assumes nothing.
use Rattle.std.specs.Prelude.{ℕ, List, [], ◌∷◌, is_ok}
use Rattle.counting.specs.Search.{pick}
use Rattle.lamprecord.specs.Record.{fresh_record}
use Rattle.lampgrounds.specs.Steps.{Hearing}

-- a lamp between two symbols: its record, and all symbols that it heard, the latest first
pub record LampState : Type 0 where
  pub counts : List ℕ
  pub heard : List (List ℕ)

-- a lamp that does `step` with the record and the symbol that it is given
module _ (step : List ℕ → List ℕ → Hearing) where
  -- one symbol more is given: it is heard, if it is not refused
  unfoldable pub after_one : LampState → List ℕ → LampState
  after_one l y = record {
    counts = (step l.counts y).counts;
    heard = pick (is_ok (step l.counts y).answer.answer) (y ∷ l.heard) l.heard;
  }

  -- all symbols of a list are given, in their order, refused ones included
  unfoldable pub after_all : LampState → List (List ℕ) → LampState
  after_all l [] = l
  after_all l (y ∷ ys) = after_all (after_one l y) ys

  -- from a fresh record of n pilots on
  unfoldable pub lamp_run : ℕ → List (List ℕ) → LampState
  lamp_run n ys = after_all (record { counts = fresh_record n; heard = [] }) ys
