-- What both forms of the lamp share, over cells and over bytes: the opening of a step, and the step from the cells at the pilots. Assumes nothing.
use Rattle.std.specs.Prelude.{ℕ, List, eqb, get_or, Ok, Err}
use Rattle.counting.specs.Search.{tabulate}
use Rattle.rules.specs.declared.Device.{Device}
use Rattle.rules.specs.Plan.{plan_of}
use Rattle.rules.specs.Roles.{continuous_mark}
use Rattle.pilots.specs.declared.PilotAnswer.{PilotAnswer}
use Rattle.pilots.specs.Pilots.{pilots_most, continuous_pilots, listing, no_listing}
use Rattle.lamprecord.specs.Record.{lamp_cap, next_by}
use Rattle.lampgrounds.specs.Steps.{Hearing, shows, lamp_finding}

-- the record r and a symbol of n cells: the pilots, or the first ground
unfoldable pub opening : Device → List ℕ → List ℕ → ℕ → PilotAnswer
opening d s r n = elim (lamp_finding d s r n) [ Ok _ ↦ listing (continuous_pilots d (plan_of s)) | Err a ↦ no_listing a ]

-- the cells of the symbol y at the subcarriers of a list of pilots
unfoldable pub cells_at : List ℕ → List ℕ → List ℕ
cells_at list y = tabulate (λ i. get_or y (get_or list i 0) 0) pilots_most

-- the record r of n pilots after a symbol with these cells at them, and its lights
unfoldable pub heard_cells : List ℕ → ℕ → List ℕ → Hearing
heard_cells cells n r = shows n (next_by lamp_cap (λ i. eqb (get_or cells i 0) continuous_mark) n r)
