-- The continuous pilots of a plan, predefined and kind 3 alike, in rising order (document 01, "Roles of a subcarrier"; 02, Req 10), and what the
-- entry `pilots` answers. Assumes nothing.
use Rattle.std.specs.Prelude.{ℕ, Bool, List, eqb, length, get_or, replicate, Ok, Err}
use Rattle.counting.specs.Search.{those, tabulate}
use Rattle.rules.specs.declared.Device.{Device}
use Rattle.rules.specs.declared.Refusal.{Refusal}
use Rattle.rules.specs.Plan.{Plan, plan_of}
use Rattle.rules.specs.Roles.{continuous_mark, mark}
use Rattle.rules.specs.Grounds.{grounds1to15}
use Rattle.pilots.specs.declared.PilotAnswer.{PilotAnswer}

-- an accepted plan has at most so many continuous pilots: 8 predefined ones and 120 of kind 3
abbrev pub pilots_most : ℕ
pilots_most = 128

module _ (d : Device) (p : Plan) where
  -- a continuous pilot is a subcarrier that carries the continuous mark
  unfoldable pub is_continuous : ℕ → Bool
  is_continuous k = eqb (mark d p k) continuous_mark

  -- in rising order
  unfoldable pub continuous_pilots : List ℕ
  continuous_pilots = those is_continuous 0 d.subcarriers

-- a list in n places, 0 past its end
unfoldable pub padded : ℕ → List ℕ → List ℕ
padded n l = tabulate (λ i. get_or l i 0) n

-- a list of pilots with its length, and a refusal with no pilots
abbrev pub listing : List ℕ → PilotAnswer
listing ks = record { answer = Ok (length ks); list = padded pilots_most ks }

abbrev pub no_listing : Refusal → PilotAnswer
no_listing r = record { answer = Err r; list = replicate pilots_most 0 }

-- the continuous pilots of any bytes as a plan: grounds 1 to 15
unfoldable pub pilots_answer : Device → List ℕ → PilotAnswer
pilots_answer d s = elim (grounds1to15 d s) [ Ok _ ↦ listing (continuous_pilots d (plan_of s)) | Err r ↦ no_listing r ]
