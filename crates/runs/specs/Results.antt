-- The results of a run's steps, refused ones included: what the caller is told and handed (document 01, "Cells and interleaving"). Assumes nothing.
use Rattle.std.specs.Prelude.{ℕ, List, [], ◌∷◌}
use Rattle.rules.specs.Refusals.{SendAnswer, ReceiveAnswer}
use Rattle.rules.specs.Steps.{Sending}
use Rattle.rules.specs.Receive.{Receiving}

-- of all steps of a run, in order
module _ {E A R T : Type 0} (step : E → A → R) (left : R → E) (result : R → T) where
  unfoldable pub results : E → List A → List T
  results e [] = []
  results e (a ∷ rest) = result (step e a) ∷ results (left (step e a)) rest

-- of an emit or flush step: the answer, and the lent symbol as the step leaves it
abbrev pub send_result : Sending → SendAnswer × List ℕ
send_result r = (r.answer, r.symbol)

-- of a receive step: the answer, and the data buffer as the step leaves it
abbrev pub receive_result : Receiving → ReceiveAnswer × List ℕ
receive_result r = (r.answer, r.buffer)
