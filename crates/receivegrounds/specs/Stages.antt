-- The grounds of a receive step by stages, once 25 is passed, and what is answered to them. Assumes nothing.
use Rattle.std.specs.Prelude.{ℕ, List, Result, Ok, Err}
use Rattle.counting.specs.Search.{when}
use Rattle.rules.specs.declared.Device.{Device}
use Rattle.rules.specs.declared.Refusal.{Refusal}
use Rattle.rules.specs.Refusals.{Finding, CountAnswer}
use Rattle.rules.specs.declared.ReceiverState.{ReceiverState}
use Rattle.rules.specs.Plan.{plan_of}
use Rattle.rules.specs.Grounds.{◌else◌, ground?, grounds1to15}
use Rattle.rules.specs.Frame.{Frame, frame_of, cells}
use Rattle.rules.specs.Store.{receiver_places}
use Rattle.rules.specs.Steps.{ground17}
use Rattle.rules.specs.Receive.{Receiver, Arrival, out_count, receiver_ground16, short_buffer, ground20, receive_grounds}
use Rattle.receivegrounds.specs.declared.Admitted.{Admitted}

-- a receive step admitted, or a refusal
abbrev pub Admission : Type 0
Admission = Result Admitted Refusal

module _ (F : Frame) where
  -- the early ones: 16, and 17 of store and symbol
  unfoldable pub early_grounds : Receiver → List ℕ → Finding
  early_grounds v y = receiver_ground16 F v.state else ground17 F (receiver_places F) v.store y

  -- the late ones: 17 of the data buffer, and 20
  unfoldable pub late_grounds : ReceiverState → Arrival → Finding
  late_grounds v a = ground? 17 (when (short_buffer F v a.buffer) 0) else ground20 F a.profile v.phase a.symbol

  -- the first of the early ones, or N_D of the input symbol that is handed out
  unfoldable pub early_answer : Receiver → List ℕ → CountAnswer
  early_answer v y = elim (early_grounds v y) [ Ok _ ↦ Ok (out_count F v.state) | Err r ↦ Err r ]

  -- refused as found, or admitted with the depth, N_I and that N_D
  abbrev pub answered : ReceiverState → Finding → Admission
  answered v f = elim f [ Ok _ ↦ Ok (record { depth = F.depth; cells = cells F; count = out_count F v }) | Err r ↦ Err r ]

-- the answer to a receive step of any bytes as a plan
unfoldable pub admission : Device → List ℕ → Receiver → Arrival → Admission
admission d s v a = answered (frame_of d (plan_of s)) v.state (grounds1to15 d s else receive_grounds (frame_of d (plan_of s)) v a)
