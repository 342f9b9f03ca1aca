-- What a call for a C host returns and tells (request 01; docs/C-HOST.md): 01's number and values for each answer of an entry. What an answer
-- does not give is 0. Assumes nothing.
use Rattle.std.specs.Prelude.{ℕ, Ok, Err}
use Rattle.rules.specs.declared.Role.{Role}
use Rattle.rules.specs.declared.Role.TheVariants.{Excluded, Plc, Continuous, Scattered, Data}
use Rattle.rules.specs.declared.Refusal.{Refusal}
use Rattle.rules.specs.Refusals.{RoleAnswer, CountAnswer, StartAnswer, ListenAnswer, SendAnswer, ReceiveAnswer, WhyAnswer}
use Rattle.rules.specs.declared.Heard.TheVariants.{Warming, Data as Handed}
use Rattle.rules.specs.declared.Reason.TheVariants as a-reason
use Rattle.modulator.specs.Symbols.{ModulateAnswer}
use Rattle.answerbytes.specs.declared.Told.{Told}

abbrev pub role_number : Role → ℕ
role_number Excluded = 1
role_number Plc = 2
role_number Continuous = 3
role_number Scattered = 4
role_number Data = 5

-- a value, and no state
abbrev pub valued : ℕ → Told
valued x = record { number = 0; place = 0; phase = 0; heard = 0; value = x }

-- refused, and no state
abbrev pub refused : Refusal → Told
refused r = record { number = r.number; place = r.place; phase = 0; heard = 0; value = 0 }

abbrev pub told_role : RoleAnswer → Told
told_role (Ok r) = valued (role_number r)
told_role (Err r) = refused r

-- a role with its reason (request 08): the value says which of seven, the place is its record or distance, the phase its phase
abbrev pub reasoned : ℕ → ℕ → ℕ → Told
reasoned v p j = record { number = 0; place = p; phase = j; heard = 0; value = v }

abbrev pub told_why : WhyAnswer → Told
told_why (Ok (a-reason.ExcludedBy i)) = reasoned 1 i 0
told_why (Ok (a-reason.PlcBy i)) = reasoned 2 i 0
told_why (Ok (a-reason.PilotBelow x)) = reasoned 3 x 0
told_why (Ok (a-reason.PilotAbove x)) = reasoned 4 x 0
told_why (Ok (a-reason.PilotBy i)) = reasoned 5 i 0
told_why (Ok (a-reason.ScatteredOnly q)) = reasoned 6 0 q
told_why (Ok (a-reason.DataBut q)) = reasoned 7 0 q
told_why (Err r) = refused r

-- a verdict, whose value is N_I, or a count
abbrev pub told_count : CountAnswer → Told
told_count (Ok n) = valued n
told_count (Err r) = refused r

abbrev pub told_start : StartAnswer → Told
told_start (Ok e) = record { number = 0; place = 0; phase = e.phase; heard = 0; value = 0 }
told_start (Err r) = refused r

abbrev pub told_listen : ListenAnswer → Told
told_listen (Ok v) = record { number = 0; place = 0; phase = v.phase; heard = v.heard; value = 0 }
told_listen (Err r) = refused r

-- the next state, or the state as it was given
abbrev pub told_send : SendAnswer → Told
told_send (Ok e) = record { number = 0; place = 0; phase = e.phase; heard = 0; value = 0 }
told_send (Err r) = record { number = r.refusal.number; place = r.refusal.place; phase = r.state.phase; heard = 0; value = 0 }

-- the same, and the count of data cells handed out: none while warming
abbrev pub told_receive : ReceiveAnswer → Told
told_receive (Ok (Warming v)) = record { number = 0; place = 0; phase = v.phase; heard = v.heard; value = 0 }
told_receive (Ok (Handed v n)) = record { number = 0; place = 0; phase = v.phase; heard = v.heard; value = n }
told_receive (Err r) = record { number = r.refusal.number; place = r.refusal.place; phase = r.state.phase; heard = r.state.heard; value = 0 }

-- a refusal's value is the subcarrier (request 04)
abbrev pub told_modulate : ModulateAnswer → Told
told_modulate (Ok _) = valued 0
told_modulate (Err r) = record { number = r.refusal.number; place = r.refusal.place; phase = 0; heard = 0; value = r.subcarrier }
