-- What a call says, from what `tell` wrote and what the entry beneath it answered and left. Assumes nothing.
use Prim.Native.Nat.{ℕ}
use mathlib.Core.Path.{◌≡◌, ap}
use mathlib.Core.List.{List}
use lib.Ieee.{Float}
use Rattle.rules.specs.Refusals.{CountAnswer, StartAnswer, ListenAnswer, SendAnswer, ReceiveAnswer}
use Rattle.rules.specs.Steps.{Starting, starts, Sending, leaves}
use Rattle.rules.specs.Receive.{Listening, listens, Receiving, hears}
use Rattle.rules.specs.Filling.{Filling, fills}
use Rattle.bytelamp.specs.ByteLamp.{ByteListing, leaves_list, ByteHearing, leaves_lamp}
use Rattle.modulator.specs.Symbols.{ModulateAnswer, Modulating, modulates}
use Rattle.answerbytes.specs.declared.Told.{Told}
use Rattle.answerbytes.specs.Layout.{written}
use Rattle.answers.specs.Answer.{told_start, told_listen, told_send, told_receive, told_count, told_modulate}
use Rattle.headend.specs.Calls.{says, says_store, says_step, says_numbers, start_told, listen_told, send_told, receive_told, modulate_told, says_fill, fill_told, list_told, says_lamp, lamp_told}

-- what a call returns and writes of the answer t
pub told : (n : ℕ) (a b : List ℕ) (t u : Told) → n ≡ t.number → b ≡ written a t → t ≡ u → says n b ≡ says u.number (written a u)
told n a b t u en eb et = rw (en, eb) (ap (λ (x : Told). says x.number (written a x)) et)

-- the same with what the entry left: e is what it is proved to answer and leave
module _ (n : ℕ) (a b : List ℕ) (t : Told) (en : n ≡ t.number) (eb : b ≡ written a t) where
  pub start_told_lem : (r : StartAnswer) (st : List ℕ) (e : Starting) → t ≡ told_start r → starts r st ≡ e → says_store n st b ≡ start_told e a
  start_told_lem r st e et es = rw (en, eb, et) (ap (λ (x : Starting). start_told x a) es)

  pub listen_told_lem : (r : ListenAnswer) (st : List ℕ) (e : Listening) → t ≡ told_listen r → listens r st ≡ e → says_store n st b ≡ listen_told e a
  listen_told_lem r st e et es = rw (en, eb, et) (ap (λ (x : Listening). listen_told x a) es)

  pub send_told_lem : (r : SendAnswer) (st y : List ℕ) (e : Sending) → t ≡ told_send r → leaves r st y ≡ e → says_step n st y b ≡ send_told e a
  send_told_lem r st y e et es = rw (en, eb, et) (ap (λ (x : Sending). send_told x a) es)

  pub receive_told_lem : (r : ReceiveAnswer) (st y : List ℕ) (e : Receiving) → t ≡ told_receive r → hears r st y ≡ e → says_step n st y b ≡ receive_told e a
  receive_told_lem r st y e et es = rw (en, eb, et) (ap (λ (x : Receiving). receive_told x a) es)

  pub fill_told_lem : (r : CountAnswer) (l : List ℕ) (e : Filling) → t ≡ told_count r → fills r l ≡ e → says_fill n l b ≡ fill_told e a
  fill_told_lem r l e et es = rw (en, eb, et) (ap (λ (x : Filling). fill_told x a) es)

  pub list_told_lem : (r : CountAnswer) (l : List ℕ) (e : ByteListing) → t ≡ told_count r → leaves_list r l ≡ e → says_fill n l b ≡ list_told e a
  list_told_lem r l e et es = rw (en, eb, et) (ap (λ (x : ByteListing). list_told x a) es)

  pub lamp_told_lem : (r : CountAnswer) (c l : List ℕ) (e : ByteHearing) → t ≡ told_count r → leaves_lamp r c l ≡ e → says_lamp n c l b ≡ lamp_told e a
  lamp_told_lem r c l e et es = rw (en, eb, et) (ap (λ (x : ByteHearing). lamp_told x a) es)

  pub modulate_told_lem : (r : ModulateAnswer) (l : List Float) (e : Modulating) → t ≡ told_modulate r → modulates r l ≡ e → says_numbers n l b ≡ modulate_told e a
  modulate_told_lem r l e et es = rw (en, eb, et) (ap (λ (x : Modulating). modulate_told x a) es)
