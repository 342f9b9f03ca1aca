-- An emitter's run over bytes: its accepted steps are, through the cells of the bytes, those of the cell steps that 21 does not refuse. Assumes nothing.
use Prim.Native.Nat.{ℕ}
use mathlib.Core.Path.{◌≡◌, refl, sym, ap, ◌∙◌, subst}
use mathlib.Core.Bool.{Bool, true, false, ◌||◌, false≢true}
use mathlib.Core.List.{List, [], ◌∷◌, map}
use native.Mathlib.Omega.{arith}
use Rattle.counting.proofs.Bools.{by_test}
use Rattle.rules.specs.declared.Device.{Device}
use Rattle.rules.specs.Refusals.{refusal, refused_step, refused_by}
use Rattle.std.specs.Prelude.{Ok, is_ok}
use Rattle.rules.specs.Frame.{Given, flush, symbol}
use Rattle.rules.specs.Steps.{Emitter, Send, Sending, leaves, Starting, starts, start_step, send_step, emit_step, flush_step}
use Rattle.bytecells.specs.Octets.{cells_of, bytes_of, odd}
use Rattle.bytecells.specs.ByteSteps.{started_bytes, sent_bytes, start_bytes, emit_bytes, flush_bytes}
use Rattle.bytecells.proofs.OctetLaws.{cells_bytes, octets_whole, even_length}
use Rattle.runs.specs.Run.{cell_entries, read_given, UnderProfile, emitter_left, sendings, input, sent, emitter_after, Fresh}
use Rattle.byteruns.specs.ByteEntries.{send_given, send_bytes, byte_entries, SameBytes}
use Rattle.byteruns.proofs.Starts as start
use Rattle.byteruns.proofs.Starts.{even_bytes, Form}
use Rattle.byteruns.proofs.Kept.{map_twice, accepted_same, after_keeps, Reading, kept, kept_accepted, kept_after}

pub same_bytes : SameBytes
same_bytes b b' o o' h h' e = sym (octets_whole b o (even_length b h)) ∙ ap bytes_of e ∙ octets_whole b' o' (even_length b' h')

-- what is read of an emitter, of what a step is given, and of what it leaves
unfoldable pub read_emitter : Emitter → Emitter
read_emitter e = record { state = e.state; store = cells_of e.store }

-- a flush is given no profile
unfoldable pub read_profile : List ℕ → Given → List ℕ
read_profile w flush = []
read_profile w (symbol ds) = w

abbrev pub cell_send : List ℕ → List ℕ → Given → Send
cell_send w room g = record { given = read_given cells_of g; profile = read_profile w g; room = cells_of room }

read_send : Send → Send
read_send a = cell_send a.profile a.room a.given

read_sending : Sending → Sending
read_sending r = leaves r.answer (cells_of r.store) (cells_of r.symbol)

-- 21
unfoldable pub odd_given : Emitter → List ℕ → Given → Bool
odd_given e room flush = odd e.store || odd room
odd_given e room (symbol ds) = odd e.store || odd ds || odd room

odd_send : Emitter → Send → Bool
odd_send e a = odd_given e a.room a.given

given_profile : (w p : List ℕ) (g : Given) → ((ds : List ℕ) → g ≡ symbol ds → p ≡ w) → (ds : List ℕ) → read_given cells_of g ≡ symbol ds → read_profile p g ≡ w
unfolding read_profile
given_profile w p flush h ds e = let z : ◌≡◌ {A = ℕ} 0 1 = cc in absurd (omega arith)
given_profile w p (symbol xs) h ds e = h xs refl

read_sent : (r : Sending) → read_sending (sent_bytes r) ≡ r
unfolding read_sending
read_sent r = λ i. leaves r.answer (cells_bytes r.store i) (cells_bytes r.symbol i)

module _ (d : Device) (s : List ℕ) where
  pub send_odd : (e : Emitter) (w room : List ℕ) (g : Given) → odd_given e room g ≡ true → send_given d s e w room g ≡ leaves (refused_step (refusal 21 0) e.state) e.store room
  unfolding odd_given flush_bytes emit_bytes
  send_odd e w room flush h = rw h refl
  send_odd e w room (symbol ds) h = rw h refl

  pub send_even : (e : Emitter) (w room : List ℕ) (g : Given) → odd_given e room g ≡ false → send_given d s e w room g ≡ sent_bytes (send_step d s (read_emitter e) (cell_send w room g))
  unfolding odd_given flush_bytes emit_bytes emit_step flush_step read_emitter read_profile
  send_even e w room flush h = rw h refl
  send_even e w room (symbol ds) h = rw h refl

  away : (e : Emitter) (a : Send) → odd_send e a ≡ true → (is_ok (send_bytes d s e a).answer ≡ false) × (emitter_left (send_bytes d s e a) ≡ e)
  unfolding odd_send
  away e a h =
      let q : send_bytes d s e a ≡ leaves (refused_step (refusal 21 0) e.state) e.store a.room = send_odd e a.profile a.room a.given h in
      (ap (λ (r : Sending). is_ok r.answer) q, ap emitter_left q)

  same : (e : Emitter) (a : Send) → odd_send e a ≡ false → read_sending (send_bytes d s e a) ≡ send_step d s (read_emitter e) (read_send a)
  unfolding odd_send read_send
  same e a h = ap read_sending (send_even e a.profile a.room a.given h) ∙ read_sent (send_step d s (read_emitter e) (read_send a))

  reading : Reading Emitter Send Sending Emitter Send Sending
  unfolding read_sending read_emitter
  reading = record {
    step = send_bytes d s;
    ok = λ r. is_ok r.answer;
    left = emitter_left;
    step' = send_step d s;
    ok' = λ r. is_ok r.answer;
    left' = emitter_left;
    skip = odd_send;
    state = read_emitter;
    asked = read_send;
    result = read_sending;
    ok_same = λ r. refl;
    left_same = λ r. refl;
    away = away;
    same = same;
  }

  module _ (e : Emitter) (steps : List Send) where
    -- the cell steps: those that 21 does not refuse
    pub cell_sends : List Send
    cell_sends = kept reading e steps

    sendings_same : map (λ x. (read_send x.0, read_sending x.1)) (sendings (byte_entries d s) e steps) ≡ sendings (cell_entries d s) (read_emitter e) cell_sends
    unfolding cell_sends reading
    sendings_same = kept_accepted reading e steps

    pub input_same : input (byte_entries d s) e steps ≡ input (cell_entries d s) (read_emitter e) cell_sends
    unfolding input read_send
    input_same =
        ap (λ (f : Given → Given). map (λ x. f x.0.given) (sendings (byte_entries d s) e steps)) (λ i g. twice g i)
        ∙ sym (map_twice (λ x. (read_send x.0, read_sending x.1)) (λ x. read_given (λ b. b) x.0.given) (sendings (byte_entries d s) e steps))
        ∙ ap (map (λ x. read_given (λ b. b) x.0.given)) sendings_same
      where
        twice : (g : Given) → read_given cells_of g ≡ read_given (λ b. b) (read_given cells_of g)
        twice flush = refl
        twice (symbol ds) = refl

    pub sent_same : sent (byte_entries d s) e steps ≡ sent (cell_entries d s) (read_emitter e) cell_sends
    unfolding sent read_sending
    sent_same =
        sym (map_twice (λ x. (read_send x.0, read_sending x.1)) (λ x. x.1.symbol) (sendings (byte_entries d s) e steps))
        ∙ ap (map (λ x. x.1.symbol)) sendings_same

    pub after_same : read_emitter (emitter_after (byte_entries d s) e steps) ≡ emitter_after (cell_entries d s) (read_emitter e) cell_sends
    unfolding cell_sends reading
    after_same = kept_after reading e steps

  -- the cell steps of a run under one profile are under it
  pub under_cells : (w : List ℕ) (e : Emitter) (steps : List Send) → UnderProfile w steps → UnderProfile w (cell_sends e steps)
  unfolding cell_sends reading read_send kept
  under_cells w e [] u = tt
  under_cells w e (a ∷ rest) u =
      by_test (odd_send e a) (λ q. rw q (under_cells w e rest u.1))
      (λ q. rw q (given_profile w a.profile a.given u.0, under_cells w (emitter_left (send_bytes d s e a)) rest u.1))

  -- the store keeps whole cells
  keeps_even : (e : Emitter) (a : Send) → odd e.store ≡ false → odd (emitter_left (send_bytes d s e a)).store ≡ false
  unfolding odd_send
  keeps_even e a h =
      by_test (odd_send e a)
      (λ q. ap (λ (x : Emitter). odd x.store) (away e a q).1 ∙ h)
      (λ q. ap (λ (r : Sending). odd r.store) (send_even e a.profile a.room a.given q) ∙ even_bytes _)

  pub even_after : (e : Emitter) (steps : List Send) → odd e.store ≡ false → odd (emitter_after (byte_entries d s) e steps).store ≡ false
  even_after e steps h = after_keeps (send_bytes d s) emitter_left (λ x. odd x.store ≡ false) keeps_even e steps h

  -- one more step of whole cells is accepted if the cell step is
  pub sends_whole : (e : Emitter) (w room : List ℕ) (g : Given) → odd_given e room g ≡ false
      → is_ok (send_step d s (read_emitter e) (cell_send w room g)).answer ≡ true → is_ok (send_given d s e w room g).answer ≡ true
  sends_whole e w room g h t = ap (λ (r : Sending). is_ok r.answer) (send_even e w room g h) ∙ t

  -- and what is sent of whole cells, the cell step sends
  pub sent_whole : (e : Emitter) (w room : List ℕ) (g : Given) → odd_given e room g ≡ false
      → is_ok (send_given d s e w room g).answer ≡ true → is_ok (send_step d s (read_emitter e) (cell_send w room g)).answer ≡ true
  sent_whole e w room g h t = sym (ap (λ (r : Sending). is_ok r.answer) (send_even e w room g h)) ∙ t

  -- ---- the bytes that are left

  sent_bytes_lem : (e : Emitter) (a : Send) → is_ok (send_bytes d s e a).answer ≡ true → bytes_of (cells_of (send_bytes d s e a).symbol) ≡ (send_bytes d s e a).symbol
  unfolding odd_send
  sent_bytes_lem e a t =
      by_test (odd_send e a)
      (λ q. absurd (false≢true (sym (away e a q).0 ∙ t)))
      (λ q.
      let r : Sending = send_step d s (read_emitter e) (cell_send a.profile a.room a.given) in
      subst (λ (x : Sending). bytes_of (cells_of x.symbol) ≡ x.symbol) (sym (send_even e a.profile a.room a.given q)) (ap bytes_of (cells_bytes r.symbol)))

  pub left_bytes : (e : Emitter) (steps : List Send) → map bytes_of (sent (byte_entries d s) e steps) ≡ map (λ x. x.1.symbol) (sendings (byte_entries d s) e steps)
  unfolding sent
  left_bytes e steps =
      map_twice (λ x. cells_of x.1.symbol) bytes_of (sendings (byte_entries d s) e steps)
      ∙ accepted_same (send_bytes d s) (λ r. is_ok r.answer) emitter_left (λ r. bytes_of (cells_of r.symbol)) (λ r. r.symbol) sent_bytes_lem e steps

-- ---- a fresh start

form : Form Starting
form = record {
  ok = λ r. is_ok r.answer;
  store = λ r. r.store;
  read = λ r. starts r.answer (cells_of r.store);
  write = started_bytes;
  away = starts (refused_by 21 0);
  read_write = λ r i. starts r.answer (cells_bytes r.store i);
  ok_write = λ r. refl;
  store_write = λ r. refl;
  never = λ lent. refl;
}

module _ (d : Device) (s : List ℕ) (j : ℕ) where
  pub starts_whole : (lent : List ℕ) → odd lent ≡ false → is_ok (start_step d s j (cells_of lent)).answer ≡ true → is_ok (start_bytes d s j lent).answer ≡ true
  unfolding form start_bytes
  starts_whole = start.starts_whole form (start_step d s j)

  module _ (e : Emitter) (f : Fresh (byte_entries d s) j e) where
    pub fresh_cells : Fresh (cell_entries d s) j (read_emitter e)
    unfolding form read_emitter start_bytes
    fresh_cells = record {
      lent = cells_of f.lent;
      start = start.started_cells form (start_step d s j) f.lent (starts (Ok e.state) e.store) f.start refl;
    }

    pub fresh_even : odd e.store ≡ false
    unfolding form start_bytes
    fresh_even = start.started_even form (start_step d s j) f.lent (starts (Ok e.state) e.store) f.start refl
