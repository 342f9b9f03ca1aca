-- The delays of an end's cells in groups of m, one of which has no place, and the pass over a group. Assumes nothing.
use Prim.Native.Nat.{ℕ, suc, ◌+◌, ◌-◌, ◌%◌, ◌≤◌, ◌<◌}
use mathlib.Core.Path.{◌≡◌, refl, sym, ap, ◌∙◌}
use mathlib.Core.Bool.{Bool, true, false}
use mathlib.Core.List.{List}
use native.Mathlib.Nat.{mod-lt, mod-eq_of_lt, mod_self, mod-add-mod, add-mod_right}
use native.Mathlib.Numerals.{add-one}
use native.Mathlib.Omega.{arith}
use lib.ListN.{length, get_or, set, length-set}
use lib.Seq.{get_or-set_other}
use Rattle.rules.specs.Fits.{capacity}
use Rattle.rules.specs.Places.{places_before}
use Rattle.places.proofs.Kept.{start_suc, start_grow, Within, within}
use Rattle.exchange.specs.Exchange.{end_delay, first_cell, first_delay, next_delay, Passes, At}
use Rattle.exchange.proofs.Exchanges.{exchanged_one}

-- ---- the delays of a group, which begins with cell b

residue : (m b r i : ℕ) → b % m ≡ r → r + i < m → (b + i) % m ≡ r + i
residue m b r i e h = sym (mod-add-mod b m i) ∙ ap (λ (k : ℕ). (k + i) % m) e ∙ mod-eq_of_lt h

module _ (m b : ℕ) (some : 1 < m) where
  pub delay_first : (emitter : Bool) → b % m ≡ first_cell emitter → first_delay emitter m ≡ end_delay emitter m b
  delay_first true z = sym z
  delay_first false z = omega (arith, z)

  -- cell p of the group has a place
  module _ (p : ℕ) (from : b ≤ p) (to : p + 1 < b + m) where
    at_p : (r : ℕ) → b % m ≡ r → r + (p - b) < m → p % m ≡ r + (p - b)
    at_p r z h = let e : p ≡ b + (p - b) = omega arith in ap (λ (k : ℕ). k % m) e ∙ residue m b r (p - b) z h

    delay_some : (emitter : Bool) → b % m ≡ first_cell emitter → (0 < end_delay emitter m p) × (end_delay emitter m p < m)
    delay_some true z = let e : p % m ≡ 1 + (p - b) = at_p 1 z (omega arith) in (omega arith, omega arith)
    delay_some false z = let e : p % m ≡ 0 + (p - b) = at_p 0 z (omega arith) in (omega arith, omega arith)

  delay_next : (emitter : Bool) (p : ℕ) → b % m ≡ first_cell emitter → b ≤ p → p + 2 < b + m → next_delay emitter (end_delay emitter m p) ≡ end_delay emitter m (p + 1)
  delay_next true p z from to =
      let e : p % m ≡ 1 + (p - b) = at_p p from (omega arith) 1 z (omega arith) in
      let f : (p + 1) % m ≡ 1 + (p + 1 - b) = at_p (p + 1) (omega arith) (omega arith) 1 z (omega arith) in
      omega arith
  delay_next false p z from to =
      let e : p % m ≡ 0 + (p - b) = at_p p from (omega arith) 0 z (omega arith) in
      let f : (p + 1) % m ≡ 0 + (p + 1 - b) = at_p (p + 1) (omega arith) (omega arith) 0 z (omega arith) in
      omega arith

  -- the cell after the last that has one
  module _ (e : ℕ) (end : e ≡ b + (m - 1)) where
    pub delay_last : (emitter : Bool) → b % m ≡ first_cell emitter → end_delay emitter m e ≡ 0
    delay_last true z =
        let f : 1 + (m - 1) ≡ m = omega arith in
        rw end (sym (mod-add-mod b m (m - 1)) ∙ ap (λ (k : ℕ). (k + (m - 1)) % m) z ∙ rw f (mod_self m))
    delay_last false z = let f : (b + (m - 1)) % m ≡ 0 + (m - 1) = residue m b 0 (m - 1) z (omega arith) in rw end (omega arith)

    pub group_next : (emitter : Bool) → b % m ≡ first_cell emitter → (e + 1) % m ≡ first_cell emitter
    group_next emitter z = let f : e + 1 ≡ b + m = omega arith in rw f (add-mod_right b m ∙ z)

-- with a depth of one no cell has a place
pub deep : (emitter : Bool) (m n : ℕ) → 0 < m → 0 < places_before (end_delay emitter m) n → 1 < m
deep emitter m n pos h = let w : Within (end_delay emitter m) n 0 = within (end_delay emitter m) n 0 h in at w.cell emitter (omega (arith, w.inside))
  where
    at : (p : ℕ) (emitter : Bool) → 0 < end_delay emitter m p → 1 < m
    at p true g = omega (arith, mod-lt p pos)
    at p false g = omega arith

-- ---- a pass within a group

pub passes_none : (d : ℕ → ℕ) (p : ℕ) (s x : List ℕ) (at last : ℕ) → Passes d p s x at last p s x at last
passes_none d p s x at last = record { places = refl; cells = refl; exchanged = λ s₀ x₀ h. h }

pub passes_then : (d : ℕ → ℕ) (p : ℕ) (s x : List ℕ) (at last q : ℕ) (s' x' : List ℕ) (at' last' r : ℕ) (s'' x'' : List ℕ) (at'' last'' : ℕ)
    → Passes d p s x at last q s' x' at' last' → Passes d q s' x' at' last' r s'' x'' at'' last'' → Passes d p s x at last r s'' x'' at'' last''
passes_then d p s x at last q s' x' at' last' r s'' x'' at'' last'' f g = record {
  places = g.places ∙ f.places;
  cells = g.cells ∙ f.cells;
  exchanged = λ s₀ x₀ h. g.exchanged s₀ x₀ (f.exchanged s₀ x₀ h);
}

pub passes_to : (d : ℕ → ℕ) (p : ℕ) (s x : List ℕ) (at last q : ℕ) (s' x' : List ℕ) (at' last' e : ℕ) → q ≤ e → e ≤ q
    → Passes d p s x at last q s' x' at' last' → Passes d p s x at last e s' x' at' last'
passes_to d p s x at last q s' x' at' last' e le ge f = let g : e ≡ q = omega arith in rw g f

-- cells b and on have the delays of their group
module _ (emitter : Bool) (m b e : ℕ) where
  module _ (s x : List ℕ) (p d at last : ℕ) (here : At emitter m b e s x p d at) (l : p < e) where
    some_delay : (0 < end_delay emitter m p) × (end_delay emitter m p < m)
    some_delay = delay_some m b here.some p here.from (omega (arith, here.end)) emitter here.begins

    upto_next : places_before (end_delay emitter m) (suc p) ≤ length s
    upto_next = omega (arith, start_suc (end_delay emitter m) p, start_grow (end_delay emitter m) p e l, here.places)

    -- the places of cell p lie within the store
    pub fits : (0 < d) × (d ≤ capacity) × (at + d ≤ length s) × (p < length x)
    fits = (
      omega (arith, here.delay l, some_delay.0),
      omega (arith, here.delay l, some_delay.1, here.most),
      omega (arith, here.delay l, here.start, start_suc (end_delay emitter m) p, upto_next),
      omega (arith, here.cells),
    )

    -- one cell more
    module _ (s' x' : List ℕ) (next newest : ℕ) (came : newest ≡ get_or x p 0) (stored : s' ≡ set s at last) (sent : x' ≡ set x p (get_or s at 0)) where
      pub one_at : next ≡ next_delay emitter d → At emitter m b e s' x' (p + 1) next (at + d)
      one_at turns =
          let long : length s' ≡ length s = ap length stored ∙ length-set s at last in
          let wide : length x' ≡ length x = ap length sent ∙ length-set x p (get_or s at 0) in record {
            some = here.some;
            most = here.most;
            begins = here.begins;
            end = here.end;
            from = omega (arith, here.from);
            to = omega arith;
            delay = λ h. turns ∙ ap (next_delay emitter) (here.delay l) ∙ delay_next m b here.some emitter p here.begins here.from (omega (arith, here.end));
            start = rw (add-one p) (omega (arith, here.start, here.delay l, start_suc (end_delay emitter m) p));
            cells = omega (arith, here.cells);
            few = omega (arith, here.few);
            places = omega (arith, here.places);
          }

      pub one_passes : Passes (end_delay emitter m) p s x at last (p + 1) s' x' (at + d) newest
      one_passes = record {
        places = ap length stored ∙ length-set s at last;
        cells = ap length sent ∙ length-set x p (get_or s at 0);
        exchanged = λ s₀ x₀ h. rw (add-one p, came, stored, sent, here.delay l) (exchanged_one (end_delay emitter m) s₀ x₀ p s x at last h upto_next some_delay.0 fits.3);
      }

  -- two cells more, both read before either is stored
  module _ (s x : List ℕ) (p d at last : ℕ) (here : At emitter m b e s x p d at) (l : p + 1 < e) where
    near : p < e
    near = omega arith

    apart : at + d ≡ at → ⊥
    apart e = omega (arith, (fits s x p d at last here near).0)

    read_store : get_or (set s at last) (at + d) 0 ≡ get_or s (at + d) 0
    read_store = get_or-set_other s at (at + d) last 0 apart

    read_cells : get_or (set x p (get_or s at 0)) (p + 1) 0 ≡ get_or x (p + 1) 0
    read_cells = get_or-set_other x p (p + 1) (get_or s at 0) 0 (λ e. omega arith)

    module _ (next : ℕ) (turns : next ≡ next_delay emitter d) where
      first_at : At emitter m b e (set s at last) (set x p (get_or s at 0)) (p + 1) next (at + d)
      first_at = one_at s x p d at last here near (set s at last) (set x p (get_or s at 0)) next (get_or x p 0) refl refl refl turns

      pub fits_two : (0 < next) × (next ≤ capacity) × (at + d + next ≤ length s) × (p + 1 < length x)
      fits_two =
          let f = fits (set s at last) (set x p (get_or s at 0)) (p + 1) next (at + d) (get_or x p 0) first_at l in
          (f.0, f.1, omega (arith, f.2, length-set s at last), omega (arith, f.3, length-set x p (get_or s at 0)))

      module _ (s' x' : List ℕ) (after newest : ℕ) (came : newest ≡ get_or x (p + 1) 0) (stored : s' ≡ set (set s at last) (at + d) (get_or x p 0))
          (sent : x' ≡ set (set x p (get_or s at 0)) (p + 1) (get_or s (at + d) 0)) where
        sent_second : x' ≡ set (set x p (get_or s at 0)) (p + 1) (get_or (set s at last) (at + d) 0)
        sent_second = sent ∙ ap (set (set x p (get_or s at 0)) (p + 1)) (sym read_store)

        two : p + 2 ≡ p + 1 + 1
        two = omega arith

        pub two_at : after ≡ next_delay emitter next → At emitter m b e s' x' (p + 2) after (at + d + next)
        two_at then =
            rw two
            (one_at (set s at last) (set x p (get_or s at 0)) (p + 1) next (at + d) (get_or x p 0) first_at l s' x' after newest (came ∙ sym read_cells) stored sent_second then)

        pub two_passes : Passes (end_delay emitter m) p s x at last (p + 2) s' x' (at + d + next) newest
        two_passes =
            rw two
            (passes_then (end_delay emitter m) p s x at last (p + 1) (set s at last) (set x p (get_or s at 0)) (at + d) (get_or x p 0) (p + 1 + 1) s' x' (at + d + next) newest
            (one_passes s x p d at last here near (set s at last) (set x p (get_or s at 0)) next (get_or x p 0) refl refl refl)
            (one_passes (set s at last) (set x p (get_or s at 0)) (p + 1) next (at + d) (get_or x p 0) first_at l s' x' after newest (came ∙ sym read_cells) stored sent_second))
