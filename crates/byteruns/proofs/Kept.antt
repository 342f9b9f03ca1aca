-- A run whose steps are, but for some that change nothing, the steps of another run. Assumes nothing.
use mathlib.Core.Path.{◌≡◌, refl, sym, ap, ap₂, ◌∙◌}
use mathlib.Core.Bool.{Bool, true, false}
use mathlib.Core.List.{List, [], ◌∷◌, map}
use Rattle.counting.specs.Search.{pick}
use Rattle.counting.proofs.Bools.{by_test}
use Rattle.runs.specs.Run.{accepted_steps, after_steps}

pub map_twice : {A B C : Type 0} (f : A → B) (g : B → C) (l : List A) → map g (map f l) ≡ map (λ x. g (f x)) l
map_twice f g [] = refl
map_twice f g (x ∷ l) = ap (λ t. g (f x) ∷ t) (map_twice f g l)

-- what is the same of every accepted step
pub accepted_same : {E A R X : Type 0} (step : E → A → R) (ok : R → Bool) (left : R → E) (f g : R → X) → ((e : E) (a : A) → ok (step e a) ≡ true → f (step e a) ≡ g (step e a))
    → (e : E) (steps : List A) → map (λ x. f x.1) (accepted_steps step ok left e steps) ≡ map (λ x. g x.1) (accepted_steps step ok left e steps)
unfolding accepted_steps
accepted_same step ok left f g same e [] = refl
accepted_same step ok left f g same e (a ∷ rest) =
    by_test (ok (step e a))
    (λ q. rw q (ap₂ (λ x l. x ∷ l) (same e a q) (accepted_same step ok left f g same (left (step e a)) rest)))
    (λ q. rw q (accepted_same step ok left f g same (left (step e a)) rest))

-- what every step keeps, the steps keep
pub after_keeps : {E A R : Type 0} (step : E → A → R) (left : R → E) (P : E → Type 0) → ((e : E) (a : A) → P e → P (left (step e a))) → (e : E) (steps : List A) → P e → P (after_steps step left e steps)
unfolding after_steps
after_keeps step left P keeps e [] h = h
after_keeps step left P keeps e (a ∷ rest) h = after_keeps step left P keeps (left (step e a)) rest (keeps e a h)

-- two kinds of runs: how the steps of each go, which of the first change nothing, and how the others are read as steps of the second
pub record Reading (E A R E' A' R' : Type 0) : Type 0 where
  pub step : E → A → R
  pub ok : R → Bool
  pub left : R → E
  pub step' : E' → A' → R'
  pub ok' : R' → Bool
  pub left' : R' → E'
  pub skip : E → A → Bool
  pub state : E → E'
  pub asked : A → A'
  pub result : R → R'
  pub ok_same : (r : R) → ok' (result r) ≡ ok r
  pub left_same : (r : R) → left' (result r) ≡ state (left r)
  pub away : (e : E) (a : A) → skip e a ≡ true → (ok (step e a) ≡ false) × (left (step e a) ≡ e)
  pub same : (e : E) (a : A) → skip e a ≡ false → result (step e a) ≡ step' (state e) (asked a)

module _ {E A R E' A' R' : Type 0} (w : Reading E A R E' A' R') where
  -- the steps of the other run
  unfoldable pub kept : E → List A → List A'
  kept e [] = []
  kept e (a ∷ rest) = pick (w.skip e a) (kept e rest) (w.asked a ∷ kept (w.left (w.step e a)) rest)

  abbrev pub read : A × R → A' × R'
  read x = (w.asked x.0, w.result x.1)

  ok_step : (e : E) (a : A) → w.skip e a ≡ false → w.ok' (w.step' (w.state e) (w.asked a)) ≡ w.ok (w.step e a)
  ok_step e a q = ap w.ok' (sym (w.same e a q)) ∙ w.ok_same (w.step e a)

  left_step : (e : E) (a : A) → w.skip e a ≡ false → w.left' (w.step' (w.state e) (w.asked a)) ≡ w.state (w.left (w.step e a))
  left_step e a q = ap w.left' (sym (w.same e a q)) ∙ w.left_same (w.step e a)

  pub kept_accepted : (e : E) (steps : List A)
      → map read (accepted_steps w.step w.ok w.left e steps) ≡ accepted_steps w.step' w.ok' w.left' (w.state e) (kept e steps)
  unfolding accepted_steps kept
  kept_accepted e [] = refl
  kept_accepted e (a ∷ rest) =
      let next : E = w.left (w.step e a) in
      by_test (w.skip e a)
      (λ q. rw (q, (w.away e a q).0, (w.away e a q).1) (kept_accepted e rest))
      (λ q. rw (q, ok_step e a q, left_step e a q)
      (by_test (w.ok (w.step e a))
      (λ t. rw t (ap (λ (r : R'). (w.asked a, r) ∷ map read (accepted_steps w.step w.ok w.left next rest)) (w.same e a q)
      ∙ ap (λ (l : List (A' × R')). (w.asked a, w.step' (w.state e) (w.asked a)) ∷ l) (kept_accepted next rest)))
      (λ t. rw t (kept_accepted next rest))))

  pub kept_after : (e : E) (steps : List A) → w.state (after_steps w.step w.left e steps) ≡ after_steps w.step' w.left' (w.state e) (kept e steps)
  unfolding after_steps kept
  kept_after e [] = refl
  kept_after e (a ∷ rest) =
      by_test (w.skip e a)
      (λ q. ap (λ (x : E). w.state (after_steps w.step w.left x rest)) (w.away e a q).1 ∙ kept_after e rest ∙ ap (after_steps w.step' w.left' (w.state e)) (sym (ap to q)))
      (λ q.
      kept_after (w.left (w.step e a)) rest ∙ ap (λ (x : E'). after_steps w.step' w.left' x (kept (w.left (w.step e a)) rest)) (sym (left_step e a q))
      ∙ ap (after_steps w.step' w.left' (w.state e)) (sym (ap to q)))
    where
      to : Bool → List A'
      to b = pick b (kept e rest) (w.asked a ∷ kept (w.left (w.step e a)) rest)
