-- Grounds 16 and 17 of what every step is given: phase, store and symbol. Assumes nothing.
use mathlib.Core.Path.{◌≡◌, refl, sym, ap}
use mathlib.Core.Logic.{⊎_elim}
use mathlib.Core.Bool.{Bool, not, ◌||◌}
use mathlib.Core.List.{List}
use Prim.Native.Nat.{ℕ, ◌≤◌, ◌<◌}
use native.Mathlib.Omega.{arith}
use lib.Dec.{eqb}
use lib.ListN.{length}
use borrow.Author.Tests.{lt-ltb, le-ltb, le-leb, lt-leb, eq-eqb, ne_eqb}
use Rattle.counting.specs.Search.{when}
use Rattle.counting.proofs.Bools.{decide, decide_eq}
use Rattle.rules.specs.Refusals.{Finding, CountAnswer, refused_by}
use Rattle.std.specs.Prelude.{Ok, Err}
use Rattle.rules.specs.Grounds.{◌else◌, ground?}
use Rattle.rules.specs.Frame.{Frame, data_count}
use Rattle.rules.specs.Steps.{ground16, short_store, ground17}
use Rattle.steps.specs.Ready.{ready_answer}

module _ (F : Frame) (j places : ℕ) (s room : List ℕ) where
  -- the two as functions of their tests
  tested : Bool → Bool → Bool → Finding
  tested a c d = ground? 16 (when a 0) else ground? 17 (when (c || not d) 0)

  pub bad_phase : F.phases ≤ j → refused_by 16 0 ≡ (ground16 F j else ground17 F places s room)
  unfolding ground16 ground17 tested
  bad_phase h = sym (ap (λ (t : Bool). tested t (short_store places s) (eqb (length room) F.width)) (le-leb F.phases j h))

  module _ (hp : j < F.phases) where
    pub bad_store : length s < places → refused_by 17 0 ≡ (ground16 F j else ground17 F places s room)
    unfolding ground16 ground17 short_store tested
    bad_store h = sym (λ i. tested (lt-leb F.phases j hp i) (lt-ltb (length s) places h i) (eqb (length room) F.width))

    module _ (hs : places ≤ length s) where
      pub bad_room : (length room ≡ F.width → ⊥) → refused_by 17 0 ≡ (ground16 F j else ground17 F places s room)
      unfolding ground16 ground17 short_store tested
      bad_room h = sym (λ i. tested (lt-leb F.phases j hp i) (le-ltb (length s) places hs i) (ne_eqb (length room) F.width h i))

      pub all_lent : length room ≡ F.width → Ok tt ≡ (ground16 F j else ground17 F places s room)
      unfolding ground16 ground17 short_store tested
      all_lent h = sym (λ i. tested (lt-leb F.phases j hp i) (le-ltb (length s) places hs i) (eq-eqb (length room) F.width h i))

-- what grounds 16 and 17 leave
pub record Lent (F : Frame) (j places : ℕ) (s room : List ℕ) : Type 0 where
  pub phase_in : j < F.phases
  pub places_fit : places ≤ length s
  pub whole : length room ≡ F.width

-- a finding is not both a ground and none
pub no_ground : (n place : ℕ) (f : Finding) → refused_by n place ≡ f → Ok tt ≡ f → ⊥
no_ground n place f g h = let z : ◌≡◌ {A = ℕ} 0 1 = cc in absurd (omega arith)

module _ (F : Frame) (j places : ℕ) (s room : List ℕ) (ok : (Ok tt) ≡ (ground16 F j else ground17 F places s room)) where
  kept : (n place : ℕ) → refused_by n place ≡ (ground16 F j else ground17 F places s room) → ⊥
  kept n place g = no_ground n place (ground16 F j else ground17 F places s room) g ok

  pub lent : Lent F j places s room
  lent =
      let hp : j < F.phases = ⊎_elim (λ l. l.0) (λ l. absurd (kept 16 0 (bad_phase F j places s room l.0))) (decide j F.phases) in
      let hs : places ≤ length s = ⊎_elim (λ l. absurd (kept 17 0 (bad_store F j places s room hp l.0))) (λ l. l.0) (decide (length s) places) in
      record {
        phase_in = hp;
        places_fit = hs;
        whole = ⊎_elim (λ l. l.0) (λ l. absurd (kept 17 0 (bad_room F j places s room hp hs l.0))) (decide_eq (length room) F.width);
      }

-- an answer as a function of the finding, with the count k where there is none
abbrev pub told : ℕ → Finding → CountAnswer
told k f = elim f [ Ok _ ↦ Ok k | Err r ↦ Err r ]

-- a finding told as a count is none, told as a refusal is that ground
pub told_count_lem : (k n : ℕ) (f : Finding) → Ok n ≡ told k f → (Ok tt ≡ f) × (n ≡ k)
told_count_lem k n (Ok tt) e = (refl, cc)
told_count_lem k n (Err r) e = let z : ◌≡◌ {A = ℕ} 0 1 = cc in absurd (omega arith)

pub told_refused : (k n place : ℕ) (f : Finding) → refused_by n place ≡ told k f → refused_by n place ≡ f
told_refused k n place (Ok tt) e = let z : ◌≡◌ {A = ℕ} 0 1 = cc in absurd (omega arith)
told_refused k n place (Err r) e = cc

-- what the answer of grounds 16 and 17 tells
module _ (F : Frame) (phase places : ℕ) (s y : List ℕ) (j : ℕ) where
  pub ready_count : (n : ℕ) → Ok n ≡ ready_answer F phase places s y j → (Ok tt ≡ (ground16 F phase else ground17 F places s y)) × (n ≡ data_count F j)
  unfolding ready_answer
  ready_count n e = told_count_lem (data_count F j) n (ground16 F phase else ground17 F places s y) e

  pub ready_refused : (n place : ℕ) → refused_by n place ≡ ready_answer F phase places s y j → refused_by n place ≡ (ground16 F phase else ground17 F places s y)
  unfolding ready_answer
  ready_refused n place e = told_refused (data_count F j) n place (ground16 F phase else ground17 F places s y) e

  pub count_ready : (Ok tt) ≡ (ground16 F phase else ground17 F places s y) → Ok (data_count F j) ≡ ready_answer F phase places s y j
  unfolding ready_answer
  count_ready h = ap (told (data_count F j)) h

  pub refused_ready : (n place : ℕ) → refused_by n place ≡ (ground16 F phase else ground17 F places s y) → refused_by n place ≡ ready_answer F phase places s y j
  unfolding ready_answer
  refused_ready n place h = ap (told (data_count F j)) h
