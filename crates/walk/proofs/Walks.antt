-- The claims of the walk: of any number of rows and of cells and any turn of the full columns, and of every plan. Assumes nothing.
use Prim.Native.Nat.{ℕ, suc, ◌+◌, ◌^◌, ◌≤◌, ◌<◌}
use mathlib.Core.Path.{◌≡◌, refl, sym, ap, ◌∙◌, subst}
use mathlib.Core.Logic.{by_cases}
use mathlib.Core.Bool.{Bool}
use mathlib.Core.List.{List}
use Rattle.std.specs.Prelude.{Option, Some, unwrap_or, option_and_then}
use Rattle.std.proofs.lemmas.Option.{none-some, same_Some}
use native.Mathlib.Decide.{dec_lt}
use native.Mathlib.Omega.{arith}
use borrow.Author.Tests.{lt-ltb}
use Rattle.counting.specs.Search.{when, rank, of_rank}
use Rattle.counting.proofs.Laws.{count_le}
use Rattle.counting.proofs.Ranks.{InjBelow, of_rank_below, rank-of_rank, of_rank-rank, rank_below}
use Rattle.rules.specs.declared.Device.{Device}
use Rattle.rules.specs.Plan.{Plan, plan_of}
use Rattle.rules.specs.Frame.{house_key, frame_of, cells}
use Rattle.rules.proofs.Answered.{accepted_cells}
use Rattle.frame.proofs.House.{house_key_inj}
use Rattle.walk.specs.Walk.{straight, Stays, turned_key, next_cell, walked, walk_cell}
use Rattle.walk.specs.Claims.{RowAfterRow, PlanWalk}
use Rattle.walk.proofs.Step.{ranked?, past_ranks}
use Rattle.walk.proofs.Turned.{straight_key, straight_step, key_inj, step_is, walk_is}
use Rattle.walk.proofs.Symbols.{Reads, filled_by_walk}

-- any step that finds the cell of the next rank, and any walk that reads the cells by rising rank
module _ (key : ℕ → ℕ) (n : ℕ) (next walk : ℕ → Option ℕ) (inj : InjBelow n key)
    (steps : (i : ℕ) → walk (suc i) ≡ option_and_then next (walk i)) (finds : (p : ℕ) → p < n → next p ≡ ranked? key n (rank key n p + 1)) (reads : (i : ℕ) → walk i ≡ ranked? key n i) where
  ranked_at : (i : ℕ) → i < n → ranked? key n i ≡ Some (of_rank key n i)
  ranked_at i h = ap (λ (t : Bool). when t (of_rank key n i)) (lt-ltb i n h)

  pub row_after_row : RowAfterRow key n next walk
  row_after_row = record {
    leads = λ p hp l. (
      of_rank key n (rank key n p + 1),
      of_rank_below key n inj (rank key n p + 1) l,
      finds p hp ∙ ranked_at (rank key n p + 1) l,
      rank-of_rank key n inj (rank key n p + 1) l,
    );
    ends = λ p hp e. finds p hp ∙ past_ranks key n (rank key n p + 1) (omega arith);
    begins = λ h. (of_rank key n 0, of_rank_below key n inj 0 h, reads 0 ∙ ranked_at 0 h, rank-of_rank key n inj 0 h);
    steps = steps;
    numbers = λ i h. reads i ∙ ranked_at i h;
    over = λ i h. reads i ∙ past_ranks key n i h;
    comes = λ p h. reads (rank key n p) ∙ ranked_at (rank key n p) (rank_below key n p h) ∙ ap Some (of_rank-rank key n inj p h);
    once = λ i p e.
        by_cases (dec_lt i n)
        (λ l.
        let z : of_rank key n i ≡ p = same_Some (of_rank key n i) p (sym (reads i ∙ ranked_at i l) ∙ e) in
        (subst (λ (q : ℕ). q < n) z (of_rank_below key n inj i l), sym (rank-of_rank key n inj i l) ∙ ap (rank key n) z))
        (λ l. absurd (none-some p (sym (reads i ∙ past_ranks key n i (omega arith)) ∙ e)));
  }

-- any number of rows, of cells, any turn of the full columns
pub turned_rows : (b c n : ℕ) (s : ℕ → ℕ) → n ≤ c → Stays (2 ^ b) n s → RowAfterRow (turned_key b c s) n (next_cell b n s) (walked b n s)
turned_rows b c n s hn stays =
    row_after_row (turned_key b c s) n (next_cell b n s) (walked b n s) (key_inj b c n s hn stays) (λ i. unfold walked in refl) (step_is b c n s hn stays) (walk_is b c n s hn stays)

-- no column turned
pub straight_rows : (b c n : ℕ) → n ≤ c → RowAfterRow (house_key b c) n (next_cell b n straight) (walked b n straight)
straight_rows b c n hn =
    subst (λ (key : ℕ → ℕ). RowAfterRow key n (next_cell b n straight) (walked b n straight)) (straight_key b c) (turned_rows b c n straight hn (λ c h. refl))

-- the cells of a plan
pub plan_rows : (d : Device) (p : Plan) → RowAfterRow (frame_of d p).key (cells (frame_of d p)) (next_cell d.row_bits (cells (frame_of d p)) straight) (walked d.row_bits (cells (frame_of d p)) straight)
unfolding frame_of cells
plan_rows d p = straight_rows d.row_bits d.subcarriers (cells (frame_of d p)) (count_le (frame_of d p).ranked d.subcarriers)

-- as numbers
pub plan_reads : (d : Device) (p : Plan) → Reads (frame_of d p) (walk_cell d.row_bits (cells (frame_of d p)))
plan_reads d p = record {
  keys = unfold frame_of cells in house_key_inj d.row_bits d.subcarriers (cells (frame_of d p)) (count_le (frame_of d p).ranked d.subcarriers);
  numbers = λ i h. unfold walk_cell in ap (λ (o : Option ℕ). unwrap_or o 0) ((plan_rows d p).numbers i h);
}

pub plan_walk : (d : Device) (s : List ℕ) → PlanWalk d s
plan_walk d s = record {
  accepted = λ n e. accepted_cells d s n (sym e);
  rows = plan_rows d (plan_of s);
  straight_step = straight_step d.row_bits (cells (frame_of d (plan_of s)));
  symbols = filled_by_walk (frame_of d (plan_of s)) (walk_cell d.row_bits (cells (frame_of d (plan_of s)))) (plan_reads d (plan_of s));
}
