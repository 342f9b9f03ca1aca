-- The scattered pattern: each subcarrier is in it at one of the 128 phases, and at each phase one of 128 successive subcarriers is. Assumes nothing.
use Prim.Native.Nat.{ℕ, ◌+◌, ◌*◌, ◌%◌, ◌<◌}
use mathlib.Core.Path.{◌≡◌, sym, ap, ◌∙◌}
use native.Mathlib.Nat.{add_comm, add_assoc}
use native.Mathlib.Omega.{arith}
use lib.Dec.{eqb}
use Rattle.counting.specs.Search.{bit, sum, count}
use Rattle.counting.proofs.Bools.{eqb_sym}
use Rattle.counting.proofs.Sums.{sum_cong, sum_blocks, count_eq}
use Rattle.counting.proofs.Orders.{sum_turn}
use Rattle.rules.specs.declared.Device.{Device}
use Rattle.rules.specs.Device.{phases}
use Rattle.rules.specs.Plan.{Plan}
use Rattle.rules.specs.Roles.{scattered_at}

-- of 128 successive numbers one has the remainder r
residue_once : (a r : ℕ) → r < phases → sum (λ i. bit (eqb ((a + i) % phases) r)) phases ≡ 1
residue_once a r h =
    sum_cong (λ i. bit (eqb ((a + i) % phases) r)) (λ i. bit (eqb ((i + a) % phases) r)) phases (λ i l. ap (λ (x : ℕ). bit (eqb (x % phases) r)) (add_comm a i))
    ∙ sum_turn phases a (λ x. bit (eqb x r)) ∙ unfold count in count_eq phases r h

module _ (d : Device) (p : Plan) where
  -- each subcarrier is scattered at one phase
  pub scattered_once : (k : ℕ) → count (λ j. scattered_at d p j k) phases ≡ 1
  unfolding count scattered_at
  scattered_once k =
      sum_cong (λ j. bit (eqb (k % phases) ((p.plc + d.plc_width + j) % phases))) (λ j. bit (eqb ((p.plc + d.plc_width + j) % phases) (k % phases))) phases (λ j l. ap bit (eqb_sym (k % phases) ((p.plc + d.plc_width + j) % phases)))
      ∙ residue_once (p.plc + d.plc_width) (k % phases) (omega arith)

  -- each phase scatters q of the q times 128 subcarriers from a on
  pub scattered_turns : (q j a : ℕ) → count (λ i. scattered_at d p j (a + i)) (q * phases) ≡ q
  unfolding count scattered_at
  scattered_turns q j a =
      let r : ℕ = (p.plc + d.plc_width + j) % phases in
      sum_blocks (λ i. bit (eqb ((a + i) % phases) r)) phases 1 q
      (λ b l. sum_cong (λ i. bit (eqb ((a + (b * phases + i)) % phases) r)) (λ i. bit (eqb ((a + b * phases + i) % phases) r)) phases
      (λ i h. ap (λ (x : ℕ). bit (eqb (x % phases) r)) (sym (add_assoc a (b * phases) i)))
      ∙ residue_once (a + b * phases) r (omega arith))
      ∙ omega arith
