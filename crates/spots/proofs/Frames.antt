-- What the loops compute is what the definitions say of a frame, for any frame that is tied to its marks. Assumes nothing.
use Prim.Native.Nat.{ℕ, ◌+◌, ◌-◌, ◌%◌, ◌≤◌, ◌<◌}
use mathlib.Core.Path.{◌≡◌, refl, sym, ap, ap₂, ◌∙◌}
use mathlib.Core.Bool.{not}
use mathlib.Core.List.{List}
use native.Mathlib.Omega.{arith}
use lib.Dec.{eqb}
use lib.ListN.{length, get_or, take}
use lib.Seq.{length-take-le, get_or-take}
use Rattle.counting.specs.Search.{bit, count, select, is_zero}
use Rattle.counting.proofs.Laws.{count_ext, count_le}
use Rattle.counting.proofs.Lists.{get_d_tabulate}
use Rattle.counting.proofs.Sums.{count_not}
use Rattle.counting.proofs.Select.{selected, select_ext}
use Rattle.rules.specs.Device.{phases}
use Rattle.rules.specs.Fits.{capacity}
use Rattle.rules.specs.Frame.{Frame, cells, carrier, spot, held, is_data, data_count, sent_phase, line_symbol}
use Rattle.placeholders.specs.Meets.{meets}
use Rattle.walk.specs.Stores.{stores}
use Rattle.spots.specs.Tied.{Tied, Turning}
use Rattle.walk.proofs.Stores.{stores_ext}
use Rattle.walk.proofs.Symbols.{Reads, placed_is, stored_is}

-- a frame has no more cells than subcarriers, and no more data cells than cells
pub cells_le : (F : Frame) → cells F ≤ F.width
unfolding cells
cells_le F = count_le F.ranked F.width

pub data_le : (F : Frame) (j : ℕ) → data_count F j ≤ cells F
unfolding data_count
data_le F j = count_le (is_data F j) (cells F)

-- the subcarrier of a rank is one of the frame's
pub carrier_below : (F : Frame) (i : ℕ) → i < cells F → carrier F i < F.width
unfolding carrier cells
carrier_below F i h = (selected F.ranked F.width i h).below

module _ (F : Frame) (m : List ℕ) (t : Tied F m) where
  pub cells_few : cells F ≤ capacity
  cells_few = omega (arith, cells_le F, t.few)

  -- the marks of 0 are N_I
  pub cells_of : count (is_zero m) F.width ≡ cells F
  unfolding cells
  cells_of = count_ext (is_zero m) F.ranked F.width t.ranks

  -- and stand on the subcarriers by rank
  pub carrier_of : (i : ℕ) → i < cells F → select (is_zero m) F.width i ≡ carrier F i
  unfolding carrier
  carrier_of i h = select_ext (is_zero m) F.ranked F.width i t.ranks (omega (arith, cells_of))

  -- the lists that the functions leave, n long, in the order of a walk
  pub spots_are : (cell : ℕ → ℕ) → Reads F cell → (n r : ℕ) (car kc₀ kc : List ℕ) → n ≡ cells F → length kc₀ ≡ n → r ≡ count (is_zero m) F.width
      → ((i : ℕ) → i < r → get_or car i 0 ≡ select (is_zero m) F.width i) → kc ≡ stores cell (λ i. get_or car i 0) (cells F) kc₀
      → ((i : ℕ) → i < n → get_or car i 0 ≡ carrier F i) × ((p : ℕ) → p < n → get_or kc p 0 ≡ spot F p)
  spots_are cell walk n r car kc₀ kc en size er listed taken = (
    λ i l. ranks i (omega arith),
    λ p l.
        unfold spot in (ap (λ (y : List ℕ). get_or y p 0)
        (taken ∙ stores_ext cell cell (λ i. get_or car i 0) (carrier F) (cells F) kc₀ (λ i h. refl) ranks ∙ stored_is F cell walk (carrier F) kc₀ (size ∙ en))
        ∙ get_d_tabulate _ (cells F) 0 p (omega arith)),
  )
    where
      ranks : (i : ℕ) → i < cells F → get_or car i 0 ≡ carrier F i
      ranks i l = listed i (omega (arith, cells_of)) ∙ carrier_of i l

  pub line_is : (cell : ℕ → ℕ) → Reads F cell → (car x clean out : List ℕ) → ((i : ℕ) → i < cells F → get_or car i 0 ≡ carrier F i) → clean ≡ take F.width m
      → out ≡ stores (λ r. get_or car r 0) (λ r. get_or x (cell r) 0) (cells F) clean → out ≡ line_symbol F x
  line_is cell walk car x clean out ranks ec e =
      e
      ∙ stores_ext (λ r. get_or car r 0) (carrier F) (λ r. get_or x (cell r) 0) (λ r. get_or x (cell r) 0) (cells F) clean ranks (λ r h. refl)
      ∙ placed_is F cell walk x clean (ap length ec ∙ length-take-le F.width m t.long) (λ k h g. ap (λ (y : List ℕ). get_or y k 0) ec ∙ get_or-take F.width m k 0 h ∙ t.marks k h g)

-- the placeholders of an input symbol
module _ (F : Frame) (base : ℕ) (t : Turning F base) (j : ℕ) (kc : List ℕ) where
  pub held_of : (p : ℕ) → get_or kc p 0 ≡ spot F p → meets (base + j) F.depth kc p ≡ held F j p
  unfolding meets held
  held_of p e =
      ap (λ (x : ℕ). eqb (x % phases) ((base + j + p % F.depth) % phases)) e
      ∙ sym (t.pattern (sent_phase F j p) (spot F p) ∙ ap (λ (x : ℕ). eqb (spot F p % phases) x) (turn (p % F.depth)))
    where
      turn : (d : ℕ) → (base + (j + d) % F.phases) % phases ≡ (base + j + d) % phases
      turn d = ap (λ (x : ℕ). (base + (j + d) % x) % phases) t.period ∙ omega arith

  -- the flags of the loop are those of the placeholders, and the cells without one are N_D
  pub flags_are : (m at : ℕ) → m ≡ F.depth → at ≡ base → ((p : ℕ) → p < length kc → get_or kc p 0 ≡ spot F p) → length kc ≡ cells F → (flag : List ℕ) (n : ℕ)
      → ((p : ℕ) → p < length kc → get_or flag p 0 ≡ bit (meets (at + j) m kc p)) → n ≡ count (meets (at + j) m kc) (length kc)
      → ((p : ℕ) → p < length kc → get_or flag p 0 ≡ bit (held F j p)) × (length kc - n ≡ data_count F j)
  flags_are m at em eb spots size flag n flags e = (λ p l. flags p l ∙ ap bit (meeting p l), number)
    where
      meeting : (p : ℕ) → p < length kc → meets (at + j) m kc p ≡ held F j p
      meeting p l = ap₂ (λ (x y : ℕ). meets (x + j) y kc p) eb em ∙ held_of p (spots p l)

      number : length kc - n ≡ data_count F j
      number =
          unfold data_count is_data in (
          let some : n ≡ count (held F j) (length kc) = e ∙ count_ext (meets (at + j) m kc) (held F j) (length kc) meeting in
          let rest : length kc - n ≡ count (λ p. not (held F j p)) (length kc) = omega (arith, some, count_not (held F j) (length kc)) in
          rest ∙ ap (count (λ p. not (held F j p))) size)
