-- `bitput::put_cells` meets its contract. Assumes nothing.
use Prim.Native.Nat.{ℕ, ◌+◌, ◌*◌, ◌≤◌, ◌<◌}
use mathlib.Core.Path.{◌≡◌, refl, sym, ◌∙◌}
use mathlib.Core.Bool.{Bool}
use mathlib.Core.List.{List, ◌++◌}
use native.Mathlib.Numerals.{add-one}
use native.Mathlib.Omega.{arith}
use lib.ListN.{length, get_or, take}
use lib.Seq.{sets, length-take-le}
use Rattle.std.proofs.Common.{rules}
use Rattle.std.proofs.lemmas.List.{length_push}
use Rattle.std.proofs.lemmas.Slice.Zip.{zip_turn}
use Rattle.rules.specs.Bits.{digits, total, cell_bits, stream_bits}
use Rattle.bits.proofs.FillLaws.{length_bits, sets-append}
use Rattle.bits.proofs.Windows.{total_suc, place, bits_snoc}
use Rattle.bitput.proofs.put_cells.Goals as goal
use Rattle.bitput.proofs.put_cells.Goals.{In-Some}

-- one more cell is put
put_next : (ls xs : List ℕ) (s t u : List Bool) (a b c l x : ℕ) → c < length ls → length xs ≡ length ls → b ≡ a + total (take c ls) → t ≡ sets s a (cell_bits (take c ls) (take c xs))
    → l ≡ get_or ls c 0 → x ≡ get_or xs c 0 → u ≡ sets t b (digits l x) → u ≡ sets s a (cell_bits (take (c + 1) ls) (take (c + 1) xs))
put_next ls xs s t u a b c l x h e eb et el ex eu =
    let done : List Bool = cell_bits (take c ls) (take c xs) in
    let n : b ≡ a + length done = rw (length_bits (take c ls) (take c xs) (length-take-le c xs (omega arith) ∙ sym (length-take-le c ls (omega arith)))) eb in
    let v : sets s a (done ++ digits (get_or ls c 0) (get_or xs c 0)) ≡ sets s a (cell_bits (take (c + 1) ls) (take (c + 1) xs)) = rw (add-one, bits_snoc ls xs c h e) refl in
    eu ∙ rw (n, et, el, ex) (sets-append s a done (digits (get_or ls c 0) (get_or xs c 0)) ∙ v)

-- the cell at hand and its load
turn : (c : In-Some) → let n = length c.loop-load.yielded in
    (n < length c.args.loads.now) × (c.in-Some.load.now ≡ get_or c.args.loads.now n 0) × (c.in-Some.cell.now ≡ get_or c.args.cells.now n 0)
turn c =
    let z = zip_turn c.args.loads.now c.args.cells.now c.loop-load.yielded c.into_iter-load-iterator.result c.loop-load.load-iterator c.next.new.self c.next.result (search rules) (search rules) c.loop-load.yielded_by (c.in-Some.load, c.in-Some.cell) c.in-Some.is c.next.ensures.steps in
    (z.0, z.2 0, z.3 0)

-- its bits lie in the stream
good : (c : In-Some) → let n = length c.loop-load.yielded in
    (get_or c.args.loads.now n 0 ≤ 14) × (c.loop-load.byte * 8 + c.loop-load.o + get_or c.args.loads.now n 0 ≤ length c.args.stream.now * 8)
good c =
    place c.args.loads.now c.args.stream.now (c.args.at * 8 + c.args.bit) (length c.loop-load.yielded) c.loop-load.byte c.loop-load.o (turn c).0 c.requires.1 c.requires.3 c.loop-load.invariant.place

pub loop-load-init : goal.loop-load-init
loop-load-init c = record { place = unfold total in (omega arith); inner = omega arith; filled = unfold cell_bits in refl }

pub put_cell-requires : goal.put_cell-requires
put_cell-requires c =
    let d = (goal.at.put_cell-requires c).In-Some in
    (omega arith, omega (arith, (turn d).1, (good d).0), omega (arith, (turn d).1, (good d).1))

pub overflow_add-byte : goal.overflow_add-byte
overflow_add-byte c = let d = (goal.at.overflow_add-byte c).In-Some in omega (arith, (turn d).1, (good d).1)

pub loop-load-preserved : goal.loop-load-preserved
loop-load-preserved c =
    let w = c.loop-load in
    let ls = c.args.loads.now in
    let n = length w.yielded in
    let d = (goal.at.loop-load-preserved c).In-Some in
    let l : c.number-l.result ≡ get_or ls n 0 = c.number-l.ensures.0 ∙ (turn d).1 in
    rw length_push record {
      place = rw add-one (omega (arith, total_suc ls n (turn d).0, l));
      inner = omega arith;
      filled = put_next ls c.args.cells.now (stream_bits c.args.stream.now) (stream_bits w.stream) _ (c.args.at * 8 + c.args.bit) _ n _ _ (turn d).0 (sym c.requires.0)
          w.invariant.place w.invariant.filled l (c.number.ensures.0 ∙ (turn d).2) c.put_cell.ensures;
    }
