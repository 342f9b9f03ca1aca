-- `filling::measure_at` meets its contract. One law for each return. Assumes nothing.
use Prim.Native.Nat.{ℕ, ◌*◌, ◌-◌, ◌≤◌, ◌<◌}
use mathlib.Core.Path.{◌≡◌, refl, sym, ap, ◌∙◌}
use mathlib.Core.Bool.{true, false}
use mathlib.Core.List.{◌++◌}
use native.Mathlib.Omega.{arith}
use lib.Dec.{ltb}
use lib.ListN.{length, get_or, take, drop, replicate, length-replicate, get_or-append}
use lib.Seq.{length-take-le, length_front}
use borrow.Author.Tests.{ltb-false}
use Rattle.counting.specs.Search.{bit}
use Rattle.std.specs.Prelude.{Ok}
use Rattle.rules.specs.Fits.{capacity}
use Rattle.rules.specs.Plan.{plan_of}
use Rattle.rules.specs.Frame.{frame_of, spot, held, data_count}
use Rattle.rules.specs.Loads.{ground25}
use Rattle.rules.specs.Filling.{bit_count}
use Rattle.spots.proofs.Frames.{data_le}
use Rattle.spots.proofs.Parts.{part_size}
use Rattle.steps.proofs.Accepted.{cells_low}
use Rattle.filling.proofs.Measures.{by_number, by_bits}
use Rattle.filling.proofs.measure_at.Goals as goal
use Rattle.filling.proofs.measure_at.Goals.{After-lacks_bits, After-prepare-nd, Else-number-nd, Start}

low : (g : Start) → g.args.n ≤ capacity
low g = omega (arith, g.requires.0.all, cells_low g.args.d (plan_of g.args.plan.now) g.requires.0.fits)

listed : (g : Start) → ground25 ((frame_of g.args.d (plan_of g.args.plan.now))).width g.args.profile.now ≡ Ok tt
unfolding frame_of
listed g = g.requires.1

-- N_D
number_is : (c : After-prepare-nd) → c.prepare-nd.result ≡ data_count ((frame_of c.args.d (plan_of c.args.plan.now))) c.args.j
number_is c = c.prepare-nd.ensures.number

-- so many cells are given
counted : (c : Else-number-nd) → c.args.number ≡ data_count ((frame_of c.args.d (plan_of c.args.plan.now))) c.args.j
counted c = c.if-number-nd.false ∙ (let it : c.prepare-nd.result ≡ data_count ((frame_of c.args.d (plan_of c.args.plan.now))) c.args.j = c.prepare-nd.ensures.number in it)

-- the subcarriers by rank, of which so many are used up
ranks_size : (c : After-prepare-nd) → length (take c.args.n c.prepare-nd.new.car) ≡ c.args.n
ranks_size c = length-take-le _ _ (omega (arith, (let it : c.args.n ≤ capacity = omega (arith, c.requires.0.all, cells_low c.args.d (plan_of c.args.plan.now) c.requires.0.fits) in it), c.prepare-nd.auto.car))

-- the subcarriers of the cells and the flags, in arrays that are whole again
whole_spots : (c : After-prepare-nd) → length (c.prepare-nd.new.kc ++ drop c.args.n (replicate capacity 0)) ≡ capacity
whole_spots c = length_front (replicate capacity 0) c.prepare-nd.new.kc c.args.n c.prepare-nd.auto.kc ∙ length-replicate {A = ℕ} capacity 0

whole_flags : (c : After-prepare-nd) → length (c.prepare-nd.new.flag ++ drop c.args.n (replicate capacity 0)) ≡ capacity
whole_flags c = length_front (replicate capacity 0) c.prepare-nd.new.flag c.args.n c.prepare-nd.auto.flag ∙ length-replicate {A = ℕ} capacity 0

spots_whole : (c : After-prepare-nd) (p : ℕ) → p < c.args.n → get_or (c.prepare-nd.new.kc ++ drop c.args.n (replicate capacity 0)) p 0 ≡ spot ((frame_of c.args.d (plan_of c.args.plan.now))) p
spots_whole c p h =
    let size = part_size _ ((let it : c.args.n ≤ capacity = omega (arith, c.requires.0.all, cells_low c.args.d (plan_of c.args.plan.now) c.requires.0.fits) in it)) in
    get_or-append c.prepare-nd.new.kc (drop c.args.n (replicate capacity 0)) 0 p (omega (arith, h, c.prepare-nd.auto.kc, size)) ∙ c.prepare-nd.ensures.spots p (omega (arith, h, size))

flags_whole : (c : After-prepare-nd) (p : ℕ) → p < c.args.n → get_or (c.prepare-nd.new.flag ++ drop c.args.n (replicate capacity 0)) p 0 ≡ bit (held ((frame_of c.args.d (plan_of c.args.plan.now))) c.args.j p)
flags_whole c p h =
    let size = part_size _ ((let it : c.args.n ≤ capacity = omega (arith, c.requires.0.all, cells_low c.args.d (plan_of c.args.plan.now) c.requires.0.fits) in it)) in
    get_or-append c.prepare-nd.new.flag (drop c.args.n (replicate capacity 0)) 0 p (omega (arith, h, c.prepare-nd.auto.flag, size)) ∙ c.prepare-nd.ensures.flags p (omega (arith, h, size))

-- whether bits lack
lacking : (c : After-lacks_bits) → let g = c in c.lacks_bits.result ≡ ltb (g.args.bytes * 8 - g.args.start) (bit_count ((frame_of g.args.d (plan_of g.args.plan.now))) g.args.profile.now g.args.j)
lacking c = let g = c in c.lacks_bits.ensures ∙ ap (ltb (g.args.bytes * 8 - g.args.start)) c.take_loads-need.ensures.sum.0

pub slice_bounds-kc-end : goal.slice_bounds-kc-end
slice_bounds-kc-end c = low (goal.at.slice_bounds-kc-end c).Start

pub slice_bounds-prepare-end-2 : goal.slice_bounds-prepare-end-2
slice_bounds-prepare-end-2 c = sym (part_size _ (low (goal.at.slice_bounds-prepare-end-2 c).Start))

pub slice_bounds-flag-end : goal.slice_bounds-flag-end
slice_bounds-flag-end c = low (goal.at.slice_bounds-flag-end c).Start

pub slice_bounds-prepare-end-3 : goal.slice_bounds-prepare-end-3
slice_bounds-prepare-end-3 c = sym (part_size _ (low (goal.at.slice_bounds-prepare-end-3 c).Start))

pub prepare-nd-requires : goal.prepare-nd-requires
prepare-nd-requires c =
    let g = c in
    let r = g.requires.0 in
    let depth : c.number_at-m.result ≡ (plan_of g.args.plan.now).depth = unfold plan_of in c.number_at-m.ensures.0 in
    let size = part_size g.args.n (low (goal.at.prepare-nd-requires c).Start) in
    (r.fits, r.studied, depth, omega (arith, depth, r.deep), omega (arith, depth, r.shallow), omega (arith, g.requires.2), refl, size ∙ r.all, omega arith)

pub returns-then-number-nd : goal.returns-then-number-nd
unfolding frame_of
returns-then-number-nd c =
    let g = c in
    let a = g.args in
    record { answer = by_number a.d a.plan.now a.profile.now a.j a.number a.bytes a.start g.requires.0.fine (listed (goal.at.returns-then-number-nd c).Start) g.requires.2 (λ e. c.if-number-nd.true (e ∙ sym (number_is (goal.at.returns-then-number-nd c).After-prepare-nd))); made = tt }

pub slice_bounds-take_loads-end : goal.slice_bounds-take_loads-end
slice_bounds-take_loads-end c = sym (whole_spots (goal.at.slice_bounds-take_loads-end c).After-prepare-nd)

pub slice_bounds-take_loads-end-2 : goal.slice_bounds-take_loads-end-2
slice_bounds-take_loads-end-2 c = sym (whole_flags (goal.at.slice_bounds-take_loads-end-2 c).After-prepare-nd)

pub slice_bounds-car-end : goal.slice_bounds-car-end
slice_bounds-car-end c = omega (arith, low (goal.at.slice_bounds-car-end c).Start, c.prepare-nd.auto.car)

pub slice_bounds-take_loads-end-3 : goal.slice_bounds-take_loads-end-3
slice_bounds-take_loads-end-3 c = sym (ranks_size (goal.at.slice_bounds-take_loads-end-3 c).After-prepare-nd)

pub take_loads-need-requires : goal.take_loads-need-requires
take_loads-need-requires c =
    let k = c in
    let g = c in
    let size = ranks_size (goal.at.take_loads-need-requires c).After-prepare-nd in (
      g.requires.0.fits,
      g.requires.1,
      size ∙ g.requires.0.all,
      omega (arith, size, low (goal.at.take_loads-need-requires c).Start, whole_spots (goal.at.take_loads-need-requires c).After-prepare-nd),
      omega (arith, size, low (goal.at.take_loads-need-requires c).Start, whole_flags (goal.at.take_loads-need-requires c).After-prepare-nd),
      number_is (goal.at.take_loads-need-requires c).After-prepare-nd,
      omega (arith, number_is (goal.at.take_loads-need-requires c).After-prepare-nd, data_le ((frame_of g.args.d (plan_of g.args.plan.now))) g.args.j, g.requires.0.all, low (goal.at.take_loads-need-requires c).Start, g.requires.3),
      λ p h. spots_whole (goal.at.take_loads-need-requires c).After-prepare-nd p (omega (arith, h, size)),
      λ p h. flags_whole (goal.at.take_loads-need-requires c).After-prepare-nd p (omega (arith, h, g.requires.0.all)),
    )

pub returns-then-lacks_bits : goal.returns-then-lacks_bits
unfolding frame_of
returns-then-lacks_bits c =
    let g = c in
    let a = g.args in
    record { answer = by_bits a.d a.plan.now a.profile.now a.j a.number a.bytes a.start g.requires.0.fine (listed (goal.at.returns-then-lacks_bits c).Start) g.requires.2 (counted (goal.at.returns-then-lacks_bits c).Else-number-nd) true (sym c.if-lacks_bits.true ∙ lacking (goal.at.returns-then-lacks_bits c).After-lacks_bits); made = tt }

pub overflow_cast-result : goal.overflow_cast-result
overflow_cast-result c = omega (arith, c.take_loads-need.ensures.sum.1)

pub returns : goal.returns
unfolding frame_of
returns c =
    let g = c in
    let a = g.args in
    let k = c in
    let need = k.take_loads-need.ensures.sum.0 in
    let enough : bit_count ((frame_of g.args.d (plan_of g.args.plan.now))) a.profile.now a.j ≤ a.bytes * 8 - a.start = ltb-false _ _ (sym (lacking (goal.at.returns c).After-lacks_bits) ∙ c.if-lacks_bits.false) in record {
      answer = ap Ok need ∙ by_bits a.d a.plan.now a.profile.now a.j a.number a.bytes a.start g.requires.0.fine (listed (goal.at.returns c).Start) g.requires.2 (counted (goal.at.returns c).Else-number-nd) false (sym c.if-lacks_bits.false ∙ lacking (goal.at.returns c).After-lacks_bits);
      made = record {
        all = counted (goal.at.returns c).Else-number-nd;
        few = omega (arith, counted (goal.at.returns c).Else-number-nd, data_le ((frame_of g.args.d (plan_of g.args.plan.now))) a.j, g.requires.0.all, low (goal.at.returns c).Start, g.requires.3, k.take_loads-need.auto.loads);
        these = ap (λ (n : ℕ). take n k.take_loads-need.new.loads) c.if-number-nd.false ∙ k.take_loads-need.ensures.made;
        there = λ some. omega (arith, enough, some);
      };
    }
