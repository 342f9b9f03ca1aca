-- `sendgrounds::admit_step` meets its contract: one law for each return. Assumes nothing.
use Prim.Native.Nat.{ℕ, ◌≤◌}
use mathlib.Core.Path.{◌≡◌, refl, sym, ap, ◌∙◌, subst}
use mathlib.Core.Bool.{false}
use mathlib.Core.List.{List, ◌++◌}
use native.Mathlib.Omega.{arith}
use lib.ListN.{length, take, drop, replicate, length-replicate, get_or-append}
use lib.Seq.{length-take-le, length_front, take_at}
use Rattle.counting.specs.Search.{pick}
use Rattle.counting.proofs.Bools.{by_test}
use Rattle.rules.specs.Refusals.{CountAnswer, refused_by}
use Rattle.std.specs.Prelude.{Ok}
use Rattle.rules.specs.Fits.{capacity}
use Rattle.rules.specs.Plan.{plan_of}
use Rattle.rules.specs.Grounds.{◌else◌}
use Rattle.rules.specs.Frame.{frame_of, data_count}
use Rattle.rules.specs.Loads.{ground25}
use Rattle.rules.specs.Steps.{ground16, ground17, profile_ground}
use Rattle.spots.proofs.Frames.{cells_le}
use Rattle.spots.proofs.Parts.{part_size}
use Rattle.places.proofs.Sizes.{emitter_places_are}
use Rattle.figure.specs.Needs.{places17, places27}
use Rattle.figure.proofs.Sizes.{literal_places_are}
use Rattle.steps.specs.Ready.{Ready, ready_answer, Made, MadeIf}
use Rattle.steps.proofs.Accepted.{cells_low}
use Rattle.steps.proofs.Lent.{ready_count, ready_refused}
use Rattle.sending.specs.Sent.{given_by, at, giving}
use Rattle.rules.proofs.Findings.{passed_on}
use Rattle.sendgrounds.proofs.Stages.{by_lent, by_lines, by_given}
use Rattle.sendgrounds.proofs.admit_step.Goals as goal
use Rattle.sendgrounds.proofs.admit_step.Goals.{After-number_at-m, After-places_27-lines, After-ready, Else-places-lines, In_ok-nd, Start}

-- ground 25 does not refuse it
unlisted : (g : Start) → g.args.flushing ≡ false → ground25 g.args.d.subcarriers g.args.profile.now ≡ Ok tt
unlisted g e = rw e at g.requires.1

listed : (g : Start) (ds : List ℕ) → profile_ground (frame_of g.args.d (plan_of g.args.plan.now)) g.args.profile.now (given_by g.args.flushing ds) ≡ Ok tt
unfolding profile_ground frame_of
listed g ds = by_test g.args.flushing (λ e. rw e refl) (λ e. rw e (unlisted g e))

-- the cells fit the arrays, and the input symbol
low : (g : Start) → g.args.n ≤ capacity
low g = let r = g.requires.0 in omega (arith, r.all, cells_low g.args.d (plan_of g.args.plan.now) r.fits)

long : (g : Start) → g.args.n ≤ length g.args.x.now
unfolding frame_of
long g = omega (arith, g.requires.0.all, cells_le (frame_of g.args.d (plan_of g.args.plan.now)), g.requires.4)

part : (g : Start) → length (take g.args.n g.args.x.now) ≡ g.args.n
part g = length-take-le g.args.n g.args.x.now (long g)

-- m is the depth, and an emitter's store needs so many places
deep : (c : After-number_at-m) → c.number_at-m.result ≡ (plan_of c.args.plan.now).depth
unfolding plan_of
deep c = c.number_at-m.ensures.0

-- the places that 27 asks for
needed_lines : (c : After-places_27-lines) → c.places_27-lines.result ≡ places27 c.args.literal (frame_of c.args.d (plan_of c.args.plan.now))
unfolding frame_of plan_of
needed_lines c =
    c.places_27-lines.ensures ∙ ap (λ (n : ℕ). pick c.args.literal n 0) (literal_places_are (frame_of c.args.d (plan_of c.args.plan.now)) _ _ ((let it : c.number_at-m.result ≡ (plan_of c.args.plan.now).depth = c.number_at-m.ensures.0 in it)) c.requires.0.all)

-- so `ready` answers
answered : (c : After-ready) (s y : List ℕ) → let g = c in let a = g.args in length s ≡ a.places → length y ≡ a.width → c.ready.result ≡ ready_answer (frame_of g.args.d (plan_of g.args.plan.now)) a.state.phase (places17 a.literal (frame_of g.args.d (plan_of g.args.plan.now))) s y a.state.phase
unfolding frame_of plan_of
answered c s y es ey =
    let g = c in
    let a = g.args in
    let told : c.ready.result ≡ ready_answer (frame_of g.args.d (plan_of g.args.plan.now)) a.state.phase c.places_17-need.result s y a.state.phase = c.ready.ensures.answer s y es ey in
    told ∙ ap (λ (n : ℕ). ready_answer (frame_of g.args.d (plan_of g.args.plan.now)) a.state.phase n s y a.state.phase) ((let it : c.places_17-need.result ≡ places17 c.args.literal (frame_of c.args.d (plan_of c.args.plan.now)) = let g = c in c.places_17-need.ensures ∙ ap (pick g.args.literal 0) (emitter_places_are (frame_of g.args.d (plan_of g.args.plan.now)) _ _ ((let it : c.number_at-m.result ≡ (plan_of c.args.plan.now).depth = c.number_at-m.ensures.0 in it)) g.requires.0.all) in it))

-- grounds 16 and 17 are passed, and the number is N_D
passed : (c : In_ok-nd) (s y : List ℕ) → let a = c.args in let F = (frame_of c.args.d (plan_of c.args.plan.now)) in length s ≡ a.places → length y ≡ a.width
    → (Ok tt ≡ (ground16 F a.state.phase else ground17 F (places17 a.literal F) s y)) × (c.in_ok-nd.nd ≡ data_count F a.state.phase)
unfolding frame_of plan_of
passed c s y es ey =
    let a = c.args in
    ready_count (frame_of c.args.d (plan_of c.args.plan.now)) a.state.phase (places17 a.literal (frame_of c.args.d (plan_of c.args.plan.now))) s y a.state.phase _ (sym c.in_ok-nd.was
    ∙ c.ready.ensures.answer s y es ey
    ∙ ap (λ (n : ℕ). ready_answer (frame_of c.args.d (plan_of c.args.plan.now)) a.state.phase n s y a.state.phase)
    (let it : c.places_17-need.result ≡ places17 a.literal (frame_of a.d (plan_of a.plan.now)) =
    c.places_17-need.ensures
    ∙ ap (pick a.literal 0) (emitter_places_are (frame_of a.d (plan_of a.plan.now)) _ _ (let it : c.number_at-m.result ≡ (plan_of a.plan.now).depth = c.number_at-m.ensures.0 in it) c.requires.0.all)
    in it))

-- the subcarriers and flags are made
made : (c : In_ok-nd) → let last = c.ready.new in Made (frame_of c.args.d (plan_of c.args.plan.now)) c.args.state.phase last.car last.kc last.flag
made c =
    let last = c.ready.new in
    subst (λ (r : CountAnswer). MadeIf r (frame_of c.args.d (plan_of c.args.plan.now)) c.args.state.phase last.car last.kc last.flag) c.in_ok-nd.was c.ready.ensures.made

-- the flags are so many, in an array that is whole again
flags : (c : In_ok-nd) → length c.ready.new.flag ≡ c.args.n
flags c = c.ready.auto.flag ∙ part_size _ ((let it : c.args.n ≤ capacity = let r = c.requires.0 in omega (arith, r.all, cells_low c.args.d (plan_of c.args.plan.now) r.fits) in it))

whole : (c : In_ok-nd) → length (c.ready.new.flag ++ drop c.args.n (replicate capacity 0)) ≡ capacity
whole c = length_front (replicate capacity 0) c.ready.new.flag c.args.n c.ready.auto.flag ∙ length-replicate {A = ℕ} capacity 0

-- the same of the subcarriers of the cells
carried : (c : In_ok-nd) → length c.ready.new.kc ≡ c.args.n
carried c = c.ready.auto.kc ∙ part_size _ ((let it : c.args.n ≤ capacity = let r = c.requires.0 in omega (arith, r.all, cells_low c.args.d (plan_of c.args.plan.now) r.fits) in it))

all_carried : (c : In_ok-nd) → length (c.ready.new.kc ++ drop c.args.n (replicate capacity 0)) ≡ capacity
all_carried c = length_front (replicate capacity 0) c.ready.new.kc c.args.n c.ready.auto.kc ∙ length-replicate {A = ℕ} capacity 0

-- 27 is passed
fits_lines : (c : Else-places-lines) (s : List ℕ) → length s ≡ c.args.places → places27 c.args.literal (frame_of c.args.d (plan_of c.args.plan.now)) ≤ length s
unfolding frame_of plan_of
fits_lines c s es = omega (arith, es, (let it : c.places_27-lines.result ≡ places27 c.args.literal (frame_of c.args.d (plan_of c.args.plan.now)) = c.places_27-lines.ensures ∙ ap (λ (n : ℕ). pick c.args.literal n 0) (literal_places_are (frame_of c.args.d (plan_of c.args.plan.now)) _ _ ((let it : c.number_at-m.result ≡ (plan_of c.args.plan.now).depth = c.number_at-m.ensures.0 in it)) c.requires.0.all) in it), c.if-places-lines.false)

pub places_17-need-requires : goal.places_17-need-requires
unfolding frame_of
places_17-need-requires c =
    let m = deep (goal.at.places_17-need-requires c).After-number_at-m in
    let r = c.requires.0 in
    (omega (arith, m, r.deep), omega (arith, m, r.shallow), low (goal.at.places_17-need-requires c).Start)

pub places_27-lines-requires : goal.places_27-lines-requires
unfolding frame_of
places_27-lines-requires c =
    let m = deep (goal.at.places_27-lines-requires c).After-number_at-m in
    let r = c.requires.0 in
    (omega (arith, m, r.deep), omega (arith, m, r.shallow), low (goal.at.places_27-lines-requires c).Start)

pub slice_bounds-kc-end : goal.slice_bounds-kc-end
slice_bounds-kc-end c = low (goal.at.slice_bounds-kc-end c).Start

pub slice_bounds-ready-end-2 : goal.slice_bounds-ready-end-2
slice_bounds-ready-end-2 c = sym (part_size _ (low (goal.at.slice_bounds-ready-end-2 c).Start))

pub slice_bounds-flag-end : goal.slice_bounds-flag-end
slice_bounds-flag-end c = low (goal.at.slice_bounds-flag-end c).Start

pub slice_bounds-ready-end-3 : goal.slice_bounds-ready-end-3
slice_bounds-ready-end-3 c = sym (part_size _ (low (goal.at.slice_bounds-ready-end-3 c).Start))

pub ready-requires : goal.ready-requires
ready-requires c =
    let a = c.args in
    (subst (λ (n : ℕ). Ready a.d a.plan.now n a.marks.now) (sym (part_size a.n (low (goal.at.ready-requires c).Start))) c.requires.0, deep (goal.at.ready-requires c).After-number_at-m, λ h. omega (arith, h), c.requires.3, refl)

pub slice_bounds-fill_in-end : goal.slice_bounds-fill_in-end
slice_bounds-fill_in-end c = sym (all_carried (goal.at.slice_bounds-fill_in-end c).In_ok-nd)

pub slice_bounds-fill_in-end-2 : goal.slice_bounds-fill_in-end-2
slice_bounds-fill_in-end-2 c = sym (whole (goal.at.slice_bounds-fill_in-end-2 c).In_ok-nd)

pub slice_bounds-fill_in-end-3 : goal.slice_bounds-fill_in-end-3
slice_bounds-fill_in-end-3 c = long (goal.at.slice_bounds-fill_in-end-3 c).Start

pub slice_bounds-fill_in-end-4 : goal.slice_bounds-fill_in-end-4
slice_bounds-fill_in-end-4 c = sym (part (goal.at.slice_bounds-fill_in-end-4 c).Start)

pub fill_in-requires : goal.fill_in-requires
fill_in-requires c =
    let a = c.args in
    let all = c.requires.0.all in
    let number = (passed (goal.at.fill_in-requires c).In_ok-nd (replicate a.places 0) (replicate a.width 0) (length-replicate a.places 0) (length-replicate a.width 0)).1 in (
      c.requires.0.fits,
      unlisted (goal.at.fill_in-requires c).Start,
      part (goal.at.fill_in-requires c).Start ∙ all,
      omega (arith, part (goal.at.fill_in-requires c).Start, low (goal.at.fill_in-requires c).Start, all_carried (goal.at.fill_in-requires c).In_ok-nd),
      omega (arith, part (goal.at.fill_in-requires c).Start, low (goal.at.fill_in-requires c).Start, whole (goal.at.fill_in-requires c).In_ok-nd),
      λ p h. get_or-append c.ready.new.kc (drop a.n (replicate capacity 0)) 0 p (omega (arith, h, part (goal.at.fill_in-requires c).Start, carried (goal.at.fill_in-requires c).In_ok-nd)) ∙ (made (goal.at.fill_in-requires c).In_ok-nd).spots p (omega (arith, h, part (goal.at.fill_in-requires c).Start, all)),
      λ p h. get_or-append c.ready.new.flag (drop a.n (replicate capacity 0)) 0 p (omega (arith, h, all, flags (goal.at.fill_in-requires c).In_ok-nd)) ∙ (made (goal.at.fill_in-requires c).In_ok-nd).flags p h,
      number,
      c.requires.2,
    )

pub returns-then-places-lines : goal.returns-then-places-lines
returns-then-places-lines c store ds room es er t =
    let a = c.args in
    (by_lines a.literal a.d a.plan.now (at c.args.state store) (giving (given_by c.args.flushing ds) c.args.profile.now room) c.requires.0.fine (listed (goal.at.returns-then-places-lines c).Start ds) (passed (goal.at.returns-then-places-lines c).In_ok-nd store room es er).0 (omega (arith, es, needed_lines (goal.at.returns-then-places-lines c).After-places_27-lines, c.if-places-lines.true)), tt)

pub returns-in_err-nd : goal.returns-in_err-nd
returns-in_err-nd c store ds room es er t =
    let a = c.args in
    rw (passed_on _ c.from_residual.ensures) (
      by_lent a.literal a.d a.plan.now (at c.args.state store) (giving (given_by c.args.flushing ds) c.args.profile.now room) c.requires.0.fine (listed (goal.at.returns-in_err-nd c).Start ds) _ _
          (ready_refused (frame_of c.args.d (plan_of c.args.plan.now)) a.state.phase (places17 a.literal (frame_of c.args.d (plan_of c.args.plan.now))) store room a.state.phase _ _ (sym c.in_err-nd.was ∙ answered (goal.at.returns-in_err-nd c).After-ready store room es er)),
      tt,
    )

pub returns-in_err-fill_in : goal.returns-in_err-fill_in
returns-in_err-fill_in c store ds room es er t =
    rw (passed_on _ c.from_residual-in_err-fill_in.ensures) (
      by_given c.args.literal c.args.d c.args.plan.now (at c.args.state store) (giving (given_by c.args.flushing ds) c.args.profile.now room) c.requires.0.fine (listed (goal.at.returns-in_err-fill_in c).Start ds) (passed (goal.at.returns-in_err-fill_in c).In_ok-nd store room es er).0 (fits_lines (goal.at.returns-in_err-fill_in c).Else-places-lines store es) (refused_by _ _)
          (sym c.in_err-fill_in.was ∙ (c.fill_in.ensures ds t).0),
      tt,
    )

pub returns : goal.returns
returns c store ds room es er t =
    let all = c.requires.0.all in
    let x = c.fill_in in
    let told = c.in_ok-fill_in.was in (
      ap Ok all ∙ by_given c.args.literal c.args.d c.args.plan.now (at c.args.state store) (giving (given_by c.args.flushing ds) c.args.profile.now room) c.requires.0.fine (listed (goal.at.returns c).Start ds) (passed (goal.at.returns c).In_ok-nd store room es er).0 (fits_lines (goal.at.returns c).Else-places-lines store es) (Ok tt) (sym told ∙ (x.ensures ds t).0),
      record {
        ready = c.requires.0;
        whole = c.ready.auto.car ∙ c.requires.3;
        ranks = λ i h. (made (goal.at.returns c).In_ok-nd).ranks i (omega (arith, h, all));
        input = take_at x.new.x (drop c.args.n c.args.x.now) c.args.n (x.auto.x ∙ part (goal.at.returns c).Start) ∙ (x.ensures ds t).1 told;
      },
    )
