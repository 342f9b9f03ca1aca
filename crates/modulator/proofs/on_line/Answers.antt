-- `modulator::on_line` meets its contract: 22; a mark; past the marks 23; 23; a point. Assumes nothing.
use mathlib.Core.Path.{◌≡◌, refl, sym, ap, ◌∙◌}
use mathlib.Core.Bool.{true, false}
use Rattle.points.specs.Points.{load_listed}
use Rattle.points.proofs.BackLaws.{at_most}
use Rattle.modulator.specs.declared.OnLine.TheVariants.{Point}
use Rattle.std.specs.Prelude.{Ok}
use Rattle.modulator.specs.Lines.{line_from, unmarked, line_of, line_answer, near_line_answer}
use Rattle.modulator.proofs.LineLaws.{near_line_lem, below_marks, above_marks, at_marks, too_high}
use Rattle.scaling.proofs.NearLaws.{scaled_23, scaled_at}
use Rattle.modulator.proofs.on_line.Goals as goal
use Rattle.modulator.proofs.on_line.Goals.{Else-not-load_listed}

-- where the load has been tried, it is listed
tried : (c : Else-not-load_listed) → load_listed c.args.load ≡ true
tried c = sym c.load_listed.ensures ∙ c.if-not-load_listed.false

pub returns-then-not-load_listed : goal.returns-then-not-load_listed
unfolding line_answer
returns-then-not-load_listed c =
    let m = c.args.load in
    let t : load_listed m ≡ false = sym c.load_listed.ensures ∙ c.if-not-load_listed.true in
    record { answer = rw t refl; near = refl }

pub returns-then-cell-lt32773 : goal.returns-then-cell-lt32773
unfolding line_answer line_of
returns-then-cell-lt32773 c =
    let v = c.args.cell in
    let m = c.args.load in
    let s = c.args.minus in
    let t = tried (goal.at.returns-then-cell-lt32773 c).Else-not-load_listed in
    let e : Ok c.mark_line.result ≡ line_answer v m s = rw (t, at_marks v c.if-cell-ge32768.true c.if-cell-lt32773.true) (ap Ok c.mark_line.ensures) in
    record { answer = e; near = ap (near_line_answer v m) e ∙ near_line_lem v m s }

pub returns-then-cell-ge32768 : goal.returns-then-cell-ge32768
unfolding line_answer line_of unmarked
returns-then-cell-ge32768 c =
    let v = c.args.cell in
    let m = c.args.load in
    let t = tried (goal.at.returns-then-cell-ge32768 c).Else-not-load_listed in
    record { answer = rw (t, above_marks v c.if-cell-lt32773.false) (ap line_from (sym (scaled_23 m v t (too_high v m t c.if-cell-ge32768.true)))); near = refl }

pub power-requires : goal.power-requires
power-requires c =
    let m = c.args.load in
    let t = tried (goal.at.power-requires c).Else-not-load_listed in
    at_most m t

pub returns-then-power-value : goal.returns-then-power-value
unfolding line_answer line_of unmarked
returns-then-power-value c =
    let v = c.args.cell in
    let m = c.args.load in
    let t = tried (goal.at.returns-then-power-value c).Else-not-load_listed in
    record { answer = rw (t, below_marks v c.if-cell-ge32768.false) (ap line_from (sym (scaled_23 m v t (rw c.power.ensures at c.if-power-value.true)))); near = refl }

pub scaled_at-requires : goal.scaled_at-requires
scaled_at-requires c =
    let t = tried (goal.at.scaled_at-requires c).Else-not-load_listed in
    t

pub returns : goal.returns
unfolding line_answer line_of unmarked
returns c =
    let v = c.args.cell in
    let m = c.args.load in
    let s = c.args.minus in
    let t = tried (goal.at.returns c).Else-not-load_listed in
    let q = scaled_at m v t (rw c.power.ensures at c.if-power-value.false) in
    let e : Ok (Point c.scaled_at.result) ≡ line_answer v m s =
    rw (t, below_marks v c.if-cell-ge32768.false) (ap Ok (ap Point c.scaled_at.ensures) ∙ ap line_from (sym q)) in
    record { answer = e; near = ap (near_line_answer v m) e ∙ near_line_lem v m s }
