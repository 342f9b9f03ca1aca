-- `windows::first_window` meets its contract. The loop keeps that no band before band j has a full window. Assumes nothing.
use mathlib.Core.Path.{sym, ap, ◌∙◌}
use Rattle.limits.proofs.Searching.{search_start, search_found, search_passed}
use Rattle.windows.proofs.first_window.Goals as goal

pub loop-j-init : goal.loop-j-init
loop-j-init c = search_start

pub returns-in-Some : goal.returns-in-Some
returns-in-Some c =
    let k = c.band_at-k.ensures in
    search_found c.loop-j.invariant c.loop-j-test.true k.lowest k.highest (sym c.window_in.ensures ∙ c.in-Some.is)

pub loop-j-preserved : goal.loop-j-preserved
loop-j-preserved c =
    let k = c.band_at-k.ensures in
    search_passed c.loop-j.invariant c.loop-j-test.true k.lowest k.highest (sym c.window_in.ensures ∙ c.in_default.is)
