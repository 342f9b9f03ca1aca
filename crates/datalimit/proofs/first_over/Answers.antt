-- `datalimit::first_over` meets its contract. Assumes nothing.
use Prim.Native.Nat.{◌+◌, ◌≤◌}
use mathlib.Core.Path.{◌≡◌, sym, ap, ◌∙◌}
use native.Mathlib.Omega.{arith}
use lib.ListN.{length, get_or}
use Rattle.counting.specs.Search.{count, is_zero}
use Rattle.counting.proofs.Laws.{count_le}
use Rattle.rules.specs.Loads.{load_limit}
use Rattle.datalimit.proofs.Over.{is_over, is_within, Input, none_over, all_within}
use Rattle.datalimit.proofs.first_over.Goals as goal
use Rattle.datalimit.proofs.first_over.Goals.{Start}

given : (start : Start) → Input start.args.profile.now start.args.flag.now start.args.x.now start.args.ds.now (length start.args.x.now)
given start = record { small = start.requires.4; all = start.requires.5; cells = start.requires.6 }

few : (start : Start) → length start.args.ds.now ≤ 4096
few start = omega (arith, start.requires.0, start.requires.5, count_le (is_zero start.args.flag.now) (length start.args.x.now))

pub within-requires : goal.within-requires
within-requires c = few (goal.at.within-requires c).Start

pub returns-then-wide-ds : goal.returns-then-wide-ds
returns-then-wide-ds c =
    let start = c in
    let a = start.args in
    let w = a.profile.now in
    let in_range = c.load_range-range.ensures in
    let one = c.if-range.true in
    let limit = c.limit_of.result in
    let all : count (is_within limit a.ds.now) (length a.ds.now) ≡ length a.ds.now = omega (arith, c.within.ensures, c.wide.ensures.0, c.if-wide-ds.true) in
    sym (all_within w a.kc.now a.flag.now a.x.now a.ds.now (length a.x.now) (given (goal.at.returns-then-wide-ds c).Start) limit
    (λ p h. let r = in_range (get_or a.kc.now p 0) (start.requires.3 p h) in ap load_limit (let e : get_or w (get_or a.kc.now p 0) 0 ≡ _ = omega (arith, r.0, r.1, one) in e) ∙ sym c.limit_of.ensures)
    all)

pub returns-then-wide-ds-2 : goal.returns-then-wide-ds-2
returns-then-wide-ds-2 c =
    let start = c in
    let a = start.args in
    let all : count (is_over a.profile.now a.kc.now a.x.now) (length a.x.now) + length a.ds.now ≡ length a.x.now = omega (arith, c.over_cells.ensures, c.wide-else-range.ensures.0, c.if-wide-ds-2.true) in
    sym (none_over a.profile.now a.kc.now a.flag.now a.x.now a.ds.now (length a.x.now) (given (goal.at.returns-then-wide-ds-2 c).Start) all)
