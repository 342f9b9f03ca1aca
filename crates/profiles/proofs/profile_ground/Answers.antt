-- `profiles::profile_ground` meets its contract. Assumes nothing.
use mathlib.Core.Path.{sym, ap, ◌∙◌}
use mathlib.Core.Bool.{not}
use Rattle.std.specs.Prelude.{Some, None}
use lib.ListN.{length}
use Rattle.counting.proofs.Laws.{none_lowest}
use Rattle.rules.proofs.Loads.{is_unlisted, ground25_long, ground25_place}
use Rattle.profiles.proofs.profile_ground.Goals as goal

pub returns-then-profile-d : goal.returns-then-profile-d
returns-then-profile-d c = sym (ground25_long _ _ c.if-profile-d.true)

pub returns-then-all_listed : goal.returns-then-all_listed
returns-then-all_listed c =
    let a = c.args in
    let w = a.profile.now in
    sym (ground25_place a.d.subcarriers w None c.if-profile-d.false (sym (none_lowest (is_unlisted w) (length w) (λ k h. ap not (c.all_listed.ensures c.if-all_listed.true k h)))))

pub returns-in-Some : goal.returns-in-Some
returns-in-Some c =
    let a = c.args in
    sym (ground25_place a.d.subcarriers a.profile.now (Some _) c.if-profile-d.false ((sym c.in-Some.is) ∙ c.search_unlisted.ensures))

pub returns-in-None : goal.returns-in-None
returns-in-None c =
    let a = c.args in
    sym (ground25_place a.d.subcarriers a.profile.now None c.if-profile-d.false ((sym c.in-None.is) ∙ c.search_unlisted.ensures))
