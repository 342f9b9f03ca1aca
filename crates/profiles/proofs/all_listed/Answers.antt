-- `profiles::all_listed` meets its contract. The loads so far, joined, are 0 where all of them are listed. Assumes nothing.
use Rattle.profiles.proofs.Profiles.{joined_next}
use Rattle.profiles.proofs.all_listed.Goals as goal

pub loop-load-preserved : goal.loop-load-preserved
loop-load-preserved c =
    let l = c.loop-load in
    joined_next c.args.profile.now l.load-index l.some _ l.invariant c.unlisted-some.ensures
