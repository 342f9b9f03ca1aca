-- `profiles::all_listed` meets its contract. The loads so far, joined, are 0 where all of them are listed. Assumes nothing.
use Rattle.profiles.proofs.Profiles.{Joined}
use Rattle.profiles.proofs.all_listed.Given as goal

abbrev pub invariant-loop-load : goal.invariant-loop-load
invariant-loop-load l = Joined l.profile l.some l.load-index
