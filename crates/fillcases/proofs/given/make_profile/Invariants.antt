-- `fillcases::given::make_profile` meets its contract: the index stays one of eleven. Assumes nothing.
use Rattle.std.proofs.Common.{◌<◌}
use Rattle.fillcases.proofs.given.make_profile.Given as goal

abbrev pub invariant-loop-load : goal.invariant-loop-load
invariant-loop-load l = l.index < 11
