-- Ground 15, the last in checking order. Assumes nothing.
use Rattle.counting.specs.Search.{when}
use Rattle.rules.specs.declared.Device.{Device}
use Rattle.rules.specs.Refusals.{Finding}
use Rattle.rules.specs.Plan.{Plan}
use Rattle.rules.specs.Grounds.{ground?, many_ranked}

unfoldable pub ground15 : Device → Plan → Finding
ground15 d p = ground? 15 (when (many_ranked d p) 0)
