-- The last grounds in checking order, from each of 9, 11 and 13 on: what the functions of this crate answer. Assumes nothing.
use Rattle.counting.specs.Search.{when}
use Rattle.rules.specs.declared.Device.{Device}
use Rattle.rules.specs.Refusals.{Finding}
use Rattle.rules.specs.Plan.{Plan}
use Rattle.rules.specs.Grounds.{◌else◌, ground?, narrow_band, no_wide_band, much_excluded, much_in_band, full_window}
use Rattle.ranked.specs.Ground15.{ground15}

unfoldable pub grounds13to15 : Device → Plan → Finding
grounds13to15 d p = ground? 13 (full_window d p d.long_window d.long_max) else ground? 14 (full_window d p d.short_window d.short_max) else ground15 d p

unfoldable pub grounds11to15 : Device → Plan → Finding
grounds11to15 d p = ground? 11 (when (much_excluded d p) 0) else ground? 12 (much_in_band d p) else grounds13to15 d p

unfoldable pub grounds9to15 : Device → Plan → Finding
grounds9to15 d p = ground? 9 (narrow_band d p) else ground? 10 (when (no_wide_band d p) 0) else grounds11to15 d p
