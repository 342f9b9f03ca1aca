-- The sizes of a device whose accepted plans have a data cell at each phase. Assumes nothing.
use Rattle.std.specs.Prelude.{ℕ, ◌+◌, ◌*◌, ◌<◌, ◌≤◌, length}
use Rattle.rules.specs.declared.Device.{Device}
use Rattle.rules.specs.Device.{phases}
use Rattle.rules.specs.Grounds.{pilots_max}

-- A wide band holds a stretch of `turns` times 128 subcarriers, in which each phase scatters `turns`; `windows` long windows inside the stretch
-- cover it. In the stretch, those excluded, the PLC, the pilots, and those scattered at the phases at which one input symbol is sent leave a
-- subcarrier for data.
pub record Roomy (d : Device) : Type 0 where
  pub depth : d.depth_max ≤ phases
  pub turns : ℕ
  pub windows : ℕ
  pub wide : turns * phases ≤ d.band_wide
  pub inside : d.long_window ≤ turns * phases
  pub covered : turns * phases ≤ windows * d.long_window
  pub room : windows * d.long_max + d.plc_width + 2 * length d.distances + pilots_max + d.depth_max * turns < turns * phases
