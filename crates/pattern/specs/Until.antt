-- When the scattered pattern stands on a subcarrier (document 01, "Roles of a subcarrier": it moves on by one subcarrier a phase, and
-- repeats after 128). Assumes nothing.
use Rattle.std.specs.Prelude.{ℕ, ◌+◌, ◌-◌, ◌%◌}
use Rattle.rules.specs.Device.{phases}

-- how many symbols on the pattern stands on subcarrier k, if now it stands on those that are base modulo 128
unfoldable pub symbols_until : ℕ → ℕ → ℕ
symbols_until base k = (k + (phases - base % phases)) % phases
