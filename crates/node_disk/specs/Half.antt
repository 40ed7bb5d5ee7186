-- The two halves of a memory node's disk.
use Rattle.std.specs.Prelude.{ℕ, ◌+◌, ◌^◌}
use Rattle.disk_model.specs.Crash.{Content}
use Rattle.gate_log.specs.declared.side.Side.{Side}
use Rattle.gate_log.specs.declared.side.Side.TheVariants.{First, Second}
use Rattle.gate_log.specs.Boot.{side_of}
use Rattle.mem_rules.specs.declared.setup.Setup.{Setup}
use Rattle.mem_rules.specs.Fit.{size_of}

-- the half that is in use is the one that the selector names
abbrev pub half_of : Content → Side
half_of content = side_of (content 0)

-- where the image of a half lies
abbrev pub image_at : Setup → Side → ℕ
image_at s First = 4096
image_at s Second = 4096 + size_of s

-- where its log begins
abbrev pub log_at : Side → ℕ
log_at First = 2 ^ 32
log_at Second = 2 ^ 33
