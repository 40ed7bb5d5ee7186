-- What a check decides.
use Rattle.std.specs.Prelude.{Result, Ok, Err, Some, None}
use Rattle.fs_rules.specs.Statuses.{Check}
use Rattle.fs_checks.specs.declared.status.Status.{Status}

-- a check that fails is the error
abbrev pub verdict : Check → Result (Unit {0}) Status
verdict None = Ok tt
verdict (Some status) = Err (record { 0 = status })
