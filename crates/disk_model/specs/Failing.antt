-- The calls that fail.
use Rattle.std.specs.Prelude.{ℕ, List}
use Rattle.disk_model.specs.declared.failing.Failing.{Failing}

abbrev pub failing_of : Failing → List ℕ
failing_of failing = failing.calls.items
