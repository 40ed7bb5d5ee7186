-- What holds where a check fails, and where it passes.
use Rattle.std.proofs.Common.{◌≡◌, None, Some, Result, Ok, Err, refl}
use Rattle.std.specs.Prelude.{IfErr, OnOk}
use Rattle.fs_rules.specs.Statuses.{Check}
use Rattle.fs_checks.specs.declared.status.Status.{Status}
use Rattle.fs_checks.specs.Verdict.{verdict}
use Rattle.fs_checks.proofs.FactsLemmas.{passed, failed}

pub if_err : (P : Status → Type 0) (k : Check) (r : Result (Unit {0}) Status) → r ≡ verdict k → ((s : Status) → k ≡ Some s.0 → P s) → IfErr r P
if_err P k (Ok u) is holds = tt
if_err P k (Err s) is holds = holds s (failed k (Err s) s is refl)

pub if_ok : (P Q : Type 0) (k : Check) (r : Result (Unit {0}) Status) → r ≡ verdict k → OnOk r Q → (k ≡ None → Q → P) → OnOk r P
if_ok P Q k (Ok u) is fact holds = holds (passed k (Ok u) u is refl) fact
if_ok P Q k (Err s) is fact holds = tt
