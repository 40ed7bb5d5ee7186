-- What was added, with what the files that are left use, is what all use.
use Rattle.std.proofs.Common.{◌+◌}
use Rattle.std.specs.Prelude.{sum_by}
use Rattle.fs_rules.specs.File.{used}
use Rattle.fs_rules.specs.Numbers.{used_in_all}
use Rattle.fs_good.specs.Counts.{IsCapped}
use Rattle.fs_good.proofs.shape.used_up_to_cap.Given as goal

abbrev pub invariant-loop-file : goal.invariant-loop-file
invariant-loop-file l = IsCapped (l.used + sum_by (λ e. used e.1.content) l.file-iterator) (used_in_all l.tree)
