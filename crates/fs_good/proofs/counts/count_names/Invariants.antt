-- What was counted, with the names of the files that are left, is what is to be counted.
use Rattle.std.proofs.Common.{ℕ, ◌+◌}
use Rattle.std.specs.Prelude.{sum_by, count_by}
use Rattle.fs_rules.specs.File.{slots_of}
use Rattle.fs_rules.specs.Good.{names_file, naming_slots}
use Rattle.fs_good.specs.Counts.{IsCapped, count_in}
use Rattle.fs_good.proofs.counts.count_names.Given as goal

abbrev pub invariant-loop-file : goal.invariant-loop-file
invariant-loop-file l = (n : ℕ) → IsCapped (count_in l.counts n + sum_by (λ e. count_by (names_file n) (slots_of e.1.content)) l.file-iterator) (naming_slots l.tree n)
