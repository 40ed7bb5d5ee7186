-- What all files use together.
use Rattle.std.specs.Prelude.{ℕ, sum_by, Option}
use Rattle.std.specs.Ordering.{nat_cmp}
use Rattle.std.specs.Option.{option_map_or}
use Rattle.std.specs.FinMap as table
use Rattle.std.specs.FinMap.{FinMap}
use Rattle.fs_rules.specs.declared.file.File.{File}
use Rattle.fs_rules.specs.File.{used}

-- the blocks of the cluster that all these files use
abbrev pub used_by_files : FinMap nat_cmp File → ℕ
used_by_files files = sum_by (λ e. used e.1.content) (table.entries files)

-- those that one file uses, where there is one
abbrev pub used_by_one : Option File → ℕ
used_by_one file = option_map_or (λ f. used f.content) file 0
