use Rattle.std.proofs.Common.{◌≡◌, ◌≤◌, ◌++◌, drop, length}
use Rattle.std.specs.List.{AllByRecursion}
use Rattle.nfs_proto.specs.Answers.{entries_spelling}
use Rattle.nfs_proto.proofs.answer_writer.write_entries.Given as goal

-- what is written and what is left to write are the whole
abbrev pub invariant-loop-entry : goal.invariant-loop-entry
invariant-loop-entry l = record {
  written : l.writer ++ entries_spelling (drop l.entry-index l.entries) ≡ l.fn.writer ++ entries_spelling l.entries;
  fits : AllByRecursion (λ e. length e.name ≤ 1024) (drop l.entry-index l.entries);
}
