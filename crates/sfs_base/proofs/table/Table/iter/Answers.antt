use Rattle.std.proofs.Common.{sym, ap, ◌∙◌}
use Rattle.std.specs.FinMap.{entries}
use Rattle.sfs_base.proofs.TableLemmas.{entries-from_entries}
use Rattle.sfs_base.proofs.table.Table.iter.Goals as goal

pub returns-clause-entries : goal.returns-clause-entries
returns-clause-entries g c =
    c.iter.ensures.rest ∙ sym (entries-from_entries c.self.inside.entries.entries c.self.invariant) ∙ ap (λ m. entries m) c.self.view_is
