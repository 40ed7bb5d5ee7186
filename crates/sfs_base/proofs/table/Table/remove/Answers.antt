use Rattle.std.proofs.Common.{sym, ap, ◌∙◌}
use Rattle.std.specs.FinMap.{get, remove}
use Rattle.sfs_base.proofs.TableLemmas.{get_entry, entry_removed}
use Rattle.sfs_base.proofs.table.Table.remove.Goals as goal

pub returns-clause-before : goal.returns-clause-before
returns-clause-before g c = c.remove.ensures.value ∙ sym (get_entry c.self.inside.entries.entries c.args.at) ∙ ap (λ m. get m c.args.at) c.self.view_is

pub returns-clause-removed : goal.returns-clause-removed
returns-clause-removed g c =
    entry_removed c.self.inside.entries.entries c.remove.new.self.entries c.args.at c.remove.ensures.updates.0 ∙ ap (λ m. remove m c.args.at) c.self.view_is
