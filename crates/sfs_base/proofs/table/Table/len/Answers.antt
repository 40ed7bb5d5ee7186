use Rattle.std.proofs.Common.{sym, ap, ◌∙◌}
use Rattle.std.specs.FinMap.{len}
use Rattle.sfs_base.proofs.TableLemmas.{len-from_entries}
use Rattle.sfs_base.proofs.table.Table.len.Goals as goal

pub returns-clause-len : goal.returns-clause-len
returns-clause-len g c = c.len.ensures.len ∙ sym (len-from_entries c.self.inside.entries.entries c.len.ensures.ordered) ∙ ap (λ m. len m) c.self.view_is
