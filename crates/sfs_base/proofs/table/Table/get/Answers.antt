use Rattle.std.proofs.Common.{sym, ap, ◌∙◌}
use Rattle.std.specs.FinMap.{get}
use Rattle.sfs_base.proofs.TableLemmas.{get_entry}
use Rattle.sfs_base.proofs.table.Table.get.Goals as goal

pub returns : goal.returns
returns g c = c.get.ensures.value ∙ sym (get_entry c.self.inside.entries.entries c.args.at) ∙ ap (λ m. get m c.args.at) c.self.view_is
