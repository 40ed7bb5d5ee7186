use Rattle.std.proofs.Common.{sym, ap, ◌∙◌}
use Rattle.std.specs.FinMap.{get, insert}
use Rattle.sfs_base.proofs.TableLemmas.{get_entry, entry_put, on_err}
use Rattle.sfs_base.proofs.table.Table.insert.Goals as goal

pub returns-clause-before : goal.returns-clause-before
returns-clause-before g c = c.in_ok-insert.ensures.old ∙ sym (get_entry c.self.inside.entries.entries c.args.at) ∙ ap (λ m. get m c.args.at) c.self.view_is

pub returns-clause-ok : goal.returns-clause-ok
returns-clause-ok g c =
    entry_put c.self.inside.entries.entries c.insert.new.self.entries c.args.at c.args.value c.in_ok-insert.ensures.updates.0
    ∙ ap (λ m. insert m c.args.at c.args.value) c.self.view_is

pub returns-in_err-insert-clause-absent : goal.returns-in_err-insert-clause-absent
returns-in_err-insert-clause-absent g c =
    on_err c.from_residual.result (sym (ap (λ m. get m c.args.at) c.self.view_is) ∙ get_entry c.self.inside.entries.entries c.args.at ∙ c.in_err-insert.ensures.absent)
