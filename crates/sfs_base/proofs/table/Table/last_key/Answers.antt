use Rattle.std.proofs.Common.{◌-◌, ap, ◌∙◌}
use Rattle.std.specs.Prelude.{slice_get}
use Rattle.std.specs.FinMap.{keys, len}
use Rattle.sfs_base.proofs.TableLemmas.{last_there, last_absent, no_entry}
use Rattle.sfs_base.proofs.table.Table.last_key.Goals as goal

pub returns-in_err-at : goal.returns-in_err-at
returns-in_err-at g c =
    c.from_residual.ensures ∙ last_absent c.self.inside.entries.entries (no_entry _ (c.in_err-at.ensures {u = tt}).variant)
    ∙ ap (λ m. slice_get (keys m) (len m - 1)) c.self.view_is

pub returns : goal.returns
returns g c =
    last_there c.self.inside.entries.entries (c.in_ok-at.at.now, c.in_ok-at.field-0-1.now) c.self.invariant (c.in_ok-at.ensures {u = tt}).last
    ∙ ap (λ m. slice_get (keys m) (len m - 1)) c.self.view_is
