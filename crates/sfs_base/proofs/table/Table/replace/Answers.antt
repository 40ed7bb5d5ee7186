use Rattle.std.proofs.Common.{Some, refl, sym, ap, ◌∙◌, subst}
use Rattle.std.specs.Prelude.{IsSome}
use Rattle.std.specs.FinMap.{get, insert}
use Rattle.sfs_base.proofs.TableLemmas.{get_entry, entry_put}
use Rattle.sfs_base.proofs.table.Table.replace.Goals as goal

pub returns-in_err-stood-clause-before : goal.returns-in_err-stood-clause-before
returns-in_err-stood-clause-before g c =
    c.from_residual.ensures ∙ c.in_err-stood.ensures.value ∙ sym (get_entry c.self.inside.entries.entries c.args.at) ∙ ap (λ m. get m c.args.at) c.self.view_is

pub returns-clause-before : goal.returns-clause-before
returns-clause-before g c =
    ap Some c.replace.ensures.value ∙ c.in_ok-stood.ensures.value ∙ sym (get_entry c.self.inside.entries.entries c.args.at) ∙ ap (λ m. get m c.args.at) c.self.view_is

pub returns-clause-some : goal.returns-clause-some
returns-clause-some g c =
    entry_put c.self.inside.entries.entries (c.get_mut.follows.lender c.replace.new.dest).entries c.args.at c.replace.new.dest
    ((c.get_mut.follows.holds c.replace.new.dest).3 (subst IsSome c.in_ok-stood.ensures.value refl)).0
    ∙ ap (λ m. insert m c.args.at c.replace.new.dest) c.self.view_is ∙ ap (insert c.args.self.now c.args.at) c.replace.ensures.after
