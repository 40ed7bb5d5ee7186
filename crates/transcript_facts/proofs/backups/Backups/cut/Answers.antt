use Rattle.std.proofs.Common.{◌≡◌, List, length, ◌<◌, ◌≤◌, sym, subst}
use Rattle.transcript_rules.specs.declared.backup.Backup.{Backup}
use Rattle.transcript_book.proofs.PostLemmas.{not_numbered}
use Rattle.transcript_facts.specs.Facts.{with_cut}
use Rattle.transcript_facts.proofs.backups.Backups.cut.Goals as goal

pub returns-in_default : goal.returns-in_default
returns-in_default c =
    let same : c.deref.result.now ≡ c.args.self.now = cc in
    sym (not_numbered c.args.self.now c.args.number (with_cut c.args.at) (subst (λ (xs : List Backup). 0 < c.args.number → c.args.number ≤ length xs → ⊥) same c.in_default.ensures.none))
