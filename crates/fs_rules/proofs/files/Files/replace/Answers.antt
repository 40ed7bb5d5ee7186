use Rattle.std.proofs.Common.{◌≡◌, ◌%◌, ◌^◌, ap, ◌∙◌, sym}
use Rattle.std.specs.Ordering.{nat_cmp}
use Rattle.std.specs.FinMap.{FinMap}
use Rattle.fs_rules.specs.declared.file.File.{File}
use Rattle.fs_rules.specs.Files.{used_by_files}
use Rattle.fs_rules.proofs.FilesLemmas.{with_file, on_some}
use Rattle.fs_rules.proofs.files.Files.replace.Goals as goal

pub invariant_of-self : goal.invariant_of-self
invariant_of-self c =
    with_file c.self.inside.table c.args.number c.self.inside.used c.used_by.result c.used-gained.result c.replace-before.result c.args.file c.self.invariant
    c.replace-before.ensures.before c.used_by.ensures c.used_by.type_inv c.used-gained.ensures
    ∙ ap (λ (m : FinMap nat_cmp File). used_by_files m % 2 ^ 64) (sym (on_some c.replace-before.result (sym c.is_some.ensures ∙ c.if-is_some.true) c.replace-before.ensures.some))
