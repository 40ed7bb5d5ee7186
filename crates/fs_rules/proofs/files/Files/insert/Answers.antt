use Rattle.std.proofs.Common.{◌≡◌, ◌%◌, ◌^◌, ap, ◌∙◌, sym}
use Rattle.std.specs.Ordering.{nat_cmp}
use Rattle.std.specs.FinMap.{FinMap}
use Rattle.fs_rules.specs.declared.file.File.{File}
use Rattle.fs_rules.specs.Files.{used_by_files}
use Rattle.fs_rules.proofs.FilesLemmas.{with_file}
use Rattle.fs_rules.proofs.files.Files.insert.Goals as goal

pub invariant_of-self-2 : goal.invariant_of-self-2
invariant_of-self-2 c =
    with_file c.self.inside.table c.args.number c.self.inside.used c.used_by.result c.used-gained.result c.in_ok-before.before c.args.file c.self.invariant
    ((c.in_ok-before.ensures {u = tt}).before) c.used_by.ensures c.used_by.type_inv c.used-gained.ensures
    ∙ ap (λ (m : FinMap nat_cmp File). used_by_files m % 2 ^ 64) (sym ((c.in_ok-before.ensures {u = tt}).ok))
