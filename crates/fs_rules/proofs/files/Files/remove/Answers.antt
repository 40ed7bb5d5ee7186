use Rattle.std.proofs.Common.{◌≡◌, ◌%◌, ◌^◌, ap, ◌∙◌, sym}
use Rattle.std.specs.Ordering.{nat_cmp}
use Rattle.std.specs.FinMap.{FinMap}
use Rattle.fs_rules.specs.declared.file.File.{File}
use Rattle.fs_rules.specs.Files.{used_by_files}
use Rattle.fs_rules.proofs.FilesLemmas.{without}
use Rattle.fs_rules.proofs.files.Files.remove.Goals as goal

pub invariant_of-self : goal.invariant_of-self
invariant_of-self c =
    without c.self.inside.table c.args.number c.self.inside.used c.used_by.result c.remove-before.result c.self.invariant c.remove-before.ensures.before c.used_by.ensures c.used_by.type_inv
    ∙ ap (λ (m : FinMap nat_cmp File). used_by_files m % 2 ^ 64) (sym c.remove-before.ensures.removed)
