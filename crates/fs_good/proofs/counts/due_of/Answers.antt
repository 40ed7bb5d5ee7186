use Rattle.std.proofs.Common.{sym, ap, ◌∙◌}
use Rattle.fs_laws.proofs.WholeLemmas.{due_of}
use Rattle.fs_good.proofs.counts.due_of.Goals as goal

pub returns-in-Directory : goal.returns-in-Directory
returns-in-Directory c = c.due_of_directory.ensures ∙ ap (due_of c.args.number c.args.file.now) (sym c.in-Directory.is)
