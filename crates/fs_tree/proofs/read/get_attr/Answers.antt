use Rattle.std.proofs.Common.{◌≡◌, Option, Some, ap, sym, ◌∙◌, rules}
use Rattle.std.specs.Option.{option_map_or}
use Rattle.nfs_proto.specs.declared.answer.Answer.TheVariants.{Fault, Attr}
use Rattle.fs_rules.specs.declared.file.File.{File}
use Rattle.fs_rules.specs.Handle.{number_in}
use Rattle.fs_rules.specs.File.{fattr_of}
use Rattle.fs_rules.specs.Arguments.{file_of}
use Rattle.fs_rules.specs.Statuses.{stale, first_failure}
use Rattle.fs_decisions.specs.Steps.{Fits}
use Rattle.fs_tree.proofs.read.get_attr.Goals as goal

pub returns-in-Some : goal.returns-in-Some
unfolding first_failure
returns-in-Some c =
    let there : file_of c.args.tree.now c.args.handle.now.0 ≡ Some c.in-Some.file.now = search rules in
    let fits : Fits c.in-Some.file.now = search rules in
    let told : c.fattr.result ≡ fattr_of c.number_at.result c.in-Some.file.now = c.fattr.ensures fits.mode fits.room in
    ap Attr (told ∙ ap (λ n. fattr_of n c.in-Some.file.now) c.number_at.ensures)
    ∙ ap (λ (o : Option File). option_map_or (λ f. Attr (fattr_of (number_in c.args.handle.now.0) f)) o (Fault stale)) (sym there)
