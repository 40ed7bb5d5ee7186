use Rattle.std.proofs.Common.{◌≡◌, ℕ, Some, sym, ap, ◌∙◌, rules}
use Rattle.fs_rules.specs.declared.file.File.{File}
use Rattle.fs_rules.specs.Arguments.{file_of}
use Rattle.fs_rules.specs.Reading.{read_dir_answer}
use Rattle.fs_checks.proofs.FactsLemmas.{list_looks, passed_of, failed_of}
use Rattle.fs_checks.specs.Rows.{read_dir_row}
use Rattle.fs_tree.proofs.AboutLemmas.{about_refused, about_answered, on_equal}
use Rattle.fs_tree.proofs.lookup.read_dir.Goals as goal

pub returns-in-Ok : goal.returns-in-Ok
returns-in-Ok c =
    let f = c.in-Some.dir.now in
    let there : file_of c.args.tree.now c.args.handle.now.0 ≡ Some f = search rules in
    on_equal c.names_of.result (read_dir_answer c.number_at.result f c.args.cookie c.args.count) _ c.names_of.ensures
    (ap (λ (n : ℕ). read_dir_answer n f c.args.cookie c.args.count) c.number_at.ensures
    ∙ sym (about_answered c.args.tree.now c.args.handle.now.0 (λ n f. read_dir_row f c.args.cred.now) (λ n f. read_dir_answer n f c.args.cookie c.args.count) f there
    (passed_of (λ (f : File). read_dir_row f c.args.cred.now) (list_looks c.args.cred.now) f c.of_file.result c.check_list.result c.of_file.ensures c.check_list.ensures _ c.in-Ok.is)))

pub returns-in-Err : goal.returns-in-Err
returns-in-Err c =
    let f = c.in-Some.dir.now in
    let there : file_of c.args.tree.now c.args.handle.now.0 ≡ Some f = search rules in
    sym (about_refused c.args.tree.now c.args.handle.now.0 (λ n f. read_dir_row f c.args.cred.now) (λ n f. read_dir_answer n f c.args.cookie c.args.count) f there c.in-Err.status.0
    (failed_of (λ (f : File). read_dir_row f c.args.cred.now) (list_looks c.args.cred.now) f c.of_file.result c.check_list.result c.of_file.ensures c.check_list.ensures c.in-Err.status c.in-Err.is))
