use Rattle.std.proofs.Common.{◌≡◌, ℕ, Option, Some, sym, ap, ◌∙◌, rules}
use Rattle.std.specs.Option.{option_map_or}
use Rattle.nfs_proto.specs.declared.answer.Answer.TheVariants.{Fault}
use Rattle.fs_rules.specs.Arguments.{file_of}
use Rattle.fs_rules.specs.Reading.{found_at, target, lookup_answer}
use Rattle.fs_rules.specs.Statuses.{first_failure, noent}
use Rattle.fs_tree.specs.Reading.{lookup_row}
use Rattle.fs_tree.proofs.AboutLemmas.{about_refused, about_answered}
use Rattle.fs_tree.proofs.lookup.lookup.Goals as goal

pub returns-in-Ok : goal.returns-in-Ok
unfolding lookup_answer
returns-in-Ok c =
    let t = c.args.tree.now in
    let d = c.in-Some.dir.now in
    let name = c.args.name.now in
    let cred = c.args.cred.now in
    let there : file_of t c.args.handle.now.0 ≡ Some d = search rules in
    let k = c.in-Ok.ensures {u = tt} in
    c.found_at.ensures
    ∙ sym (about_answered t c.args.handle.now.0 (λ n d. lookup_row n d name cred) (λ n d. lookup_answer t n d name) d there
    (ap (λ (n : ℕ). first_failure (lookup_row n d name cred)) (sym c.number_at.ensures) ∙ k.passes)
    ∙ ap (λ (o : Option ℕ). option_map_or (found_at t) o (Fault noent)) (ap (λ (n : ℕ). target n d name) (sym c.number_at.ensures) ∙ k.target))

pub returns-in-Err : goal.returns-in-Err
returns-in-Err c =
    let t = c.args.tree.now in
    let d = c.in-Some.dir.now in
    let name = c.args.name.now in
    let cred = c.args.cred.now in
    let there : file_of t c.args.handle.now.0 ≡ Some d = search rules in
    sym (about_refused t c.args.handle.now.0 (λ n d. lookup_row n d name cred) (λ n d. lookup_answer t n d name) d there c.in-Err.status.0
    (ap (λ (n : ℕ). first_failure (lookup_row n d name cred)) (sym c.number_at.ensures) ∙ (c.in-Err.ensures {u = tt}).fails))
