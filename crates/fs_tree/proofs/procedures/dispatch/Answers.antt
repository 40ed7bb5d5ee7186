use Rattle.std.proofs.Common.{◌≡◌, ◌≤◌, ℕ, List, length, sym, ap, subst, ◌∙◌}
use Rattle.nfs_proto.specs.declared.answer.Answer.TheVariants.{Empty}
use Rattle.nfs_proto.specs.declared.call.Call.{Call}
use Rattle.nfs_proto.specs.declared.call.Call.TheVariants.{Create, SymLink, MakeDir, Rename, Write, Link, Remove, RemoveDir}
use Rattle.nfs_proto.specs.Arguments.{IsFit}
use Rattle.fs_rules.specs.Respond.{respond, IsPick}
use Rattle.fs_rules.specs.Reading.{lookup_answer}
use Rattle.fs_tree.specs.Reading.{answer_about, lookup_row}
use Rattle.fs_tree.specs.Meets.{Ends}
use Rattle.fs_tree.proofs.RespondLemmas.{respond-get_attr, respond-stat_fs, respond-read_link, respond-read, respond-lookup, respond-read_dir}
use Rattle.fs_tree.proofs.BuiltLemmas.{respond-nothing}
use Rattle.fs_tree.proofs.MeetsLemmas.{meets_told}
use Rattle.fs_tree.proofs.procedures.dispatch.Goals as goal

pub returns-in-GetAttr-clause-meets : goal.returns-in-GetAttr-clause-meets
returns-in-GetAttr-clause-meets c start pick =
    meets_told c.args.tree.now _ _ c.told.result
    (ap (λ (k : Call). respond c.args.tree.now k c.args.cred.now c.args.now start) c.in-GetAttr.is ∙ respond-get_attr c.args.tree.now c.in-GetAttr.file c.args.cred.now c.args.now start)
    (c.told.ensures.answer ∙ c.get_attr.ensures) c.told.ensures.change

pub returns-in_ok-read_link-in-ReadLink-clause-meets : goal.returns-in_ok-read_link-in-ReadLink-clause-meets
returns-in_ok-read_link-in-ReadLink-clause-meets c start pick =
    meets_told c.args.tree.now _ _ c.told-in-ReadLink.result
    (ap (λ (k : Call). respond c.args.tree.now k c.args.cred.now c.args.now start) c.in-ReadLink.is ∙ respond-read_link c.args.tree.now c.in-ReadLink.file c.args.cred.now c.args.now start)
    (c.told-in-ReadLink.ensures.answer ∙ c.in_ok-read_link-in-ReadLink.ensures {u = tt}) c.told-in-ReadLink.ensures.change

pub returns-in_ok-read-in-Read-clause-meets : goal.returns-in_ok-read-in-Read-clause-meets
returns-in_ok-read-in-Read-clause-meets c start pick =
    meets_told c.args.tree.now _ _ c.told-in-Read.result
    (ap (λ (k : Call). respond c.args.tree.now k c.args.cred.now c.args.now start) c.in-Read.is
    ∙ respond-read c.args.tree.now c.in-Read.file c.in-Read.offset c.in-Read.count c.in-Read.total c.args.cred.now c.args.now start)
    (c.told-in-Read.ensures.answer ∙ c.in_ok-read-in-Read.ensures {u = tt}) c.told-in-Read.ensures.change

pub returns-in-StatFs-clause-meets : goal.returns-in-StatFs-clause-meets
returns-in-StatFs-clause-meets c start pick =
    meets_told c.args.tree.now _ _ c.told-in-StatFs.result
    (ap (λ (k : Call). respond c.args.tree.now k c.args.cred.now c.args.now start) c.in-StatFs.is ∙ respond-stat_fs c.args.tree.now c.in-StatFs.file c.args.cred.now c.args.now start)
    (c.told-in-StatFs.ensures.answer ∙ c.stat_fs.ensures) c.told-in-StatFs.ensures.change

pub returns-in-Null-clause-meets : goal.returns-in-Null-clause-meets
returns-in-Null-clause-meets c start pick =
    meets_told c.args.tree.now _ Empty c.told-in-Null.result
    (respond-nothing c.args.tree.now c.args.call.now c.args.cred.now c.args.now start c.in-Null.is)
    c.told-in-Null.ensures.answer c.told-in-Null.ensures.change

pub returns-in-Create-clause-meets : goal.returns-in-Create-clause-meets
returns-in-Create-clause-meets c start =
    let t = c.args.tree.now in
    let P : Call → Type 0 = λ k. IsPick t k c.args.cred.now c.args.now start c.args.pick → Ends t (respond t k c.args.cred.now c.args.now start) c.create.new.tree c.create.result in
    subst P (sym c.in-Create.is) (subst (λ (name : List ℕ). P (Create c.in-Create.dir name c.in-Create.set)) c.as_slice-in-Create.ensures.value (c.create.ensures.meets start))

pub returns-in-Rename-clause-meets : goal.returns-in-Rename-clause-meets
returns-in-Rename-clause-meets c start pick =
    let t = c.args.tree.now in
    let P : Call → Type 0 = λ k. Ends t (respond t k c.args.cred.now c.args.now start) c.rename.new.tree c.rename.result in
    subst P (sym c.in-Rename.is)
    (subst (λ (to_name : List ℕ). P (Rename c.in-Rename.from c.in-Rename.from_name c.in-Rename.to to_name)) c.as_slice-in-Rename-2.ensures.value
    (subst (λ (name : List ℕ). P (Rename c.in-Rename.from name c.in-Rename.to c.as_slice-in-Rename-2.result.now)) c.as_slice-in-Rename.ensures.value (c.rename.ensures.meets start)))

pub returns-in-MakeDir-clause-meets : goal.returns-in-MakeDir-clause-meets
returns-in-MakeDir-clause-meets c start =
    let t = c.args.tree.now in
    let P : Call → Type 0 = λ k. IsPick t k c.args.cred.now c.args.now start c.args.pick → Ends t (respond t k c.args.cred.now c.args.now start) c.make_dir.new.tree c.make_dir.result in
    subst P (sym c.in-MakeDir.is) (subst (λ (name : List ℕ). P (MakeDir c.in-MakeDir.dir name c.in-MakeDir.set)) c.as_slice-in-MakeDir.ensures.value (c.make_dir.ensures.meets start))

pub sym_link-requires-clause-few : goal.sym_link-requires-clause-few
sym_link-requires-clause-few c =
    let fits : IsFit (SymLink c.in-SymLink.dir c.in-SymLink.name c.in-SymLink.path c.in-SymLink.set) = subst IsFit c.in-SymLink.is c.requires.fits in
    subst (λ (path : List ℕ). length path ≤ 1024) (sym c.as_slice-in-SymLink-2.ensures.value) fits.1

pub returns-in-SymLink-clause-meets : goal.returns-in-SymLink-clause-meets
returns-in-SymLink-clause-meets c start =
    let t = c.args.tree.now in
    let P : Call → Type 0 = λ k. IsPick t k c.args.cred.now c.args.now start c.args.pick → Ends t (respond t k c.args.cred.now c.args.now start) c.sym_link.new.tree c.sym_link.result in
    subst P (sym c.in-SymLink.is)
    (subst (λ (path : List ℕ). P (SymLink c.in-SymLink.dir c.in-SymLink.name path c.in-SymLink.set)) c.as_slice-in-SymLink-2.ensures.value
    (subst (λ (name : List ℕ). P (SymLink c.in-SymLink.dir name c.as_slice-in-SymLink-2.result.now c.in-SymLink.set)) c.as_slice-in-SymLink.ensures.value (c.sym_link.ensures.meets c.in-SymLink.set start)))

pub returns-in-SetAttr-clause-meets : goal.returns-in-SetAttr-clause-meets
returns-in-SetAttr-clause-meets c start pick =
    subst (λ (k : Call). Ends c.args.tree.now (respond c.args.tree.now k c.args.cred.now c.args.now start) c.set_attr.new.tree c.set_attr.result) (sym c.in-SetAttr.is) (c.set_attr.ensures.meets start)

pub returns-in-Lookup-clause-meets : goal.returns-in-Lookup-clause-meets
returns-in-Lookup-clause-meets c start pick =
    let t = c.args.tree.now in
    let cred = c.args.cred.now in
    let told : c.lookup.result ≡ answer_about t c.in-Lookup.dir.0 (λ n d. lookup_row n d c.in-Lookup.name cred) (λ n d. lookup_answer t n d c.in-Lookup.name) =
    subst (λ (name : List ℕ). c.lookup.result ≡ answer_about t c.in-Lookup.dir.0 (λ n d. lookup_row n d name cred) (λ n d. lookup_answer t n d name)) c.as_slice.ensures.value c.lookup.ensures in
    meets_told t _ _ c.told-in-Lookup.result
    (ap (λ (k : Call). respond t k cred c.args.now start) c.in-Lookup.is ∙ respond-lookup t c.in-Lookup.dir c.in-Lookup.name cred c.args.now start)
    (c.told-in-Lookup.ensures.answer ∙ told) c.told-in-Lookup.ensures.change

pub returns-in_ok-read_dir-in-ReadDir-clause-meets : goal.returns-in_ok-read_dir-in-ReadDir-clause-meets
returns-in_ok-read_dir-in-ReadDir-clause-meets c start pick =
    let t = c.args.tree.now in
    meets_told t _ _ c.told-in-ReadDir.result
    (ap (λ (k : Call). respond t k c.args.cred.now c.args.now start) c.in-ReadDir.is
    ∙ respond-read_dir t c.in-ReadDir.dir c.in-ReadDir.cookie c.in-ReadDir.count c.args.cred.now c.args.now start)
    (c.told-in-ReadDir.ensures.answer ∙ c.in_ok-read_dir-in-ReadDir.ensures {u = tt}) c.told-in-ReadDir.ensures.change

pub returns-in-Write-clause-meets : goal.returns-in-Write-clause-meets
returns-in-Write-clause-meets c start pick =
    let t = c.args.tree.now in
    let P : Call → Type 0 = λ k. Ends t (respond t k c.args.cred.now c.args.now start) c.write.new.tree c.write.result in
    subst P (sym c.in-Write.is)
    (subst (λ (bytes : List ℕ). P (Write c.in-Write.file c.in-Write.begin c.in-Write.offset c.in-Write.total bytes)) c.as_slice-in-Write.ensures.value (c.write.ensures.meets c.in-Write.begin c.in-Write.total start))

pub returns-in-Link-clause-meets : goal.returns-in-Link-clause-meets
returns-in-Link-clause-meets c start pick =
    let t = c.args.tree.now in
    let P : Call → Type 0 = λ k. Ends t (respond t k c.args.cred.now c.args.now start) c.link.new.tree c.link.result in
    subst P (sym c.in-Link.is) (subst (λ (name : List ℕ). P (Link c.in-Link.file c.in-Link.dir name)) c.as_slice-in-Link.ensures.value (c.link.ensures.meets start))

pub returns-in-Remove-clause-meets : goal.returns-in-Remove-clause-meets
returns-in-Remove-clause-meets c start pick =
    let t = c.args.tree.now in
    let P : Call → Type 0 = λ k. Ends t (respond t k c.args.cred.now c.args.now start) c.remove.new.tree c.remove.result in
    subst P (sym c.in-Remove.is) (subst (λ (name : List ℕ). P (Remove c.in-Remove.dir name)) c.as_slice-in-Remove.ensures.value (c.remove.ensures.meets start))

pub returns-in-RemoveDir-clause-meets : goal.returns-in-RemoveDir-clause-meets
returns-in-RemoveDir-clause-meets c start pick =
    let t = c.args.tree.now in
    let P : Call → Type 0 = λ k. Ends t (respond t k c.args.cred.now c.args.now start) c.remove-in-RemoveDir.new.tree c.remove-in-RemoveDir.result in
    subst P (sym c.in-RemoveDir.is) (subst (λ (name : List ℕ). P (RemoveDir c.in-RemoveDir.dir name)) c.as_slice-in-RemoveDir.ensures.value (c.remove-in-RemoveDir.ensures.meets start))
