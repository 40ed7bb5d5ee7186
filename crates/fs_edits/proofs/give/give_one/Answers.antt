use Rattle.std.proofs.Common.{◌≡◌, ℕ, List, Some, refl, sym, ap, ◌∙◌, rules}
use Rattle.std.specs.FinMap.{get}
use Rattle.sfs_base.proofs.MapLemmas.{get_past_insert}
use Rattle.fs_rules.specs.declared.file.File.{File}
use Rattle.fs_rules.specs.declared.plain_tree.PlainTree.{PlainTree}
use Rattle.fs_rules.specs.Edits.{Changed, changed_at, edit, edited}
use Rattle.fs_rules.specs.Making.{with_name, linked}
use Rattle.fs_edits.specs.Giving.{receiving}
use Rattle.fs_edits.proofs.PutLemmas.{one_file}
use Rattle.fs_edits.proofs.give.give_one.Goals as goal

pub add_link-requires : goal.add_link-requires
add_link-requires c =
    let t = c.args.tree.now in
    let d = c.requires.0 in
    let f = c.requires.1 in
    let can = c.requires.2 in (
      f,
      ap (λ (u : PlainTree). get u.files c.args.file) ((c.in_ok-put_entry.ensures {u = tt}).ok d can.dir)
          ∙ get_past_insert t.files c.args.number (changed_at c.args.now (receiving c.args.now c.in_ok-name.name c.args.file c.in-Some.dir.now.links d)) c.args.file can.apart
          ∙ can.file,
      can.file_can,
    )

pub returns-clause-ok : goal.returns-clause-ok
unfolding edited
returns-clause-ok c d f can =
    let t = c.args.tree.now in
    let now = c.args.now in
    let n = c.args.number in
    let m = c.args.file in
    let read : get t.files n ≡ Some c.in-Some.dir.now = search rules in
    let links : c.in-Some.dir.now.links ≡ d.links = ap (λ (g : File). g.links) (one_file t n n d c.in-Some.dir.now refl can.dir (sym read)) in
    let mid = (c.in_ok-put_entry.ensures {u = tt}).ok d can.dir in
    let there : get c.put_entry.new.tree.files m ≡ Some f =
    ap (λ (u : PlainTree). get u.files m) mid ∙ get_past_insert t.files n (changed_at now (receiving now c.in_ok-name.name m c.in-Some.dir.now.links d)) m can.apart ∙ can.file in
    c.add_link.ensures f there
    ∙ ap (λ (u : PlainTree). edit now u (Changed m (linked f)))
    (mid
    ∙ ap (λ (k : ℕ). edit now t (Changed n (receiving now c.in_ok-name.name m k d))) links
    ∙ ap (λ (name : List ℕ). edit now t (Changed n (with_name now name m d))) (c.in_ok-name.ensures {u = tt}))
