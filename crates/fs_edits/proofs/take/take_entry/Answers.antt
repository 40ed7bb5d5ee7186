use Rattle.std.proofs.Common.{◌≡◌, [], ◌∷◌, Bool, true, false, cond, Some, sym, ap, ◌∙◌, rules}
use Rattle.std.specs.Prelude.{nat_lt}
use Rattle.std.specs.FinMap.{get}
use Rattle.fs_rules.specs.declared.file.File.{File}
use Rattle.fs_rules.specs.File.{is_directory}
use Rattle.fs_rules.specs.Edits.{Changed, Freed, edited}
use Rattle.fs_rules.specs.Names.{without_name, unlinked}
use Rattle.fs_edits.proofs.TakingLemmas.{unlinked_none, taken_as, can_take_as}
use Rattle.fs_edits.proofs.take.take_entry.Goals as goal

pub returns-then-has_other_names-clause-ok : goal.returns-then-has_other_names-clause-ok
returns-then-has_other_names-clause-ok c d f can =
    let t = c.args.tree.now in
    let n = c.args.number in
    let m = c.args.file in
    let now = c.args.now in
    let w = without_name now c.args.name.now d in
    let there : get t.files m ≡ Some c.in-Some.taken.now = search rules in
    let same : c.in-Some.taken.now ≡ f = let both = can.file in cc in
    let plain : is_directory f.content ≡ false = ap (λ (g : File). is_directory g.content) (sym same) ∙ sym c.is_directory.ensures ∙ c.if-is_directory.false in
    let many : nat_lt 1 f.links ≡ true = ap (λ (g : File). nat_lt 1 g.links) (sym same) ∙ sym c.has_other_names.ensures ∙ c.if-has_other_names.true in
    c.take_one.ensures d f (can_take_as t n m d f false plain can)
    ∙ ap (edited now t)
    (ap (λ (g : File). Changed n g ∷ Changed m (unlinked 1 f) ∷ []) (sym (unlinked_none w))
    ∙ ap (λ (b : Bool). Changed n (unlinked 0 w) ∷ cond b (Changed m (unlinked 1 f)) (Freed m f) ∷ []) (sym many)
    ∙ taken_as now n c.args.name.now d m f false plain)
