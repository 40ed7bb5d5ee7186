use Rattle.std.proofs.Common.{◌≡◌, ◌≤◌, ◌+◌, ℕ, [], ◌∷◌, Some, refl, sym, ap, subst, ◌∙◌, arith}
use Rattle.std.specs.FinMap.{get}
use Rattle.fs_rules.specs.declared.file.File.{File}
use Rattle.fs_rules.specs.declared.kept.Kept.{Kept}
use Rattle.fs_rules.specs.File.{used}
use Rattle.fs_rules.specs.Edits.{Changed, Made, edited}
use Rattle.fs_rules.specs.Numbers.{kept_at}
use Rattle.fs_decisions.specs.Limits.{is_pick, made_limits}
use Rattle.fs_edits.specs.Giving.{receiving}
use Rattle.fs_tree.specs.NewFiles.{Makes, made_with}
use Rattle.fs_decisions.specs.Steps.{Fits}
use Rattle.fs_edits.proofs.PutLemmas.{one_file}
use Rattle.fs_tree.proofs.MakeLimitLemmas.{may_make, free_pick}
use Rattle.fs_tree.proofs.NewNameLemmas.{few_slots}
use Rattle.fs_tree.proofs.NewFileLemmas.{is_one, new_fits, new_limited, new_meets}
use Rattle.std.proofs.lemmas.Result.{err_from_is_err_and}
use Rattle.fs_tree.proofs.new_file.make_new.Goals as goal

pub overflow_add-links : goal.overflow_add-links
overflow_add-links c =
    let few : c.in-Some.dir.now.links ≤ 32000 = (c.requires.good.files c.args.parent c.in-Some.dir.now (sym (c.in-Some.ensures {u = tt}))).links in
    let one = c.requires.gained in
    omega (arith, few, one)

pub returns-in_err-number-clause-meets : goal.returns-in_err-number-clause-meets
returns-in_err-number-clause-meets c call other there makes start picked =
    let t = c.args.tree.now in
    let n = c.args.parent in
    let d = c.in-Some.dir.now in
    let live : get t.files n ≡ Some d = sym (c.in-Some.ensures {u = tt}) in
    let is = is_one t n d c.requires.there.0 c.requires.there.1 c.requires.there.2 live in
    let new = c.args.new in
    let made : Makes t call c.args.cred.now c.args.now n d c.args.name.now new =
    subst (λ (f : File). Makes t call c.args.cred.now c.args.now n f c.args.name.now new) (sym (one_file t n n other d refl there (c.in-Some.ensures {u = tt}))) makes in
    let p = err_from_is_err_and c.from_residual.result c.from_residual.ensures.1 in
    rw (p.1, p.2) (new_limited t call c.args.cred.now c.args.now n d c.args.name.now new made c.requires.good live is c.slots_with-slots.result
    (λ m. sym (c.slots_with-slots.ensures m is (few_slots t n d c.requires.good live is))) start c.args.pick picked c.in_err-number.field-0.0.0
    (ap (λ (u : ℕ). made_limits t d (d.links + new.gained) c.slots_with-slots.result u c.args.pick) (sym c.used.ensures) ∙ (c.in_err-number.ensures {u = tt}).err is))

pub made-file-requires-clause-generation : goal.made-file-requires-clause-generation
made-file-requires-clause-generation c =
    let t = c.args.tree.now in
    let n = c.args.parent in
    let d = c.in-Some.dir.now in
    let live : get t.files n ≡ Some d = sym (c.in-Some.ensures {u = tt}) in
    let is = is_one t n d c.requires.there.0 c.requires.there.1 c.requires.there.2 live in
    let new = c.args.new in
    let k = c.in_ok-number.ensures {u = tt} in
    let limits = ap (λ (u : ℕ). made_limits t d (d.links + new.gained) c.slots_with-slots.result u c.args.pick) (sym c.used.ensures) ∙ k.ok is in
    let may = may_make t d (d.links + new.gained) c.slots_with-slots.result (used new.content) c.args.pick k.rises limits in
    let free = free_pick t c.in_ok-number.number (ap (is_pick t) (sym k.pick) ∙ may.picked) in
    omega (arith, free.generation, ap (λ (k : Kept). k.generation) c.kept_at.ensures)

pub made-file-requires-clause-change : goal.made-file-requires-clause-change
made-file-requires-clause-change c =
    let t = c.args.tree.now in
    let n = c.args.parent in
    let d = c.in-Some.dir.now in
    let live : get t.files n ≡ Some d = sym (c.in-Some.ensures {u = tt}) in
    let is = is_one t n d c.requires.there.0 c.requires.there.1 c.requires.there.2 live in
    let new = c.args.new in
    let k = c.in_ok-number.ensures {u = tt} in
    let limits = ap (λ (u : ℕ). made_limits t d (d.links + new.gained) c.slots_with-slots.result u c.args.pick) (sym c.used.ensures) ∙ k.ok is in
    let may = may_make t d (d.links + new.gained) c.slots_with-slots.result (used new.content) c.args.pick k.rises limits in
    let free = free_pick t c.in_ok-number.number (ap (is_pick t) (sym k.pick) ∙ may.picked) in
    omega (arith, free.change, ap (λ (k : Kept). k.change) c.kept_at.ensures)

pub answer_of-answer-requires : goal.answer_of-answer-requires
answer_of-answer-requires c told = subst Fits (sym c.made-file.ensures) (new_fits c.kept_at.result c.args.now c.args.cred.now c.args.new (c.requires.small told))

pub make_file-requires-clause-room : goal.make_file-requires-clause-room
make_file-requires-clause-room c =
    let t = c.args.tree.now in
    let n = c.args.parent in
    let d = c.in-Some.dir.now in
    let live : get t.files n ≡ Some d = sym (c.in-Some.ensures {u = tt}) in
    let is = is_one t n d c.requires.there.0 c.requires.there.1 c.requires.there.2 live in
    let new = c.args.new in
    let k = c.in_ok-number.ensures {u = tt} in
    let limits = ap (λ (u : ℕ). made_limits t d (d.links + new.gained) c.slots_with-slots.result u c.args.pick) (sym c.used.ensures) ∙ k.ok is in
    let may = may_make t d (d.links + new.gained) c.slots_with-slots.result (used new.content) c.args.pick k.rises limits in
    let free = free_pick t c.in_ok-number.number (ap (is_pick t) (sym k.pick) ∙ may.picked) in
    let slots = c.slots_with-slots.ensures c.in_ok-number.number is (few_slots t n d c.requires.good live is) in
    (d, record { there = live; is = is; change = k.rises; slots = subst (λ (n : ℕ). n ≤ 7650) slots may.few_slots })

pub make_file-requires-clause-free : goal.make_file-requires-clause-free
make_file-requires-clause-free c =
    let t = c.args.tree.now in
    let n = c.args.parent in
    let d = c.in-Some.dir.now in
    let live : get t.files n ≡ Some d = sym (c.in-Some.ensures {u = tt}) in
    let is = is_one t n d c.requires.there.0 c.requires.there.1 c.requires.there.2 live in
    let new = c.args.new in
    let k = c.in_ok-number.ensures {u = tt} in
    let limits = ap (λ (u : ℕ). made_limits t d (d.links + new.gained) c.slots_with-slots.result u c.args.pick) (sym c.used.ensures) ∙ k.ok is in
    let may = may_make t d (d.links + new.gained) c.slots_with-slots.result (used new.content) c.args.pick k.rises limits in
    let free = free_pick t c.in_ok-number.number (ap (is_pick t) (sym k.pick) ∙ may.picked) in
    free.dead

pub returns-clause-meets : goal.returns-clause-meets
returns-clause-meets c call other there makes start picked =
    let t = c.args.tree.now in
    let n = c.args.parent in
    let d = c.in-Some.dir.now in
    let live : get t.files n ≡ Some d = sym (c.in-Some.ensures {u = tt}) in
    let is = is_one t n d c.requires.there.0 c.requires.there.1 c.requires.there.2 live in
    let new = c.args.new in
    let k = c.in_ok-number.ensures {u = tt} in
    let limits = ap (λ (u : ℕ). made_limits t d (d.links + new.gained) c.slots_with-slots.result u c.args.pick) (sym c.used.ensures) ∙ k.ok is in
    let may = may_make t d (d.links + new.gained) c.slots_with-slots.result (used new.content) c.args.pick k.rises limits in
    let free = free_pick t c.in_ok-number.number (ap (is_pick t) (sym k.pick) ∙ may.picked) in
    let m = c.in_ok-number.number in
    let made : Makes t call c.args.cred.now c.args.now n d c.args.name.now new =
    subst (λ (f : File). Makes t call c.args.cred.now c.args.now n f c.args.name.now new) (sym (one_file t n n other d refl there (c.in-Some.ensures {u = tt}))) makes in
    let file_is : c.made-file.result ≡ made_with (kept_at t m) c.args.now c.args.cred.now new =
    c.made-file.ensures ∙ ap (λ (k : Kept). made_with k c.args.now c.args.cred.now new) c.kept_at.ensures in
    new_meets t call c.args.cred.now c.args.now n d c.args.name.now new made c.requires.good live is c.slots_with-slots.result
    (λ m. sym (c.slots_with-slots.ensures m is (few_slots t n d c.requires.good live is))) start c.args.pick picked m c.make_file.new.tree c.made-file.result _
    free.dead k.pick limits file_is
    ((c.in_ok-make_file.ensures {u = tt}).ok d live
    ∙ ap (λ (g : File). edited c.args.now t (Changed n (receiving c.args.now c.args.name.now m (d.links + new.gained) d) ∷ Made m g ∷ [])) file_is)
    c.answer_of-answer.ensures refl
