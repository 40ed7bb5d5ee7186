-- That a call which changes two files meets the rules.
use Rattle.std.proofs.Common.{◌≡◌, ◌≢◌, ℕ, ◌+◌, false, [], ◌∷◌, Option, Some, None, refl, sym, ap, subst, ◌∙◌, arith, List, true, cond}
use Rattle.std.specs.Prelude.{IfSome, IfNone, nat_lt}
use Rattle.std.specs.Option.{option_map_or}
use Rattle.std.specs.FinMap.{get}
use Rattle.nfs_proto.specs.declared.answer.Answer.TheVariants.{Plain}
use Rattle.nfs_proto.specs.declared.call.Call.{Call}
use Rattle.nfs_proto.specs.declared.stamp.Stamp.{Stamp}
use Rattle.fs_rules.specs.declared.file.File.{File}
use Rattle.fs_rules.specs.declared.plain_tree.PlainTree.{PlainTree}
use Rattle.fs_rules.specs.Edits.{Edit, Changed, Made, Freed, changed_at, edited, first_made, is_made}
use Rattle.fs_rules.specs.Respond.{Responded, answer_of, decided}
use Rattle.fs_laws.proofs.EditLemmas.{number_of}
use Rattle.fs_laws.proofs.StepLemmas.{get_dir}
use Rattle.fs_tree.specs.declared.response.Response.{Response}
use Rattle.fs_tree.specs.declared.response.Change.{Change}
use Rattle.fs_tree.specs.Meets.{Meets}
use Rattle.nfs_proto.specs.declared.handle.Handle.{Handle}
use Rattle.fs_rules.specs.File.{is_directory}
use Rattle.fs_rules.specs.Names.{unlinked, loses_link}
use Rattle.fs_checks.specs.declared.removal.Removal.{Removal}
use Rattle.fs_checks.specs.declared.removal.Removal.TheVariants as removal
use Rattle.fs_edits.specs.Taking.{lost}
use Rattle.fs_decisions.specs.Removing.{removal_of}

none_made : (n : ℕ) (d' : File) (x : Edit) → is_made x ≡ false → first_made (Changed n d' ∷ x ∷ []) ≡ None
unfolding first_made
none_made n d' (Changed m f) made = refl
none_made n d' (Made m f) made = absurd cc
none_made n d' (Freed m f) made = refl

-- two edits of files, of which the first changes one, meet the rules
pub meets_two : (t new : PlainTree) (call : Call) (now : Stamp) (n : ℕ) (d d' : File) (x : Edit) (r : Responded) (response : Response)
    → get t.files n ≡ Some d → d'.change ≡ d.change → number_of x ≢ n → is_made x ≡ false
    → r ≡ decided None t call now (Changed n d' ∷ x ∷ [])
    → ((u : PlainTree) → answer_of u call ≡ Plain)
    → new ≡ edited now t (Changed n d' ∷ x ∷ [])
    → response.answer ≡ Plain → response.change ≡ Some (record { made = None })
    → Meets t r new response
meets_two t new call now n d d' x r response there same apart made is answers tree answer change =
    let es = Changed n d' ∷ x ∷ [] in
    let differs : new ≡ t → ⊥ = λ back.
    let both : ◌≡◌ {A = Option File} (Some (changed_at now d')) (Some d) =
    sym (get_dir now t n d' x apart) ∙ ap (λ (u : PlainTree). get u.files n) (sym tree ∙ back) ∙ there in
    let count : d'.change + 1 ≡ d.change = ap (λ (o : Option File). option_map_or (λ f. f.change) o 0) both in
    absurd (omega (arith, count, same)) in
    record {
      answer = answer ∙ sym (answers (edited now t es)) ∙ ap (λ (r : Responded). r.answer) (sym is);
      tree = tree ∙ ap (λ (r : Responded). r.tree) (sym is);
      changed = subst (λ (o : Option Change). IfSome o (λ c. (new ≢ t) × (c.made ≡ r.made))) (sym change) (differs, sym (none_made n d' x made) ∙ ap (λ (r : Responded). r.made) (sym is));
      unchanged = subst (λ (o : Option Change). IfNone o (new ≡ t)) (sym change) tt;
    }

-- ---- a name that is taken

number_loses : (m : ℕ) (f : File) → number_of (loses_link m f) ≡ m
number_loses m f = elim (nat_lt 1 f.links) as (λ b. number_of (cond b (Changed m (unlinked 1 f)) (Freed m f)) ≡ m) [ true ↦ refl | false ↦ refl ]

made_loses : (m : ℕ) (f : File) → is_made (loses_link m f) ≡ false
made_loses m f = elim (nat_lt 1 f.links) as (λ b. is_made (cond b (Changed m (unlinked 1 f)) (Freed m f)) ≡ false) [ true ↦ refl | false ↦ refl ]

-- the edit of its file
pub number_lost : (m : ℕ) (f : File) → number_of (lost m f) ≡ m
number_lost m f = elim (is_directory f.content) as (λ b. number_of (cond b (Freed m f) (loses_link m f)) ≡ m) [ true ↦ refl | false ↦ number_loses m f ]

pub made_lost : (m : ℕ) (f : File) → is_made (lost m f) ≡ false
made_lost m f = elim (is_directory f.content) as (λ b. is_made (cond b (Freed m f) (loses_link m f)) ≡ false) [ true ↦ refl | false ↦ made_loses m f ]

pub removal_answers : (r : Removal) (dir : Handle) (name : List ℕ) (u : PlainTree) → answer_of u (removal_of r dir name) ≡ Plain
removal_answers removal.File dir name u = refl
removal_answers removal.Directory dir name u = refl
