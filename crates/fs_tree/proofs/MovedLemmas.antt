-- That RENAME meets the rules.
use Rattle.std.proofs.Common.{◌≡◌, ◌≢◌, inl, inr, ℕ, ◌+◌, Bool, false, cond, List, [], ◌∷◌, ◌++◌, Option, Some, None, sym, ap, subst, ◌∙◌, arith}
use Rattle.std.specs.Prelude.{IfSome, IfNone}
use Rattle.std.specs.Option.{option_map_or}
use Rattle.std.specs.Ordering.{nat_cmp}
use Rattle.std.specs.FinMap.{FinMap, get}
use Rattle.std.proofs.lemmas.List.{append_assoc}
use Rattle.sfs_base.proofs.MapLemmas.{get_past_insert, get_past_remove}
use Rattle.nfs_proto.specs.declared.answer.Answer.TheVariants.{Plain}
use Rattle.nfs_proto.specs.declared.call.Call.{Call}
use Rattle.nfs_proto.specs.declared.stamp.Stamp.{Stamp}
use Rattle.fs_rules.specs.declared.file.File.{File}
use Rattle.fs_rules.specs.declared.plain_tree.PlainTree.{PlainTree}
use Rattle.fs_rules.specs.Edits.{Edit, Changed, Freed, changed_at, edited, first_made}
use Rattle.fs_rules.specs.Names.{Move, is_same, directory_edits, replaced_edits, move_edits, with_parent, unlinked}
use Rattle.fs_rules.specs.Respond.{Responded, answer_of, decided}
use Rattle.fs_tree.specs.declared.response.Response.{Response}
use Rattle.fs_tree.specs.declared.response.Change.{Change}
use Rattle.fs_edits.specs.declared.plan.Plan.{Plan}
use Rattle.fs_edits.specs.declared.replaced.Replaced.{Replaced}
use Rattle.fs_edits.specs.declared.replaced.Replaced.TheVariants.{Nothing, LosesLink, IsFreed}
use Rattle.fs_tree.specs.Meets.{Meets}
use Rattle.fs_edits.specs.Moving.{moved_edits, CanMove, CanReplace}
use Rattle.fs_edits.proofs.MovingLemmas.{edited_append, edited_one, one_or_two, moved_there, over_link, over_nothing}

-- none of its edits makes a file
no_made : (now : Stamp) (files : FinMap nat_cmp File) (m : Move) (p : Replaced) → CanReplace files m p → first_made (moved_edits now m ++ replaced_edits m) ≡ None
unfolding first_made
no_made now files m p can = elim (one_or_two now m) [
  | inl one ↦ ap (λ (es : List Edit). first_made ((es ++ (Changed m.source (record m.source_file { content = with_parent m.to m.source_file.content }) ∷ [])) ++ replaced_edits m)) one.1 ∙ tail p can
  | inr two ↦ ap (λ (es : List Edit). first_made ((es ++ (Changed m.source (record m.source_file { content = with_parent m.to m.source_file.content }) ∷ [])) ++ replaced_edits m)) two.2 ∙ tail p can
] where
  tail : (p : Replaced) → CanReplace files m p → first_made (replaced_edits m) ≡ None
  tail Nothing can = ap first_made can
  tail (LosesLink n) can = ap first_made can.6
  tail (IsFreed n) can = ap first_made can.6

-- the file that is moved was changed
source_after : (now : Stamp) (t : PlainTree) (m : Move) (p : Replaced) → CanReplace t.files m p
    → get (edited now t (moved_edits now m ++ replaced_edits m)).files m.source ≡ Some (changed_at now (record m.source_file { content = with_parent m.to m.source_file.content }))
source_after now t m p can = go p can where
  go : (p : Replaced) → CanReplace t.files m p → get (edited now t (moved_edits now m ++ replaced_edits m)).files m.source ≡ Some (changed_at now (record m.source_file { content = with_parent m.to m.source_file.content }))
  go Nothing can = ap (λ (x : PlainTree). get x.files m.source) (over_nothing now t m can) ∙ moved_there now t m
  go (LosesLink n) can =
      ap (λ (x : PlainTree). get x.files m.source) (over_link now t m n can.0 can.6)
      ∙ get_past_insert (edited now t (moved_edits now m)).files n (changed_at now (unlinked 1 can.0)) m.source (λ same. can.4 (sym same)) ∙ moved_there now t m
  go (IsFreed n) can =
      ap (λ (x : PlainTree). get x.files m.source)
      (ap (λ (es : List Edit). edited now t (moved_edits now m ++ es)) can.6 ∙ edited_append now t (moved_edits now m) (Freed n can.0 ∷ []) ∙ edited_one now (edited now t (moved_edits now m)) (Freed n can.0))
      ∙ get_past_remove (edited now t (moved_edits now m)).files n m.source (λ same. can.4 (sym same)) ∙ moved_there now t m

-- the edits in one row
row_is : (now : Stamp) (m : Move) → is_same m ≡ false → move_edits now m ≡ moved_edits now m ++ replaced_edits m
unfolding move_edits
row_is now m other =
    ap (λ (b : Bool). cond b [] (directory_edits now m ++ (Changed m.source (record m.source_file { content = with_parent m.to m.source_file.content }) ∷ replaced_edits m))) other
    ∙ sym (append_assoc (directory_edits now m) (Changed m.source (record m.source_file { content = with_parent m.to m.source_file.content }) ∷ []) (replaced_edits m))

pub meets_moved : (t new : PlainTree) (call : Call) (now : Stamp) (m : Move) (p : Plan) (from_name to_name : List ℕ) (r : Responded) (response : Response)
    → CanMove t.files p m from_name to_name → CanReplace t.files m p.replaced → is_same m ≡ false
    → r ≡ decided None t call now (move_edits now m)
    → ((u : PlainTree) → answer_of u call ≡ Plain)
    → new ≡ edited now t (moved_edits now m ++ replaced_edits m)
    → response.answer ≡ Plain → response.change ≡ Some (record { made = None })
    → Meets t r new response
meets_moved t new call now m p from_name to_name r response can replacing other is answers tree answer change =
    let es = moved_edits now m ++ replaced_edits m in
    let row : r ≡ decided None t call now es = is ∙ ap (λ (es : List Edit). decided None t call now es) (row_is now m other) in
    let turned : File = record m.source_file { content = with_parent m.to m.source_file.content } in
    let differs : new ≡ t → ⊥ = λ back.
    let both : ◌≡◌ {A = Option File} (Some (changed_at now turned)) (Some m.source_file) =
    sym (source_after now t m p.replaced replacing) ∙ ap (λ (u : PlainTree). get u.files m.source) (sym tree ∙ back) ∙ can.source in
    let count : m.source_file.change + 1 ≡ m.source_file.change = ap (λ (o : Option File). option_map_or (λ f. f.change) o 0) both in
    absurd (omega (arith, count)) in
    record {
      answer = answer ∙ sym (answers (edited now t es)) ∙ ap (λ (r : Responded). r.answer) (sym row);
      tree = tree ∙ ap (λ (r : Responded). r.tree) (sym row);
      changed = subst (λ (o : Option Change). IfSome o (λ c. (new ≢ t) × (c.made ≡ r.made))) (sym change) (differs, sym (no_made now t.files m p.replaced replacing) ∙ ap (λ (r : Responded). r.made) (sym row));
      unchanged = subst (λ (o : Option Change). IfNone o (new ≡ t)) (sym change) tt;
    }
