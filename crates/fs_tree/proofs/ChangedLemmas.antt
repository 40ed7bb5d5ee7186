-- That a call which changes the file that its one handle names meets the rules.
use Rattle.std.proofs.Common.{◌≡◌, ◌≢◌, ℕ, ◌+◌, [], ◌∷◌, Option, Some, None, sym, ap, subst, ◌∙◌, arith}
use Rattle.std.specs.Prelude.{IfSome, IfNone}
use Rattle.std.specs.Option.{option_map_or}
use Rattle.std.specs.Ordering.{nat_cmp}
use Rattle.std.specs.FinMap.{FinMap, get, insert}
use Rattle.nfs_proto.specs.declared.answer.Answer.{Answer}
use Rattle.nfs_proto.specs.declared.answer.Answer.TheVariants.{Fault, Attr}
use Rattle.nfs_proto.specs.declared.call.Call.{Call}
use Rattle.nfs_proto.specs.declared.stamp.Stamp.{Stamp}
use Rattle.fs_rules.specs.declared.file.File.{File}
use Rattle.fs_rules.specs.declared.plain_tree.PlainTree.{PlainTree}
use Rattle.fs_rules.specs.File.{fattr_of}
use Rattle.fs_rules.specs.Statuses.{stale}
use Rattle.fs_rules.specs.Edits.{Changed, changed_at, edited, first_made}
use Rattle.fs_rules.specs.Reading.{attr_at}
use Rattle.fs_rules.specs.Respond.{Responded, answer_of, decided}
use Rattle.fs_tree.specs.declared.response.Response.{Response}
use Rattle.fs_tree.specs.declared.response.Change.{Change}
use Rattle.fs_tree.specs.Meets.{Meets}
use Rattle.fs_edits.proofs.PutLemmas.{put_there}
use Rattle.fs_decisions.specs.Steps.{refused}
use Rattle.fs_tree.proofs.MeetsLemmas.{meets_told}

-- an answer that leaves the tree, where the rules refuse
pub meets_refused : (t : PlainTree) (r : Responded) (status : ℕ) (response : Response) → r ≡ refused t status → response.answer ≡ Fault status → response.change ≡ None
    → Meets t r t response
meets_refused t r status response is answers none = meets_told t r (Fault status) response is answers none

-- a file that was changed
pub meets_changed : (t new : PlainTree) (call : Call) (now : Stamp) (n : ℕ) (f g : File) (r : Responded) (response : Response)
    → get t.files n ≡ Some f → g.change ≡ f.change → r ≡ decided None t call now (Changed n g ∷ [])
    → ((u : PlainTree) → answer_of u call ≡ attr_at u n)
    → new ≡ record t { files = insert t.files n (changed_at now g) }
    → response.answer ≡ Attr (fattr_of n (changed_at now g)) → response.change ≡ Some (record { made = None })
    → Meets t r new response
unfolding edited first_made
meets_changed t new call now n f g r response there same is answers tree answer change =
    let after : PlainTree = record t { files = insert t.files n (changed_at now g) } in
    let told : attr_at after n ≡ Attr (fattr_of n (changed_at now g)) =
    ap (λ (o : Option File). option_map_or (λ f. Attr (fattr_of n f)) o (Fault stale)) (put_there t n (changed_at now g)) in
    let differs : new ≡ t → ⊥ = λ back.
    let files : insert t.files n (changed_at now g) ≡ t.files = ap (λ (u : PlainTree). u.files) (sym tree ∙ back) in
    let both : ◌≡◌ {A = Option File} (Some (changed_at now g)) (Some f) = sym (put_there t n (changed_at now g)) ∙ ap (λ (m : FinMap nat_cmp File). get m n) files ∙ there in
    let count : g.change + 1 ≡ f.change = ap (λ (o : Option File). option_map_or (λ f. f.change) o 0) both in
    absurd (omega (arith, count, same)) in
    record {
      answer = answer ∙ sym told ∙ sym (answers after) ∙ ap (λ (r : Responded). r.answer) (sym is);
      tree = tree ∙ ap (λ (r : Responded). r.tree) (sym is);
      changed = subst (λ (o : Option Change). IfSome o (λ c. (new ≢ t) × (c.made ≡ r.made))) (sym change) (differs, ap (λ (r : Responded). r.made) (sym is));
      unchanged = subst (λ (o : Option Change). IfNone o (new ≡ t)) (sym change) tt;
    }

-- what is told of a file that is put back changed
pub told_back : (now : Stamp) (n m : ℕ) (g changed : File) (answer : Answer) → n ≡ m → changed ≡ g → answer ≡ Attr (fattr_of n (changed_at now changed)) → answer ≡ Attr (fattr_of m (changed_at now g))
told_back now n m g changed answer same is told =
    told ∙ ap (λ (k : ℕ). Attr (fattr_of k (changed_at now changed))) same ∙ ap (λ (h : File). Attr (fattr_of m (changed_at now h))) is
