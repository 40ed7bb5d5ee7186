-- That what the code did is what the rules say.
use Rattle.std.proofs.Common.{◌≡◌, ℕ, Option, Some, None, sym, ap, subst, ◌∙◌}
use Rattle.std.specs.Prelude.{option_and_then, IfSome, IfNone, ◌≢◌, refl}
use Rattle.nfs_proto.specs.declared.answer.Answer.{Answer}
use Rattle.fs_rules.specs.declared.plain_tree.PlainTree.{PlainTree}
use Rattle.fs_rules.specs.Respond.{Responded}
use Rattle.fs_tree.specs.declared.response.Response.{Response}
use Rattle.fs_tree.specs.declared.response.Change.{Change}
use Rattle.fs_tree.specs.Meets.{Meets, made_by}

-- an answer that leaves the tree as it is
pub meets_told : (t : PlainTree) (r : Responded) (answer : Answer) (response : Response)
    → r ≡ record { answer = answer; tree = t; made = None } → response.answer ≡ answer → response.change ≡ None → Meets t r t response
meets_told t r answer response is answers none =
    record {
      answer = answers ∙ ap (λ (r : Responded). r.answer) (sym is);
      tree = ap (λ (r : Responded). r.tree) (sym is);
      changed = subst (λ (o : Option Change). IfSome o (λ change. (t ≢ t) × (change.made ≡ r.made))) (sym none) tt;
      unchanged = subst (λ (o : Option Change). IfNone o (t ≡ t)) (sym none) refl;
    }

-- the file that was made is the one of the rules
pub made_is : (old new : PlainTree) (r : Responded) (response : Response) (made : ℕ × ℕ) → Meets old r new response → made_by response ≡ Some made → r.made ≡ Some made
made_is old new r response made meets is = go response.change refl meets.changed is where
  go : (o : Option Change) → response.change ≡ o → IfSome o (λ change. (new ≢ old) × (change.made ≡ r.made)) → option_and_then (λ (change : Change). change.made) o ≡ Some made → r.made ≡ Some made
  go None same told some = absurd cc
  go (Some change) same told some = sym told.1 ∙ some
