-- What becomes of a file whose name CREATE is given.
use Rattle.std.proofs.Common.{◌≡◌, ◌≢◌, ℕ, ◌+◌, Bool, true, false, cond, List, [], ◌∷◌, ◌++◌, Option, Some, None, refl, sym, ap, subst, ◌∙◌, arith}
use Rattle.std.specs.Prelude.{IfSome, IfNone}
use Rattle.std.specs.Option.{option_map_or}
use Rattle.std.specs.Ordering.{nat_cmp}
use Rattle.std.specs.FinMap.{FinMap, get, insert}
use Rattle.rpc_msg.specs.declared.cred.Cred.{Cred}
use Rattle.nfs_proto.specs.declared.answer.Answer.TheVariants.{Fault}
use Rattle.nfs_proto.specs.declared.sattr.Sattr.{Sattr}
use Rattle.nfs_proto.specs.declared.stamp.Stamp.{Stamp}
use Rattle.fs_rules.specs.declared.file.File.{File}
use Rattle.fs_rules.specs.declared.plain_tree.PlainTree.{PlainTree}
use Rattle.fs_rules.specs.Good.{IsGood}
use Rattle.fs_rules.specs.Statuses.{Check, first_failure, stale}
use Rattle.fs_rules.specs.Attributes.{is_set, with_attributes}
use Rattle.fs_rules.specs.Edits.{Edit, Changed, changed_at, edited, first_made, limits}
use Rattle.fs_rules.specs.Making.{size_alone, existing_checks, existing_edits}
use Rattle.fs_rules.specs.Reading.{found_at}
use Rattle.fs_rules.specs.Respond.{Responded}
use Rattle.fs_tree.specs.declared.response.Response.{Response}
use Rattle.fs_tree.specs.declared.response.Change.{Change}
use Rattle.fs_tree.specs.Meets.{Meets}
use Rattle.fs_decisions.specs.Steps.{refused}
use Rattle.fs_decisions.specs.Limits.{change_limits}
use Rattle.fs_tree.specs.Creating.{existing_of, found_by, found_of}
use Rattle.fs_decisions.proofs.RowLemmas.{behind_none, before_some, no_limits}
use Rattle.fs_decisions.proofs.ChangeLemmas.{limits_of_change}
use Rattle.fs_edits.proofs.PutLemmas.{put_there}
use Rattle.fs_decisions.proofs.SetAttrLemmas.{limited, set_attr_change}

module _ (t : PlainTree) (m : ℕ) (set : Sattr) (cred : Cred) (now : Stamp) (start : ℕ) where
  pub existing_absent : get t.files m ≡ None → existing_of t m set cred now start ≡ refused t stale
  existing_absent none =
      ap (λ (o : Option File). option_map_or (λ f. found_by (first_failure (existing_checks f set cred ++ limits t start (existing_edits now set m f))) t m now (existing_edits now set m f)) o (refused t stale)) none

  module _ (f : File) (live : get t.files m ≡ Some f) where
    abbrev g : File
    g = with_attributes now (size_alone set) f

    by_edits : (es : List Edit) → existing_edits now set m f ≡ es
        → existing_of t m set cred now start ≡ found_by (first_failure (existing_checks f set cred ++ limits t start es)) t m now es
    by_edits es is =
        ap (λ (o : Option File). option_map_or (λ f. found_by (first_failure (existing_checks f set cred ++ limits t start (existing_edits now set m f))) t m now (existing_edits now set m f)) o (refused t stale)) live
        ∙ ap (λ (es : List Edit). found_by (first_failure (existing_checks f set cred ++ limits t start es)) t m now es) is

    pub existing_refused : (status : ℕ) → first_failure (existing_checks f set cred) ≡ Some status → existing_of t m set cred now start ≡ refused t status
    existing_refused status is =
        by_edits (existing_edits now set m f) refl
        ∙ ap (λ (c : Check). found_by c t m now (existing_edits now set m f)) (before_some (existing_checks f set cred) (limits t start (existing_edits now set m f)) status is)

    module _ (checked : first_failure (existing_checks f set cred) ≡ None) where
      -- no size is set
      pub existing_found : is_set set.size ≡ false → existing_of t m set cred now start ≡ record { answer = found_at t m; tree = t; made = None }
      unfolding edited first_made
      existing_found is =
          by_edits [] (ap (λ (b : Bool). cond b (Changed m g ∷ []) []) is)
          ∙ ap (λ (c : Check). found_by c t m now []) (behind_none (existing_checks f set cred) (limits t start []) checked ∙ no_limits t start)

      module _ (good : IsGood t) (is : is_set set.size ≡ true) where
        limits_are : first_failure (existing_checks f set cred ++ limits t start (Changed m g ∷ [])) ≡ change_limits t f.change 0
        limits_are =
            behind_none (existing_checks f set cred) (limits t start (Changed m g ∷ [])) checked
            ∙ limits_of_change t start m f g 0 (limited now (size_alone set) f t m good live)

        one : existing_of t m set cred now start ≡ found_by (change_limits t f.change 0) t m now (Changed m g ∷ [])
        one = by_edits (Changed m g ∷ []) (ap (λ (b : Bool). cond b (Changed m g ∷ []) []) is) ∙ ap (λ (c : Check). found_by c t m now (Changed m g ∷ [])) limits_are

        pub existing_limited : (status : ℕ) → change_limits t f.change 0 ≡ Some status → existing_of t m set cred now start ≡ refused t status
        existing_limited status fails = one ∙ ap (λ (c : Check). found_by c t m now (Changed m g ∷ [])) fails

        pub existing_passes : change_limits t f.change 0 ≡ None → existing_of t m set cred now start ≡ found_by None t m now (Changed m g ∷ [])
        existing_passes none = one ∙ ap (λ (c : Check). found_by c t m now (Changed m g ∷ [])) none

    -- the size was set
    pub meets_sized : (new : PlainTree) (r : Responded) (response : Response) → r ≡ found_by None t m now (Changed m g ∷ [])
        → new ≡ record t { files = insert t.files m (changed_at now g) } → response.answer ≡ found_of m (changed_at now g) → response.change ≡ Some (record { made = None })
        → Meets t r new response
    unfolding edited first_made
    meets_sized new r response is tree answer change =
        let after : PlainTree = record t { files = insert t.files m (changed_at now g) } in
        let told : found_at after m ≡ found_of m (changed_at now g) = ap (λ (o : Option File). option_map_or (λ f. found_of m f) o (Fault stale)) (put_there t m (changed_at now g)) in
        let differs : new ≡ t → ⊥ = λ back.
        let files : insert t.files m (changed_at now g) ≡ t.files = ap (λ (u : PlainTree). u.files) (sym tree ∙ back) in
        let both : ◌≡◌ {A = Option File} (Some (changed_at now g)) (Some f) = sym (put_there t m (changed_at now g)) ∙ ap (λ (m' : FinMap nat_cmp File). get m' m) files ∙ live in
        let count : g.change + 1 ≡ f.change = ap (λ (o : Option File). option_map_or (λ f. f.change) o 0) both in
        absurd (omega (arith, count, set_attr_change now (size_alone set) f)) in
        record {
          answer = answer ∙ sym told ∙ ap (λ (r : Responded). r.answer) (sym is);
          tree = tree ∙ ap (λ (r : Responded). r.tree) (sym is);
          changed = subst (λ (o : Option Change). IfSome o (λ c. (new ≢ t) × (c.made ≡ r.made))) (sym change) (differs, ap (λ (r : Responded). r.made) (sym is));
          unchanged = subst (λ (o : Option Change). IfNone o (new ≡ t)) (sym change) tt;
        }
