-- GETATTR.
use Rattle.std.proofs.Common.{◌≡◌, ℕ, true, false, cond, Bool, List, [], ◌∷◌, ◌++◌, Option, Some, None, refl, sym, ap, ◌∙◌}
use Rattle.std.specs.Prelude.{not, is_some, option_map}
use Rattle.std.specs.Option.{option_map_or}
use Rattle.std.specs.FinMap as table
use Rattle.std.proofs.lemmas.List.Elements.{recursion_from_All}
use Rattle.rpc_msg.specs.declared.cred.Cred.{Cred}
use Rattle.nfs_proto.specs.declared.answer.Answer.{Answer}
use Rattle.nfs_proto.specs.declared.answer.Answer.TheVariants.{Fault, Attr}
use Rattle.nfs_proto.specs.declared.call.Call.TheVariants.{GetAttr}
use Rattle.nfs_proto.specs.declared.handle.Handle.{Handle}
use Rattle.nfs_proto.specs.declared.stamp.Stamp.{Stamp}
use Rattle.fs_layout.specs.declared.reference.Reference.{Reference}
use Rattle.fs_rules.specs.declared.file.File.{File}
use Rattle.fs_rules.specs.declared.kept.Kept.{Kept}
use Rattle.fs_rules.specs.declared.plain_tree.PlainTree.{PlainTree}
use Rattle.fs_rules.specs.Arguments as rules
use Rattle.fs_rules.specs.File.{fattr_of}
use Rattle.fs_rules.specs.Good.{IsGood}
use Rattle.fs_rules.specs.Handle.{number_in}
use Rattle.fs_rules.specs.Numbers.{kept_at}
use Rattle.fs_rules.specs.Reading.{attr_at}
use Rattle.fs_rules.specs.Respond.{Responded, own_checks}
use Rattle.fs_rules.specs.Statuses.{Check, first_failure, stale}
use Rattle.mini_tx.specs.FlatMemory.{Flat}
use Rattle.fs_image.specs.Owners.{Owners, Chain}
use Rattle.fs_image.specs.Parts.{inode_of}
use Rattle.node_cache.specs.declared.held.Held.{Held}
use Rattle.node_cache.specs.declared.want.Want.{Want}
use Rattle.node_cache.specs.declared.want.Want.TheVariants as want
use Rattle.plan_rules.specs.Matched.{IsOwnFile, IsOwnLook}
use Rattle.plan_rules.specs.Orders.{order, handle_check}
use Rattle.plan_rules.specs.Steps.{Checks, is_held, wanted_in, looks_in, refusal_in}
use Rattle.plan_rules.specs.Told.{at_record, file_of}
use Rattle.read_laws.specs.Answers.{fattr_by, get_attr_by}
use Rattle.read_laws.specs.Laws.{AnswersAs, GetAttrAnswers, IsPlannedOver}
use Rattle.read_laws.proofs.OwnLemmas.{fattr_live, handle_told, named_there, plain, says_shown}
use Rattle.read_laws.proofs.RuleLemmas.{answers, refuses}

-- a look that wants nothing is at what is held
pub look_held : (b : Bool) (w : Want) (rest : Option Want) → cond b rest (Some w) ≡ None → b ≡ true
look_held true w rest is = refl
look_held false w rest is = absurd cc

pub still_there : (p : Option File) → is_some (option_map plain p) ≡ is_some p
still_there None = refl
still_there (Some f) = refl

-- the check of a handle is the rules'
pub same_check : (held : Held) (t : PlainTree) (name : List ℕ) → file_of held name ≡ option_map plain (rules.file_of t name) → handle_check held name ≡ rules.handle_check t name
same_check held t name told =
    ap (λ (p : Option File). cond (not (is_some p)) (Some stale) None) told ∙ ap (λ b. cond (not b) (Some stale) None) (still_there (rules.file_of t name))

-- where it passes, the handle names a file
pub passed_there : (p : Option File) → first_failure (cond (not (is_some p)) (Some stale) None ∷ []) ≡ None → (f : File) × (p ≡ Some f)
unfolding first_failure
passed_there None is = absurd cc
passed_there (Some f) is = (f, refl)

pub by_check : (a b : Check) → a ≡ b → refusal_in (Checks a ∷ []) ≡ first_failure (b ∷ [])
unfolding refusal_in first_failure
by_check None b same = ap (λ (x : Check). first_failure (x ∷ [])) same
by_check (Some status) b same = ap (λ (x : Check). first_failure (x ∷ [])) same

attr_live : (t : PlainTree) (n : ℕ) (f : File) → IsGood t → table.get t.files n ≡ Some f → (kept : Kept) (first : Option Reference)
    → Attr (fattr_by n (inode_of (Some f) kept first)) ≡ Attr (fattr_of n f)
attr_live t n f good is kept first = ap Attr (fattr_live t n f good is first)

module _ (held : Held) (flat : Flat) (t : PlainTree) (o : Owners) (arrival : ℕ) (cred : Cred) (now : Stamp) (start : ℕ) (file : Handle)
    (over : IsPlannedOver held flat t o arrival (GetAttr file) cred) where
  held_there : is_held held (want.Inode (number_in file.0)) ≡ true
  unfolding order wanted_in
  held_there = look_held (is_held held (want.Inode (number_in file.0))) (want.Inode (number_in file.0)) _ over.wanted

  own_file : IsOwnFile t.geometry flat o held (number_in file.0)
  unfolding order looks_in
  own_file = (recursion_from_All (IsOwnLook t.geometry flat o held) (looks_in (order held arrival (GetAttr file) cred)) over.own).0

  told : file_of held file.0 ≡ option_map plain (rules.file_of t file.0)
  told = handle_told held flat t o over.work over.same over.shows file.0 held_there own_file

  decides : refusal_in (order held arrival (GetAttr file) cred) ≡ first_failure (rules.argument_checks t (GetAttr file) cred ++ own_checks t (GetAttr file) cred)
  unfolding order refusal_in rules.argument_checks
  decides = by_check (handle_check held file.0) (rules.handle_check t file.0) (same_check held t file.0 told)

  there : refusal_in (order held arrival (GetAttr file) cred) ≡ None → (f : File) × (rules.file_of t file.0 ≡ Some f)
  unfolding rules.argument_checks
  there passes = passed_there (rules.file_of t file.0) (sym decides ∙ passes)

  abbrev said_by : Answer
  said_by = at_record held (number_in file.0) (Fault stale) (λ a. Attr (fattr_by (number_in file.0) a))

  told_attr : (f : File) → rules.file_of t file.0 ≡ Some f → attr_at t (number_in file.0) ≡ said_by
  told_attr f is =
      let n = number_in file.0 in
      let there_is : table.get t.files n ≡ Some f = named_there t file.0 f is in
      ap (λ (p : Option File). option_map_or (λ g. Attr (fattr_of n g)) p (Fault stale)) there_is
      ∙ sym (attr_live t n f over.good there_is (kept_at t n) (o.place n (Chain 0)))
      ∙ ap (λ (p : Option File). Attr (fattr_by n (inode_of p (kept_at t n) (o.place n (Chain 0))))) (sym there_is)
      ∙ sym (says_shown held flat t o over.work over.same over.shows n held_there own_file (Fault stale) (λ a. Attr (fattr_by n a)))

  pub get_attr_as : AnswersAs held flat t arrival (GetAttr file) cred now start (get_attr_by held (number_in file.0))
  get_attr_as =
      record {
        refused = λ status fails. refuses t (GetAttr file) cred now start refl status (sym decides ∙ fails);
        answers = λ passes. (let one = there passes in
            answers t (GetAttr file) cred now start refl (sym decides ∙ passes)
            ∙ ap (λ (a : Answer). let r : Responded = record { answer = a; tree = t; made = None } in r) (told_attr one.0 one.1));
      }

pub get_attr_answers : GetAttrAnswers
get_attr_answers held flat t o arrival cred now start file over = get_attr_as held flat t o arrival cred now start file over
