-- What respond is for SETATTR.
use Rattle.std.proofs.Common.{◌≡◌, ℕ, ◌≤◌, Bool, true, false, cond, List, [], ◌∷◌, length, Option, Some, None, refl, ap, ◌∙◌, arith}
use Rattle.std.specs.Prelude.{is_some, not}
use Rattle.std.specs.Option.{option_map_or}
use Rattle.std.specs.FinMap.{get}
use Rattle.rpc_msg.specs.declared.cred.Cred.{Cred}
use Rattle.nfs_proto.specs.declared.answer.Answer.TheVariants.{Fault, Attr}
use Rattle.nfs_proto.specs.declared.call.Call.TheVariants.{SetAttr}
use Rattle.nfs_proto.specs.declared.handle.Handle.{Handle}
use Rattle.nfs_proto.specs.declared.sattr.Sattr.{Sattr}
use Rattle.nfs_proto.specs.declared.stamp.Stamp.{Stamp}
use Rattle.fs_rules.specs.declared.content.Content.{Content}
use Rattle.fs_rules.specs.declared.content.Content.TheVariants.{Regular, Link, Directory}
use Rattle.fs_rules.specs.declared.file.File.{File}
use Rattle.fs_rules.specs.declared.plain_tree.PlainTree.{PlainTree}
use Rattle.fs_rules.specs.Handle.{number_in}
use Rattle.fs_rules.specs.File.{used, fattr_of, slots_of}
use Rattle.fs_rules.specs.declared.entry.Entry.{Entry}
use Rattle.fs_rules.specs.Good.{IsGood, IsInOrder}
use Rattle.fs_rules.specs.Statuses.{first_failure, stale}
use Rattle.fs_rules.specs.Arguments.{file_of, argument_checks}
use Rattle.fs_rules.specs.Edits.{Edit, Changed, edited, first_made, limits}
use Rattle.fs_rules.specs.Attributes.{chosen, is_set, mode_bits, sets_something, resized_content, set_attr_checks, set_attr_edits, with_attributes}
use Rattle.fs_rules.specs.Respond.{Responded, own_checks, edits_of, decided, respond}
use Rattle.fs_decisions.specs.Steps.{Fits, refused}
use Rattle.fs_decisions.specs.Limits.{change_limits}
use Rattle.fs_decisions.proofs.RowLemmas.{named_there, no_limits}
use Rattle.fs_decisions.proofs.ChangeLemmas.{arguments_fail, check_fails, limit_fails, all_pass, IsLimited, limits_of_change}
use Rattle.fs_decisions.proofs.UsedLemmas.{used_after_resize}

-- ---- the file with what was set

-- the slots are those of before, and few
same_slots : (old new : ℕ) (content : Content) → slots_of (resized_content old new content) ≡ slots_of content
same_slots old new (Regular blocks) = refl
same_slots old new (Directory slots parent) = refl
same_slots old new (Link blocks) = refl

pub few_slots : (t : PlainTree) (n : ℕ) (f : File) (content : Content) → IsInOrder t n f content → length (slots_of content) ≤ 7650
few_slots t n f (Regular blocks) order = omega arith
few_slots t n f (Directory slots parent) order = order.1.few
few_slots t n f (Link blocks) order = omega arith

module _ (now : Stamp) (set : Sattr) (f : File) where
  g : File
  g = with_attributes now set f

  same_change : g.change ≡ f.change
  unfolding g with_attributes
  same_change = refl

  same_links : g.links ≡ f.links
  unfolding g with_attributes
  same_links = refl

  slots_same : slots_of g.content ≡ slots_of f.content
  unfolding g with_attributes
  slots_same = same_slots f.size (chosen set.size f.size) f.content

  uses_less : used g.content ≤ used f.content
  unfolding g with_attributes
  uses_less = used_after_resize f.size (chosen set.size f.size) f.content

  mode_less : f.mode ≤ 0o7777 → g.mode ≤ 0o7777
  unfolding g with_attributes
  mode_less less = elim (is_set set.mode) as (λ b. cond b (mode_bits set.mode) f.mode ≤ 0o7777) [ true ↦ omega arith | false ↦ less ]

  -- what a client is told of it fits
  pub set_attr_fits : Fits f → Fits (with_attributes now set f)
  unfolding g
  set_attr_fits fits = record { mode = mode_less fits.mode; room = omega (arith, uses_less, fits.room) }

  pub set_attr_change : (with_attributes now set f).change ≡ f.change
  unfolding g
  set_attr_change = same_change

  pub limited : (t : PlainTree) (n : ℕ) → IsGood t → get t.files n ≡ Some f → IsLimited t n f (with_attributes now set f) 0
  unfolding g
  limited t n good live =
      let file = good.files n f live in
      record {
        there = live;
        change = same_change;
        links = omega (arith, same_links, file.links);
        slots = omega (arith, ap (λ (s : List (Option Entry)). length s) slots_same, few_slots t n f f.content file.content);
        grown_is = omega (arith, uses_less);
      }

-- ---- the call

module _ (t : PlainTree) (file : Handle) (set : Sattr) (cred : Cred) (now : Stamp) (start : ℕ) where
  pub set_attr_absent : file_of t file.0 ≡ None → respond t (SetAttr file set) cred now start ≡ refused t stale
  unfolding argument_checks first_failure
  set_attr_absent none =
      arguments_fail t (SetAttr file set) cred now start stale (ap (λ (o : Option File). first_failure (cond (not (is_some o)) (Some stale) None ∷ [])) none)

  module _ (f : File) (there : file_of t file.0 ≡ Some f) where
    -- the handle names a file
    passed : first_failure (argument_checks t (SetAttr file set) cred) ≡ None
    unfolding argument_checks first_failure
    passed = ap (λ (o : Option File). first_failure (cond (not (is_some o)) (Some stale) None ∷ [])) there

    own : first_failure (own_checks t (SetAttr file set) cred) ≡ first_failure (set_attr_checks f set cred)
    own = ap (λ (o : Option File). first_failure (option_map_or (λ f. set_attr_checks f set cred) o [])) there

    edits : edits_of t (SetAttr file set) cred now start ≡ set_attr_edits now set (number_in file.0) f
    edits = ap (λ (o : Option File). option_map_or (set_attr_edits now set (number_in file.0)) o []) there

    edits_none : sets_something set ≡ false → edits_of t (SetAttr file set) cred now start ≡ []
    unfolding set_attr_edits
    edits_none is = edits ∙ ap (λ (b : Bool). cond b (Changed (number_in file.0) (with_attributes now set f) ∷ []) []) is

    edits_one : sets_something set ≡ true → edits_of t (SetAttr file set) cred now start ≡ Changed (number_in file.0) (with_attributes now set f) ∷ []
    unfolding set_attr_edits
    edits_one is = edits ∙ ap (λ (b : Bool). cond b (Changed (number_in file.0) (with_attributes now set f) ∷ []) []) is

    pub set_attr_refused : (status : ℕ) → first_failure (set_attr_checks f set cred) ≡ Some status → respond t (SetAttr file set) cred now start ≡ refused t status
    set_attr_refused status fails = check_fails t (SetAttr file set) cred now start passed status (own ∙ fails)

    module _ (checked : first_failure (set_attr_checks f set cred) ≡ None) where
      -- nothing is set
      pub set_attr_nothing : sets_something set ≡ false
          → respond t (SetAttr file set) cred now start ≡ record { answer = Attr (fattr_of (number_in file.0) f); tree = t; made = None }
      unfolding edited first_made
      set_attr_nothing is =
          all_pass t (SetAttr file set) cred now start passed (own ∙ checked) (ap (λ (es : List Edit). first_failure (limits t start es)) (edits_none is) ∙ no_limits t start)
          ∙ ap (λ (es : List Edit). decided None t (SetAttr file set) now es) (edits_none is)
          ∙ ap (λ (o : Option File). let r : Responded = record { answer = option_map_or (λ f. Attr (fattr_of (number_in file.0) f)) o (Fault stale); tree = t; made = None } in r) (named_there t file.0 f there)

      module _ (good : IsGood t) (is : sets_something set ≡ true) where
        limits_are : first_failure (limits t start (edits_of t (SetAttr file set) cred now start)) ≡ change_limits t f.change 0
        limits_are =
            ap (λ (es : List Edit). first_failure (limits t start es)) (edits_one is)
            ∙ limits_of_change t start (number_in file.0) f (with_attributes now set f) 0 (limited now set f t (number_in file.0) good (named_there t file.0 f there))

        -- a limit is passed
        pub set_attr_limited : (status : ℕ) → change_limits t f.change 0 ≡ Some status → respond t (SetAttr file set) cred now start ≡ refused t status
        set_attr_limited status fails = limit_fails t (SetAttr file set) cred now start passed (own ∙ checked) status (limits_are ∙ fails)

        -- the file is changed
        pub set_attr_passes : change_limits t f.change 0 ≡ None
            → respond t (SetAttr file set) cred now start ≡ decided None t (SetAttr file set) now (Changed (number_in file.0) (with_attributes now set f) ∷ [])
        set_attr_passes none =
            all_pass t (SetAttr file set) cred now start passed (own ∙ checked) (limits_are ∙ none)
            ∙ ap (λ (es : List Edit). decided None t (SetAttr file set) now es) (edits_one is)
