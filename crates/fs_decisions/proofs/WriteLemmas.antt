-- What respond is for WRITE.
use Rattle.std.proofs.Common.{◌≡◌, ℕ, ◌+◌, ◌-◌, ◌^◌, ◌≤◌, Bool, true, false, cond, eqb, ltb, List, [], ◌∷◌, length, Option, Some, None, refl, sym, ap, ◌∙◌, arith}
use Rattle.std.specs.Prelude.{is_some, not, ◌&&◌, ◌==◌}
use Rattle.std.specs.Option.{option_map_or}
use Rattle.std.specs.FinMap.{get}
use Rattle.std.proofs.lemmas.Bool.Decides.{nat_tests}
use Rattle.rpc_msg.specs.declared.cred.Cred.{Cred}
use Rattle.nfs_proto.specs.declared.answer.Answer.TheVariants.{Fault, Attr}
use Rattle.nfs_proto.specs.declared.call.Call.TheVariants.{Write}
use Rattle.nfs_proto.specs.declared.handle.Handle.{Handle}
use Rattle.nfs_proto.specs.declared.stamp.Stamp.{Stamp}
use Rattle.fs_rules.specs.declared.content.Content.TheVariants.{Regular}
use Rattle.fs_rules.specs.declared.file.File.{File}
use Rattle.fs_rules.specs.declared.plain_tree.PlainTree.{PlainTree}
use Rattle.fs_rules.specs.Handle.{number_in}
use Rattle.fs_rules.specs.File.{used, fattr_of, is_directory, is_link, blocks_of}
use Rattle.fs_rules.specs.Good.{IsGood}
use Rattle.fs_rules.specs.Statuses.{first_failure, stale, fbig, nospc}
use Rattle.fs_rules.specs.Arguments.{file_of, argument_checks}
use Rattle.fs_rules.specs.Edits.{Edit, Changed, edited, first_made, limits}
use Rattle.fs_rules.specs.Attributes.{is_too_large}
use Rattle.fs_rules.specs.Access.{may}
use Rattle.fs_rules.specs.Numbers.{free_blocks}
use Rattle.fs_rules.specs.Contents.{written}
use Rattle.fs_rules.specs.Writing.{is_nothing, write_checks, write_edits, with_bytes}
use Rattle.fs_rules.specs.Respond.{Responded, own_checks, edits_of, decided, respond}
use Rattle.fs_decisions.specs.Steps.{Fits, refused}
use Rattle.fs_decisions.specs.Limits.{change_limits}
use Rattle.fs_decisions.proofs.RowLemmas.{named_there, no_limits, fits_grown}
use Rattle.fs_decisions.proofs.ChangeLemmas.{arguments_fail, check_fails, limit_fails, all_pass, IsLimited, limits_of_change}

-- ---- checks that pass

-- four checks of which none fails
four : (a b c d : Bool) (p q r s : ℕ) → first_failure (cond a (Some p) None ∷ cond b (Some q) None ∷ cond c (Some r) None ∷ cond d (Some s) None ∷ []) ≡ None
    → (a ≡ false) × (b ≡ false) × (c ≡ false) × (d ≡ false)
unfolding first_failure
four true b c d p q r s is = absurd cc
four false true c d p q r s is = absurd cc
four false false true d p q r s is = absurd cc
four false false false true p q r s is = absurd cc
four false false false false p q r s is = (refl, refl, refl, refl)

-- what may be written is no directory
pub writes_no_directory : (f : File) (cred : Cred) (offset : ℕ) (bytes : List ℕ) → first_failure (write_checks f cred offset bytes) ≡ None → is_directory f.content ≡ false
writes_no_directory f cred offset bytes is = (four (is_directory f.content) (is_link f.content) (not (may f cred 2)) (not (is_nothing bytes) && is_too_large (offset + length bytes)) 21 6 13 27 is).0

-- and ends within the greatest size
within : (n size : ℕ) → (n == 0) ≡ false → (not (n == 0) && ltb 16711680 size) ≡ false → size ≤ 16711680
within n size some is = le_of_not (ap (λ (b : Bool). not b && ltb 16711680 size) some) is
  where
    le_of_not : (not (n == 0) && ltb 16711680 size) ≡ ltb 16711680 size → (not (n == 0) && ltb 16711680 size) ≡ false → size ≤ 16711680
    le_of_not same is = let small : ltb 16711680 size ≡ false = sym same ∙ is in grind (arith, nat_tests)

pub writes_within : (f : File) (cred : Cred) (offset : ℕ) (bytes : List ℕ) → first_failure (write_checks f cred offset bytes) ≡ None → is_nothing bytes ≡ false
    → offset + length bytes ≤ 16711680
writes_within f cred offset bytes is some =
    within (length bytes) (offset + length bytes) some
    ((four (is_directory f.content) (is_link f.content) (not (may f cred 2)) (not (is_nothing bytes) && is_too_large (offset + length bytes)) 21 6 13 27 is).3)

-- a limit that is not passed
pub grown_within : (t : PlainTree) (change grown : ℕ) → change_limits t change grown ≡ None → grown ≤ free_blocks t
grown_within t change grown is = go (eqb change (2 ^ 64 - 1)) (ltb (free_blocks t) grown) refl is
  where
    go : (a b : Bool) → ltb (free_blocks t) grown ≡ b → cond a (Some fbig) (cond b (Some nospc) None) ≡ None → grown ≤ free_blocks t
    go true b small is = absurd cc
    go false true small is = absurd cc
    go false false small is = grind (arith, nat_tests)

-- ---- the file after the bytes were written

module _ (now : Stamp) (offset : ℕ) (bytes : List ℕ) (f : File) where
  pub write_change : (with_bytes now offset bytes f).change ≡ f.change
  unfolding with_bytes
  write_change = refl

  pub write_used : used (with_bytes now offset bytes f).content ≡ used (Regular (written (blocks_of f.content) offset bytes))
  unfolding with_bytes
  write_used = refl

  pub write_fits : (t : PlainTree) (n : ℕ) → IsGood t → get t.files n ≡ Some f → used (Regular (written (blocks_of f.content) offset bytes)) - used f.content ≤ free_blocks t
      → Fits (with_bytes now offset bytes f)
  unfolding with_bytes
  write_fits t n good live grown = fits_grown t n f (with_bytes now offset bytes f) good live grown (good.files n f live).mode

  limited : (t : PlainTree) (n : ℕ) → IsGood t → get t.files n ≡ Some f
      → IsLimited t n f (with_bytes now offset bytes f) (used (Regular (written (blocks_of f.content) offset bytes)) - used f.content)
  unfolding with_bytes
  limited t n good live = record { there = live; change = refl; links = (good.files n f live).links; slots = omega arith; grown_is = refl }

-- ---- the call

module _ (t : PlainTree) (file : Handle) (begin offset total : ℕ) (bytes : List ℕ) (cred : Cred) (now : Stamp) (start : ℕ) where
  pub write_absent : file_of t file.0 ≡ None → respond t (Write file begin offset total bytes) cred now start ≡ refused t stale
  unfolding argument_checks first_failure
  write_absent none =
      arguments_fail t (Write file begin offset total bytes) cred now start stale (ap (λ (o : Option File). first_failure (cond (not (is_some o)) (Some stale) None ∷ [])) none)

  module _ (f : File) (there : file_of t file.0 ≡ Some f) where
    -- the blocks by which it grows
    abbrev grown : ℕ
    grown = used (Regular (written (blocks_of f.content) offset bytes)) - used f.content

    -- the handle names a file
    passed : first_failure (argument_checks t (Write file begin offset total bytes) cred) ≡ None
    unfolding argument_checks first_failure
    passed = ap (λ (o : Option File). first_failure (cond (not (is_some o)) (Some stale) None ∷ [])) there

    own : first_failure (own_checks t (Write file begin offset total bytes) cred) ≡ first_failure (write_checks f cred offset bytes)
    own = ap (λ (o : Option File). first_failure (option_map_or (λ f. write_checks f cred offset bytes) o [])) there

    edits : edits_of t (Write file begin offset total bytes) cred now start ≡ write_edits now offset bytes (number_in file.0) f
    edits = ap (λ (o : Option File). option_map_or (write_edits now offset bytes (number_in file.0)) o []) there

    edits_none : is_nothing bytes ≡ true → edits_of t (Write file begin offset total bytes) cred now start ≡ []
    unfolding write_edits
    edits_none is = edits ∙ ap (λ (b : Bool). cond b [] (Changed (number_in file.0) (with_bytes now offset bytes f) ∷ [])) is

    edits_one : is_nothing bytes ≡ false → edits_of t (Write file begin offset total bytes) cred now start ≡ Changed (number_in file.0) (with_bytes now offset bytes f) ∷ []
    unfolding write_edits
    edits_one is = edits ∙ ap (λ (b : Bool). cond b [] (Changed (number_in file.0) (with_bytes now offset bytes f) ∷ [])) is

    pub write_refused : (status : ℕ) → first_failure (write_checks f cred offset bytes) ≡ Some status → respond t (Write file begin offset total bytes) cred now start ≡ refused t status
    write_refused status fails = check_fails t (Write file begin offset total bytes) cred now start passed status (own ∙ fails)

    module _ (checked : first_failure (write_checks f cred offset bytes) ≡ None) where
      -- nothing is set
      pub write_nothing : is_nothing bytes ≡ true
          → respond t (Write file begin offset total bytes) cred now start ≡ record { answer = Attr (fattr_of (number_in file.0) f); tree = t; made = None }
      unfolding edited first_made
      write_nothing is =
          all_pass t (Write file begin offset total bytes) cred now start passed (own ∙ checked) (ap (λ (es : List Edit). first_failure (limits t start es)) (edits_none is) ∙ no_limits t start)
          ∙ ap (λ (es : List Edit). decided None t (Write file begin offset total bytes) now es) (edits_none is)
          ∙ ap (λ (o : Option File). let r : Responded = record { answer = option_map_or (λ f. Attr (fattr_of (number_in file.0) f)) o (Fault stale); tree = t; made = None } in r) (named_there t file.0 f there)

      module _ (good : IsGood t) (is : is_nothing bytes ≡ false) where
        limits_are : first_failure (limits t start (edits_of t (Write file begin offset total bytes) cred now start)) ≡ change_limits t f.change grown
        limits_are =
            ap (λ (es : List Edit). first_failure (limits t start es)) (edits_one is)
            ∙ limits_of_change t start (number_in file.0) f (with_bytes now offset bytes f) grown (limited now offset bytes f t (number_in file.0) good (named_there t file.0 f there))

        -- a limit is passed
        pub write_limited : (status : ℕ) → change_limits t f.change grown ≡ Some status → respond t (Write file begin offset total bytes) cred now start ≡ refused t status
        write_limited status fails = limit_fails t (Write file begin offset total bytes) cred now start passed (own ∙ checked) status (limits_are ∙ fails)

        -- the file is changed
        pub write_passes : change_limits t f.change grown ≡ None
            → respond t (Write file begin offset total bytes) cred now start ≡ decided None t (Write file begin offset total bytes) now (Changed (number_in file.0) (with_bytes now offset bytes f) ∷ [])
        write_passes none =
            all_pass t (Write file begin offset total bytes) cred now start passed (own ∙ checked) (limits_are ∙ none)
            ∙ ap (λ (es : List Edit). decided None t (Write file begin offset total bytes) now es) (edits_one is)

-- the file that is written is the one before
pub so : (now : Stamp) (offset : ℕ) (bytes : List ℕ) (f h file : File) → h ≡ f → is_directory f.content ≡ false
    → (is_directory h.content ≡ false → file ≡ with_bytes now offset bytes h) → file ≡ with_bytes now offset bytes f
so now offset bytes f h file same regular gives = gives (ap (λ (f : File). is_directory f.content) same ∙ regular) ∙ ap (with_bytes now offset bytes) same
