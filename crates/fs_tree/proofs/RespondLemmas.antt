-- What respond is for a call that changes nothing.
use Rattle.std.proofs.Common.{◌≡◌, ℕ, false, cond, List, [], ◌∷◌, ◌++◌, Option, Some, None, refl, sym, ap, ◌∙◌}
use Rattle.std.specs.Prelude.{is_some, not}
use Rattle.std.specs.Option.{option_map_or}
use Rattle.rpc_msg.specs.declared.cred.Cred.{Cred}
use Rattle.nfs_proto.specs.declared.answer.Answer.{Answer}
use Rattle.nfs_proto.specs.declared.answer.Answer.TheVariants.{Empty, Fault, Attr}
use Rattle.nfs_proto.specs.declared.call.Call.{Call}
use Rattle.nfs_proto.specs.declared.call.Call.TheVariants.{Null, GetAttr, Root, Lookup, ReadLink, Read, WriteCache, ReadDir, StatFs}
use Rattle.nfs_proto.specs.declared.handle.Handle.{Handle}
use Rattle.nfs_proto.specs.declared.stamp.Stamp.{Stamp}
use Rattle.fs_rules.specs.declared.file.File.{File}
use Rattle.fs_rules.specs.declared.plain_tree.PlainTree.{PlainTree}
use Rattle.fs_rules.specs.Handle.{number_in}
use Rattle.fs_rules.specs.File.{fattr_of, is_directory}
use Rattle.fs_rules.specs.Statuses.{Check, first_failure, stale, notdir, acces}
use Rattle.fs_rules.specs.Arguments.{file_of, argument_checks, name_check, looked_up}
use Rattle.fs_rules.specs.Edits.{Edit, edited, first_made, limits}
use Rattle.fs_rules.specs.Respond.{Responded, checks, own_checks, edits_of, answer_of, decided, respond}
use Rattle.fs_rules.specs.Reading.{space_answer, read_link_checks, read_link_answer, read_checks, read_answer, lookup_checks, lookup_answer, read_dir_checks, read_dir_answer}
use Rattle.fs_rules.specs.Access.{may}
use Rattle.fs_tree.specs.Reading.{unless, answer_about, lookup_row}
use Rattle.fs_checks.specs.Rows.{read_dir_row}
use Rattle.fs_decisions.proofs.RowLemmas.{passing_behind, no_limits, named_there}

-- ---- calls that change nothing

-- what a call that changes nothing is answered
pub record IsReading (t : PlainTree) (call : Call) (cred : Cred) (now : Stamp) (start : ℕ) (first : List Check) (answer : Answer) : Type 0 where
  pub edits : edits_of t call cred now start ≡ []
  pub decides : first_failure (argument_checks t call cred ++ own_checks t call cred) ≡ first_failure first
  pub answers : first_failure first ≡ None → answer_of t call ≡ answer

append_assoc : {A : Type 0} (a b c : List A) → a ++ (b ++ c) ≡ (a ++ b) ++ c
append_assoc [] b c = refl
append_assoc (x ∷ a) b c = ap (λ l. x ∷ l) (append_assoc a b c)

-- with no edits, the checks alone decide
decided_by : (t : PlainTree) (call : Call) (now : Stamp) (c : Check) (first : List Check) (answer : Answer)
    → c ≡ first_failure first → (first_failure first ≡ None → answer_of t call ≡ answer)
    → decided c t call now [] ≡ record { answer = unless (first_failure first) answer; tree = t; made = None }
unfolding edited first_made
decided_by t call now (Some status) first answer is answers =
    ap (λ (k : Check). let r : Responded = record { answer = unless k answer; tree = t; made = None } in r) is
decided_by t call now None first answer is answers =
    ap (λ (a : Answer). let r : Responded = record { answer = a; tree = t; made = None } in r)
    (answers (sym is) ∙ ap (λ (k : Check). unless k answer) is)

pub respond-reading : (t : PlainTree) (call : Call) (cred : Cred) (now : Stamp) (start : ℕ) (first : List Check) (answer : Answer)
    → IsReading t call cred now start first answer
    → respond t call cred now start ≡ record { answer = unless (first_failure first) answer; tree = t; made = None }
unfolding respond checks
respond-reading t call cred now start first answer r =
    ap (λ (es : List Edit). decided (first_failure (argument_checks t call cred ++ (own_checks t call cred ++ limits t start es))) t call now es) r.edits
    ∙ decided_by t call now _ first answer
    (ap first_failure (append_assoc (argument_checks t call cred) (own_checks t call cred) (limits t start []))
    ∙ passing_behind (argument_checks t call cred ++ own_checks t call cred) (limits t start []) (no_limits t start)
    ∙ r.decides)
    r.answers

-- ---- calls about one file that change nothing

-- a call whose checks and whose answer are about the file that one handle names
pub record IsAbout (t : PlainTree) (call : Call) (cred : Cred) (now : Stamp) (start : ℕ) (name : List ℕ) (checks : ℕ → File → List Check) (answer : ℕ → File → Answer) : Type 0 where
  pub edits : edits_of t call cred now start ≡ []
  pub absent : file_of t name ≡ None → first_failure (argument_checks t call cred ++ own_checks t call cred) ≡ Some stale
  pub there : (f : File) → file_of t name ≡ Some f → first_failure (argument_checks t call cred ++ own_checks t call cred) ≡ first_failure (checks (number_in name) f)
  pub answers : (f : File) → file_of t name ≡ Some f → answer_of t call ≡ answer (number_in name) f

about_by : (t : PlainTree) (call : Call) (cred : Cred) (now : Stamp) (start : ℕ) (name : List ℕ) (checks : ℕ → File → List Check) (answer : ℕ → File → Answer)
    → IsAbout t call cred now start name checks answer → (o : Option File) → file_of t name ≡ o
    → respond t call cred now start
    ≡ record { answer = option_map_or (λ f. unless (first_failure (checks (number_in name) f)) (answer (number_in name) f)) o (Fault stale); tree = t; made = None }
unfolding first_failure
about_by t call cred now start name checks answer is (Some f) at =
    respond-reading t call cred now start (checks (number_in name) f) (answer (number_in name) f)
    (record { edits = is.edits; decides = is.there f at; answers = λ none. is.answers f at })
about_by t call cred now start name checks answer is None at =
    respond-reading t call cred now start (Some stale ∷ []) Empty
    (record { edits = is.edits; decides = is.absent at; answers = λ none. absurd cc })

pub respond-about : (t : PlainTree) (call : Call) (cred : Cred) (now : Stamp) (start : ℕ) (name : List ℕ) (checks : ℕ → File → List Check) (answer : ℕ → File → Answer)
    → IsAbout t call cred now start name checks answer
    → respond t call cred now start ≡ record { answer = answer_about t name checks answer; tree = t; made = None }
respond-about t call cred now start name checks answer is = about_by t call cred now start name checks answer is (file_of t name) refl

-- ---- GETATTR, STATFS, READLINK and READ

pub respond-get_attr : (t : PlainTree) (file : Handle) (cred : Cred) (now : Stamp) (start : ℕ)
    → respond t (GetAttr file) cred now start ≡ record { answer = answer_about t file.0 (λ n f. []) (λ n f. Attr (fattr_of n f)); tree = t; made = None }
unfolding first_failure argument_checks
respond-get_attr t file cred now start =
    respond-about t (GetAttr file) cred now start file.0 (λ n f. []) (λ n f. Attr (fattr_of n f)) (record {
      edits = refl;
      absent = λ is. ap (λ (o : Option File). first_failure (cond (not (is_some o)) (Some stale) None ∷ [])) is;
      there = λ f is. ap (λ (o : Option File). first_failure (cond (not (is_some o)) (Some stale) None ∷ [])) is;
      answers = λ f is. ap (λ (o : Option File). option_map_or (λ f. Attr (fattr_of (number_in file.0) f)) o (Fault stale)) (named_there t file.0 f is);
    })

pub respond-stat_fs : (t : PlainTree) (file : Handle) (cred : Cred) (now : Stamp) (start : ℕ)
    → respond t (StatFs file) cred now start ≡ record { answer = answer_about t file.0 (λ n f. []) (λ n f. space_answer t); tree = t; made = None }
unfolding first_failure argument_checks
respond-stat_fs t file cred now start =
    respond-about t (StatFs file) cred now start file.0 (λ n f. []) (λ n f. space_answer t) (record {
      edits = refl;
      absent = λ is. ap (λ (o : Option File). first_failure (cond (not (is_some o)) (Some stale) None ∷ [])) is;
      there = λ f is. ap (λ (o : Option File). first_failure (cond (not (is_some o)) (Some stale) None ∷ [])) is;
      answers = λ f is. refl;
    })

-- the checks of a call with one handle, where it names no file, and where it names one
one_absent : (own : File → List Check) (o : Option File) → o ≡ None
    → first_failure (cond (not (is_some o)) (Some stale) None ∷ option_map_or own o []) ≡ Some stale
unfolding first_failure
one_absent own o is = ap (λ (o : Option File). first_failure (cond (not (is_some o)) (Some stale) None ∷ option_map_or own o [])) is

one_there : (own : File → List Check) (o : Option File) (f : File) → o ≡ Some f
    → first_failure (cond (not (is_some o)) (Some stale) None ∷ option_map_or own o []) ≡ first_failure (own f)
unfolding first_failure
one_there own o f is = ap (λ (o : Option File). first_failure (cond (not (is_some o)) (Some stale) None ∷ option_map_or own o [])) is

pub respond-read_link : (t : PlainTree) (file : Handle) (cred : Cred) (now : Stamp) (start : ℕ)
    → respond t (ReadLink file) cred now start ≡ record { answer = answer_about t file.0 (λ n f. read_link_checks f) (λ n f. read_link_answer f); tree = t; made = None }
unfolding argument_checks
respond-read_link t file cred now start =
    respond-about t (ReadLink file) cred now start file.0 (λ n f. read_link_checks f) (λ n f. read_link_answer f) (record {
      edits = refl;
      absent = one_absent read_link_checks (file_of t file.0);
      there = one_there read_link_checks (file_of t file.0);
      answers = λ f is. ap (λ (o : Option File). option_map_or read_link_answer o (Fault stale)) is;
    })

pub respond-read : (t : PlainTree) (file : Handle) (offset count total : ℕ) (cred : Cred) (now : Stamp) (start : ℕ)
    → respond t (Read file offset count total) cred now start
    ≡ record { answer = answer_about t file.0 (λ n f. read_checks f cred) (λ n f. read_answer n f offset count); tree = t; made = None }
unfolding argument_checks
respond-read t file offset count total cred now start =
    respond-about t (Read file offset count total) cred now start file.0 (λ n f. read_checks f cred) (λ n f. read_answer n f offset count) (record {
      edits = refl;
      absent = one_absent (λ f. read_checks f cred) (file_of t file.0);
      there = one_there (λ f. read_checks f cred) (file_of t file.0);
      answers = λ f is. ap (λ (o : Option File). option_map_or (λ f. read_answer (number_in file.0) f offset count) o (Fault stale)) is;
    })

-- ---- NULL, ROOT and WRITECACHE

pub respond-null : (t : PlainTree) (cred : Cred) (now : Stamp) (start : ℕ) → respond t Null cred now start ≡ record { answer = Empty; tree = t; made = None }
unfolding first_failure argument_checks
respond-null t cred now start = respond-reading t Null cred now start [] Empty (record { edits = refl; decides = refl; answers = λ none. refl })

pub respond-root : (t : PlainTree) (cred : Cred) (now : Stamp) (start : ℕ) → respond t Root cred now start ≡ record { answer = Empty; tree = t; made = None }
unfolding first_failure argument_checks
respond-root t cred now start = respond-reading t Root cred now start [] Empty (record { edits = refl; decides = refl; answers = λ none. refl })

pub respond-write_cache : (t : PlainTree) (cred : Cred) (now : Stamp) (start : ℕ) → respond t WriteCache cred now start ≡ record { answer = Empty; tree = t; made = None }
unfolding first_failure argument_checks
respond-write_cache t cred now start = respond-reading t WriteCache cred now start [] Empty (record { edits = refl; decides = refl; answers = λ none. refl })

-- ---- READDIR and LOOKUP

-- the checks of a call in a directory, where its handle names no file, and where it names one
module _ (own : File → List Check) where
  row : Option File → List Check
  row o = cond (not (is_some o)) (Some stale) None ∷ cond (not (option_map_or (λ f. is_directory f.content) o false)) (Some notdir) None ∷ option_map_or own o []

  dir_absent : (o : Option File) → o ≡ None → first_failure (row o) ≡ Some stale
  unfolding first_failure row
  dir_absent o is = ap (λ (o : Option File). first_failure (row o)) is

  dir_there : (o : Option File) (f : File) → o ≡ Some f → first_failure (row o) ≡ first_failure (cond (not (is_directory f.content)) (Some notdir) None ∷ own f)
  unfolding first_failure row
  dir_there o f is = ap (λ (o : Option File). first_failure (row o)) is

pub respond-read_dir : (t : PlainTree) (dir : Handle) (cookie count : ℕ) (cred : Cred) (now : Stamp) (start : ℕ)
    → respond t (ReadDir dir cookie count) cred now start
    ≡ record { answer = answer_about t dir.0 (λ n d. read_dir_row d cred) (λ n d. read_dir_answer n d cookie count); tree = t; made = None }
unfolding argument_checks row
respond-read_dir t dir cookie count cred now start =
    respond-about t (ReadDir dir cookie count) cred now start dir.0 (λ n d. read_dir_row d cred) (λ n d. read_dir_answer n d cookie count) (record {
      edits = refl;
      absent = dir_absent (λ d. read_dir_checks d cred) (file_of t dir.0);
      there = dir_there (λ d. read_dir_checks d cred) (file_of t dir.0);
      answers = λ f is. ap (λ (o : Option File). option_map_or (λ f. read_dir_answer (number_in dir.0) f cookie count) o (Fault stale)) is;
    })

-- the checks of LOOKUP in the order of all checks
module _ (n : ℕ) (name : List ℕ) (cred : Cred) where
  lookup_all : Option File → List Check
  lookup_all o =
      cond (not (is_some o)) (Some stale) None
      ∷ cond (not (option_map_or (λ f. is_directory f.content) o false)) (Some notdir) None
      ∷ name_check (looked_up [] name)
      ∷ cond (not (option_map_or (λ f. may f cred 1) o false)) (Some acces) None
      ∷ option_map_or (λ f. lookup_checks n f name) o []

  lookup_absent : (o : Option File) → o ≡ None → first_failure (lookup_all o) ≡ Some stale
  unfolding first_failure lookup_all
  lookup_absent o is = ap (λ (o : Option File). first_failure (lookup_all o)) is

  lookup_there : (o : Option File) (f : File) → o ≡ Some f → first_failure (lookup_all o) ≡ first_failure (lookup_row n f name cred)
  unfolding first_failure lookup_all
  lookup_there o f is = ap (λ (o : Option File). first_failure (lookup_all o)) is

pub respond-lookup : (t : PlainTree) (dir : Handle) (name : List ℕ) (cred : Cred) (now : Stamp) (start : ℕ)
    → respond t (Lookup dir name) cred now start
    ≡ record { answer = answer_about t dir.0 (λ n d. lookup_row n d name cred) (λ n d. lookup_answer t n d name); tree = t; made = None }
unfolding argument_checks lookup_all
respond-lookup t dir name cred now start =
    respond-about t (Lookup dir name) cred now start dir.0 (λ n d. lookup_row n d name cred) (λ n d. lookup_answer t n d name) (record {
      edits = refl;
      absent = lookup_absent (number_in dir.0) name cred (file_of t dir.0);
      there = lookup_there (number_in dir.0) name cred (file_of t dir.0);
      answers = λ f is. ap (λ (o : Option File). option_map_or (λ f. lookup_answer t (number_in dir.0) f name) o (Fault stale)) is;
    })
