-- Every answer is one that a client can be told.
use Rattle.std.proofs.Common.{◌≡◌, ℕ, zero, suc, ◌+◌, ◌-◌, ◌≤◌, Bool, true, false, cond, List, [], ◌∷◌, length, Option, Some, None, refl, subst, ◌∙◌, arith}
use Rattle.std.specs.Prelude.{nat_lt, nat_le, min, filter, slice_get, sum_by, option_and_then, bytes_eq, unwrap_or}
use Rattle.std.specs.List.{AllByRecursion}
use Rattle.std.specs.Option.{option_map_or}
use Rattle.std.specs.FinMap as table
use Rattle.std.proofs.lemmas.Bool.{not-false, leb-true}
use Rattle.std.proofs.lemmas.List.{length-map, length_push}
use Rattle.std.proofs.lemmas.List.Sums.{sum_by-cons}
use Rattle.rpc_msg.specs.declared.cred.Cred.{Cred}
use Rattle.nfs_proto.specs.declared.answer.Answer.{Answer}
use Rattle.nfs_proto.specs.declared.answer.Answer.TheVariants.{Fault, Attr, Found}
use Rattle.nfs_proto.specs.declared.call.Call.{Call}
use Rattle.nfs_proto.specs.declared.call.Call.TheVariants.{Null, GetAttr, SetAttr, Root, Lookup, ReadLink, Read, WriteCache, Write, Create, Remove, Rename, Link, SymLink, MakeDir, RemoveDir, ReadDir, StatFs}
use Rattle.nfs_proto.specs.declared.dir_entry.DirEntry.{DirEntry}
use Rattle.nfs_proto.specs.declared.stamp.Stamp.{Stamp}
use Rattle.fs_rules.specs.declared.content.Content.{Content}
use Rattle.fs_rules.specs.declared.content.Content.TheVariants.{Regular, Link as LinkTo, Directory}
use Rattle.fs_rules.specs.declared.entry.Entry.{Entry}
use Rattle.fs_rules.specs.declared.file.File.{File}
use Rattle.fs_rules.specs.declared.plain_tree.PlainTree.{PlainTree}
use Rattle.fs_rules.specs.Handle.{handle, number_in}
use Rattle.fs_rules.specs.Lists.{below}
use Rattle.fs_rules.specs.File.{BlockMap, is_link, fattr_of, blocks_of, slots_of, parent_of}
use Rattle.fs_rules.specs.Contents.{part, byte_at}
use Rattle.fs_rules.specs.Slots.{entries_from, entries_of, entry_size, fitting, at_least_one, run_of}
use Rattle.fs_rules.specs.Statuses.{Check, first_failure, stale, noent}
use Rattle.fs_rules.specs.Edits.{Edit, edited, limits}
use Rattle.fs_rules.specs.Arguments.{file_of, at_file, argument_checks}
use Rattle.fs_rules.specs.Reading.{attr_at, found_at, target, lookup_answer, read_link_checks, read_link_answer, read_answer, names_answer, read_dir_answer, space_answer}
use Rattle.fs_rules.specs.Respond.{own_checks, edits_of, answer_of, checks, decided, respond, IsTold}
use Rattle.fs_rules.specs.Good.{IsGood, IsInOrder}
use Rattle.fs_laws.specs.Laws.{AnswersCanBeTold}
use Rattle.fs_laws.proofs.StatusLemmas.{ArePassed, passed, passed_front, passed_back, not_so, HasStatus, first_has, checks_have}

-- ---- a file that a handle names

chosen : (o : Option File) (test : File → Bool) (f : File) → option_and_then (λ g. cond (test g) (Some g) None) o ≡ Some f → o ≡ Some f
chosen None test f h = absurd cc
chosen (Some g) test f h =
    elim (test g) as (λ b. cond b (Some g) None ≡ Some f → ◌≡◌ {A = Option File} (Some g) (Some f)) [
      | true ↦ λ is. is
      | false ↦ λ is. absurd cc
    ] h

-- it lives
pub live : (t : PlainTree) (name : List ℕ) (f : File) → file_of t name ≡ Some f → table.get t.files (number_in name) ≡ Some f
live t name f h = chosen (table.get t.files (number_in name)) (λ g. bytes_eq name (handle (number_in name) g.generation)) f h

-- ---- parts of files

pub length_below : (n : ℕ) → length (below n) ≡ n
unfolding below
length_below zero = refl
length_below (suc n) = length_push (below n) n ∙ omega (arith, length_below n)

pub length_part : (blocks : BlockMap) (from count : ℕ) → length (part blocks from count) ≡ count
unfolding part
length_part blocks from count = length-map (below count) (λ i. byte_at blocks (from + i)) ∙ length_below count

-- ---- entries of directories

-- no name is longer than 255 bytes
abbrev AreShort : List DirEntry → Type 0
AreShort entries = AllByRecursion (λ e. length e.name ≤ 255) entries

-- the names of slots are not longer
abbrev HaveShort : List (Option Entry) → Type 0
HaveShort slots = (i : ℕ) (e : Entry) → slice_get slots i ≡ Some (Some e) → length e.name ≤ 255

from_short : (i : ℕ) (slots : List (Option Entry)) → HaveShort slots → AreShort (entries_from i slots)
unfolding entries_from
from_short i [] h = tt
from_short i (None ∷ slots) h = from_short (i + 1) slots (λ k e is. h (suc k) e is)
from_short i (Some d ∷ slots) h = (h 0 d refl, from_short (i + 1) slots (λ k e is. h (suc k) e is))

of_short : (n parent : ℕ) (slots : List (Option Entry)) → HaveShort slots → AreShort (entries_of n parent slots)
unfolding entries_of
of_short n parent slots h = (omega arith, (omega arith, from_short 0 slots h))

filter_short : (p : DirEntry → Bool) (es : List DirEntry) → AreShort es → AreShort (filter p es)
filter_short p [] h = tt
filter_short p (e ∷ es) h =
    elim (p e) as (λ b. AreShort (cond b (e ∷ filter p es) (filter p es))) [
      | true ↦ (h.0, filter_short p es h.1)
      | false ↦ filter_short p es h.1
    ]

fitting_short : (room : ℕ) (es : List DirEntry) → AreShort es → AreShort (fitting room es)
unfolding fitting
fitting_short room [] h = tt
fitting_short room (e ∷ es) h =
    elim (nat_le (entry_size e) room) as (λ b. AreShort (cond b (e ∷ fitting (room - entry_size e) es) [])) [
      | true ↦ (h.0, fitting_short (room - entry_size e) es h.1)
      | false ↦ tt
    ]

fitting_room : (room : ℕ) (es : List DirEntry) → sum_by entry_size (fitting room es) ≤ room
unfolding fitting
fitting_room room [] = omega arith
fitting_room room (e ∷ es) =
    elim (nat_le (entry_size e) room) as (λ b. nat_le (entry_size e) room ≡ b → sum_by entry_size (cond b (e ∷ fitting (room - entry_size e) es) []) ≤ room) [
      | true ↦ λ is. omega (arith, leb-true (entry_size e) room is, fitting_room (room - entry_size e) es, sum_by-cons entry_size e (fitting (room - entry_size e) es))
      | false ↦ λ is. omega arith
    ] refl

-- what a run of entries keeps to
record IsRun (room : ℕ) (run : List DirEntry) : Type 0 where
  short : AreShort run
  fits : sum_by entry_size run ≤ room

one_size : (e : DirEntry) → length e.name ≤ 255 → entry_size e ≤ 16 + 258
one_size e h = omega arith

one_run : (run es : List DirEntry) (room : ℕ) → 16 + 258 ≤ room → IsRun room run → AreShort es → IsRun room (at_least_one run es)
one_run [] [] room wide is short = is
one_run [] (e ∷ es) room wide is short = record { short = (short.0, tt); fits = omega (arith, one_size e short.0, sum_by-cons entry_size e []) }
one_run (e ∷ run) es room wide is short = is

run_short : (count : ℕ) (es : List DirEntry) → AreShort es → IsRun 8192 (run_of count es)
run_short count es short =
    one_run (fitting (min count 8192 - 8) es) es 8192 (omega arith)
    (record { short = fitting_short (min count 8192 - 8) es short; fits = omega (arith, fitting_room (min count 8192 - 8) es) }) short

within : (es : List DirEntry) → AreShort es → AllByRecursion (λ e. length e.name ≤ 1024) es
within [] h = tt
within (e ∷ es) h = (omega (arith, h.0), within es h.1)

-- the names of a directory of a good tree
slots_short : (t : PlainTree) (n : ℕ) (f : File) (c : Content) → IsInOrder t n f c → HaveShort (slots_of c)
slots_short t n f (Regular blocks) h i e is = absurd cc
slots_short t n f (Directory slots parent) h i e is = (h.1.names i e is).0.sized.1
slots_short t n f (LinkTo blocks) h i e is = absurd cc

link_size : (t : PlainTree) (n : ℕ) (f : File) (c : Content) → IsInOrder t n f c → is_link c ≡ true → f.size ≤ 1024
link_size t n f (Regular blocks) h is = absurd cc
link_size t n f (Directory slots parent) h is = absurd cc
link_size t n f (LinkTo blocks) h is = h.0

-- ---- answers

told_attr : (t : PlainTree) (n : ℕ) → IsTold (attr_at t n)
told_attr t n = go (table.get t.files n) where
  go : (o : Option File) → IsTold (option_map_or (λ f. Attr (fattr_of n f)) o (Fault stale))
  go None = (refl, tt)
  go (Some f) = (tt, tt)

told_found : (t : PlainTree) (n : ℕ) → IsTold (found_at t n)
told_found t n = go (table.get t.files n) where
  go : (o : Option File) → IsTold (option_map_or (λ f. Found (record { 0 = handle n f.generation }) (fattr_of n f)) o (Fault stale))
  go None = (refl, tt)
  go (Some f) = (tt, tt)

told_lookup : (t : PlainTree) (n : ℕ) (f : File) (name : List ℕ) → IsTold (lookup_answer t n f name)
unfolding lookup_answer
told_lookup t n f name = elim (target n f name) as (λ o. IsTold (option_map_or (found_at t) o (Fault noent))) [
  | None ↦ (refl, tt)
  | Some m ↦ told_found t m
]

-- an answer that is given of the file of a handle
told_of : (t : PlainTree) (name : List ℕ) (said : ℕ → File → Answer) → ((f : File) → file_of t name ≡ Some f → IsTold (said (number_in name) f))
    → IsTold (at_file t name (Fault stale) said)
told_of t name said each = go (file_of t name) refl where
  go : (o : Option File) → file_of t name ≡ o → IsTold (option_map_or (said (number_in name)) o (Fault stale))
  go None is = (refl, tt)
  go (Some f) is = each f is

told_link : (t : PlainTree) (name : List ℕ) → IsGood t → ArePassed (at_file t name [] (λ n f. read_link_checks f))
    → IsTold (at_file t name (Fault stale) (λ n f. read_link_answer f))
unfolding read_link_answer
told_link t name good checked = told_of t name (λ n f. read_link_answer f) (λ f is.
    let here : ArePassed (read_link_checks f) = subst (λ (o : Option File). ArePassed (option_map_or read_link_checks o [])) is checked in
    let small : f.size ≤ 1024 = link_size t (number_in name) f f.content (good.files (number_in name) f (live t name f is)).content (not-false _ (not_so 6 _ here.0)) in
    (omega (arith, small, length_part (blocks_of f.content) 0 f.size), tt))

told_read : (n : ℕ) (f : File) (offset count : ℕ) → IsTold (read_answer n f offset count)
unfolding read_answer
told_read n f offset count = (omega (arith, length_part (blocks_of f.content) offset (min count (min 8192 (f.size - offset)))), tt)

told_names : (count : ℕ) (es : List DirEntry) → AreShort es → IsTold (names_answer count es)
told_names count es short = let run = run_short count es short in (within (run_of count es) run.short, run.fits)

told_dir : (t : PlainTree) (n : ℕ) (f : File) (cookie count : ℕ) → IsInOrder t n f f.content → IsTold (read_dir_answer n f cookie count)
unfolding read_dir_answer
told_dir t n f cookie count order =
    let all : AreShort (entries_of n (unwrap_or (parent_of f.content) n) (slots_of f.content)) = of_short n _ (slots_of f.content) (slots_short t n f f.content order) in
    told_names count _ (filter_short (λ e. nat_lt cookie e.cookie) _ all)

told_space : (t : PlainTree) → IsTold (space_answer t)
unfolding space_answer
told_space t = (tt, tt)

-- the tree that is left where no check fails
abbrev left : PlainTree → Call → Cred → Stamp → ℕ → PlainTree
left t call cred now start = edited now t (edits_of t call cred now start)

-- what is answered then
told_passed : (t : PlainTree) (call : Call) (cred : Cred) (now : Stamp) (start : ℕ) → IsGood t → ArePassed (own_checks t call cred)
    → IsTold (answer_of (left t call cred now start) call)
unfolding edited
told_passed t Null cred now start good own = (tt, tt)
told_passed t (GetAttr file) cred now start good own = told_attr (left t (GetAttr file) cred now start) (number_in file.0)
told_passed t (SetAttr file set) cred now start good own = told_attr (left t (SetAttr file set) cred now start) (number_in file.0)
told_passed t Root cred now start good own = (tt, tt)
told_passed t (Lookup dir name) cred now start good own = told_of t dir.0 (λ n d. lookup_answer t n d name) (λ f is. told_lookup t (number_in dir.0) f name)
told_passed t (ReadLink file) cred now start good own = told_link t file.0 good own
told_passed t (Read file offset count total) cred now start good own = told_of t file.0 (λ n f. read_answer n f offset count) (λ f is. told_read (number_in file.0) f offset count)
told_passed t WriteCache cred now start good own = (tt, tt)
told_passed t (Write file begin offset total bytes) cred now start good own = told_attr (left t (Write file begin offset total bytes) cred now start) (number_in file.0)
told_passed t (Create dir name set) cred now start good own =
    let u = left t (Create dir name set) cred now start in
    told_of u dir.0 (λ n d. lookup_answer u n d name) (λ f is. told_lookup u (number_in dir.0) f name)
told_passed t (Remove dir name) cred now start good own = (tt, tt)
told_passed t (Rename from from_name to to_name) cred now start good own = (tt, tt)
told_passed t (Link file dir name) cred now start good own = (tt, tt)
told_passed t (SymLink dir name path set) cred now start good own = (tt, tt)
told_passed t (MakeDir dir name set) cred now start good own =
    let u = left t (MakeDir dir name set) cred now start in
    told_of u dir.0 (λ n d. lookup_answer u n d name) (λ f is. told_lookup u (number_in dir.0) f name)
told_passed t (RemoveDir dir name) cred now start good own = (tt, tt)
told_passed t (ReadDir dir cookie count) cred now start good own =
    told_of t dir.0 (λ n d. read_dir_answer n d cookie count) (λ f is. told_dir t (number_in dir.0) f cookie count (good.files (number_in dir.0) f (live t dir.0 f is)).content)
told_passed t (StatFs file) cred now start good own = told_space t

pub answers_can_be_told : AnswersCanBeTold
unfolding respond checks
answers_can_be_told t call cred now start good =
    go (first_failure (checks t call cred start edits)) refl (first_has (checks t call cred start edits) (checks_have t call cred start edits)) where
      edits : List Edit
      edits = edits_of t call cred now start

      go : (c : Check) → first_failure (checks t call cred start edits) ≡ c → HasStatus c → IsTold (decided c t call now edits).answer
      go (Some status) is has = (has, tt)
      go None is has = told_passed t call cred now start good (passed_front _ (limits t start edits) (passed_back (argument_checks t call cred) _ (passed _ is)))
