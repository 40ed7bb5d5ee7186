-- What a call is answered, and which tree it leaves: the rules of the file system, call by call (RFC 1094, section 2.2).
use Rattle.std.specs.Prelude.{◌≡◌, ◌≤◌, ℕ, List, [], ◌++◌, sum_by, Option, Some, None, IsSome}
use Rattle.rpc_msg.specs.declared.cred.Cred.{Cred}
use Rattle.nfs_proto.specs.declared.answer.Answer.{Answer}
use Rattle.nfs_proto.specs.declared.answer.Answer.TheVariants.{Empty, Fault, Plain, Attr, Found, Path, Part, Names, Space}
use Rattle.nfs_proto.specs.declared.call.Call.{Call}
use Rattle.nfs_proto.specs.declared.call.Call.TheVariants.{Null, GetAttr, SetAttr, Root, Lookup, ReadLink, Read, WriteCache, Write, Create, Remove, Rename, Link, SymLink, MakeDir, RemoveDir, ReadDir, StatFs}
use Rattle.nfs_proto.specs.declared.stamp.Stamp.{Stamp}
use Rattle.sfs_base.specs.Reading.{IsBytes}
use Rattle.nfs_proto.specs.Answers.{IsFitAnswer}
use Rattle.fs_rules.specs.declared.plain_tree.PlainTree.{PlainTree}
use Rattle.fs_rules.specs.Handle.{number_in}
use Rattle.fs_rules.specs.Numbers.{first_free}
use Rattle.fs_rules.specs.Slots.{entry_size}
use Rattle.fs_rules.specs.Statuses.{Check, first_failure, stale}
use Rattle.fs_rules.specs.Edits.{Edit, edited, first_made, limits}
use Rattle.fs_rules.specs.Arguments.{at_file, argument_checks}
use Rattle.fs_rules.specs.Attributes.{set_attr_checks, set_attr_edits}
use Rattle.fs_rules.specs.Reading.{attr_at, lookup_checks, lookup_answer, read_link_checks, read_link_answer, read_checks, read_answer, read_dir_checks, read_dir_answer, space_answer}
use Rattle.fs_rules.specs.Writing.{write_checks, write_edits}
use Rattle.fs_rules.specs.Making.{create_checks, create_edits, make_dir_checks, make_dir_edits, sym_link_checks, sym_link_edits}
use Rattle.fs_rules.specs.Names.{link_checks, link_edits, remove_checks, remove_edits, remove_dir_checks, remove_dir_edits, Move, move_of, rename_checks, rename_edits}

-- ---- the three tables of the procedures

-- what a RENAME moves
abbrev pub move_by : PlainTree → List ℕ → List ℕ → List ℕ → List ℕ → Option Move
move_by t from from_name to to_name = at_file t from None (λ a from_dir. at_file t to None (λ b to_dir. move_of t a from_dir from_name b to_dir to_name))

-- the checks of each procedure alone, where its arguments passed those that all share
abbrev pub own_checks : PlainTree → Call → Cred → List Check
own_checks t Null cred = []
own_checks t (GetAttr file) cred = []
own_checks t (SetAttr file set) cred = at_file t file.0 [] (λ n f. set_attr_checks f set cred)
own_checks t Root cred = []
own_checks t (Lookup dir name) cred = at_file t dir.0 [] (λ n d. lookup_checks n d name)
own_checks t (ReadLink file) cred = at_file t file.0 [] (λ n f. read_link_checks f)
own_checks t (Read file offset count total) cred = at_file t file.0 [] (λ n f. read_checks f cred)
own_checks t WriteCache cred = []
own_checks t (Write file begin offset total bytes) cred = at_file t file.0 [] (λ n f. write_checks f cred offset bytes)
own_checks t (Create dir name set) cred = at_file t dir.0 [] (λ n d. create_checks t d name set cred)
own_checks t (Remove dir name) cred = at_file t dir.0 [] (λ n d. remove_checks t d name)
own_checks t (Rename from from_name to to_name) cred = rename_checks t (move_by t from.0 from_name to.0 to_name) from_name to_name
own_checks t (Link file dir name) cred = at_file t file.0 [] (λ m f. at_file t dir.0 [] (λ n d. link_checks f d name))
own_checks t (SymLink dir name path set) cred = at_file t dir.0 [] (λ n d. sym_link_checks d name path)
own_checks t (MakeDir dir name set) cred = at_file t dir.0 [] (λ n d. make_dir_checks d name)
own_checks t (RemoveDir dir name) cred = at_file t dir.0 [] (λ n d. remove_dir_checks t d name)
own_checks t (ReadDir dir cookie count) cred = at_file t dir.0 [] (λ n d. read_dir_checks d cred)
own_checks t (StatFs file) cred = []

-- what each procedure changes, where no check fails
abbrev pub edits_of : PlainTree → Call → Cred → Stamp → ℕ → List Edit
edits_of t Null cred now start = []
edits_of t (GetAttr file) cred now start = []
edits_of t (SetAttr file set) cred now start = at_file t file.0 [] (set_attr_edits now set)
edits_of t Root cred now start = []
edits_of t (Lookup dir name) cred now start = []
edits_of t (ReadLink file) cred now start = []
edits_of t (Read file offset count total) cred now start = []
edits_of t WriteCache cred now start = []
edits_of t (Write file begin offset total bytes) cred now start = at_file t file.0 [] (write_edits now offset bytes)
edits_of t (Create dir name set) cred now start = at_file t dir.0 [] (λ n d. create_edits t start n d name set cred now)
edits_of t (Remove dir name) cred now start = at_file t dir.0 [] (λ n d. remove_edits t n d name now)
edits_of t (Rename from from_name to to_name) cred now start = rename_edits now (move_by t from.0 from_name to.0 to_name)
edits_of t (Link file dir name) cred now start = at_file t file.0 [] (λ m f. at_file t dir.0 [] (λ n d. link_edits m f n d name now))
edits_of t (SymLink dir name path set) cred now start = at_file t dir.0 [] (λ n d. sym_link_edits t start n d name path cred now)
edits_of t (MakeDir dir name set) cred now start = at_file t dir.0 [] (λ n d. make_dir_edits t start n d name set cred now)
edits_of t (RemoveDir dir name) cred now start = at_file t dir.0 [] (λ n d. remove_dir_edits t n d name now)
edits_of t (ReadDir dir cookie count) cred now start = []
edits_of t (StatFs file) cred now start = []

-- what each procedure answers over the tree that it leaves
abbrev pub answer_of : PlainTree → Call → Answer
answer_of t Null = Empty
answer_of t (GetAttr file) = attr_at t (number_in file.0)
answer_of t (SetAttr file set) = attr_at t (number_in file.0)
answer_of t Root = Empty
answer_of t (Lookup dir name) = at_file t dir.0 (Fault stale) (λ n d. lookup_answer t n d name)
answer_of t (ReadLink file) = at_file t file.0 (Fault stale) (λ n f. read_link_answer f)
answer_of t (Read file offset count total) = at_file t file.0 (Fault stale) (λ n f. read_answer n f offset count)
answer_of t WriteCache = Empty
answer_of t (Write file begin offset total bytes) = attr_at t (number_in file.0)
answer_of t (Create dir name set) = at_file t dir.0 (Fault stale) (λ n d. lookup_answer t n d name)
answer_of t (Remove dir name) = Plain
answer_of t (Rename from from_name to to_name) = Plain
answer_of t (Link file dir name) = Plain
answer_of t (SymLink dir name path set) = Plain
answer_of t (MakeDir dir name set) = at_file t dir.0 (Fault stale) (λ n d. lookup_answer t n d name)
answer_of t (RemoveDir dir name) = Plain
answer_of t (ReadDir dir cookie count) = at_file t dir.0 (Fault stale) (λ n d. read_dir_answer n d cookie count)
answer_of t (StatFs file) = space_answer t

-- ---- all of it

-- an answer, the tree that is left, and the number and generation of the file that was made
pub record Responded : Type 0 where
  pub answer : Answer
  pub tree : PlainTree
  pub made : Option (ℕ × ℕ)

-- all checks, in their order: those of the arguments, those of the procedure, and the limits of what it would change
unfoldable pub checks : PlainTree → Call → Cred → ℕ → List Edit → List Check
checks t call cred start edits = argument_checks t call cred ++ (own_checks t call cred ++ limits t start edits)

-- where a check fails, its status is the answer and the tree stays; else the changes are made
abbrev pub decided : Check → PlainTree → Call → Stamp → List Edit → Responded
decided (Some status) t call now edits = record { answer = Fault status; tree = t; made = None }
decided None t call now edits = record { answer = answer_of (edited now t edits) call; tree = edited now t edits; made = first_made edits }

-- what a call is answered where cred calls at the moment now; start is the memory node from which on a new file's number is
-- searched
unfoldable pub respond : PlainTree → Call → Cred → Stamp → ℕ → Responded
respond t call cred now start =
    decided (first_failure (checks t call cred start (edits_of t call cred now start))) t call now (edits_of t call cred now start)

-- the names, the data and the path of a call are bytes
abbrev pub HasBytes : Call → Type 0
HasBytes Null = Unit {0}
HasBytes (GetAttr file) = Unit {0}
HasBytes (SetAttr file set) = Unit {0}
HasBytes Root = Unit {0}
HasBytes (Lookup dir name) = IsBytes name
HasBytes (ReadLink file) = Unit {0}
HasBytes (Read file offset count total) = Unit {0}
HasBytes WriteCache = Unit {0}
HasBytes (Write file begin offset total bytes) = IsBytes bytes
HasBytes (Create dir name set) = IsBytes name
HasBytes (Remove dir name) = IsBytes name
HasBytes (Rename from from_name to to_name) = IsBytes from_name × IsBytes to_name
HasBytes (Link file dir name) = IsBytes name
HasBytes (SymLink dir name path set) = IsBytes name × IsBytes path
HasBytes (MakeDir dir name set) = IsBytes name
HasBytes (RemoveDir dir name) = IsBytes name
HasBytes (ReadDir dir cookie count) = Unit {0}
HasBytes (StatFs file) = Unit {0}

-- an answer that a client can be told: its texts and data are within their limits, and so are the entries of a directory
abbrev pub HasRoom : Answer → Type 0
HasRoom Empty = Unit {0}
HasRoom (Fault status) = Unit {0}
HasRoom Plain = Unit {0}
HasRoom (Attr attr) = Unit {0}
HasRoom (Found file attr) = Unit {0}
HasRoom (Path path) = Unit {0}
HasRoom (Part attr bytes) = Unit {0}
HasRoom (Names entries eof) = sum_by entry_size entries ≤ 8192
HasRoom (Space tsize bsize blocks bfree bavail) = Unit {0}

abbrev pub IsTold : Answer → Type 0
IsTold answer = IsFitAnswer answer × HasRoom answer

-- where a file is made, this is its number
abbrev pub IsPick : PlainTree → Call → Cred → Stamp → ℕ → Option ℕ → Type 0
IsPick t call cred now start pick = IsSome (respond t call cred now start).made → pick ≡ first_free t start
