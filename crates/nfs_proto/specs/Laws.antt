-- That reading takes just the spellings of arguments and results, and that what is written is one of them.
use Rattle.std.specs.Prelude.{◌≡◌, ◌<◌, ◌≤◌, ◌^◌, ℕ, [], ◌∷◌, length}
use Rattle.std.specs.List.{AllByRecursion}
use Rattle.sfs_base.specs.Reading.{IsExact}
use Rattle.sfs_xdr.specs.Items.{AreWords}
use Rattle.nfs_proto.specs.declared.answer.Answer.{Answer}
use Rattle.nfs_proto.specs.declared.answer.Answer.TheVariants as answer
use Rattle.nfs_proto.specs.declared.call.Call.{Call}
use Rattle.nfs_proto.specs.declared.call.Call.TheVariants.{Null, GetAttr, SetAttr, Root, Lookup, ReadLink, Read, WriteCache, Write, Create, Remove, Rename, Link, SymLink, MakeDir, RemoveDir, ReadDir, StatFs}
use Rattle.nfs_proto.specs.declared.dir_entry.DirEntry.{DirEntry}
use Rattle.nfs_proto.specs.declared.form.Form.{Form}
use Rattle.nfs_proto.specs.declared.form.Form.TheVariants as form
use Rattle.nfs_proto.specs.declared.handle.Handle.{Handle}
use Rattle.nfs_proto.specs.Types.{sattr_words, fattr_words}
use Rattle.nfs_proto.specs.Arguments.{procedure_of, IsArguments, IsFit, arguments_of, arguments_spelling}
use Rattle.nfs_proto.specs.Answers.{result_of, IsResult, IsFitAnswer, answer_spelling}

-- a handle has 32 bytes
abbrev pub IsWhole : Handle → Type 0
IsWhole h = length h.0 ≡ 32

-- what the types of a call's fields make sure of
abbrev pub IsTyped : Call → Type 0
IsTyped Null = Unit {0}
IsTyped (GetAttr file) = IsWhole file
IsTyped (SetAttr file set) = IsWhole file × AreWords (sattr_words set)
IsTyped Root = Unit {0}
IsTyped (Lookup dir name) = IsWhole dir
IsTyped (ReadLink file) = IsWhole file
IsTyped (Read file offset count total) = IsWhole file × (offset < 2 ^ 32) × (count < 2 ^ 32) × (total < 2 ^ 32)
IsTyped WriteCache = Unit {0}
IsTyped (Write file begin offset total bytes) = IsWhole file × (begin < 2 ^ 32) × (offset < 2 ^ 32) × (total < 2 ^ 32)
IsTyped (Create dir name set) = IsWhole dir × AreWords (sattr_words set)
IsTyped (Remove dir name) = IsWhole dir
IsTyped (Rename from from_name to to_name) = IsWhole from × IsWhole to
IsTyped (Link file dir name) = IsWhole file × IsWhole dir
IsTyped (SymLink dir name path set) = IsWhole dir × AreWords (sattr_words set)
IsTyped (MakeDir dir name set) = IsWhole dir × AreWords (sattr_words set)
IsTyped (RemoveDir dir name) = IsWhole dir
IsTyped (ReadDir dir cookie count) = IsWhole dir × (cookie < 2 ^ 32) × (count < 2 ^ 32)
IsTyped (StatFs file) = IsWhole file

-- reading the arguments of a procedure takes the spellings of its calls and nothing else
abbrev pub ArgumentsAreExact : Type 0
ArgumentsAreExact = (procedure : ℕ) → procedure ≤ 17 → IsExact (arguments_of procedure) (λ call item. (procedure_of call ≡ procedure) × IsArguments call item)

-- what is written of a call is one of its spellings
abbrev pub ArgumentsAreWritten : Type 0
ArgumentsAreWritten = (call : Call) → IsTyped call → IsFit call → IsArguments call (arguments_spelling call)

-- ---- results

-- what the types of a name's fields make sure of
abbrev pub IsTypedEntry : DirEntry → Type 0
IsTypedEntry e = (e.fileid < 2 ^ 32) × (e.cookie < 2 ^ 32)

-- what the types of an answer's fields make sure of
abbrev pub IsTypedAnswer : Answer → Type 0
IsTypedAnswer answer.Empty = Unit {0}
IsTypedAnswer (answer.Fault status) = status < 2 ^ 32
IsTypedAnswer answer.Plain = Unit {0}
IsTypedAnswer (answer.Attr attr) = AreWords (fattr_words attr)
IsTypedAnswer (answer.Found file attr) = IsWhole file × AreWords (fattr_words attr)
IsTypedAnswer (answer.Path path) = Unit {0}
IsTypedAnswer (answer.Part attr bytes) = AreWords (fattr_words attr)
IsTypedAnswer (answer.Names entries eof) = AllByRecursion IsTypedEntry entries
IsTypedAnswer (answer.Space tsize bsize blocks bfree bavail) = AreWords (tsize ∷ bsize ∷ blocks ∷ bfree ∷ bavail ∷ [])

-- an answer is one of a procedure whose result has this form
abbrev pub Belongs : Form → Answer → Type 0
Belongs f answer.Empty = f ≡ form.Nothing
Belongs f (answer.Fault status) = f ≡ form.Nothing → ⊥
Belongs f answer.Plain = f ≡ form.Plain
Belongs f (answer.Attr attr) = f ≡ form.Attr
Belongs f (answer.Found file attr) = f ≡ form.Found
Belongs f (answer.Path path) = f ≡ form.Path
Belongs f (answer.Part attr bytes) = f ≡ form.Part
Belongs f (answer.Names entries eof) = f ≡ form.Names
Belongs f (answer.Space tsize bsize blocks bfree bavail) = f ≡ form.Space

-- reading a result takes its spellings and nothing else
abbrev pub ResultsAreExact : Type 0
ResultsAreExact = (f : Form) → IsExact (result_of f) (IsResult f)

-- what is written of an answer is one of its spellings
abbrev pub ResultsAreWritten : Type 0
ResultsAreWritten = (f : Form) (a : Answer) → Belongs f a → IsTypedAnswer a → IsFitAnswer a → IsResult f a (answer_spelling a)
