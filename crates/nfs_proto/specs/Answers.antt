-- The results of the procedures (RFC 1094, section 2.2): how they are spelled, and what reading them gives.
use Rattle.std.specs.Prelude.{◌≡◌, ◌≤◌, ◌==◌, ℕ, zero, suc, Bool, true, false, ◌||◌, if◌then◌else◌, List, [], ◌∷◌, ◌++◌, length, Option, Some, None, slice_get, Result, Ok, Err, ◌⊎◌}
use Rattle.std.specs.List.{AllByRecursion}
use Rattle.sfs_base.specs.Reading.{◌>>=◌}
use Rattle.sfs_xdr.specs.Items.{word, words, boolean, opaque, opaque_var}
use Rattle.sfs_xdr.specs.Codec.{Reading, both_of, made_of, number_item, boolean_item, ◌⟫◌, IsNumber, IsBoolean}
use Rattle.nfs_proto.specs.declared.answer.Answer.{Answer}
use Rattle.nfs_proto.specs.declared.answer.Answer.TheVariants as answer
use Rattle.sfs_xdr.specs.declared.arg_fault.ArgFault.{ArgFault}
use Rattle.sfs_xdr.specs.declared.arg_fault.ArgFault.TheVariants as fault
use Rattle.nfs_proto.specs.declared.dir_entry.DirEntry.{DirEntry}
use Rattle.nfs_proto.specs.declared.form.Form.{Form}
use Rattle.nfs_proto.specs.declared.form.Form.TheVariants as form
use Rattle.nfs_proto.specs.Types.{IsHandle, handle_item, IsName, name_item, IsPath, path_item, IsData, data_item, IsFattr, fattr_item, fattr_words}
use Rattle.nfs_proto.specs.Arguments.{nothing}

-- ---- statuses and forms

-- the statuses other than OK (RFC 1094, section 2.3.1)
abbrev pub is_fault : ℕ → Bool
is_fault s =
    (s == 1) || ((s == 2) || ((s == 5) || ((s == 6) || ((s == 13) || ((s == 17) || ((s == 19) || ((s == 20) || ((s == 21) || ((s == 27) || ((s == 28) || ((s == 30) || ((s == 63)
    || ((s == 66) || ((s == 69) || ((s == 70) || (s == 99))))))))))))))))

-- the forms of the results, in the order of the procedures
abbrev pub forms : List Form
forms =
    form.Nothing ∷ form.Attr ∷ form.Attr ∷ form.Nothing ∷ form.Found ∷ form.Path ∷ form.Part ∷ form.Nothing ∷ form.Attr ∷ form.Found ∷ form.Plain ∷ form.Plain
    ∷ form.Plain ∷ form.Plain ∷ form.Found ∷ form.Plain ∷ form.Names ∷ form.Space ∷ []

abbrev pub form_of : ℕ → Option Form
form_of procedure = slice_get forms procedure

-- ---- names of a directory

-- the number of its file, the name, and a cookie
abbrev pub IsEntry : DirEntry → List ℕ → Type 0
IsEntry e = IsNumber e.fileid ⟫ IsName e.name ⟫ IsNumber e.cookie

abbrev pub entry_from : ℕ × (List ℕ × ℕ) → DirEntry
entry_from p = record { fileid = p.0; name = p.1.0; cookie = p.1.1 }

unfoldable pub entry_item : Reading DirEntry
entry_item = made_of entry_from (both_of number_item (both_of name_item number_item))

-- each name behind a true, and a false behind the last
abbrev pub IsEntries : List DirEntry → List ℕ → Type 0
IsEntries [] item = IsBoolean false item
IsEntries (e ∷ es) item = (IsBoolean true ⟫ IsEntry e ⟫ IsEntries es) item

-- at most so many names less one
unfoldable pub entries_within : ℕ → Reading (List DirEntry)
entries_within zero bytes = Err tt
entries_within (suc n) bytes = do
  more ← boolean_item bytes
  if more.0 then (entry_item more.1 >>= λ e. entries_within n e.1 >>= λ es. Ok (e.0 ∷ es.0, es.1)) else Ok ([], more.1)

-- there are fewer names than bytes
abbrev pub entries_item : Reading (List DirEntry)
entries_item bytes = entries_within (length bytes) bytes

-- ---- results behind the status OK

abbrev pub IsSpace : ℕ → ℕ → ℕ → ℕ → ℕ → List ℕ → Type 0
IsSpace tsize bsize blocks bfree bavail = IsNumber tsize ⟫ IsNumber bsize ⟫ IsNumber blocks ⟫ IsNumber bfree ⟫ IsNumber bavail

unfoldable pub plain_of : Reading Answer
plain_of = made_of (λ u. answer.Plain) nothing

unfoldable pub attr_of : Reading Answer
attr_of = made_of (λ a. answer.Attr a) fattr_item

unfoldable pub found_of : Reading Answer
found_of = made_of (λ p. answer.Found p.0 p.1) (both_of handle_item fattr_item)

unfoldable pub path_of : Reading Answer
path_of = made_of (λ p. answer.Path p) path_item

unfoldable pub part_of : Reading Answer
part_of = made_of (λ p. answer.Part p.0 p.1) (both_of fattr_item data_item)

unfoldable pub names_of : Reading Answer
names_of = made_of (λ p. answer.Names p.0 p.1) (both_of entries_item boolean_item)

unfoldable pub space_of : Reading Answer
space_of = made_of (λ p. answer.Space p.0 p.1.0 p.1.1.0 p.1.1.1.0 p.1.1.1.1) (both_of number_item (both_of number_item (both_of number_item (both_of number_item number_item))))

-- by its form
abbrev pub body_of : Form → Reading Answer
body_of form.Nothing bytes = Err tt
body_of form.Plain bytes = plain_of bytes
body_of form.Attr bytes = attr_of bytes
body_of form.Found bytes = found_of bytes
body_of form.Path bytes = path_of bytes
body_of form.Part bytes = part_of bytes
body_of form.Names bytes = names_of bytes
body_of form.Space bytes = space_of bytes

-- ---- results

-- the status, and behind OK the rest
unfoldable pub status_of : Form → Reading Answer
status_of f bytes = do
  status ← number_item bytes
  if status.0 == 0 then body_of f status.1 else if is_fault status.0 then Ok (answer.Fault status.0, status.1) else Err tt

unfoldable pub empty_of : Reading Answer
empty_of = made_of (λ u. answer.Empty) nothing

abbrev pub result_of : Form → Reading Answer
result_of form.Nothing bytes = empty_of bytes
result_of form.Plain bytes = status_of form.Plain bytes
result_of form.Attr bytes = status_of form.Attr bytes
result_of form.Found bytes = status_of form.Found bytes
result_of form.Path bytes = status_of form.Path bytes
result_of form.Part bytes = status_of form.Part bytes
result_of form.Names bytes = status_of form.Names bytes
result_of form.Space bytes = status_of form.Space bytes

-- a value that was read, without what follows it
abbrev pub value_of : Result (Answer × List ℕ) (Unit {0}) → Result Answer ArgFault
value_of (Ok a) = Ok a.0
value_of (Err e) = Err fault.Garbage

abbrev pub answered_by : Option Form → List ℕ → Result Answer ArgFault
answered_by None bytes = Err fault.NoProcedure
answered_by (Some f) bytes = value_of (result_of f bytes)

-- the result of a procedure that the bytes begin with
unfoldable pub answer_of : ℕ → List ℕ → Result Answer ArgFault
answer_of procedure bytes = answered_by (form_of procedure) bytes

-- ---- the grammar

-- what is spelled behind the status OK
abbrev pub IsBody : Form → Answer → List ℕ → Type 0
IsBody f answer.Empty item = ⊥
IsBody f (answer.Fault status) item = ⊥
IsBody f answer.Plain item = (f ≡ form.Plain) × (item ≡ [])
IsBody f (answer.Attr attr) item = (f ≡ form.Attr) × IsFattr attr item
IsBody f (answer.Found file attr) item = (f ≡ form.Found) × (IsHandle file ⟫ IsFattr attr) item
IsBody f (answer.Path path) item = (f ≡ form.Path) × IsPath path item
IsBody f (answer.Part attr bytes) item = (f ≡ form.Part) × (IsFattr attr ⟫ IsData bytes) item
IsBody f (answer.Names entries eof) item = (f ≡ form.Names) × (IsEntries entries ⟫ IsBoolean eof) item
IsBody f (answer.Space tsize bsize blocks bfree bavail) item = (f ≡ form.Space) × IsSpace tsize bsize blocks bfree bavail item

-- a status other than OK alone
abbrev pub IsFault : Answer → List ℕ → Type 0
IsFault a item = (status : ℕ) × (a ≡ answer.Fault status) × (is_fault status ≡ true) × IsNumber status item

-- the result of a procedure whose result has this form
abbrev pub IsResult : Form → Answer → List ℕ → Type 0
IsResult form.Nothing a item = (a ≡ answer.Empty) × (item ≡ [])
IsResult form.Plain a item = IsFault a item ⊎ (IsNumber 0 ⟫ IsBody form.Plain a) item
IsResult form.Attr a item = IsFault a item ⊎ (IsNumber 0 ⟫ IsBody form.Attr a) item
IsResult form.Found a item = IsFault a item ⊎ (IsNumber 0 ⟫ IsBody form.Found a) item
IsResult form.Path a item = IsFault a item ⊎ (IsNumber 0 ⟫ IsBody form.Path a) item
IsResult form.Part a item = IsFault a item ⊎ (IsNumber 0 ⟫ IsBody form.Part a) item
IsResult form.Names a item = IsFault a item ⊎ (IsNumber 0 ⟫ IsBody form.Names a) item
IsResult form.Space a item = IsFault a item ⊎ (IsNumber 0 ⟫ IsBody form.Space a) item

-- ---- what a writer spells

abbrev pub entry_spelling : DirEntry → List ℕ
entry_spelling e = word e.fileid ++ (opaque_var e.name ++ word e.cookie)

abbrev pub entries_spelling : List DirEntry → List ℕ
entries_spelling [] = boolean false
entries_spelling (e ∷ es) = boolean true ++ (entry_spelling e ++ entries_spelling es)

abbrev pub answer_spelling : Answer → List ℕ
answer_spelling answer.Empty = []
answer_spelling (answer.Fault status) = word status
answer_spelling answer.Plain = word 0
answer_spelling (answer.Attr attr) = words (0 ∷ fattr_words attr)
answer_spelling (answer.Found file attr) = word 0 ++ (opaque file.0 ++ words (fattr_words attr))
answer_spelling (answer.Path path) = word 0 ++ opaque_var path
answer_spelling (answer.Part attr bytes) = words (0 ∷ fattr_words attr) ++ opaque_var bytes
answer_spelling (answer.Names entries eof) = word 0 ++ (entries_spelling entries ++ boolean eof)
answer_spelling (answer.Space tsize bsize blocks bfree bavail) = words (0 ∷ tsize ∷ bsize ∷ blocks ∷ bfree ∷ bavail ∷ [])

-- names, paths and data are not too long, and a status is one
abbrev pub IsFitAnswer : Answer → Type 0
IsFitAnswer answer.Empty = Unit {0}
IsFitAnswer (answer.Fault status) = is_fault status ≡ true
IsFitAnswer answer.Plain = Unit {0}
IsFitAnswer (answer.Attr attr) = Unit {0}
IsFitAnswer (answer.Found file attr) = Unit {0}
IsFitAnswer (answer.Path path) = length path ≤ 1024
IsFitAnswer (answer.Part attr bytes) = length bytes ≤ 8192
IsFitAnswer (answer.Names entries eof) = AllByRecursion (λ e. length e.name ≤ 1024) entries
IsFitAnswer (answer.Space tsize bsize blocks bfree bavail) = Unit {0}
