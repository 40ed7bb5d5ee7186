-- What holds of whatever the rules answer: the cluster stays, and which file is made.
use Rattle.std.proofs.Common.{◌≡◌, ℕ, ◌<◌, Bool, true, false, cond, List, [], ◌∷◌, ◌++◌, length, Option, Some, None, refl, sym, subst, arith}
use Rattle.std.specs.Prelude.{IsSome, IfSome, nat_lt, ◌==◌, ◌≢◌}
use Rattle.std.specs.Option.{option_map_or}
use Rattle.std.specs.FinMap as table
use Rattle.rpc_msg.specs.declared.cred.Cred.{Cred}
use Rattle.nfs_proto.specs.declared.answer.Answer.{Answer}
use Rattle.nfs_proto.specs.declared.answer.Answer.TheVariants.{Fault}
use Rattle.nfs_proto.specs.declared.call.Call.{Call}
use Rattle.nfs_proto.specs.declared.call.Call.TheVariants.{Null, GetAttr, SetAttr, Root, Lookup, ReadLink, Read, WriteCache, Write, Create, Remove, Rename, Link, SymLink, MakeDir, RemoveDir, ReadDir, StatFs}
use Rattle.nfs_proto.specs.declared.handle.Handle.{Handle}
use Rattle.nfs_proto.specs.declared.sattr.Sattr.{Sattr}
use Rattle.nfs_proto.specs.declared.stamp.Stamp.{Stamp}
use Rattle.fs_rules.specs.declared.file.File.{File}
use Rattle.fs_rules.specs.declared.plain_tree.PlainTree.{PlainTree}
use Rattle.fs_rules.specs.File.{is_directory, slots_of}
use Rattle.fs_rules.specs.Slots.{file_named}
use Rattle.fs_layout.specs.Words.{spelled}
use Rattle.fs_layout.specs.Handles.{handle_words}
use Rattle.fs_rules.specs.Handle.{handle, number_in}
use Rattle.fs_rules.specs.Statuses.{Check, first_failure, noent, stale}
use Rattle.fs_rules.specs.Arguments.{file_of, at_file}
use Rattle.fs_rules.specs.Reading.{attr_at, found_at, target, lookup_answer, read_link_answer, read_answer, read_dir_answer, space_answer}
use Rattle.fs_rules.specs.Edits.{Edit, Changed, Made, Freed, edited, first_made}
use Rattle.fs_rules.specs.Attributes.{sets_something, is_set, set_attr_edits}
use Rattle.fs_rules.specs.Writing.{is_nothing, write_edits}
use Rattle.fs_rules.specs.Making.{new_file, new_number, create_edits, create_edits_by, existing_edits, make_dir_edits, sym_link_edits}
use Rattle.fs_rules.specs.Names.{Move, is_same, link_edits, unlinked, loses_link, remove_edits, remove_edits_by, remove_dir_edits, remove_dir_edits_by, directory_edits, replaced_edits, move_edits}
use Rattle.fs_rules.specs.Respond.{respond, checks, decided, edits_of, answer_of, move_by, IsPick}
use Rattle.fs_laws.proofs.EditLemmas.{geometry_edited}
use Rattle.line_text.specs.Grammar.{IsWritableFile}
use Rattle.fs_tree.specs.declared.response.Change.{Change}
use Rattle.nfs_service.specs.Reply.{HasHandle}
use Rattle.arrival_outcome.specs.Outcome.{IsSpelledChange}

-- ---- the cluster

decided_cluster : (c : Check) (t : PlainTree) (call : Call) (now : Stamp) (es : List Edit) → (decided c t call now es).tree.geometry ≡ t.geometry
decided_cluster (Some status) t call now es = refl
decided_cluster None t call now es = geometry_edited now t es

-- no call changes how large the cluster is
pub respond-cluster : (t : PlainTree) (call : Call) (cred : Cred) (now : Stamp) (start : ℕ) → (respond t call cred now start).tree.geometry ≡ t.geometry
unfolding respond
respond-cluster t call cred now start =
    decided_cluster (first_failure (checks t call cred start (edits_of t call cred now start))) t call now (edits_of t call cred now start)

-- ---- changes that make no file

abbrev IsUnmade : List Edit → Type 0
IsUnmade es = first_made es ≡ None

nothing_made : IsUnmade []
unfolding first_made
nothing_made = refl

change_unmade : (n : ℕ) (f : File) (es : List Edit) → IsUnmade es → IsUnmade (Changed n f ∷ es)
unfolding first_made
change_unmade n f es unmade = unmade

freed_unmade : (n : ℕ) (f : File) (es : List Edit) → IsUnmade es → IsUnmade (Freed n f ∷ es)
unfolding first_made
freed_unmade n f es unmade = unmade

both_unmade : (es more : List Edit) → IsUnmade es → IsUnmade more → IsUnmade (es ++ more)
unfolding first_made
both_unmade [] more unmade behind = behind
both_unmade (Changed n f ∷ es) more unmade behind = both_unmade es more unmade behind
both_unmade (Made n f ∷ es) more unmade behind = absurd cc
both_unmade (Freed n f ∷ es) more unmade behind = both_unmade es more unmade behind

either_unmade : (b : Bool) (es more : List Edit) → IsUnmade es → IsUnmade more → IsUnmade (cond b es more)
either_unmade true es more first second = first
either_unmade false es more first second = second

-- of something that there may be
said_unmade : {X : Type 0} (o : Option X) (said : X → List Edit) → ((x : X) → IsUnmade (said x)) → IsUnmade (option_map_or said o [])
said_unmade None said each = nothing_made
said_unmade (Some x) said each = each x

-- ---- procedure by procedure

set_attr_unmade : (now : Stamp) (set : Sattr) (n : ℕ) (f : File) → IsUnmade (set_attr_edits now set n f)
unfolding set_attr_edits
set_attr_unmade now set n f = either_unmade (sets_something set) (Changed n _ ∷ []) [] (change_unmade n _ [] nothing_made) nothing_made

write_unmade : (now : Stamp) (offset : ℕ) (bytes : List ℕ) (n : ℕ) (f : File) → IsUnmade (write_edits now offset bytes n f)
unfolding write_edits
write_unmade now offset bytes n f = either_unmade (is_nothing bytes) [] (Changed n _ ∷ []) nothing_made (change_unmade n _ [] nothing_made)

loses_unmade : (m : ℕ) (f : File) → IsUnmade (loses_link m f ∷ [])
loses_unmade m f = by_links (nat_lt 1 f.links)
  where
    by_links : (b : Bool) → IsUnmade (cond b (Changed m (unlinked 1 f)) (Freed m f) ∷ [])
    by_links true = change_unmade m (unlinked 1 f) [] nothing_made
    by_links false = freed_unmade m f [] nothing_made

remove_by_unmade : (t : PlainTree) (o : Option ℕ) (n : ℕ) (d : File) (name : List ℕ) (now : Stamp) → IsUnmade (remove_edits_by t o n d name now)
remove_by_unmade t None n d name now = nothing_made
remove_by_unmade t (Some m) n d name now = change_unmade n _ _ (said_unmade (table.get t.files m) (λ f. loses_link m f ∷ []) (loses_unmade m))

remove_unmade : (t : PlainTree) (n : ℕ) (d : File) (name : List ℕ) (now : Stamp) → IsUnmade (remove_edits t n d name now)
unfolding remove_edits
remove_unmade t n d name now = remove_by_unmade t (file_named (slots_of d.content) name) n d name now

remove_dir_by_unmade : (t : PlainTree) (o : Option ℕ) (n : ℕ) (d : File) (name : List ℕ) (now : Stamp) → IsUnmade (remove_dir_edits_by t o n d name now)
remove_dir_by_unmade t None n d name now = nothing_made
remove_dir_by_unmade t (Some m) n d name now = change_unmade n _ _ (said_unmade (table.get t.files m) (λ f. Freed m f ∷ []) (λ f. freed_unmade m f [] nothing_made))

remove_dir_unmade : (t : PlainTree) (n : ℕ) (d : File) (name : List ℕ) (now : Stamp) → IsUnmade (remove_dir_edits t n d name now)
unfolding remove_dir_edits
remove_dir_unmade t n d name now = remove_dir_by_unmade t (file_named (slots_of d.content) name) n d name now

link_unmade : (m : ℕ) (f : File) (n : ℕ) (d : File) (name : List ℕ) (now : Stamp) → IsUnmade (link_edits m f n d name now)
unfolding link_edits
link_unmade m f n d name now = change_unmade n _ _ (change_unmade m _ [] nothing_made)

replaced_unmade : (m : Move) → IsUnmade (replaced_edits m)
replaced_unmade m = said_unmade m.replaced _ (λ r. by_kind r (is_directory r.1.content))
  where
    by_kind : (r : ℕ × File) (b : Bool) → IsUnmade (cond b (Freed r.0 r.1) (loses_link r.0 r.1) ∷ [])
    by_kind r true = freed_unmade r.0 r.1 [] nothing_made
    by_kind r false = loses_unmade r.0 r.1

move_unmade : (now : Stamp) (m : Move) → IsUnmade (move_edits now m)
unfolding move_edits
move_unmade now m =
    either_unmade (is_same m) [] _ nothing_made
    (both_unmade (directory_edits now m) _
    (either_unmade (m.from == m.to) _ _ (change_unmade m.to _ [] nothing_made) (change_unmade m.from _ _ (change_unmade m.to _ [] nothing_made)))
    (change_unmade m.source _ (replaced_edits m) (replaced_unmade m)))

-- ---- all of them

-- the calls that may make a file
abbrev pub may_make : Call → Bool
may_make Null = false
may_make (GetAttr file) = false
may_make (SetAttr file set) = false
may_make Root = false
may_make (Lookup dir name) = false
may_make (ReadLink file) = false
may_make (Read file offset count total) = false
may_make WriteCache = false
may_make (Write file begin offset total bytes) = false
may_make (Create dir name set) = true
may_make (Remove dir name) = false
may_make (Rename from from_name to to_name) = false
may_make (Link file dir name) = false
may_make (SymLink dir name path set) = true
may_make (MakeDir dir name set) = true
may_make (RemoveDir dir name) = false
may_make (ReadDir dir cookie count) = false
may_make (StatFs file) = false

-- a call that is none of these makes none
pub others_make_nothing : (call : Call) → ((dir : Handle) (name : List ℕ) (set : Sattr) → call ≡ Create dir name set → ⊥)
    → ((dir : Handle) (name path : List ℕ) (set : Sattr) → call ≡ SymLink dir name path set → ⊥) → ((dir : Handle) (name : List ℕ) (set : Sattr) → call ≡ MakeDir dir name set → ⊥)
    → may_make call ≡ false
others_make_nothing Null create sym_link make_dir = refl
others_make_nothing (GetAttr file) create sym_link make_dir = refl
others_make_nothing (SetAttr file set) create sym_link make_dir = refl
others_make_nothing Root create sym_link make_dir = refl
others_make_nothing (Lookup dir name) create sym_link make_dir = refl
others_make_nothing (ReadLink file) create sym_link make_dir = refl
others_make_nothing (Read file offset count total) create sym_link make_dir = refl
others_make_nothing WriteCache create sym_link make_dir = refl
others_make_nothing (Write file begin offset total bytes) create sym_link make_dir = refl
others_make_nothing (Create dir name set) create sym_link make_dir = absurd (create dir name set refl)
others_make_nothing (Remove dir name) create sym_link make_dir = refl
others_make_nothing (Rename from from_name to to_name) create sym_link make_dir = refl
others_make_nothing (Link file dir name) create sym_link make_dir = refl
others_make_nothing (SymLink dir name path set) create sym_link make_dir = absurd (sym_link dir name path set refl)
others_make_nothing (MakeDir dir name set) create sym_link make_dir = absurd (make_dir dir name set refl)
others_make_nothing (RemoveDir dir name) create sym_link make_dir = refl
others_make_nothing (ReadDir dir cookie count) create sym_link make_dir = refl
others_make_nothing (StatFs file) create sym_link make_dir = refl

edits_unmade : (t : PlainTree) (call : Call) (cred : Cred) (now : Stamp) (start : ℕ) → may_make call ≡ false → IsUnmade (edits_of t call cred now start)
edits_unmade t Null cred now start other = nothing_made
edits_unmade t (GetAttr file) cred now start other = nothing_made
edits_unmade t (SetAttr file set) cred now start other = said_unmade (file_of t file.0) _ (set_attr_unmade now set _)
edits_unmade t Root cred now start other = nothing_made
edits_unmade t (Lookup dir name) cred now start other = nothing_made
edits_unmade t (ReadLink file) cred now start other = nothing_made
edits_unmade t (Read file offset count total) cred now start other = nothing_made
edits_unmade t WriteCache cred now start other = nothing_made
edits_unmade t (Write file begin offset total bytes) cred now start other = said_unmade (file_of t file.0) _ (write_unmade now offset bytes _)
edits_unmade t (Create dir name set) cred now start other = absurd cc
edits_unmade t (Remove dir name) cred now start other = said_unmade (file_of t dir.0) _ (λ d. remove_unmade t _ d name now)
edits_unmade t (Rename from from_name to to_name) cred now start other = said_unmade (move_by t from.0 from_name to.0 to_name) (move_edits now) (move_unmade now)
edits_unmade t (Link file dir name) cred now start other =
    said_unmade (file_of t file.0) _ (λ f. said_unmade (file_of t dir.0) _ (λ d. link_unmade _ f _ d name now))
edits_unmade t (SymLink dir name path set) cred now start other = absurd cc
edits_unmade t (MakeDir dir name set) cred now start other = absurd cc
edits_unmade t (RemoveDir dir name) cred now start other = said_unmade (file_of t dir.0) _ (λ d. remove_dir_unmade t _ d name now)
edits_unmade t (ReadDir dir cookie count) cred now start other = nothing_made
edits_unmade t (StatFs file) cred now start other = nothing_made

-- what is made where no edit makes a file
unmade_is : (es : List Edit) → IsUnmade es → IsWritableFile (first_made es)
unmade_is es unmade = subst IsWritableFile (sym unmade) tt

-- a made file has a generation above 0
made_spelled : (n n' : ℕ) (d f : File) → 0 < f.generation → IsWritableFile (first_made (Changed n d ∷ Made n' f ∷ []))
unfolding first_made
made_spelled n n' d f some = omega (arith, some)

said_spelled : {X : Type 0} (o : Option X) (said : X → List Edit) → ((x : X) → IsWritableFile (first_made (said x))) → IsWritableFile (first_made (option_map_or said o []))
unfolding first_made
said_spelled None said each = tt
said_spelled (Some x) said each = each x

create_by_spelled : (t : PlainTree) (number : ℕ) (o : Option ℕ) (n : ℕ) (d : File) (name : List ℕ) (set : Sattr) (cred : Cred) (now : Stamp)
    → IsWritableFile (first_made (create_edits_by t number o n d name set cred now))
unfolding new_file
create_by_spelled t number None n d name set cred now = made_spelled n number _ _ (omega arith)
create_by_spelled t number (Some m) n d name set cred now =
    unmade_is _ (said_unmade (table.get t.files m) (existing_edits now set m)
    (λ f. either_unmade (is_set set.size) (Changed m _ ∷ []) [] (change_unmade m _ [] nothing_made) nothing_made))

create_spelled : (t : PlainTree) (start n : ℕ) (d : File) (name : List ℕ) (set : Sattr) (cred : Cred) (now : Stamp) → IsWritableFile (first_made (create_edits t start n d name set cred now))
unfolding create_edits
create_spelled t start n d name set cred now = create_by_spelled t (new_number t start) (file_named (slots_of d.content) name) n d name set cred now

make_dir_spelled : (t : PlainTree) (start n : ℕ) (d : File) (name : List ℕ) (set : Sattr) (cred : Cred) (now : Stamp) → IsWritableFile (first_made (make_dir_edits t start n d name set cred now))
unfolding make_dir_edits new_file
make_dir_spelled t start n d name set cred now = made_spelled n (new_number t start) _ _ (omega arith)

sym_link_spelled : (t : PlainTree) (start n : ℕ) (d : File) (name path : List ℕ) (cred : Cred) (now : Stamp) → IsWritableFile (first_made (sym_link_edits t start n d name path cred now))
unfolding sym_link_edits new_file
sym_link_spelled t start n d name path cred now = made_spelled n (new_number t start) _ _ (omega arith)

edits_spelled : (t : PlainTree) (call : Call) (cred : Cred) (now : Stamp) (start : ℕ) → IsWritableFile (first_made (edits_of t call cred now start))
edits_spelled t Null cred now start = unmade_is _ (edits_unmade t Null cred now start refl)
edits_spelled t (GetAttr file) cred now start = unmade_is _ (edits_unmade t (GetAttr file) cred now start refl)
edits_spelled t (SetAttr file set) cred now start = unmade_is _ (edits_unmade t (SetAttr file set) cred now start refl)
edits_spelled t Root cred now start = unmade_is _ (edits_unmade t Root cred now start refl)
edits_spelled t (Lookup dir name) cred now start = unmade_is _ (edits_unmade t (Lookup dir name) cred now start refl)
edits_spelled t (ReadLink file) cred now start = unmade_is _ (edits_unmade t (ReadLink file) cred now start refl)
edits_spelled t (Read file offset count total) cred now start = unmade_is _ (edits_unmade t (Read file offset count total) cred now start refl)
edits_spelled t WriteCache cred now start = unmade_is _ (edits_unmade t WriteCache cred now start refl)
edits_spelled t (Write file begin offset total bytes) cred now start = unmade_is _ (edits_unmade t (Write file begin offset total bytes) cred now start refl)
edits_spelled t (Create dir name set) cred now start = said_spelled (file_of t dir.0) _ (λ d. create_spelled t start _ d name set cred now)
edits_spelled t (Remove dir name) cred now start = unmade_is _ (edits_unmade t (Remove dir name) cred now start refl)
edits_spelled t (Rename from from_name to to_name) cred now start = unmade_is _ (edits_unmade t (Rename from from_name to to_name) cred now start refl)
edits_spelled t (Link file dir name) cred now start = unmade_is _ (edits_unmade t (Link file dir name) cred now start refl)
edits_spelled t (SymLink dir name path set) cred now start = said_spelled (file_of t dir.0) _ (λ d. sym_link_spelled t start _ d name path cred now)
edits_spelled t (MakeDir dir name set) cred now start = said_spelled (file_of t dir.0) _ (λ d. make_dir_spelled t start _ d name set cred now)
edits_spelled t (RemoveDir dir name) cred now start = unmade_is _ (edits_unmade t (RemoveDir dir name) cred now start refl)
edits_spelled t (ReadDir dir cookie count) cred now start = unmade_is _ (edits_unmade t (ReadDir dir cookie count) cred now start refl)
edits_spelled t (StatFs file) cred now start = unmade_is _ (edits_unmade t (StatFs file) cred now start refl)

decided_unmade : (c : Check) (t : PlainTree) (call : Call) (now : Stamp) (es : List Edit) → IsUnmade es → (decided c t call now es).made ≡ None
decided_unmade (Some status) t call now es unmade = refl
decided_unmade None t call now es unmade = unmade

decided_spelled : (c : Check) (t : PlainTree) (call : Call) (now : Stamp) (es : List Edit) → IsWritableFile (first_made es) → IsWritableFile (decided c t call now es).made
decided_spelled (Some status) t call now es spelled = tt
decided_spelled None t call now es spelled = spelled

-- the file that is made has a spelling
pub respond-spelled : (t : PlainTree) (call : Call) (cred : Cred) (now : Stamp) (start : ℕ) → IsWritableFile (respond t call cred now start).made
unfolding respond
respond-spelled t call cred now start =
    decided_spelled (first_failure (checks t call cred start (edits_of t call cred now start))) t call now (edits_of t call cred now start)
    (edits_spelled t call cred now start)

-- so has a change that tells it
pub change_spelled : (old new : PlainTree) (made : Option (ℕ × ℕ)) (change : Option Change) → IfSome change (λ c. (new ≢ old) × (c.made ≡ made)) → IsWritableFile made → IsSpelledChange change
change_spelled old new made None changed spelled = tt
change_spelled old new made (Some c) changed spelled = subst IsWritableFile (sym changed.1) spelled

-- where no file is made, no number is picked
pub none_picked : (t : PlainTree) (call : Call) (cred : Cred) (now : Stamp) (start : ℕ) (pick : Option ℕ) → may_make call ≡ false → IsPick t call cred now start pick
unfolding respond
none_picked t call cred now start pick other some =
    let unmade = decided_unmade (first_failure (checks t call cred start (edits_of t call cred now start))) t call now (edits_of t call cred now start)
    (edits_unmade t call cred now start other) in
    let never : false ≡ true = subst IsSome unmade some in absurd (cc never)

-- ---- the handles of answers

-- a handle has 32 bytes
handle_whole : (number generation : ℕ) → length (handle number generation) ≡ 32
unfolding spelled handle_words
handle_whole number generation = refl

-- of something that there may be
said_handle : {X : Type 0} (o : Option X) (said : X → Answer) (status : ℕ) → ((x : X) → HasHandle (said x)) → HasHandle (option_map_or said o (Fault status))
said_handle None said status each = tt
said_handle (Some x) said status each = each x

found_handle : (t : PlainTree) (n : ℕ) → HasHandle (found_at t n)
found_handle t n = said_handle (table.get t.files n) _ stale (λ f. handle_whole n f.generation)

lookup_handle : (t : PlainTree) (n : ℕ) (d : File) (name : List ℕ) → HasHandle (lookup_answer t n d name)
unfolding lookup_answer
lookup_handle t n d name = said_handle (target n d name) (found_at t) noent (found_handle t)

looked_up_handle : (t : PlainTree) (dir name : List ℕ) → HasHandle (at_file t dir (Fault stale) (λ n d. lookup_answer t n d name))
looked_up_handle t dir name = said_handle (file_of t dir) _ stale (λ d. lookup_handle t _ d name)

attr_handle : (t : PlainTree) (n : ℕ) → HasHandle (attr_at t n)
attr_handle t n = said_handle (table.get t.files n) _ stale (λ f. tt)

answer_handle : (t : PlainTree) (call : Call) → HasHandle (answer_of t call)
unfolding read_link_answer read_answer read_dir_answer space_answer
answer_handle t Null = tt
answer_handle t (GetAttr file) = attr_handle t (number_in file.0)
answer_handle t (SetAttr file set) = attr_handle t (number_in file.0)
answer_handle t Root = tt
answer_handle t (Lookup dir name) = looked_up_handle t dir.0 name
answer_handle t (ReadLink file) = said_handle (file_of t file.0) _ stale (λ f. tt)
answer_handle t (Read file offset count total) = said_handle (file_of t file.0) _ stale (λ f. tt)
answer_handle t WriteCache = tt
answer_handle t (Write file begin offset total bytes) = attr_handle t (number_in file.0)
answer_handle t (Create dir name set) = looked_up_handle t dir.0 name
answer_handle t (Remove dir name) = tt
answer_handle t (Rename from from_name to to_name) = tt
answer_handle t (Link file dir name) = tt
answer_handle t (SymLink dir name path set) = tt
answer_handle t (MakeDir dir name set) = looked_up_handle t dir.0 name
answer_handle t (RemoveDir dir name) = tt
answer_handle t (ReadDir dir cookie count) = said_handle (file_of t dir.0) _ stale (λ d. tt)
answer_handle t (StatFs file) = tt

decided_handle : (c : Check) (t : PlainTree) (call : Call) (now : Stamp) (es : List Edit) → HasHandle (decided c t call now es).answer
decided_handle (Some status) t call now es = tt
decided_handle None t call now es = answer_handle (edited now t es) call

pub respond-handle : (t : PlainTree) (call : Call) (cred : Cred) (now : Stamp) (start : ℕ) → HasHandle (respond t call cred now start).answer
unfolding respond
respond-handle t call cred now start =
    decided_handle (first_failure (checks t call cred start (edits_of t call cred now start))) t call now (edits_of t call cred now start)
