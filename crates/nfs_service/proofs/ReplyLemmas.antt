-- How long a reply is, and what holds of the calls that are heard.
use Rattle.std.proofs.Common.{◌≡◌, ℕ, ◌+◌, ◌*◌, ◌/◌, ◌≤◌, Bool, true, false, List, [], ◌∷◌, ◌++◌, length, Option, Some, None, Result, Ok, Err, refl, sym, ap, subst, ◌∙◌, arith}
use Rattle.std.specs.Prelude.{replicate, sum_by, slice_get, IfOk}
use Rattle.std.proofs.lemmas.List.{length-append, length-replicate}
use Rattle.std.proofs.lemmas.List.Sums.{sum_by-cons}
use Rattle.std.proofs.lemmas.Option.{slice_get_within}
use Rattle.sfs_base.specs.Reading.{IsBytes}
use Rattle.sfs_xdr.specs.Items.{word, words, boolean, padding_of, opaque, opaque_var}
use Rattle.sfs_xdr.specs.Codec.{Reading}
use Rattle.sfs_xdr.specs.declared.arg_fault.ArgFault.{ArgFault}
use Rattle.rpc_msg.specs.Messages.{accepted}
use Rattle.rpc_msg.proofs.CallLemmas.{length-words}
use Rattle.rpc_msg.proofs.RefusalLemmas.{AreFew}
use Rattle.nfs_proto.specs.declared.answer.Answer.{Answer}
use Rattle.nfs_proto.specs.declared.answer.Answer.TheVariants.{Empty, Fault, Plain, Attr, Found, Path, Part, Names, Space}
use Rattle.nfs_proto.specs.declared.call.Call.{Call}
use Rattle.nfs_proto.specs.declared.call.Call.TheVariants as call
use Rattle.nfs_proto.specs.declared.dir_entry.DirEntry.{DirEntry}
use Rattle.nfs_proto.specs.Types.{fattr_words}
use Rattle.nfs_proto.specs.Arguments.{IsArguments, IsFit, readers, arguments_of, args_of, told, value_of, read_by}
use Rattle.nfs_proto.specs.Answers.{answer_spelling, entries_spelling, entry_spelling}
use Rattle.nfs_proto.proofs.ArgumentLaws.{arguments_exact}
use Rattle.fs_rules.specs.Respond.{IsTold}
use Rattle.fs_rules.specs.Slots.{entry_size}
use Rattle.line_words.specs.Words.{HasDatagramLength}
use Rattle.nfs_service.specs.Reply.{HasHandle}

-- ---- how long a reply is

-- the head of a reply
abbrev head : ℕ → List ℕ
head xid = xid ∷ 1 ∷ 0 ∷ 0 ∷ 0 ∷ 0 ∷ []

-- a reply whose result is not too long
sized : (xid : ℕ) (body : List ℕ) → length body ≤ 65511 → HasDatagramLength (accepted xid body)
sized xid body few =
    let front = length-words (head xid) in
    let both = length-append (words (head xid)) body in
    record { some = omega (arith, front, both); within = omega (arith, front, both, few) }

-- one of a few numbers
pub words_sized : (xid : ℕ) (numbers : List ℕ) → length numbers ≤ 18 → HasDatagramLength (accepted xid (words numbers))
words_sized xid numbers few = sized xid (words numbers) (omega (arith, length-words numbers, few))

-- bytes that are filled up, and with their length before them
length-opaque : (bytes : List ℕ) → length (opaque bytes) ≡ length bytes + padding_of (length bytes)
length-opaque bytes = length-append bytes (replicate (padding_of (length bytes)) 0) ∙ ap (λ (n : ℕ). length bytes + n) (length-replicate (padding_of (length bytes)) 0)

length-opaque_var : (bytes : List ℕ) → length (opaque_var bytes) ≡ 4 + (length bytes + padding_of (length bytes))
length-opaque_var bytes = length-append (word (length bytes)) (opaque bytes) ∙ ap (λ (n : ℕ). 4 + n) (length-opaque bytes)

-- filling up adds at most three bytes, and gives the next multiple of four
few_fill : (n : ℕ) → padding_of n ≤ 3
few_fill n = omega arith

filled_up : (n : ℕ) → n + padding_of n ≡ (n + 3) / 4 * 4
filled_up n = omega arith

length-boolean : (b : Bool) → length (boolean b) ≡ 4
length-boolean true = refl
length-boolean false = refl

-- the entries of a directory take their sizes, and one word behind them
length-entries : (entries : List DirEntry) → length (entries_spelling entries) ≡ sum_by entry_size entries + 4
length-entries [] = refl
length-entries (e ∷ es) =
    let name = length-opaque_var e.name in
    let behind = length-append (opaque_var e.name) (word e.cookie) in
    let entry = length-append (word e.fileid) (opaque_var e.name ++ word e.cookie) in
    let more = length-append (entry_spelling e) (entries_spelling es) in
    let all = length-append (boolean true) (entry_spelling e ++ entries_spelling es) in
    let total = sum_by-cons entry_size e es in
    omega (arith, name, behind, entry, more, all, total, filled_up (length e.name), length-entries es)

-- what a client can be told fits a datagram
pub reply_sized : (xid : ℕ) (answer : Answer) → HasHandle answer → IsTold answer → HasDatagramLength (accepted xid (answer_spelling answer))
reply_sized xid Empty whole told = sized xid [] (omega arith)
reply_sized xid (Fault status) whole told = sized xid (word status) (omega arith)
reply_sized xid Plain whole told = sized xid (word 0) (omega arith)
reply_sized xid (Attr attr) whole told = words_sized xid (0 ∷ fattr_words attr) (omega arith)
reply_sized xid (Found file attr) whole told =
    let attributes = length-words (fattr_words attr) in
    let handle = length-opaque file.0 in
    let behind = length-append (opaque file.0) (words (fattr_words attr)) in
    let all = length-append (word 0) (opaque file.0 ++ words (fattr_words attr)) in
    sized xid (word 0 ++ (opaque file.0 ++ words (fattr_words attr))) (omega (arith, attributes, handle, behind, all, whole, few_fill (length file.0)))
reply_sized xid (Path path) whole told =
    let text = length-opaque_var path in
    let all = length-append (word 0) (opaque_var path) in
    sized xid (word 0 ++ opaque_var path) (omega (arith, text, all, told.0, few_fill (length path)))
reply_sized xid (Part attr bytes) whole told =
    let attributes = length-words (0 ∷ fattr_words attr) in
    let text = length-opaque_var bytes in
    let all = length-append (words (0 ∷ fattr_words attr)) (opaque_var bytes) in
    sized xid (words (0 ∷ fattr_words attr) ++ opaque_var bytes) (omega (arith, attributes, text, all, told.0, few_fill (length bytes)))
reply_sized xid (Names entries eof) whole told =
    let text = length-entries entries in
    let last = length-boolean eof in
    let behind = length-append (entries_spelling entries) (boolean eof) in
    let all = length-append (word 0) (entries_spelling entries ++ boolean eof) in
    sized xid (word 0 ++ (entries_spelling entries ++ boolean eof)) (omega (arith, text, last, behind, all, told.1))
reply_sized xid (Space tsize bsize blocks bfree bavail) whole told = words_sized xid (0 ∷ tsize ∷ bsize ∷ blocks ∷ bfree ∷ bavail ∷ []) (omega arith)

-- a refusal fits a datagram
pub refusal_sized : (reply : List ℕ) → AreFew reply → HasDatagramLength reply
refusal_sized reply is =
    let len = length-words is.numbers in
    subst HasDatagramLength (sym is.spelled) (record { some = omega (arith, len, is.some); within = omega (arith, len, is.few) })

-- ---- the arguments that are read

-- a call that is spelled has names, paths and data of their lengths
spelled_fits : (call : Call) (item : List ℕ) → IsArguments call item → IsFit call
spelled_fits call.Null item is = tt
spelled_fits (call.GetAttr file) item is = tt
spelled_fits (call.SetAttr file set) item is = tt
spelled_fits call.Root item is = tt
spelled_fits (call.Lookup dir name) item is = is.second.0
spelled_fits (call.ReadLink file) item is = tt
spelled_fits (call.Read file offset count total) item is = tt
spelled_fits call.WriteCache item is = tt
spelled_fits (call.Write file begin offset total bytes) item is = is.second.second.second.second.0
spelled_fits (call.Create dir name set) item is = is.second.first.0
spelled_fits (call.Remove dir name) item is = is.second.0
spelled_fits (call.Rename from from_name to to_name) item is = (is.second.first.0, is.second.second.second.0)
spelled_fits (call.Link file dir name) item is = is.second.second.0
spelled_fits (call.SymLink dir name path set) item is = (is.second.first.0, is.second.second.first.0)
spelled_fits (call.MakeDir dir name set) item is = is.second.first.0
spelled_fits (call.RemoveDir dir name) item is = is.second.0
spelled_fits (call.ReadDir dir cookie count) item is = tt
spelled_fits (call.StatFs file) item is = tt

-- a call that was read stands before what is left of the bytes
read_before : (o : Option (Reading Call)) (bytes : List ℕ) (c : Call) → told o bytes ≡ Ok c → (rest : List ℕ) × (read_by o bytes ≡ Ok (c, rest))
read_before None bytes c is = absurd cc
read_before (Some read) bytes c is = by_result (read bytes) refl is
  where
    by_result : (r : Result (Call × List ℕ) (Unit {0})) → read bytes ≡ r → value_of r ≡ Ok c → (rest : List ℕ) × (read bytes ≡ Ok (c, rest))
    by_result (Ok found) e same = (found.1, e ∙ ap (λ (k : Call). Ok (k, found.1)) (some_is found.0 c same))
      where
        some_is : (x y : Call) → ◌≡◌ {A = Result Call ArgFault} (Ok x) (Ok y) → x ≡ y
        some_is x y e = cc
    by_result (Err fault) e same = absurd cc

-- there are 18 procedures
is_there : (procedure : ℕ) (bytes : List ℕ) (c : Call) → args_of procedure bytes ≡ Ok c → procedure ≤ 17
unfolding args_of
is_there procedure bytes c is = by_place (slice_get readers procedure) refl is
  where
    by_place : (o : Option (Reading Call)) → slice_get readers procedure ≡ o → told o bytes ≡ Ok c → procedure ≤ 17
    by_place None e same = absurd cc
    by_place (Some read) e same = omega (arith, slice_get_within readers procedure read e)

-- what is read fits
read_fits : (procedure : ℕ) (bytes : List ℕ) (c : Call) → IsBytes bytes → args_of procedure bytes ≡ Ok c → IsFit c
unfolding arguments_of args_of
read_fits procedure bytes c fits is =
    let before = read_before (slice_get readers procedure) bytes c is in
    let found = (arguments_exact procedure (is_there procedure bytes c is)).found bytes c before.0 fits before.1 in
    spelled_fits c found.0 found.1.1

pub all_fit : (procedure : ℕ) (bytes : List ℕ) (r : Result Call ArgFault) → IsBytes bytes → IfOk r (λ c. args_of procedure bytes ≡ Ok c) → IfOk r IsFit
all_fit procedure bytes (Ok c) fits found = read_fits procedure bytes c fits found
all_fit procedure bytes (Err fault) fits found = tt
