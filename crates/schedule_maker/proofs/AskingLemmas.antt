-- How long the datagrams of a schedule are.
use Rattle.std.proofs.Common.{◌≡◌, ℕ, ◌+◌, ◌*◌, ◌^◌, ◌/◌, ◌%◌, ◌<◌, ◌≤◌, ◌==◌, Bool, true, false, cond, List, [], ◌∷◌, ◌++◌, length, replicate, refl, sym, ap, ◌∙◌, arith}
use Rattle.std.specs.Prelude.{decimal}
use Rattle.std.proofs.lemmas.Fmt.{length-decimal-le}
use Rattle.std.proofs.lemmas.List.{length-append, length-replicate}
use Rattle.sfs_xdr.specs.Items.{word, words, opaque, opaque_var, padding_of}
use Rattle.rpc_msg.proofs.CallLemmas.{length-words}
use Rattle.rpc_msg.specs.Messages.{call_spelling, head_words, head_for, cred_words, program_of, nobody}
use Rattle.rpc_msg.specs.declared.rpc_call.RpcCall.{RpcCall}
use Rattle.nfs_proto.specs.Arguments.{arguments_spelling, procedure_of}
use Rattle.nfs_proto.specs.Types.{sattr_words}
use Rattle.nfs_proto.specs.declared.call.Call.{Call}
use Rattle.nfs_proto.specs.declared.call.Call.TheVariants.{GetAttr, Lookup, Write, Create, Remove, MakeDir, RemoveDir, ReadDir}
use Rattle.fs_layout.specs.Words.{spelled}
use Rattle.fs_layout.specs.Handles.{handle_words, handle}
use Rattle.line_words.specs.Words.{HasDatagramLength}
use Rattle.schedule_maker.specs.Making.{call_of, datagram_of, file_name, directory_name, handle_of, root, unset}

-- bytes that are filled up
filled : (bytes : List ℕ) → length (opaque bytes) ≤ length bytes + 3
filled bytes =
    omega (arith, length-append bytes (replicate (padding_of (length bytes)) 0), length-replicate {A = ℕ} (padding_of (length bytes)) 0, few_fill (length bytes))
  where
    few_fill : (n : ℕ) → padding_of n ≤ 3
    few_fill n = omega arith

handle_short : (number generation : ℕ) → length (opaque (handle number generation)) ≤ 35
unfolding spelled handle_words
handle_short number generation = filled (handle number generation)

text_short : (bytes : List ℕ) → length (opaque_var bytes) ≤ length bytes + 7
text_short bytes = omega (arith, length-append (word (length bytes)) (opaque bytes), filled bytes)

name_short : (letter j : ℕ) → j < 16 → length (opaque_var (letter ∷ decimal j)) ≤ 18
name_short letter j below = omega (arith, text_short (letter ∷ decimal j), length-decimal-le 10 j (omega arith) (omega arith) (omega (arith, below)))

unset_short : length (words (sattr_words unset)) ≤ 32
unset_short = omega (arith, length-words (sattr_words unset))

-- the words of READDIR
words_short : length (words (0 ∷ 4096 ∷ [])) ≤ 8
words_short = omega (arith, length-words (0 ∷ 4096 ∷ []))

-- a choice between short ones
if_few : (b : Bool) (x y : Call) → length (arguments_spelling x) ≤ 300 → length (arguments_spelling y) ≤ 300 → length (arguments_spelling (cond b x y)) ≤ 300
if_few true x y first second = first
if_few false x y first second = second

-- the calls from one of them on
abbrev from_7 : ℕ → ℕ → Call
from_7 o j = Write (handle_of (16384 * (j % 4) + j / 4 + 2) 1) 0 (1000 * j) 0 (replicate 100 97)

abbrev from_6 : ℕ → ℕ → Call
from_6 o j = cond (o == 6) (GetAttr root) (from_7 o j)

abbrev from_5 : ℕ → ℕ → Call
from_5 o j = cond (o == 5) (ReadDir root 0 4096) (from_6 o j)

abbrev from_4 : ℕ → ℕ → Call
from_4 o j = cond (o == 4) (RemoveDir root (directory_name j)) (from_5 o j)

abbrev from_3 : ℕ → ℕ → Call
from_3 o j = cond (o == 3) (MakeDir root (directory_name j) unset) (from_4 o j)

abbrev from_2 : ℕ → ℕ → Call
from_2 o j = cond (o == 2) (Remove root (file_name j)) (from_3 o j)

abbrev from_1 : ℕ → ℕ → Call
from_1 o j = cond (o == 1) (Lookup root (file_name j)) (from_2 o j)

-- a handle, and what follows it
short : (a b : List ℕ) → length a ≤ 35 → length b ≤ 200 → length (a ++ b) ≤ 300
short a b first second = omega (arith, length-append a b, first, second)

both_short : (a b : List ℕ) → length a ≤ 18 → length b ≤ 32 → length (a ++ b) ≤ 200
both_short a b first second = omega (arith, length-append a b, first, second)

places_short : (j : ℕ) → length (words (0 ∷ 1000 * j ∷ 0 ∷ [])) ≤ 12
places_short j = omega (arith, length-words (0 ∷ 1000 * j ∷ 0 ∷ []))

written_short : length (opaque_var (replicate 100 97)) ≤ 107
written_short = omega (arith, text_short (replicate 100 97), length-replicate {A = ℕ} 100 97)

write_short : (a b : List ℕ) → length a ≤ 12 → length b ≤ 107 → length (a ++ b) ≤ 200
write_short a b first second = omega (arith, length-append a b, first, second)

few_7 : (o j : ℕ) → j < 16 → length (arguments_spelling (from_7 o j)) ≤ 300
few_7 o j below =
    short (opaque (handle (16384 * (j % 4) + j / 4 + 2) 1)) (words (0 ∷ 1000 * j ∷ 0 ∷ []) ++ opaque_var (replicate 100 97))
    (handle_short (16384 * (j % 4) + j / 4 + 2) 1)
    (write_short (words (0 ∷ 1000 * j ∷ 0 ∷ [])) (opaque_var (replicate 100 97)) (places_short j) written_short)

few_6 : (o j : ℕ) → j < 16 → length (arguments_spelling (from_6 o j)) ≤ 300
few_6 o j below = if_few (o == 6) (GetAttr root) (from_7 o j) (omega (arith, handle_short 1 1)) (few_7 o j below)

few_5 : (o j : ℕ) → j < 16 → length (arguments_spelling (from_5 o j)) ≤ 300
few_5 o j below = if_few (o == 5) (ReadDir root 0 4096) (from_6 o j) (short (opaque (handle 1 1)) (words (0 ∷ 4096 ∷ [])) (handle_short 1 1) (omega (arith, words_short))) (few_6 o j below)

few_4 : (o j : ℕ) → j < 16 → length (arguments_spelling (from_4 o j)) ≤ 300
few_4 o j below = if_few (o == 4) (RemoveDir root (directory_name j)) (from_5 o j) (short (opaque (handle 1 1)) (opaque_var (directory_name j)) (handle_short 1 1) (omega (arith, name_short 100 j below))) (few_5 o j below)

few_3 : (o j : ℕ) → j < 16 → length (arguments_spelling (from_3 o j)) ≤ 300
few_3 o j below = if_few (o == 3) (MakeDir root (directory_name j) unset) (from_4 o j) (short (opaque (handle 1 1)) (opaque_var (directory_name j) ++ words (sattr_words unset)) (handle_short 1 1) (both_short (opaque_var (directory_name j)) (words (sattr_words unset)) (name_short 100 j below) unset_short)) (few_4 o j below)

few_2 : (o j : ℕ) → j < 16 → length (arguments_spelling (from_2 o j)) ≤ 300
few_2 o j below = if_few (o == 2) (Remove root (file_name j)) (from_3 o j) (short (opaque (handle 1 1)) (opaque_var (file_name j)) (handle_short 1 1) (omega (arith, name_short 102 j below))) (few_3 o j below)

few_1 : (o j : ℕ) → j < 16 → length (arguments_spelling (from_1 o j)) ≤ 300
few_1 o j below = if_few (o == 1) (Lookup root (file_name j)) (from_2 o j) (short (opaque (handle 1 1)) (opaque_var (file_name j)) (handle_short 1 1) (omega (arith, name_short 102 j below))) (few_2 o j below)

-- the arguments of each call
pub few_arguments : (o j : ℕ) → j < 16 → length (arguments_spelling (call_of o j)) ≤ 300
unfolding call_of
few_arguments o j below = if_few (o == 0) (Create root (file_name j) unset) (from_1 o j) (short (opaque (handle 1 1)) (opaque_var (file_name j) ++ words (sattr_words unset)) (handle_short 1 1) (both_short (opaque_var (file_name j)) (words (sattr_words unset)) (name_short 102 j below) unset_short)) (few_1 o j below)

-- and the datagram
pub datagram_sized : (i : ℕ) (call : Call) → length (arguments_spelling call) ≤ 300 → HasDatagramLength (datagram_of i call)
datagram_sized i call few =
    let made : RpcCall = record { xid = i; program = 100003; procedure = procedure_of call; cred = nobody; args = arguments_spelling call } in
    let head = length-words (head_words (head_for (program_of 100003) made)) in
    let cred = length-words (cred_words nobody) in
    let verifier = length-words (0 ∷ 0 ∷ []) in
    let last = length-append (words (0 ∷ 0 ∷ [])) (arguments_spelling call) in
    let second = length-append (words (cred_words nobody)) (words (0 ∷ 0 ∷ []) ++ arguments_spelling call) in
    let first = length-append (words (head_words (head_for (program_of 100003) made))) (words (cred_words nobody) ++ (words (0 ∷ 0 ∷ []) ++ arguments_spelling call)) in
    record { some = omega (arith, head, cred, verifier, last, second, first); within = omega (arith, head, cred, verifier, last, second, first, few) }
