-- A call that was written is heard again.
use Rattle.std.proofs.Common.{◌≡◌, ℕ, zero, suc, ◌+◌, ◌*◌, ◌^◌, ◌<◌, ◌≤◌, Bool, true, false, cond, eqb, ◌&&◌, List, [], ◌∷◌, ◌++◌, length, Option, Some, None, Result, Ok, Err, IfOk, lit<, lit≤, refl, sym, ap, subst, ◌∙◌, arith}
use Rattle.std.specs.Prelude.{replicate}
use Rattle.std.proofs.lemmas.Bool.{eqb-true}
use Rattle.std.proofs.lemmas.List.{length-append, append-nil}
use Rattle.sfs_base.specs.declared.no_memory.NoMemory.{NoMemory}
use Rattle.sfs_base.specs.Reading.{IsBytes}
use Rattle.sfs_base.proofs.ReadingLemmas.{IsBytes-append}
use Rattle.sfs_xdr.specs.Items.{AreWords, word, words, padding_of, opaque_var}
use Rattle.sfs_xdr.specs.Codec.{IsText}
use Rattle.sfs_xdr.specs.CodecLemmas.{behind, text_written}
use Rattle.rpc_msg.specs.declared.cred.Cred.{Cred}
use Rattle.rpc_msg.specs.declared.head.Head.{Head}
use Rattle.rpc_msg.specs.declared.heard.Heard as heard
use Rattle.rpc_msg.specs.declared.heard.Heard.TheVariants as variant
use Rattle.rpc_msg.specs.declared.program.Program.{Program}
use Rattle.rpc_msg.specs.declared.rpc_call.RpcCall.{RpcCall}
use Rattle.rpc_msg.specs.Messages.{head_words, head_for, IsAuth, unix_words, nobody, is_nobody, cred_words, nfs, mount, program_of, MayCall, IsUnixBody, call_spelling}
use Rattle.rpc_msg.specs.MessageLemmas.{head_written, unix_written}
use Rattle.rpc_msg.specs.Heard.{Outcome, Call, Refuse, Silent, IsGrammar, HeardArguments, HeardVerifier, HeardCaller, HeardCredential, HeardCall, HeardProgram, AsTheyAre, Heard, called, garbage, unavailable, mismatch, no_procedure, there, verifier, rejected, bad, null, unix, credential, no_call, other_rpc, call, short, begun}
use Rattle.rpc_msg.specs.Hearing.{as_they_are, heard_of, outcome, MayBeCalled}
use Rattle.rpc_msg.specs.Laws.{IsTypedCall}
use Rattle.rpc_msg.specs.Laws as laws
use Rattle.rpc_msg.proofs.HeardLemmas.{told_heard, one_heard}

pub as_they_are_grammar : IsGrammar AsTheyAre as_they_are
as_they_are_grammar = record {
  found = λ program procedure a bytes fits e. cc;
  none = λ program procedure bytes e. absurd cc;
  one = λ program procedure a b bytes first second. first ∙ sym second;
}

-- both tests passed
both_true : (a b : Bool) → (a && b) ≡ true → (a ≡ true) × (b ≡ true)
both_true true b e = (refl, e)
both_true false b e = absurd cc

no_elements : (xs : List ℕ) → length xs ≡ 0 → xs ≡ []
no_elements [] e = refl
no_elements (x ∷ xs) e = absurd (omega arith)

-- a credential that nobody has
nobody_is : (cred : Cred) → is_nobody cred ≡ true → cred ≡ nobody
nobody_is cred e =
    let first = both_true (eqb cred.uid 65534) _ e in
    let second = both_true (eqb cred.gid 65534) _ first.1 in
    let user = eqb-true cred.uid 65534 first.0 in
    let group = eqb-true cred.gid 65534 second.0 in
    let none = no_elements cred.gids (eqb-true (length cred.gids) 0 second.1) in
    λ i. record { uid = user i; gid = group i; gids = none i }

-- a multiple of four needs no filling up
full : (len n : ℕ) → len ≡ 20 + 4 * n → padding_of len ≡ 0
full len n e = omega arith

-- the body of a credential needs no filling up
whole : (body : List ℕ) (n : ℕ) → length body ≡ 20 + 4 * n → opaque_var body ≡ word (20 + 4 * n) ++ body
whole body n len =
    ap (λ k. word k ++ (body ++ replicate (padding_of (length body)) 0)) len
    ∙ ap (λ k. word (20 + 4 * n) ++ (body ++ replicate {A = ℕ} k 0)) (full (length body) n len)
    ∙ ap (λ (b : List ℕ). word (20 + 4 * n) ++ b) (append-nil body)

pub length-words : (numbers : List ℕ) → length (words numbers) ≡ 4 * length numbers
length-words [] = refl
length-words (n ∷ ns) = length-append (word n) (words ns) ∙ omega (arith, length-words ns)

-- the spelling of a number is bytes
word_bytes : (n : ℕ) → IsBytes (word n)
word_bytes n zero = omega arith
word_bytes n (suc zero) = omega arith
word_bytes n (suc (suc zero)) = omega arith
word_bytes n (suc (suc (suc zero))) = omega arith
word_bytes n (suc (suc (suc (suc i)))) = omega arith

-- and so is that of several
pub words_bytes : (numbers : List ℕ) → IsBytes (words numbers)
words_bytes [] i = omega arith
words_bytes (n ∷ ns) i = IsBytes-append (word n) (words ns) (word_bytes n) (words_bytes ns) i

-- nothing, as a verifier or a credential
nothing : IsAuth 0 [] (words (0 ∷ 0 ∷ []))
nothing = behind (word 0) (word 0) (lit< tt, refl) (text_written 400 [] (omega arith))

-- what stands behind the head of a call is heard as the rest of it
heard_rest : (h : Head) (cred : Cred) (args : List ℕ) (o : Outcome (List ℕ)) → HeardProgram AsTheyAre h cred args o
    → HeardVerifier AsTheyAre h cred (words (0 ∷ 0 ∷ []) ++ args) o
heard_rest h cred args o is = verifier 0 [] (words (0 ∷ 0 ∷ [])) args nothing refl o is

-- so is the credential before it
heard_cred : (h : Head) (cred : Cred) (args : List ℕ) (o : Outcome (List ℕ)) → AreWords (cred.uid ∷ cred.gid ∷ cred.gids) → length cred.gids ≤ 16
    → HeardProgram AsTheyAre h cred args o → (b : Bool) → is_nobody cred ≡ b
    → HeardCredential AsTheyAre h (words (cond b (0 ∷ 0 ∷ []) (1 ∷ (20 + 4 * length cred.gids) ∷ unix_words cred)) ++ (words (0 ∷ 0 ∷ []) ++ args)) o
heard_cred h cred args o typed few is true e =
    let rest : HeardVerifier AsTheyAre h nobody (words (0 ∷ 0 ∷ []) ++ args) o =
    subst (λ (c : Cred). HeardVerifier AsTheyAre h c (words (0 ∷ 0 ∷ []) ++ args) o) (nobody_is cred e) (heard_rest h cred args o is) in
    credential 0 [] (words (0 ∷ 0 ∷ [])) (words (0 ∷ 0 ∷ []) ++ args) nothing refl o (null refl o rest)
heard_cred h cred args o typed few is false e =
    let body : List ℕ = words (unix_words cred) in
    let len : length body ≡ 20 + 4 * length cred.gids = length-words (unix_words cred) ∙ omega (arith) in
    let text : IsText 400 body (word (20 + 4 * length cred.gids) ++ body) =
    subst (λ (i : List ℕ). IsText 400 body i) (whole body (length cred.gids) len) (text_written 400 body (omega (arith, len, few))) in
    let auth : IsAuth 1 body (words (1 ∷ (20 + 4 * length cred.gids) ∷ unix_words cred)) = behind (word 1) _ (lit< tt, refl) text in
    credential 1 body (words (1 ∷ (20 + 4 * length cred.gids) ∷ unix_words cred)) (words (0 ∷ 0 ∷ []) ++ args) auth refl o
    (unix refl cred body [] (unix_written cred typed few) (sym (append-nil body)) o (heard_rest h cred args o is))

-- the versions of the programs
version_of_some : (b c : Bool) (p : Program) → ◌≡◌ {A = Option Program} (cond b (Some nfs) (cond c (Some mount) None)) (Some p) → p.version < 2 ^ 32
version_of_some true c p e = let is : nfs ≡ p = cc in subst (λ (q : Program). q.version < 2 ^ 32) is (lit< tt)
version_of_some false true p e = let is : mount ≡ p = cc in subst (λ (q : Program). q.version < 2 ^ 32) is (lit< tt)
version_of_some false false p e = absurd cc

small_version : (n : ℕ) (p : Program) → program_of n ≡ Some p → p.version < 2 ^ 32
small_version n p e = version_of_some (eqb n 100003) (eqb n 100005) p e

-- a call of a program that is there
heard_call : (call : RpcCall) → IsTypedCall call → (p : Option Program) → program_of call.program ≡ p → MayCall p call
    → Heard AsTheyAre (words (head_words (head_for p call)) ++ (words (cred_words call.cred) ++ (words (0 ∷ 0 ∷ []) ++ call.args))) (laws.called call)
heard_call c typed None e may = absurd may
heard_call c typed (Some p) e may =
    let numbers : AreWords (head_words (head_for (Some p) c)) =
    (typed.numbers.0, (lit< tt, (lit< tt, (typed.numbers.1.0, (small_version c.program p e, (typed.numbers.1.1.0, tt)))))) in
    begun (head_for (Some p) c) (words (head_words (head_for (Some p) c))) (words (cred_words c.cred) ++ (words (0 ∷ 0 ∷ []) ++ c.args))
    (head_written (head_for (Some p) c) numbers tt) refl (laws.called c)
    (call refl refl (laws.called c)
    (heard_cred (head_for (Some p) c) c.cred c.args (laws.called c) typed.caller may.1
    (there p e refl may.0 (laws.called c) (called c.args refl)) (is_nobody c.cred) refl))

-- the spelling of a call is bytes
call_bytes : (call : RpcCall) → IsBytes call.args → IsBytes (call_spelling call)
call_bytes c args =
    let tail : IsBytes (words (0 ∷ 0 ∷ []) ++ c.args) = IsBytes-append (words (0 ∷ 0 ∷ [])) c.args (words_bytes (0 ∷ 0 ∷ [])) args in
    let behind_head : IsBytes (words (cred_words c.cred) ++ (words (0 ∷ 0 ∷ []) ++ c.args)) =
    IsBytes-append (words (cred_words c.cred)) (words (0 ∷ 0 ∷ []) ++ c.args) (words_bytes (cred_words c.cred)) tail in
    IsBytes-append (words (head_words (head_for (program_of c.program) c))) (words (cred_words c.cred) ++ (words (0 ∷ 0 ∷ []) ++ c.args))
    (words_bytes (head_words (head_for (program_of c.program) c))) behind_head

pub written_heard : laws.WrittenCallIsHeard
written_heard c typed may =
    sym (one_heard AsTheyAre as_they_are as_they_are_grammar (call_spelling c) (call_bytes c typed.arguments) (laws.called c)
    (heard_call c typed (program_of c.program) refl may))

-- what the function gives is what the ten cases let bytes be heard as
pub heard_if_ok : (r : Result heard.Heard NoMemory) (bytes : List ℕ) → IsBytes bytes → IfOk r (λ h. outcome h ≡ heard_of as_they_are bytes)
    → IfOk r (λ h. Heard AsTheyAre bytes (outcome h))
heard_if_ok (Ok h) bytes fits e =
    subst (λ (o : Outcome (List ℕ)). Heard AsTheyAre bytes o) (sym e) (told_heard AsTheyAre as_they_are as_they_are_grammar bytes fits)
heard_if_ok (Err d) bytes fits e = tt

-- ---- what is heard as a call may be written again

abbrev CallMay : Outcome (List ℕ) → Type 0
CallMay (Call c) = MayCall (program_of c.program) (record { xid = c.xid; program = c.program; procedure = c.procedure; cred = c.cred; args = c.arguments })
CallMay (Refuse reply) = Unit {0}
CallMay Silent = Unit {0}

-- the groups of a body are few
unix_few : (cred : Cred) (item : List ℕ) → IsUnixBody cred item → length cred.gids ≤ 16
unix_few cred item is = is.2.second.second.second.second.0

may_arguments : (h : Head) (cred : Cred) (bytes : List ℕ) (o : Outcome (List ℕ)) → length cred.gids ≤ 16 → (p : Program) → program_of h.program ≡ Some p
    → h.procedure ≤ p.last_procedure → HeardArguments AsTheyAre h cred bytes o → CallMay o
may_arguments h cred bytes _ few p e below (called a begins) =
    subst (λ (o : Option Program). MayCall o (record { xid = h.xid; program = h.program; procedure = h.procedure; cred = cred; args = a })) (sym e) (below, few)
may_arguments h cred bytes _ few p e below (garbage never) = tt

may_program : (h : Head) (cred : Cred) (bytes : List ℕ) (o : Outcome (List ℕ)) → length cred.gids ≤ 16 → HeardProgram AsTheyAre h cred bytes o → CallMay o
may_program h cred bytes _ few (unavailable e) = tt
may_program h cred bytes _ few (mismatch p e other) = tt
may_program h cred bytes _ few (no_procedure p e same above) = tt
may_program h cred bytes _ few (there p e same below o is) = may_arguments h cred bytes o few p e below is

may_verifier : (h : Head) (cred : Cred) (bytes : List ℕ) (o : Outcome (List ℕ)) → length cred.gids ≤ 16 → HeardVerifier AsTheyAre h cred bytes o → CallMay o
may_verifier h cred bytes _ few (HeardVerifier.cut c) = tt
may_verifier h cred bytes _ few (HeardVerifier.too_long long) = tt
may_verifier h cred bytes _ few (verifier flavor body item rest spells spelled o is) = may_program h cred rest o few is

may_caller : (h : Head) (flavor : ℕ) (body bytes : List ℕ) (o : Outcome (List ℕ)) → HeardCaller AsTheyAre h flavor body bytes o → CallMay o
may_caller h flavor body bytes _ (rejected not_zero not_one) = tt
may_caller h flavor body bytes _ (bad one never) = tt
may_caller h flavor body bytes _ (null flavor_is_zero o is) = may_verifier h nobody bytes o (lit≤ tt) is
may_caller h flavor body bytes _ (unix one cred item rest spells spelled o is) = may_verifier h cred bytes o (unix_few cred item spells) is

may_credential : (h : Head) (bytes : List ℕ) (o : Outcome (List ℕ)) → HeardCredential AsTheyAre h bytes o → CallMay o
may_credential h bytes _ (HeardCredential.cut c) = tt
may_credential h bytes _ (HeardCredential.too_long long) = tt
may_credential h bytes _ (credential flavor body item rest spells spelled o is) = may_caller h flavor body rest o is

may_call : (h : Head) (bytes : List ℕ) (o : Outcome (List ℕ)) → HeardCall AsTheyAre h bytes o → CallMay o
may_call h bytes _ (no_call other) = tt
may_call h bytes _ (other_rpc kind other) = tt
may_call h bytes _ (call kind version o is) = may_credential h bytes o is

may_heard : (bytes : List ℕ) (o : Outcome (List ℕ)) → Heard AsTheyAre bytes o → CallMay o
may_heard bytes _ (short few) = tt
may_heard bytes _ (begun h item rest spells spelled o is) = may_call h rest o is

may_outcome : (h : heard.Heard) → CallMay (outcome h) → MayBeCalled h
may_outcome (variant.Call c) is = is
may_outcome (variant.Refuse reply) is = tt
may_outcome variant.Silent is = tt

pub may_if_ok : (r : Result heard.Heard NoMemory) (bytes : List ℕ) → IfOk r (λ h. Heard AsTheyAre bytes (outcome h)) → IfOk r MayBeCalled
may_if_ok (Ok h) bytes is = may_outcome h (may_heard bytes (outcome h) is)
may_if_ok (Err d) bytes is = tt
