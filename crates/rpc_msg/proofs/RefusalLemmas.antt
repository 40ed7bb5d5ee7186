-- A refusal is a few numbers.
use Rattle.std.proofs.Common.{◌≡◌, ℕ, ◌≤◌, List, [], ◌∷◌, length, refl, arith}
use Rattle.sfs_xdr.specs.Items.{words}
use Rattle.rpc_msg.specs.declared.cred.Cred.{Cred}
use Rattle.rpc_msg.specs.declared.head.Head.{Head}
use Rattle.rpc_msg.specs.Heard.{Outcome, Call, Refuse, Silent, Grammar, HeardArguments, HeardProgram, HeardVerifier, HeardCaller, HeardCredential, HeardCall, Heard, called, garbage, unavailable, mismatch, no_procedure, there, rejected, bad, null, unix, no_call, other_rpc, call, short, begun, credential, verifier}

-- these numbers, and at most eight
pub record AreFew (reply : List ℕ) : Type 0 where
  pub numbers : List ℕ
  pub some : 1 ≤ length numbers
  pub few : length numbers ≤ 8
  pub spelled : reply ≡ words numbers

-- a refusal is spelled by at most eight numbers
abbrev pub IsShort : {A : Type 0} → Outcome A → Type 0
IsShort (Call c) = Unit {0}
IsShort (Refuse reply) = AreFew reply
IsShort Silent = Unit {0}

few : (numbers : List ℕ) → 1 ≤ length numbers → length numbers ≤ 8 → AreFew (words numbers)
few numbers some most = record { numbers = numbers; some = some; few = most; spelled = refl }

short_arguments : {A : Type 0} (Begins : Grammar A) (h : Head) (cred : Cred) (bytes : List ℕ) (o : Outcome A) → HeardArguments Begins h cred bytes o → IsShort o
short_arguments Begins h cred bytes _ (called a begins) = tt
short_arguments Begins h cred bytes _ (garbage never) = few (h.xid ∷ 1 ∷ 0 ∷ 0 ∷ 0 ∷ 4 ∷ []) (omega arith) (omega arith)

short_program : {A : Type 0} (Begins : Grammar A) (h : Head) (cred : Cred) (bytes : List ℕ) (o : Outcome A) → HeardProgram Begins h cred bytes o → IsShort o
short_program Begins h cred bytes _ (unavailable e) = few (h.xid ∷ 1 ∷ 0 ∷ 0 ∷ 0 ∷ 1 ∷ []) (omega arith) (omega arith)
short_program Begins h cred bytes _ (mismatch p e other) = few (h.xid ∷ 1 ∷ 0 ∷ 0 ∷ 0 ∷ 2 ∷ p.version ∷ p.version ∷ []) (omega arith) (omega arith)
short_program Begins h cred bytes _ (no_procedure p e same above) = few (h.xid ∷ 1 ∷ 0 ∷ 0 ∷ 0 ∷ 3 ∷ []) (omega arith) (omega arith)
short_program Begins h cred bytes _ (there p e same below o is) = short_arguments Begins h cred bytes o is

short_verifier : {A : Type 0} (Begins : Grammar A) (h : Head) (cred : Cred) (bytes : List ℕ) (o : Outcome A) → HeardVerifier Begins h cred bytes o → IsShort o
short_verifier Begins h cred bytes _ (HeardVerifier.cut c) = tt
short_verifier Begins h cred bytes _ (HeardVerifier.too_long long) = few (h.xid ∷ 1 ∷ 1 ∷ 1 ∷ 3 ∷ []) (omega arith) (omega arith)
short_verifier Begins h cred bytes _ (verifier flavor body item rest spells spelled o is) = short_program Begins h cred rest o is

short_caller : {A : Type 0} (Begins : Grammar A) (h : Head) (flavor : ℕ) (body bytes : List ℕ) (o : Outcome A) → HeardCaller Begins h flavor body bytes o → IsShort o
short_caller Begins h flavor body bytes _ (rejected zero one) = few (h.xid ∷ 1 ∷ 1 ∷ 1 ∷ 2 ∷ []) (omega arith) (omega arith)
short_caller Begins h flavor body bytes _ (bad one never) = few (h.xid ∷ 1 ∷ 1 ∷ 1 ∷ 1 ∷ []) (omega arith) (omega arith)
short_caller Begins h flavor body bytes _ (null zero o is) = short_verifier Begins h _ bytes o is
short_caller Begins h flavor body bytes _ (unix one cred item rest spells spelled o is) = short_verifier Begins h cred bytes o is

short_credential : {A : Type 0} (Begins : Grammar A) (h : Head) (bytes : List ℕ) (o : Outcome A) → HeardCredential Begins h bytes o → IsShort o
short_credential Begins h bytes _ (HeardCredential.cut c) = tt
short_credential Begins h bytes _ (HeardCredential.too_long long) = few (h.xid ∷ 1 ∷ 1 ∷ 1 ∷ 1 ∷ []) (omega arith) (omega arith)
short_credential Begins h bytes _ (credential flavor body item rest spells spelled o is) = short_caller Begins h flavor body rest o is

short_call : {A : Type 0} (Begins : Grammar A) (h : Head) (bytes : List ℕ) (o : Outcome A) → HeardCall Begins h bytes o → IsShort o
short_call Begins h bytes _ (no_call other) = tt
short_call Begins h bytes _ (other_rpc zero other) = few (h.xid ∷ 1 ∷ 1 ∷ 0 ∷ 2 ∷ 2 ∷ []) (omega arith) (omega arith)
short_call Begins h bytes _ (call zero two o is) = short_credential Begins h bytes o is

pub short_heard : {A : Type 0} (Begins : Grammar A) (bytes : List ℕ) (o : Outcome A) → Heard Begins bytes o → IsShort o
short_heard Begins bytes _ (short lacking) = tt
short_heard Begins bytes _ (begun h item rest spells spelled o is) = short_call Begins h rest o is
