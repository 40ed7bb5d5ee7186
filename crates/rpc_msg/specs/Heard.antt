-- What some bytes are heard as: the ten cases, of which the first that fits decides.
use Rattle.std.specs.Prelude.{◌≡◌, ◌≢◌, ◌<◌, ◌≤◌, ℕ, List, ◌++◌, length, Option, Some, None}
use Rattle.sfs_base.specs.Reading.{IsBytes}
use Rattle.rpc_msg.specs.declared.cred.Cred.{Cred}
use Rattle.rpc_msg.specs.declared.head.Head.{Head}
use Rattle.rpc_msg.specs.declared.program.Program.{Program}
use Rattle.rpc_msg.specs.Messages.{IsHead, IsAuth, IsTooLongAuth, IsCutAuth, IsUnixBody, nobody, program_of, rpc_mismatch, auth_error, program_unavailable, program_mismatch, procedure_unavailable, garbage_arguments}

-- a call, with its arguments as values
pub record Called (A : Type 0) : Type 0 where
  pub xid : ℕ
  pub program : ℕ
  pub procedure : ℕ
  pub cred : Cred
  pub arguments : A

-- a call, a refusal with the bytes of its reply, or nothing that is answered
pub data Outcome (A : Type 0) : Type 0 where
  Call : Called A → Outcome A
  Refuse : List ℕ → Outcome A
  Silent : Outcome A

-- which bytes begin with arguments of a procedure, and what these are
abbrev pub Grammar : Type 0 → Type 1
Grammar A = (program procedure : ℕ) → A → List ℕ → Type 0

-- bytes begin with the arguments that reading gives, and with no others; other numbers than bytes are not spoken of
pub record IsGrammar {A : Type 0} (Begins : Grammar A) (read : ℕ → ℕ → List ℕ → Option A) : Type 0 where
  pub found : (program procedure : ℕ) (a : A) (bytes : List ℕ) → IsBytes bytes → read program procedure bytes ≡ Some a → Begins program procedure a bytes
  pub none : (program procedure : ℕ) (bytes : List ℕ) → read program procedure bytes ≡ None → (a : A) → Begins program procedure a bytes → ⊥
  pub one : (program procedure : ℕ) (a b : A) (bytes : List ℕ) → Begins program procedure a bytes → Begins program procedure b bytes → a ≡ b

-- all bytes are the arguments
abbrev pub AsTheyAre : Grammar (List ℕ)
AsTheyAre program procedure a bytes = a ≡ bytes

-- the tenth case: the bytes behind the verifier begin with the procedure's arguments, or they do not
pub data HeardArguments {A : Type 0} (Begins : Grammar A) (head : Head) (cred : Cred) (bytes : List ℕ) : Outcome A → Type 0 where
  called : (a : A) → Begins head.program head.procedure a bytes
      → HeardArguments Begins head cred bytes (Call (record { xid = head.xid; program = head.program; procedure = head.procedure; cred = cred; arguments = a }))
  garbage : ((a : A) → Begins head.program head.procedure a bytes → ⊥) → HeardArguments Begins head cred bytes (Refuse (garbage_arguments head.xid))

-- the seventh to the ninth: the program, its version, its procedure
pub data HeardProgram {A : Type 0} (Begins : Grammar A) (head : Head) (cred : Cred) (bytes : List ℕ) : Outcome A → Type 0 where
  unavailable : program_of head.program ≡ None → HeardProgram Begins head cred bytes (Refuse (program_unavailable head.xid))
  mismatch : (p : Program) → program_of head.program ≡ Some p → head.version ≢ p.version
      → HeardProgram Begins head cred bytes (Refuse (program_mismatch p.version head.xid))
  no_procedure : (p : Program) → program_of head.program ≡ Some p → head.version ≡ p.version → p.last_procedure < head.procedure
      → HeardProgram Begins head cred bytes (Refuse (procedure_unavailable head.xid))
  there : (p : Program) → program_of head.program ≡ Some p → head.version ≡ p.version → head.procedure ≤ p.last_procedure
      → (h : Outcome A) → HeardArguments Begins head cred bytes h → HeardProgram Begins head cred bytes h

-- the sixth: the verifier
pub data HeardVerifier {A : Type 0} (Begins : Grammar A) (head : Head) (cred : Cred) (bytes : List ℕ) : Outcome A → Type 0 where
  cut : IsCutAuth bytes → HeardVerifier Begins head cred bytes Silent
  too_long : IsTooLongAuth bytes → HeardVerifier Begins head cred bytes (Refuse (auth_error 3 head.xid))
  verifier : (flavor : ℕ) (body item rest : List ℕ) → IsAuth flavor body item → bytes ≡ item ++ rest
      → (h : Outcome A) → HeardProgram Begins head cred rest h → HeardVerifier Begins head cred bytes h

-- the fifth: who calls, by the flavor and the body of the credential
pub data HeardCaller {A : Type 0} (Begins : Grammar A) (head : Head) (flavor : ℕ) (body bytes : List ℕ) : Outcome A → Type 0 where
  rejected : flavor ≢ 0 → flavor ≢ 1 → HeardCaller Begins head flavor body bytes (Refuse (auth_error 2 head.xid))
  bad : flavor ≡ 1 → ((cred : Cred) (item rest : List ℕ) → IsUnixBody cred item → body ≡ item ++ rest → ⊥)
      → HeardCaller Begins head flavor body bytes (Refuse (auth_error 1 head.xid))
  null : flavor ≡ 0 → (h : Outcome A) → HeardVerifier Begins head nobody bytes h → HeardCaller Begins head flavor body bytes h
  unix : flavor ≡ 1 → (cred : Cred) (item rest : List ℕ) → IsUnixBody cred item → body ≡ item ++ rest
      → (h : Outcome A) → HeardVerifier Begins head cred bytes h → HeardCaller Begins head flavor body bytes h

-- the fourth: the credential
pub data HeardCredential {A : Type 0} (Begins : Grammar A) (head : Head) (bytes : List ℕ) : Outcome A → Type 0 where
  cut : IsCutAuth bytes → HeardCredential Begins head bytes Silent
  too_long : IsTooLongAuth bytes → HeardCredential Begins head bytes (Refuse (auth_error 1 head.xid))
  credential : (flavor : ℕ) (body item rest : List ℕ) → IsAuth flavor body item → bytes ≡ item ++ rest
      → (h : Outcome A) → HeardCaller Begins head flavor body rest h → HeardCredential Begins head bytes h

-- the second and the third: whether it is a call, and the version of RPC
pub data HeardCall {A : Type 0} (Begins : Grammar A) (head : Head) (bytes : List ℕ) : Outcome A → Type 0 where
  no_call : head.kind ≢ 0 → HeardCall Begins head bytes Silent
  other_rpc : head.kind ≡ 0 → head.rpc_version ≢ 2 → HeardCall Begins head bytes (Refuse (rpc_mismatch head.xid))
  call : head.kind ≡ 0 → head.rpc_version ≡ 2 → (h : Outcome A) → HeardCredential Begins head bytes h → HeardCall Begins head bytes h

-- the first: whether six numbers are there
pub data Heard {A : Type 0} (Begins : Grammar A) (bytes : List ℕ) : Outcome A → Type 0 where
  short : length bytes < 24 → Heard Begins bytes Silent
  begun : (head : Head) (item rest : List ℕ) → IsHead head item → bytes ≡ item ++ rest → (h : Outcome A) → HeardCall Begins head rest h → Heard Begins bytes h
