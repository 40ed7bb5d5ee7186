-- What some bytes are heard as, as a function: the first case that fits, from the left.
use Rattle.std.specs.Prelude.{ℕ, ◌==◌, nat_le, if◌then◌else◌, List, Option, Some, None, Result, Ok, Err}
use Rattle.sfs_xdr.specs.declared.xdr_fault.XdrFault.{XdrFault}
use Rattle.sfs_xdr.specs.declared.xdr_fault.XdrFault.TheVariants.{Short, TooLong, NotBool}
use Rattle.rpc_msg.specs.declared.auth_why.AuthWhy.{AuthWhy}
use Rattle.rpc_msg.specs.declared.auth_why.AuthWhy.TheVariants as why
use Rattle.rpc_msg.specs.declared.cred.Cred.{Cred}
use Rattle.rpc_msg.specs.declared.head.Head.{Head}
use Rattle.rpc_msg.specs.declared.heard.Heard.{Heard}
use Rattle.rpc_msg.specs.declared.heard.Heard.TheVariants as heard
use Rattle.rpc_msg.specs.declared.program.Program.{Program}
use Rattle.rpc_msg.specs.Messages.{head_of, auth_of, unix_of, nobody, program_of, MayCall, rpc_mismatch, auth_error, program_unavailable, program_mismatch, procedure_unavailable, garbage_arguments}
use Rattle.rpc_msg.specs.Heard.{Outcome, Call, Refuse, Silent}

-- reads the arguments of a procedure: none where the bytes do not begin with any
abbrev pub ArgumentReader : Type 0 → Type 0
ArgumentReader A = ℕ → ℕ → List ℕ → Option A

abbrev pub hear_arguments : {A : Type 0} → Head → Cred → Option A → Outcome A
hear_arguments head cred (Some a) = Call (record { xid = head.xid; program = head.program; procedure = head.procedure; cred = cred; arguments = a })
hear_arguments head cred None = Refuse (garbage_arguments head.xid)

abbrev pub hear_program : {A : Type 0} → ArgumentReader A → Head → Cred → List ℕ → Option Program → Outcome A
hear_program read head cred bytes None = Refuse (program_unavailable head.xid)
hear_program read head cred bytes (Some p) =
    if head.version == p.version
    then (if nat_le head.procedure p.last_procedure then hear_arguments head cred (read head.program head.procedure bytes) else Refuse (procedure_unavailable head.xid))
    else Refuse (program_mismatch p.version head.xid)

-- what a credential or verifier is heard as that does not stand there whole
abbrev pub hear_fault : {A : Type 0} → Head → ℕ → XdrFault → Outcome A
hear_fault head why Short = Silent
hear_fault head why TooLong = Refuse (auth_error why head.xid)
hear_fault head why NotBool = Silent

abbrev pub hear_verifier : {A : Type 0} → ArgumentReader A → Head → Cred → Result ((ℕ × List ℕ) × List ℕ) XdrFault → Outcome A
hear_verifier read head cred (Ok verifier) = hear_program read head cred verifier.1 (program_of head.program)
hear_verifier read head cred (Err e) = hear_fault head 3 e

abbrev pub hear_unix : {A : Type 0} → ArgumentReader A → Head → List ℕ → Result (Cred × List ℕ) (Unit {0}) → Outcome A
hear_unix read head bytes (Ok cred) = hear_verifier read head cred.0 (auth_of bytes)
hear_unix read head bytes (Err e) = Refuse (auth_error 1 head.xid)

abbrev pub hear_caller : {A : Type 0} → ArgumentReader A → Head → ℕ → List ℕ → List ℕ → Outcome A
hear_caller read head flavor body bytes =
    if flavor == 0 then hear_verifier read head nobody (auth_of bytes) else if flavor == 1 then hear_unix read head bytes (unix_of body) else Refuse (auth_error 2 head.xid)

abbrev pub hear_credential : {A : Type 0} → ArgumentReader A → Head → Result ((ℕ × List ℕ) × List ℕ) XdrFault → Outcome A
hear_credential read head (Ok credential) = hear_caller read head credential.0.0 credential.0.1 credential.1
hear_credential read head (Err e) = hear_fault head 1 e

abbrev pub hear_call : {A : Type 0} → ArgumentReader A → Head → List ℕ → Outcome A
hear_call read head bytes =
    if head.kind == 0 then (if head.rpc_version == 2 then hear_credential read head (auth_of bytes) else Refuse (rpc_mismatch head.xid)) else Silent

abbrev pub hear_head : {A : Type 0} → ArgumentReader A → Result (Head × List ℕ) (Unit {0}) → Outcome A
hear_head read (Ok head) = hear_call read head.0 head.1
hear_head read (Err e) = Silent

-- what some bytes are heard as
unfoldable pub heard_of : {A : Type 0} → ArgumentReader A → List ℕ → Outcome A
heard_of read bytes = hear_head read (head_of bytes)

-- all bytes behind the verifier are the arguments
abbrev pub as_they_are : ArgumentReader (List ℕ)
as_they_are program procedure bytes = Some bytes

-- what a value of the code stands for
abbrev pub outcome : Heard → Outcome (List ℕ)
outcome (heard.Call call) = Call (record { xid = call.xid; program = call.program; procedure = call.procedure; cred = call.cred; arguments = call.args })
outcome (heard.Refuse reply) = Refuse reply
outcome heard.Silent = Silent

-- a call that is heard may be written: its program and its procedure are there, and its further groups are at most 16
abbrev pub MayBeCalled : Heard → Type 0
MayBeCalled (heard.Call call) = MayCall (program_of call.program) call
MayBeCalled (heard.Refuse reply) = Unit {0}
MayBeCalled heard.Silent = Unit {0}

-- the number that stands for why a caller is not let in
abbrev pub why_number : AuthWhy → ℕ
why_number why.BadCredential = 1
why_number why.RejectedCredential = 2
why_number why.BadVerifier = 3
