-- How the messages of ONC RPC are spelled (RFC 1057, sections 8 and 9).
use Rattle.std.specs.Prelude.{◌≡◌, ◌<◌, ◌≤◌, ◌+◌, ◌*◌, ◌^◌, ℕ, ◌==◌, Bool, ◌&&◌, if◌then◌else◌, List, [], ◌∷◌, ◌++◌, length, Option, Some, None, Result}
use Rattle.sfs_xdr.specs.declared.xdr_fault.XdrFault.{XdrFault}
use Rattle.sfs_xdr.specs.Items.{word, words}
use Rattle.sfs_xdr.specs.Reading.{word_of, opaque_max_of}
use Rattle.sfs_xdr.specs.Codec.{Reading, both_of, made_of, number_item, text_item, counted_of, ◌⟫◌, IsNumber, IsText, IsCounted}
use Rattle.rpc_msg.specs.declared.cred.Cred.{Cred}
use Rattle.rpc_msg.specs.declared.head.Head.{Head}
use Rattle.rpc_msg.specs.declared.program.Program.{Program}
use Rattle.rpc_msg.specs.declared.rpc_call.RpcCall.{RpcCall}

-- ---- the head of a call: xid, message type, RPC version, program, its version, procedure

abbrev pub head_words : Head → List ℕ
head_words h = h.xid ∷ h.kind ∷ h.rpc_version ∷ h.program ∷ h.version ∷ h.procedure ∷ []

abbrev pub IsHead : Head → List ℕ → Type 0
IsHead h = IsNumber h.xid ⟫ IsNumber h.kind ⟫ IsNumber h.rpc_version ⟫ IsNumber h.program ⟫ IsNumber h.version ⟫ IsNumber h.procedure

abbrev pub head_from : ℕ × (ℕ × (ℕ × (ℕ × (ℕ × ℕ)))) → Head
head_from p = record { xid = p.0; kind = p.1.0; rpc_version = p.1.1.0; program = p.1.1.1.0; version = p.1.1.1.1.0; procedure = p.1.1.1.1.1 }

unfoldable pub head_of : Reading Head
head_of = made_of head_from (both_of number_item (both_of number_item (both_of number_item (both_of number_item (both_of number_item number_item)))))

-- ---- credentials and verifiers: a flavor, and a body of at most 400 bytes

-- the flavor and the body
abbrev pub IsAuth : ℕ → List ℕ → List ℕ → Type 0
IsAuth flavor body = IsNumber flavor ⟫ IsText 400 body

-- a length above 400 stands there
abbrev pub IsTooLongAuth : List ℕ → Type 0
IsTooLongAuth bytes = (flavor n : ℕ) × (rest : List ℕ) × (flavor < 2 ^ 32) × (n < 2 ^ 32) × (400 < n) × (bytes ≡ word flavor ++ word n ++ rest)

-- the bytes end within one: none stands there, nor a length above 400
abbrev pub IsCutAuth : List ℕ → Type 0
IsCutAuth bytes = ((flavor : ℕ) (body item rest : List ℕ) → IsAuth flavor body item → bytes ≡ item ++ rest → ⊥) × (IsTooLongAuth bytes → ⊥)

-- what reading one gives, with the first fault from the left
unfoldable pub auth_of : List ℕ → Result ((ℕ × List ℕ) × List ℕ) XdrFault
auth_of = both_of word_of (opaque_max_of 400)

-- the body of AUTH_UNIX: a stamp, the name of a machine, a user, a group and at most 16 further groups. Who calls is the last three
abbrev pub IsUnixBody : Cred → List ℕ → Type 0
IsUnixBody cred item =
    (stamp : ℕ) × (machine : List ℕ) × (IsNumber stamp ⟫ IsText 255 machine ⟫ IsNumber cred.uid ⟫ IsNumber cred.gid ⟫ IsCounted 16 IsNumber cred.gids) item

abbrev pub cred_from : ℕ × (List ℕ × (ℕ × (ℕ × List ℕ))) → Cred
cred_from p = record { uid = p.1.1.0; gid = p.1.1.1.0; gids = p.1.1.1.1 }

unfoldable pub unix_of : Reading Cred
unix_of = made_of cred_from (both_of number_item (both_of (text_item 255) (both_of number_item (both_of number_item (counted_of 16 number_item)))))

-- such a body, as a writer spells it: stamp 0, no name, the user, the group, the further groups behind their number
abbrev pub unix_words : Cred → List ℕ
unix_words cred = 0 ∷ 0 ∷ cred.uid ∷ cred.gid ∷ length cred.gids ∷ cred.gids

-- who calls without a credential
abbrev pub nobody : Cred
nobody = record { uid = 65534; gid = 65534; gids = [] }

-- ---- programs

-- NFS version 2 (RFC 1094), with procedures 0 to 17
abbrev pub nfs : Program
nfs = record { version = 2; last_procedure = 17 }

-- the mount protocol version 1 (RFC 1094, appendix A), with procedures 0 to 5
abbrev pub mount : Program
mount = record { version = 1; last_procedure = 5 }

-- the program with this number
abbrev pub program_of : ℕ → Option Program
program_of number = if number == 100003 then Some nfs else if number == 100005 then Some mount else None

-- ---- calls, as a client writes them

-- whether it is nobody who calls
abbrev pub is_nobody : Cred → Bool
is_nobody cred = (cred.uid == 65534) && ((cred.gid == 65534) && (length cred.gids == 0))

-- the credential: none where nobody calls, else AUTH_UNIX with its body behind its length
abbrev pub cred_words : Cred → List ℕ
cred_words cred = if is_nobody cred then 0 ∷ 0 ∷ [] else 1 ∷ (20 + 4 * length cred.gids) ∷ unix_words cred

-- the head of a call of the version that the program has
abbrev pub head_for : Option Program → RpcCall → Head
head_for None call = record { xid = call.xid; kind = 0; rpc_version = 2; program = call.program; version = 0; procedure = call.procedure }
head_for (Some p) call = record { xid = call.xid; kind = 0; rpc_version = 2; program = call.program; version = p.version; procedure = call.procedure }

-- the program and the procedure are there, and the further groups are not too many
abbrev pub MayCall : Option Program → RpcCall → Type 0
MayCall None call = ⊥
MayCall (Some p) call = (call.procedure ≤ p.last_procedure) × (length call.cred.gids ≤ 16)

-- a call: its head, the credential, a verifier of nothing, and the arguments
abbrev pub call_spelling : RpcCall → List ℕ
call_spelling call = words (head_words (head_for (program_of call.program) call)) ++ (words (cred_words call.cred) ++ (words (0 ∷ 0 ∷ []) ++ call.args))

-- ---- replies

-- an accepted reply with this status: xid, reply 1, accepted 0, an empty verifier, the status
abbrev pub accepted_as : ℕ → ℕ → List ℕ
accepted_as status xid = words (xid ∷ 1 ∷ 0 ∷ 0 ∷ 0 ∷ status ∷ [])

-- with the status SUCCESS, and the result
abbrev pub accepted : ℕ → List ℕ → List ℕ
accepted xid result = accepted_as 0 xid ++ result

-- PROG_UNAVAIL, PROC_UNAVAIL and GARBAGE_ARGS
abbrev pub program_unavailable : ℕ → List ℕ
program_unavailable xid = accepted_as 1 xid

abbrev pub procedure_unavailable : ℕ → List ℕ
procedure_unavailable xid = accepted_as 3 xid

abbrev pub garbage_arguments : ℕ → List ℕ
garbage_arguments xid = accepted_as 4 xid

-- PROG_MISMATCH: this version is the lowest and the highest
abbrev pub program_mismatch : ℕ → ℕ → List ℕ
program_mismatch version xid = words (xid ∷ 1 ∷ 0 ∷ 0 ∷ 0 ∷ 2 ∷ version ∷ version ∷ [])

-- a denied reply RPC_MISMATCH: version 2 is the lowest and the highest
abbrev pub rpc_mismatch : ℕ → List ℕ
rpc_mismatch xid = words (xid ∷ 1 ∷ 1 ∷ 0 ∷ 2 ∷ 2 ∷ [])

-- a denied reply AUTH_ERROR, and why
abbrev pub auth_error : ℕ → ℕ → List ℕ
auth_error why xid = words (xid ∷ 1 ∷ 1 ∷ 1 ∷ why ∷ [])
