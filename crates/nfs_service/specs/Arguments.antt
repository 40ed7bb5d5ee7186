-- The arguments of the two programs, and that the ten cases of hearing decide over them what a datagram asks for.
use Rattle.std.specs.Prelude.{◌≡◌, ℕ, ◌==◌, Bool, true, ◌||◌, if◌then◌else◌, List, [], ◌∷◌, ◌++◌, Option, Some, None, Result, Ok, Err}
use Rattle.sfs_base.specs.Reading.{IsBytes}
use Rattle.sfs_xdr.specs.Items.{words}
use Rattle.sfs_xdr.specs.Codec.{text_item, IsText}
use Rattle.rpc_msg.specs.declared.cred.Cred.{Cred}
use Rattle.rpc_msg.specs.Messages.{accepted}
use Rattle.rpc_msg.specs.Heard.{Called, Outcome, Grammar, Heard}
use Rattle.rpc_msg.specs.Heard as heard_as
use Rattle.rpc_msg.specs.Hearing.{ArgumentReader}
use Rattle.nfs_proto.specs.declared.call.Call.{Call}
use Rattle.nfs_proto.specs.Arguments.{procedure_of, IsArguments, arguments_of}
use Rattle.mount_proto.specs.Mount.{mounted}
use Rattle.nfs_service.specs.declared.request.Request.{Request}
use Rattle.nfs_service.specs.declared.request.Request.TheVariants as request
use Rattle.nfs_service.specs.declared.service_arguments.ServiceArguments.{ServiceArguments}
use Rattle.nfs_service.specs.declared.service_arguments.ServiceArguments.TheVariants as arguments
use Rattle.nfs_service.specs.Reply.{called, heard}

-- ---- which bytes begin with which arguments

-- the bytes begin with one that is spelled so
abbrev pub Begun : (List ℕ → Type 0) → List ℕ → Type 0
Begun Spelled bytes = (item rest : List ℕ) × Spelled item × (bytes ≡ item ++ rest)

-- of the mount protocol, MNT and UMNT take a path (RFC 1094, appendix A), and NULL, DUMP, UMNTALL and EXPORT nothing
abbrev pub takes_path : ℕ → Bool
takes_path procedure = (procedure == 1) || (procedure == 3)

abbrev pub takes_nothing : ℕ → Bool
takes_nothing procedure = ((procedure == 0) || (procedure == 2)) || ((procedure == 4) || (procedure == 5))

abbrev pub BeginsWith : Grammar ServiceArguments
BeginsWith program procedure (arguments.Files call) bytes = (program ≡ 100003) × (procedure_of call ≡ procedure) × Begun (IsArguments call) bytes
BeginsWith program procedure (arguments.Path path) bytes = (program ≡ 100005) × (takes_path procedure ≡ true) × Begun (IsText 1024 path) bytes
BeginsWith program procedure arguments.Nothing bytes = (program ≡ 100005) × (takes_nothing procedure ≡ true)

-- ---- and what reading them gives

abbrev pub files : Result (Call × List ℕ) (Unit {0}) → Option ServiceArguments
files (Ok read) = Some (arguments.Files read.0)
files (Err fault) = None

abbrev pub path : Result (List ℕ × List ℕ) (Unit {0}) → Option ServiceArguments
path (Ok read) = Some (arguments.Path read.0)
path (Err fault) = None

abbrev pub read_mount : ℕ → List ℕ → Option ServiceArguments
read_mount procedure bytes =
    if takes_path procedure then path (text_item 1024 bytes) else if takes_nothing procedure then Some arguments.Nothing else None

abbrev pub read_service : ArgumentReader ServiceArguments
read_service program procedure bytes =
    if program == 100003 then files (arguments_of procedure bytes) else if program == 100005 then read_mount procedure bytes else None

-- ---- what is asked for

-- MNT of a path is answered its handle or that there is none, UMNT nothing; DUMP tells an empty list, EXPORT "/" for
-- everyone, the others nothing
abbrev pub path_result : ℕ → List ℕ → List ℕ
path_result procedure path = if procedure == 1 then mounted path else []

abbrev pub mount_result : ℕ → List ℕ
mount_result procedure = if procedure == 2 then words (0 ∷ []) else if procedure == 5 then words (1 ∷ 1 ∷ 0x2f000000 ∷ 0 ∷ 0 ∷ []) else []

abbrev pub asked_by : ℕ → ℕ → Cred → ServiceArguments → Request
asked_by xid procedure cred (arguments.Files call) = called xid call cred
asked_by xid procedure cred (arguments.Path path) = request.Told (accepted xid (path_result procedure path))
asked_by xid procedure cred arguments.Nothing = request.Told (accepted xid (mount_result procedure))

-- what a datagram asks for that is heard so
abbrev pub requested_by : Outcome ServiceArguments → Request
requested_by (heard_as.Call c) = asked_by c.xid c.procedure c.cred c.arguments
requested_by (heard_as.Refuse reply) = request.Told reply
requested_by heard_as.Silent = request.Silent

-- the ten cases hear bytes as one thing, and that is what they ask for
abbrev pub TheTenCasesDecide : Type 0
TheTenCasesDecide =
    ((bytes : List ℕ) → IsBytes bytes → (o : Outcome ServiceArguments) × Heard BeginsWith bytes o)
    × ((bytes : List ℕ) → IsBytes bytes → (o : Outcome ServiceArguments) → Heard BeginsWith bytes o → heard bytes ≡ requested_by o)
