-- The ten cases decide over the arguments of the two programs.
use Rattle.std.proofs.Common.{◌≡◌, ℕ, zero, suc, ◌≤◌, Bool, true, false, cond, eqb, leb, ◌||◌, List, [], Option, Some, None, Result, Ok, Err, refl, sym, ap, ◌∙◌, arith}
use Rattle.std.specs.Prelude.{slice_get}
use Rattle.std.proofs.lemmas.Bool.{ne_eqb}
use Rattle.sfs_xdr.specs.declared.xdr_fault.XdrFault.{XdrFault}
use Rattle.sfs_xdr.specs.declared.xdr_fault.XdrFault.TheVariants.{Short, TooLong, NotBool}
use Rattle.sfs_xdr.specs.Codec.{Reading, text_item}
use Rattle.rpc_msg.specs.declared.cred.Cred.{Cred}
use Rattle.rpc_msg.specs.declared.head.Head.{Head}
use Rattle.rpc_msg.specs.declared.program.Program.{Program}
use Rattle.rpc_msg.specs.Messages.{auth_of, head_of, unix_of, nobody, nfs, mount, program_of, accepted, garbage_arguments}
use Rattle.rpc_msg.specs.Heard.{Outcome}
use Rattle.rpc_msg.specs.Hearing.{as_they_are, hear_arguments, hear_program, hear_fault, hear_verifier, hear_unix, hear_caller, hear_credential, hear_head, heard_of}
use Rattle.rpc_msg.proofs.HeardLemmas.{told_heard, one_heard}
use Rattle.nfs_proto.specs.declared.call.Call.{Call}
use Rattle.nfs_proto.specs.Arguments.{readers, read_by, told, value_of, arguments_of, args_of}
use Rattle.mount_proto.specs.Mount.{answer_of, with_path, mounted}
use Rattle.nfs_service.specs.declared.request.Request.{Request}
use Rattle.nfs_service.specs.declared.request.Request.TheVariants as request
use Rattle.nfs_service.specs.declared.service_arguments.ServiceArguments.{ServiceArguments}
use Rattle.nfs_service.specs.declared.service_arguments.ServiceArguments.TheVariants as arguments
use Rattle.nfs_service.specs.Reply.{with_arguments, with_mount, requested}
use Rattle.nfs_service.specs.ArgumentLemmas.{service_grammar}
use Rattle.nfs_service.specs.Arguments.{takes_nothing, BeginsWith, files, path, read_mount, read_service, path_result, asked_by, requested_by, TheTenCasesDecide}

-- ---- what is asked for: the arguments as they are, or read, stage by stage

-- what a call whose arguments read so asks for
abbrev by_arguments : ℕ → ℕ → Cred → Option ServiceArguments → Request
by_arguments xid procedure cred (Some a) = asked_by xid procedure cred a
by_arguments xid procedure cred None = request.Told (garbage_arguments xid)

heard_so : (h : Head) (cred : Cred) (o : Option ServiceArguments) → by_arguments h.xid h.procedure cred o ≡ requested_by (hear_arguments h cred o)
heard_so h cred (Some a) = refl
heard_so h cred None = refl

-- a call of NFS
files_asked : (xid procedure : ℕ) (cred : Cred) (bytes : List ℕ) (o : Option (Reading Call))
    → with_arguments xid cred (told o bytes) ≡ by_arguments xid procedure cred (files (read_by o bytes))
files_asked xid procedure cred bytes None = refl
files_asked xid procedure cred bytes (Some read) = by_result (read bytes) where
  by_result : (r : Result (Call × List ℕ) (Unit {0})) → with_arguments xid cred (value_of r) ≡ by_arguments xid procedure cred (files r)
  by_result (Ok x) = refl
  by_result (Err fault) = refl

-- a call of the mount protocol
path_asked : (xid procedure : ℕ) (cred : Cred) (answer : List ℕ → List ℕ) → ((p : List ℕ) → path_result procedure p ≡ answer p)
    → (r : Result (List ℕ × List ℕ) (Unit {0})) → with_mount xid (with_path answer r) ≡ by_arguments xid procedure cred (path r)
path_asked xid procedure cred answer same (Ok x) = ap (λ body. request.Told (accepted xid body)) (sym (same x.0))
path_asked xid procedure cred answer same (Err fault) = refl

-- no number above 5 is that of a procedure of the mount protocol
above : (n k : ℕ) → 6 ≤ n → k ≤ 5 → eqb n k ≡ false
above n k high low = ne_eqb n k (λ same. absurd (omega (arith, high, low, same)))

none_there : (n : ℕ) (bytes : List ℕ) → 6 ≤ n → read_mount n bytes ≡ None
none_there n bytes high =
    ap (λ b. cond (b || eqb n 3) (path (text_item 1024 bytes)) (cond (takes_nothing n) (Some arguments.Nothing) None)) (above n 1 high (omega arith))
    ∙ ap (λ b. cond b (path (text_item 1024 bytes)) (cond (takes_nothing n) (Some arguments.Nothing) None)) (above n 3 high (omega arith))
    ∙ ap (λ b. cond ((b || eqb n 2) || (eqb n 4 || eqb n 5)) (Some arguments.Nothing) None) (above n 0 high (omega arith))
    ∙ ap (λ b. cond (b || (eqb n 4 || eqb n 5)) (Some arguments.Nothing) None) (above n 2 high (omega arith))
    ∙ ap (λ b. cond (b || eqb n 5) (Some arguments.Nothing) None) (above n 4 high (omega arith))
    ∙ ap (λ b. cond b (Some arguments.Nothing) None) (above n 5 high (omega arith))

mount_asked : (xid procedure : ℕ) (cred : Cred) (bytes : List ℕ) → with_mount xid (answer_of procedure bytes) ≡ by_arguments xid procedure cred (read_mount procedure bytes)
unfolding answer_of
mount_asked xid zero cred bytes = refl
mount_asked xid (suc zero) cred bytes = path_asked xid 1 cred mounted (λ p. refl) (text_item 1024 bytes)
mount_asked xid (suc (suc zero)) cred bytes = refl
mount_asked xid (suc (suc (suc zero))) cred bytes = path_asked xid 3 cred (λ p. []) (λ p. refl) (text_item 1024 bytes)
mount_asked xid (suc (suc (suc (suc zero)))) cred bytes = refl
mount_asked xid (suc (suc (suc (suc (suc zero))))) cred bytes = refl
mount_asked xid (suc (suc (suc (suc (suc (suc n)))))) cred bytes =
    ap (by_arguments xid (suc (suc (suc (suc (suc (suc n)))))) cred) (sym (none_there (suc (suc (suc (suc (suc (suc n)))))) bytes (omega arith)))

-- a call of a program that is there
no_other : (n : ℕ) (p : Program) → eqb n 100003 ≡ false → eqb n 100005 ≡ false → program_of n ≡ Some p → ⊥
no_other n p first second is =
    let none : program_of n ≡ None =
    ap (λ b. cond b (Some nfs) (cond (eqb n 100005) (Some mount) None)) first ∙ ap (λ b. cond b (Some mount) None) second in
    absurd (cc (is, none))

by_program : (h : Head) (cred : Cred) (bytes : List ℕ) (p : Program) → program_of h.program ≡ Some p → (b c : Bool) → eqb h.program 100003 ≡ b → eqb h.program 100005 ≡ c
    → cond b (with_arguments h.xid cred (args_of h.procedure bytes)) (with_mount h.xid (answer_of h.procedure bytes))
    ≡ by_arguments h.xid h.procedure cred (cond b (files (arguments_of h.procedure bytes)) (cond c (read_mount h.procedure bytes) None))
unfolding args_of arguments_of
by_program h cred bytes p is true c first second = files_asked h.xid h.procedure cred bytes (slice_get readers h.procedure)
by_program h cred bytes p is false true first second = mount_asked h.xid h.procedure cred bytes
by_program h cred bytes p is false false first second = absurd (no_other h.program p first second is)

call_asked : (h : Head) (cred : Cred) (bytes : List ℕ) (p : Program) → program_of h.program ≡ Some p
    → requested (hear_arguments h cred (as_they_are h.program h.procedure bytes)) ≡ requested_by (hear_arguments h cred (read_service h.program h.procedure bytes))
call_asked h cred bytes p is =
    by_program h cred bytes p is (eqb h.program 100003) (eqb h.program 100005) refl refl ∙ heard_so h cred (read_service h.program h.procedure bytes)

-- both ask for the same
abbrev AskSame : Outcome (List ℕ) → Outcome ServiceArguments → Type 0
AskSame x y = requested x ≡ requested_by y

either : (b : Bool) (x y : Outcome (List ℕ)) (v w : Outcome ServiceArguments) → AskSame x v → AskSame y w → AskSame (cond b x y) (cond b v w)
either true x y v w first second = first
either false x y v w first second = second

program_asked : (h : Head) (cred : Cred) (bytes : List ℕ) (o : Option Program) → program_of h.program ≡ o
    → AskSame (hear_program as_they_are h cred bytes o) (hear_program read_service h cred bytes o)
program_asked h cred bytes None is = refl
program_asked h cred bytes (Some p) is =
    either (eqb h.version p.version) _ _ _ _
    (either (leb h.procedure p.last_procedure) _ _ _ _ (call_asked h cred bytes p is) refl) refl

fault_asked : (h : Head) (why : ℕ) (e : XdrFault) → AskSame (hear_fault h why e) (hear_fault h why e)
fault_asked h why Short = refl
fault_asked h why TooLong = refl
fault_asked h why NotBool = refl

verifier_asked : (h : Head) (cred : Cred) (r : Result ((ℕ × List ℕ) × List ℕ) XdrFault) → AskSame (hear_verifier as_they_are h cred r) (hear_verifier read_service h cred r)
verifier_asked h cred (Ok v) = program_asked h cred v.1 (program_of h.program) refl
verifier_asked h cred (Err e) = fault_asked h 3 e

unix_asked : (h : Head) (bytes : List ℕ) (r : Result (Cred × List ℕ) (Unit {0})) → AskSame (hear_unix as_they_are h bytes r) (hear_unix read_service h bytes r)
unix_asked h bytes (Ok cred) = verifier_asked h cred.0 (auth_of bytes)
unix_asked h bytes (Err e) = refl

caller_asked : (h : Head) (flavor : ℕ) (body bytes : List ℕ) → AskSame (hear_caller as_they_are h flavor body bytes) (hear_caller read_service h flavor body bytes)
caller_asked h flavor body bytes =
    either (eqb flavor 0) _ _ _ _ (verifier_asked h nobody (auth_of bytes)) (either (eqb flavor 1) _ _ _ _ (unix_asked h bytes (unix_of body)) refl)

credential_asked : (h : Head) (r : Result ((ℕ × List ℕ) × List ℕ) XdrFault) → AskSame (hear_credential as_they_are h r) (hear_credential read_service h r)
credential_asked h (Ok c) = caller_asked h c.0.0 c.0.1 c.1
credential_asked h (Err e) = fault_asked h 1 e

head_asked : (r : Result (Head × List ℕ) (Unit {0})) → AskSame (hear_head as_they_are r) (hear_head read_service r)
head_asked (Ok h) =
    either (eqb h.0.kind 0) _ _ _ _ (either (eqb h.0.rpc_version 2) _ _ _ _ (credential_asked h.0 (auth_of h.1)) refl) refl
head_asked (Err e) = refl

same_asked : (bytes : List ℕ) → AskSame (heard_of as_they_are bytes) (heard_of read_service bytes)
unfolding heard_of
same_asked bytes = head_asked (head_of bytes)

pub ten_cases_decide : TheTenCasesDecide
ten_cases_decide = (
  λ bytes fits. (heard_of read_service bytes, told_heard BeginsWith read_service service_grammar bytes fits),
  λ bytes fits o is. same_asked bytes ∙ ap requested_by (sym (one_heard BeginsWith read_service service_grammar bytes fits o is)),
)
