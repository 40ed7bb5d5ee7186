-- What reading the arguments of a procedure gives.
use Rattle.std.proofs.Common.{◌≡◌, ℕ, ◌<◌, ◌≤◌, List, get_or, Option, Some, None, Ok, Err, refl, sym, ap, ◌∙◌, arith}
use Rattle.std.specs.Prelude.{slice_get}
use Rattle.std.proofs.lemmas.Option.{slice_get_past, slice_get-get_or}
use Rattle.sfs_xdr.specs.declared.item_fault.ItemFault.{ItemFault}
use Rattle.sfs_xdr.specs.declared.item_fault.ItemFault.TheVariants as item
use Rattle.sfs_xdr.specs.Codec.{Reading}
use Rattle.sfs_xdr.specs.Faults.{fault_of}
use Rattle.sfs_xdr.specs.declared.arg_fault.ArgFault.TheVariants as fault
use Rattle.nfs_proto.specs.declared.call.Call.{Call}
use Rattle.nfs_proto.specs.Arguments.{readers, read_by, arguments_of, value_of, told, args_of, null_of}

-- a call that was read
told_found : (o : Option (Reading Call)) (bytes : List ℕ) (call : Call) (rest : List ℕ) → read_by o bytes ≡ Ok (call, rest) → told o bytes ≡ Ok call
told_found None bytes call rest e = absurd cc
told_found (Some read) bytes call rest e = ap value_of e

pub args_found : (procedure : ℕ) (bytes : List ℕ) (call : Call) (rest : List ℕ) → arguments_of procedure bytes ≡ Ok (call, rest) → args_of procedure bytes ≡ Ok call
unfolding arguments_of args_of
args_found procedure bytes call rest e = told_found (slice_get readers procedure) bytes call rest e

-- bytes that begin with no arguments
pub args_garbage : (procedure : ℕ) (bytes : List ℕ) → procedure ≤ 17 → arguments_of procedure bytes ≡ Err tt → args_of procedure bytes ≡ Err fault.Garbage
unfolding arguments_of args_of
args_garbage procedure bytes there e =
    let is : slice_get readers procedure ≡ Some (get_or readers procedure null_of) = slice_get-get_or readers procedure null_of (omega arith) in
    ap (λ o. told o bytes) is ∙ ap value_of (ap (λ o. read_by o bytes) (sym is) ∙ e)

-- no such procedure
pub args_past : (procedure : ℕ) (bytes : List ℕ) → 17 < procedure → args_of procedure bytes ≡ Err fault.NoProcedure
unfolding args_of
args_past procedure bytes past = ap (λ o. told o bytes) (slice_get_past readers procedure (omega arith))

-- what is told as garbage is malformed
pub garbage_is : (f : ItemFault) → fault_of f ≡ fault.Garbage → f ≡ item.Malformed
garbage_is item.Malformed e = refl
garbage_is item.NoMemory e = absurd cc
