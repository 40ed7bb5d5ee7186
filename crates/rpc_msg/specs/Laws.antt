-- That a call which was written is heard again.
use Rattle.std.specs.Prelude.{◌≡◌, ℕ, List, [], ◌∷◌}
use Rattle.sfs_base.specs.Reading.{IsBytes}
use Rattle.rpc_msg.specs.declared.rpc_call.RpcCall.{RpcCall}
use Rattle.rpc_msg.specs.Messages.{program_of, MayCall, call_spelling}
use Rattle.sfs_xdr.specs.Items.{AreWords}
use Rattle.rpc_msg.specs.Heard.{Called, Outcome, Call}
use Rattle.rpc_msg.specs.Hearing.{as_they_are, heard_of}

-- what the types of a call's fields make sure of
pub record IsTypedCall (call : RpcCall) : Type 0 where
  pub numbers : AreWords (call.xid ∷ call.program ∷ call.procedure ∷ [])
  pub caller : AreWords (call.cred.uid ∷ call.cred.gid ∷ call.cred.gids)
  pub arguments : IsBytes call.args

-- the call, with the bytes of its arguments
abbrev pub called_of : RpcCall → Called (List ℕ)
called_of call = record { xid = call.xid; program = call.program; procedure = call.procedure; cred = call.cred; arguments = call.args }

abbrev pub called : RpcCall → Outcome (List ℕ)
called call = Call (called_of call)

abbrev pub WrittenCallIsHeard : Type 0
WrittenCallIsHeard = (call : RpcCall) → IsTypedCall call → MayCall (program_of call.program) call → heard_of as_they_are (call_spelling call) ≡ called call
