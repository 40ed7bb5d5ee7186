-- That a refusal can be told.
use Rattle.std.specs.Prelude.{◌≡◌, ℕ, true, Some}
use Rattle.rpc_msg.specs.declared.cred.Cred.{Cred}
use Rattle.nfs_proto.specs.declared.call.Call.{Call}
use Rattle.nfs_proto.specs.Answers.{is_fault}
use Rattle.node_cache.specs.declared.held.Held.{Held}
use Rattle.plan_rules.specs.Orders.{order}
use Rattle.plan_rules.specs.Steps.{refusal_in}

-- the check that ends the order of a call fails with a status of RFC 1094, whatever is held
abbrev pub RefusalsAreTold : Type 0
RefusalsAreTold = (held : Held) (arrival : ℕ) (call : Call) (cred : Cred) (status : ℕ) → refusal_in (order held arrival call cred) ≡ Some status
    → is_fault status ≡ true
