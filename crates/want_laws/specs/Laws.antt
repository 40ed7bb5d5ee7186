-- That what a call wants can be fetched.
use Rattle.std.specs.Prelude.{◌≡◌, ℕ, IsTrue, All, Some}
use Rattle.rpc_msg.specs.declared.cred.Cred.{Cred}
use Rattle.nfs_proto.specs.declared.call.Call.{Call}
use Rattle.fs_rules.specs.declared.geometry.Geometry.{Geometry}
use Rattle.fs_rules.specs.Arguments.{handles_of}
use Rattle.fs_rules.specs.Handle.{number_in}
use Rattle.node_cache.specs.declared.held.Held.{Held}
use Rattle.node_cache.specs.declared.want.Want.{Want}
use Rattle.plan_rules.specs.Orders.{wanted}
use Rattle.plan_rules.specs.Told.{is_number}
use Rattle.plan_rules.specs.Works.{IsTold, IsWorkSet}

-- the handles of a call have numbers of this cluster
abbrev pub HasNumbers : Geometry → Call → Type 0
HasNumbers g call = All (λ name. IsTrue (is_number g (number_in name))) (handles_of call)

-- the part that a call of any procedure wants next is told by what is held
abbrev pub WantsAreTold : Type 0
WantsAreTold = (held : Held) (arrival : ℕ) (call : Call) (cred : Cred) (w : Want) → IsWorkSet held → HasNumbers held.geometry call
    → wanted held arrival call cred ≡ Some w → IsTold held w
