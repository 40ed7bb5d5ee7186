-- The plans of calls that read, as a node asks for them.
use Rattle.std.specs.Prelude.{ℕ}
use Rattle.rpc_msg.specs.declared.cred.Cred.{Cred}
use Rattle.nfs_proto.specs.declared.call.Call.{Call}
use Rattle.nfs_proto.specs.declared.stamp.Stamp.{Stamp}
use Rattle.node_cache.specs.declared.held.Held.{Held}
use Rattle.plan_forms.specs.declared.plan.Plan.{Plan}
use Rattle.plan_read.specs.Readings.{IsReading}
use Rattle.read_laws.specs.Promise.{IsPlan}

-- a call that reads has a plan that keeps its promise, and no other call has one
abbrev pub IsReadersPlan : Held → Call → Cred → Stamp → ℕ → Plan → Type 0
IsReadersPlan held call cred now arrival plan = IsReading call × IsPlan held arrival call cred now plan
