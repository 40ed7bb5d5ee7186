-- What an event makes of a node, and what the node gives then: by the first rule that fits.
use Rattle.std.specs.Prelude.{◌≡◌, ℕ, ◌<◌, true, false, List, [], ◌∷◌, ◌++◌, length, Some, None}
use Rattle.nfs_proto.specs.declared.answer.Answer.TheVariants as answer
use Rattle.nfs_proto.specs.declared.call.Call.{Call}
use Rattle.nfs_proto.specs.declared.stamp.Stamp.{Stamp}
use Rattle.nfs_proto.specs.Answers.{answer_spelling}
use Rattle.rpc_msg.specs.declared.cred.Cred.{Cred}
use Rattle.rpc_msg.specs.Messages.{accepted}
use Rattle.fs_rules.specs.Statuses.{stale}
use Rattle.nfs_service.specs.declared.request.Request.{Request}
use Rattle.nfs_service.specs.declared.request.Request.TheVariants as request
use Rattle.nfs_service.specs.Needs.{needs_files}
use Rattle.node_cache.specs.Cached.{Cached}
use Rattle.tx_coord.specs.declared.outcome.Outcome.{Outcome}
use Rattle.node_rules.specs.declared.arrival.Arrival.{Arrival}
use Rattle.node_rules.specs.declared.cause.Cause.TheVariants as cause
use Rattle.node_rules.specs.declared.cause.Why.TheVariants as why
use Rattle.node_rules.specs.declared.node_state.NodeState.{NodeState}
use Rattle.node_rules.specs.declared.output.Output.{Output}
use Rattle.node_rules.specs.declared.output.Output.TheVariants as output
use Rattle.node_rules.specs.declared.running.Running.{Running}
use Rattle.node_rules.specs.declared.running.Work.{Work}
use Rattle.node_rules.specs.Plans.{Plans}
use Rattle.node_rules.specs.Begin.{IsStarted, GoesNext, fresh}
use Rattle.node_rules.specs.End.{Progress, GoesOn, Ends, Comes}

-- ---- a datagram comes

-- the call that it has
abbrev pub came : ℕ → Stamp → ℕ → Call → Cred → Arrival
came id now xid call cred = record { id = id; now = now; xid = xid; call = call; cred = cred }

-- what is asked by the arrival with this number at this moment: nothing that is answered; something that is answered without
-- the file system, as a handle that is none of this cluster; a call of the file system, which is dropped where 32 wait, waits
-- where one runs, and else starts
pub data Arrives (plans : Plans) (node : NodeState) (id : ℕ) (now : Stamp) : Request → NodeState → List Output → Type 0 where
  silent : Arrives plans node id now request.Silent node (output.Dropped id why.Silent ∷ [])
  told : (reply : List ℕ) → Arrives plans node id now (request.Told reply) node (output.Reply id reply ∷ [])
  foreign : (xid : ℕ) (call : Call) (cred : Cred) → needs_files node.geometry (request.Asked xid call cred) ≡ false
      → Arrives plans node id now (request.Asked xid call cred) node
      (output.Reply id (accepted xid (answer_spelling (answer.Fault stale))) ∷ [])
  full : (xid : ℕ) (call : Call) (cred : Cred) → needs_files node.geometry (request.Asked xid call cred) ≡ true → length node.waiting ≡ 32
      → Arrives plans node id now (request.Asked xid call cred) node (output.Dropped id why.Full ∷ [])
  waits : (xid : ℕ) (call : Call) (cred : Cred) (r : Running) → needs_files node.geometry (request.Asked xid call cred) ≡ true
      → length node.waiting < 32 → node.running ≡ Some r
      → Arrives plans node id now (request.Asked xid call cred) (record node { waiting = node.waiting ++ came id now xid call cred ∷ [] }) []
  starts : (xid : ℕ) (call : Call) (cred : Cred) (new : NodeState) (o : Output)
      → needs_files node.geometry (request.Asked xid call cred) ≡ true → length node.waiting < 32 → node.running ≡ None
      → IsStarted plans node (fresh node.geometry (came id now xid call cred)) new o
      → Arrives plans node id now (request.Asked xid call cred) new (o ∷ [])

-- ---- a minitransaction ends

-- the arrival goes on, or it ends and the next one starts
pub data GoesOnWith (plans : Plans) (node : NodeState) : Progress → NodeState → List Output → Type 0 where
  on : (work : Work) (cache : Cached) (new : NodeState) (o : Output)
      → IsStarted plans (record node { cache = cache; running = None }) work new o → GoesOnWith plans node (GoesOn work cache) new (o ∷ [])
  over : (o : Output) (cache : Cached) (new : NodeState) (outputs : List Output)
      → GoesNext plans (record node { cache = cache; running = None }) new outputs → GoesOnWith plans node (Ends o cache) new (o ∷ outputs)

pub record IsEnded (plans : Plans) (node : NodeState) (ended : Outcome) (new : NodeState) (outputs : List Output) : Type 0 where
  pub running : Running
  pub runs : node.running ≡ Some running
  pub progress : Progress
  pub comes : Comes running node.cache ended progress
  pub goes : GoesOnWith plans node progress new outputs

-- ---- it is given up

-- it is never tried again, since its outcome is unknown
pub record IsGivenUp (plans : Plans) (node new : NodeState) (outputs : List Output) : Type 0 where
  pub running : Running
  pub runs : node.running ≡ Some running
  pub rest : List Output
  pub next : GoesNext plans (record node { running = None }) new rest
  pub outputs_are : outputs ≡ output.Retry running.work.arrival.id cause.Unreached ∷ rest
