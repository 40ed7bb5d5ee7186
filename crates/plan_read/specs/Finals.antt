-- The final of what was looked at and what is read.
use Rattle.std.specs.Prelude.{◌≡◌, ℕ, List, [], ◌++◌, Some, None}
use Rattle.nfs_proto.specs.declared.answer.Answer.TheVariants.{Fault}
use Rattle.nfs_proto.specs.declared.call.Call.{Call}
use Rattle.rpc_msg.specs.declared.cred.Cred.{Cred}
use Rattle.node_cache.specs.declared.held.Held.{Held}
use Rattle.plan_rules.specs.declared.look.Look.{Look}
use Rattle.plan_rules.specs.Compared.{compares}
use Rattle.plan_rules.specs.Orders.{wanted}
use Rattle.plan_forms.specs.declared.plan.Plan.{Plan}
use Rattle.plan_forms.specs.declared.plan.Plan.TheVariants.{Need, Final}
use Rattle.plan_forms.specs.declared.plan.Reading.{Reading}
use Rattle.plan_looks.specs.declared.stop.Stop.{Stop}
use Rattle.plan_looks.specs.declared.stop.Stop.TheVariants as stop
use Rattle.read_laws.specs.Answers.{ready}
use Rattle.read_laws.specs.Promise.{IsReadFinal}
use Rattle.plan_read.specs.Readings.{reading_of}

-- it compares what was looked at and reads, and makes and changes no file
abbrev pub IsFinalOf : Held → List Look → Reading → Plan → Type 0
IsFinalOf held looks r (Need w) = ⊥
IsFinalOf held looks r (Final mini form made changed) =
    (mini ≡ compares held looks ++ r.items) × (form ≡ r.form) × (made ≡ None) × (changed ≡ [])

-- the plan of a call that goes no further: it wants a part, or its final answers the refusal
abbrev pub IsStopped : Held → List Look → Stop → Plan → Type 0
IsStopped held looks (stop.Need w) p = p ≡ Need w
IsStopped held looks (stop.Refused s) p = IsFinalOf held looks (ready (Fault s.0)) p
IsStopped held looks stop.NoMemory p = ⊥

-- the plan of a call that reads: it needs the part that is wanted next, or reads what the call reads, and makes and changes no file
abbrev pub IsReadPlan : Held → ℕ → Call → Cred → Plan → Type 0
IsReadPlan held arrival call cred (Need w) = wanted held arrival call cred ≡ Some w
IsReadPlan held arrival call cred (Final mini form made changed) =
    IsReadFinal held arrival call cred (reading_of held call) mini form × (made ≡ None) × (changed ≡ [])
