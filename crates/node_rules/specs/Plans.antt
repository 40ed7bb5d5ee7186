-- What is planned for a call.
use Rattle.std.specs.Prelude.{◌≡◌, ℕ, true, false, List, length, map, Option, Some, None}
use Rattle.mini_tx.specs.declared.item.Item.{Item}
use Rattle.mini_tx.specs.Minitransactions.{bytes_of}
use Rattle.nfs_proto.specs.declared.call.Call.{Call}
use Rattle.nfs_proto.specs.declared.stamp.Stamp.{Stamp}
use Rattle.nfs_proto.specs.Arguments.{IsFit}
use Rattle.rpc_msg.specs.declared.cred.Cred.{Cred}
use Rattle.fs_rules.specs.declared.geometry.Geometry.{Geometry}
use Rattle.fs_rules.specs.Respond as respond
use Rattle.nfs_service.specs.Reply.{does_nothing, HasHandle}
use Rattle.nfs_service.specs.Needs.{are_handles}
use Rattle.node_cache.specs.declared.held.Held.{Held}
use Rattle.node_cache.specs.declared.want.Want.{Want}
use Rattle.plan_forms.specs.declared.form.AnswerForm.{AnswerForm}
use Rattle.plan_forms.specs.declared.plan.Plan.{Plan}
use Rattle.plan_forms.specs.declared.plan.Plan.TheVariants as plan
use Rattle.plan_forms.specs.Forms.{AreReadsFor, said}
use Rattle.plan_rules.specs.Fetched.{read_items}
use Rattle.plan_rules.specs.Works.{IsTold}

-- a call needs the file system: it does something, its handles have their form and numbers of this cluster, and what it names
-- is not too long
pub record IsServed (g : Geometry) (call : Call) : Type 0 where
  pub acts : does_nothing call ≡ false
  pub handles : are_handles g call ≡ true
  pub fit : IsFit call

-- which plans may be made for a call of the arrival with this number at this moment, over what is held
abbrev pub Plans : Type 1
Plans = Held → Call → Cred → Stamp → ℕ → Plan → Type 0

-- the part that is needed first
abbrev pub want_of : Plan → Option Want
want_of (plan.Need w) = Some w
want_of (plan.Final mini answer made changed) = None

-- what is held tells where it lies
abbrev pub IsWantTold : Held → Plan → Type 0
IsWantTold held (plan.Need w) = IsTold held w
IsWantTold held (plan.Final mini answer made changed) = Unit {0}

-- how much each read item of a minitransaction reads
abbrev pub read_sizes : List Item → List ℕ
read_sizes items = map bytes_of (read_items items)

-- an answer is made of all that can be read in these lengths, and a reply can spell it
pub record IsAnswerable (sizes : List ℕ) (form : AnswerForm) : Type 0 where
  pub takes : (reads : List (List ℕ)) → map length reads ≡ sizes → AreReadsFor form reads
  pub told : (reads : List (List ℕ)) → map length reads ≡ sizes → respond.IsTold (said form reads)
  pub handle : (reads : List (List ℕ)) → map length reads ≡ sizes → HasHandle (said form reads)

-- what a final reads can be answered
abbrev pub IsSound : Plan → Type 0
IsSound (plan.Need w) = Unit {0}
IsSound (plan.Final mini answer made changed) = IsAnswerable (read_sizes mini) answer
