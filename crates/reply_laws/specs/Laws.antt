-- That a granted final makes an answer that can be told.
use Rattle.std.specs.Prelude.{ℕ, List, Option}
use Rattle.rpc_msg.specs.declared.cred.Cred.{Cred}
use Rattle.nfs_proto.specs.declared.call.Call.{Call}
use Rattle.nfs_proto.specs.declared.stamp.Stamp.{Stamp}
use Rattle.fs_rules.specs.declared.plain_tree.PlainTree.{PlainTree}
use Rattle.fs_rules.specs.Respond.{IsTold}
use Rattle.mini_tx.specs.declared.item.Item.{Item}
use Rattle.mini_tx.specs.FlatMemory.{Flat, Matches, reads}
use Rattle.nfs_service.specs.Reply.{HasHandle}
use Rattle.node_cache.specs.declared.held.Held.{Held}
use Rattle.plan_rules.specs.Fetched.{AreReads}
use Rattle.plan_forms.specs.declared.form.AnswerForm.{AnswerForm}
use Rattle.plan_forms.specs.Forms.{AreReadsFor, said}
use Rattle.read_laws.specs.Promise.{IsTrueOf, KeepsPromise}

-- a form takes these reads: they are what it asks for, and the answer that they make can be told and has a whole handle, if any
pub record Takes (form : AnswerForm) (rs : List (List ℕ)) : Type 0 where
  pub fits : AreReadsFor form rs
  pub told : IsTold (said form rs)
  pub handle : HasHandle (said form rs)

-- a final keeps its promise, what is held is true of a flat memory that stands for a tree, the final matches the memory, and what it
-- reads there is as much and as long as it asks for; then its form takes what it reads
abbrev pub GrantedFinalsAnswer : Type 0
GrantedFinalsAnswer = (held : Held) (arrival : ℕ) (call : Call) (cred : Cred) (now : Stamp) (mini : List Item) (form : AnswerForm) (made : Option (ℕ × ℕ)) (changed : List ℕ)
    (flat : Flat) (t : PlainTree) → KeepsPromise held arrival call cred now mini form made changed → IsTrueOf held flat t → Matches mini flat
    → AreReads mini (reads mini flat) → Takes form (reads mini flat)
