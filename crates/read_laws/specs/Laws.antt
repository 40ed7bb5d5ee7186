-- That what is answered from what is held is what the rules answer.
use Rattle.std.specs.Prelude.{◌≡◌, ℕ, List, All, Some, None, true}
use Rattle.rpc_msg.specs.declared.cred.Cred.{Cred}
use Rattle.nfs_proto.specs.declared.answer.Answer.TheVariants.{Fault}
use Rattle.nfs_proto.specs.declared.call.Call.{Call}
use Rattle.nfs_proto.specs.declared.call.Call.TheVariants.{GetAttr, Lookup, StatFs}
use Rattle.nfs_proto.specs.declared.handle.Handle.{Handle}
use Rattle.nfs_proto.specs.declared.stamp.Stamp.{Stamp}
use Rattle.fs_rules.specs.declared.plain_tree.PlainTree.{PlainTree}
use Rattle.fs_rules.specs.Good.{IsGood}
use Rattle.fs_rules.specs.Handle.{number_in}
use Rattle.fs_rules.specs.Respond.{respond}
use Rattle.mini_tx.specs.FlatMemory.{Flat, Matches, reads}
use Rattle.fs_image.specs.Owners.{Owners}
use Rattle.fs_image.specs.Stands.{Shows}
use Rattle.node_cache.specs.declared.held.Held.{Held}
use Rattle.plan_rules.specs.declared.look.Look.{Look}
use Rattle.plan_rules.specs.Compared.{compares}
use Rattle.plan_rules.specs.Matched.{IsOwnLook}
use Rattle.plan_rules.specs.Orders.{order}
use Rattle.plan_rules.specs.Steps.{part_of, is_held, wanted_in, looks_in, refusal_in}
use Rattle.plan_rules.specs.Works.{IsWorkSet}
use Rattle.plan_forms.specs.declared.plan.Reading.{Reading}
use Rattle.plan_forms.specs.Forms.{said}
use Rattle.read_laws.specs.Answers.{get_attr_by, lookup_by, stat_fs_by}

-- a flat memory shows a good tree of the same cluster as a work set in order, of which a call wants no part, and what it looks at
-- is the memory's own
pub record IsPlannedOver (held : Held) (flat : Flat) (t : PlainTree) (o : Owners) (arrival : ℕ) (call : Call) (cred : Cred) : Type 0 where
  pub work : IsWorkSet held
  pub same : held.geometry ≡ t.geometry
  pub good : IsGood t
  pub shows : Shows flat t o
  pub wanted : wanted_in held (order held arrival call cred) ≡ None
  pub own : All (IsOwnLook t.geometry flat o held) (looks_in (order held arrival call cred))

-- a call that changes nothing: a check that fails decides it as in the rules, and else what is made of the reads is their answer
pub record AnswersAs (held : Held) (flat : Flat) (t : PlainTree) (arrival : ℕ) (call : Call) (cred : Cred) (now : Stamp) (start : ℕ) (r : Reading) : Type 0 where
  pub refused : (status : ℕ) → refusal_in (order held arrival call cred) ≡ Some status
      → respond t call cred now start ≡ record { answer = Fault status; tree = t; made = None }
  pub answers : refusal_in (order held arrival call cred) ≡ None
      → respond t call cred now start ≡ record { answer = said r.form (reads r.items flat); tree = t; made = None }

abbrev pub GetAttrAnswers : Type 0
GetAttrAnswers = (held : Held) (flat : Flat) (t : PlainTree) (o : Owners) (arrival : ℕ) (cred : Cred) (now : Stamp) (start : ℕ) (file : Handle)
    → IsPlannedOver held flat t o arrival (GetAttr file) cred → AnswersAs held flat t arrival (GetAttr file) cred now start (get_attr_by held (number_in file.0))

abbrev pub StatFsAnswers : Type 0
StatFsAnswers = (held : Held) (flat : Flat) (t : PlainTree) (o : Owners) (arrival : ℕ) (cred : Cred) (now : Stamp) (start : ℕ) (file : Handle)
    → IsPlannedOver held flat t o arrival (StatFs file) cred → AnswersAs held flat t arrival (StatFs file) cred now start (stat_fs_by held.geometry)

abbrev pub LookupAnswers : Type 0
LookupAnswers = (held : Held) (flat : Flat) (t : PlainTree) (o : Owners) (arrival : ℕ) (cred : Cred) (now : Stamp) (start : ℕ) (dir : Handle) (name : List ℕ)
    → IsPlannedOver held flat t o arrival (Lookup dir name) cred → AnswersAs held flat t arrival (Lookup dir name) cred now start (lookup_by held (number_in dir.0) name)

-- what is the flat memory's own matches it
abbrev pub OwnLooksMatch : Type 0
OwnLooksMatch = (held : Held) (looks : List Look) (flat : Flat) (t : PlainTree) (o : Owners) → IsWorkSet held → held.geometry ≡ t.geometry
    → Shows flat t o → All (λ l. is_held held (part_of l) ≡ true) looks → All (IsOwnLook t.geometry flat o held) looks → Matches (compares held looks) flat
