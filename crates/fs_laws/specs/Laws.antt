-- What holds of the plain tree.
use Rattle.std.specs.Prelude.{ℕ}
use Rattle.rpc_msg.specs.declared.cred.Cred.{Cred}
use Rattle.nfs_proto.specs.declared.call.Call.{Call}
use Rattle.nfs_proto.specs.declared.stamp.Stamp.{Stamp}
use Rattle.nfs_proto.specs.Arguments.{IsFit}
use Rattle.fs_rules.specs.declared.geometry.Geometry.{Geometry}
use Rattle.fs_rules.specs.declared.plain_tree.PlainTree.{PlainTree}
use Rattle.fs_rules.specs.Geometry.{IsWithinLimits}
use Rattle.fs_rules.specs.Good.{IsGood}
use Rattle.fs_rules.specs.Fresh.{fresh}
use Rattle.fs_rules.specs.Respond.{respond, HasBytes, IsTold}

-- a cluster begins with a file system
abbrev pub FreshIsGood : Type 0
FreshIsGood = (g : Geometry) → IsWithinLimits g → IsGood (fresh g)

-- every call leaves a file system
abbrev pub GoodStaysGood : Type 0
GoodStaysGood = (t : PlainTree) (call : Call) (cred : Cred) (now : Stamp) (start : ℕ) → IsGood t → IsFit call → HasBytes call
    → IsGood (respond t call cred now start).tree

-- every answer can be told
abbrev pub AnswersCanBeTold : Type 0
AnswersCanBeTold = (t : PlainTree) (call : Call) (cred : Cred) (now : Stamp) (start : ℕ) → IsGood t → IsTold (respond t call cred now start).answer
