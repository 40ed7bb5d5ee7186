-- What the calls that do nothing are answered.
use Rattle.std.proofs.Common.{◌≡◌, ◌⊎◌, inl, inr, ℕ, None, ap, ◌∙◌}
use Rattle.rpc_msg.specs.declared.cred.Cred.{Cred}
use Rattle.nfs_proto.specs.declared.answer.Answer.TheVariants.{Empty}
use Rattle.nfs_proto.specs.declared.call.Call.{Call}
use Rattle.nfs_proto.specs.declared.call.Call.TheVariants.{Null, Root, WriteCache}
use Rattle.nfs_proto.specs.declared.stamp.Stamp.{Stamp}
use Rattle.fs_rules.specs.declared.plain_tree.PlainTree.{PlainTree}
use Rattle.fs_rules.specs.Respond.{respond}
use Rattle.fs_tree.proofs.RespondLemmas.{respond-null, respond-root, respond-write_cache}

pub respond-nothing : (t : PlainTree) (call : Call) (cred : Cred) (now : Stamp) (start : ℕ) → (call ≡ Null) ⊎ ((call ≡ Root) ⊎ (call ≡ WriteCache))
    → respond t call cred now start ≡ record { answer = Empty; tree = t; made = None }
respond-nothing t call cred now start (inl is) = ap (λ (k : Call). respond t k cred now start) is ∙ respond-null t cred now start
respond-nothing t call cred now start (inr (inl is)) = ap (λ (k : Call). respond t k cred now start) is ∙ respond-root t cred now start
respond-nothing t call cred now start (inr (inr is)) = ap (λ (k : Call). respond t k cred now start) is ∙ respond-write_cache t cred now start
