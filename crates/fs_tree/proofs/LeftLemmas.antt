-- What a call leaves that was answered as the rules say.
use Rattle.std.proofs.Common.{◌≡◌, ℕ, true, List, Some, sym, ap, subst, ◌∙◌}
use Rattle.rpc_msg.specs.declared.cred.Cred.{Cred}
use Rattle.nfs_proto.specs.declared.call.Call.{Call}
use Rattle.nfs_proto.specs.declared.stamp.Stamp.{Stamp}
use Rattle.nfs_proto.specs.Arguments.{IsFit}
use Rattle.fs_rules.specs.declared.plain_tree.PlainTree.{PlainTree}
use Rattle.fs_rules.specs.Good.{IsGood}
use Rattle.fs_rules.specs.Respond.{respond, HasBytes, IsTold}
use Rattle.fs_laws.proofs.GoodLemmas.{good_stays_good}
use Rattle.fs_laws.proofs.ToldLemmas.{answers_can_be_told}
use Rattle.fs_tree.specs.declared.response.Response.{Response}
use Rattle.fs_decisions.specs.Given.{is_given, AllAreGiven}
use Rattle.fs_tree.specs.Meets.{Meets, made_by}
use Rattle.fs_decisions.proofs.GivenLemmas.{given_stays, made_given}
use Rattle.fs_tree.proofs.MeetsLemmas.{made_is}

module _ (old new : PlainTree) (call : Call) (cred : Cred) (now : Stamp) (start : ℕ) (response : Response) (meets : Meets old (respond old call cred now start) new response) where
  pub good_left : IsGood old → IsFit call → HasBytes call → IsGood new
  good_left good fit bytes = subst IsGood (sym meets.tree) (good_stays_good old call cred now start good fit bytes)

  pub told_left : IsGood old → IsTold response.answer
  told_left good = subst IsTold (sym meets.answer) (answers_can_be_told old call cred now start good)

  -- no number is forgotten
  pub given_left : (counts : List ℕ) → AllAreGiven old counts → AllAreGiven new counts
  given_left counts all = subst (λ (t : PlainTree). AllAreGiven t counts) (sym meets.tree) (given_stays old call cred now start counts all)

  -- that of the file that was made is given
  pub made_left : (n g : ℕ) → made_by response ≡ Some (n, g) → is_given new n ≡ true
  made_left n g is = ap (λ (t : PlainTree). is_given t n) meets.tree ∙ made_given old call cred now start n g (made_is old new (respond old call cred now start) response (n, g) meets is)
