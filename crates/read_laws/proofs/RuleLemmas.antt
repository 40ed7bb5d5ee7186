-- What the rules answer a call that changes nothing.
use Rattle.std.proofs.Common.{◌≡◌, ℕ, cond, Bool, List, [], ◌∷◌, ◌++◌, Some, None, refl, ap, ◌∙◌, arith}
use Rattle.std.proofs.lemmas.Bool.{le-ltb}
use Rattle.rpc_msg.specs.declared.cred.Cred.{Cred}
use Rattle.nfs_proto.specs.declared.answer.Answer.TheVariants.{Fault}
use Rattle.nfs_proto.specs.declared.call.Call.{Call}
use Rattle.nfs_proto.specs.declared.stamp.Stamp.{Stamp}
use Rattle.fs_rules.specs.declared.plain_tree.PlainTree.{PlainTree}
use Rattle.fs_rules.specs.Arguments.{argument_checks}
use Rattle.fs_rules.specs.Edits.{Edit, edited, first_made, limits}
use Rattle.fs_rules.specs.Numbers.{free_blocks}
use Rattle.fs_rules.specs.Respond.{respond, decided, checks, own_checks, edits_of, answer_of}
use Rattle.fs_rules.specs.Statuses.{Check, first_failure}

-- checks that pass, behind others, change nothing
passing_behind : (first more : List Check) → first_failure more ≡ None → first_failure (first ++ more) ≡ first_failure first
unfolding first_failure
passing_behind [] more none = none
passing_behind (None ∷ first) more none = passing_behind first more none
passing_behind (Some status ∷ first) more none = refl

no_limits : (t : PlainTree) (start : ℕ) → first_failure (limits t start []) ≡ None
unfolding first_failure limits
no_limits t start = ap (λ (b : Bool). first_failure (cond b (Some 28) None ∷ [])) (le-ltb (free_blocks t) 0 (omega arith))

-- a row of which one fails decides
pub before_some : (first more : List Check) (status : ℕ) → first_failure first ≡ Some status → first_failure (first ++ more) ≡ Some status
unfolding first_failure
before_some [] more status some = absurd cc
before_some (None ∷ first) more status some = before_some first more status some
before_some (Some other ∷ first) more status some = some

-- behind a row that passes the rest decides
pub in_row : (first more : List Check) → first_failure first ≡ None → first_failure (first ++ more) ≡ first_failure more
unfolding first_failure
in_row [] more none = refl
in_row (None ∷ first) more none = in_row first more none
in_row (Some status ∷ first) more none = absurd cc

module _ (t : PlainTree) (call : Call) (cred : Cred) (now : Stamp) (start : ℕ) (nothing : edits_of t call cred now start ≡ []) where
  limits_pass : (a b : List Check) → first_failure (a ++ (b ++ limits t start [])) ≡ first_failure (a ++ b)
  unfolding first_failure
  limits_pass [] b = passing_behind b (limits t start []) (no_limits t start)
  limits_pass (None ∷ a) b = limits_pass a b
  limits_pass (Some status ∷ a) b = refl

  -- the checks of the arguments and of the procedure decide
  row : first_failure (checks t call cred start (edits_of t call cred now start)) ≡ first_failure (argument_checks t call cred ++ own_checks t call cred)
  unfolding checks
  row =
      ap (λ (es : List Edit). first_failure (argument_checks t call cred ++ (own_checks t call cred ++ limits t start es))) nothing
      ∙ limits_pass (argument_checks t call cred) (own_checks t call cred)

  decided_nothing : (es : List Edit) → es ≡ [] → (c : Check) → c ≡ None → decided c t call now es ≡ record { answer = answer_of t call; tree = t; made = None }
  unfolding edited first_made
  decided_nothing es none c passed = ap (λ (d : Check). decided d t call now es) passed ∙ ap (λ (x : List Edit). decided None t call now x) none

  pub refuses : (status : ℕ) → first_failure (argument_checks t call cred ++ own_checks t call cred) ≡ Some status
      → respond t call cred now start ≡ record { answer = Fault status; tree = t; made = None }
  unfolding respond
  refuses status fails = ap (λ (d : Check). decided d t call now (edits_of t call cred now start)) (row ∙ fails)

  pub answers : first_failure (argument_checks t call cred ++ own_checks t call cred) ≡ None
      → respond t call cred now start ≡ record { answer = answer_of t call; tree = t; made = None }
  unfolding respond
  answers passes = decided_nothing (edits_of t call cred now start) nothing _ (row ∙ passes)
