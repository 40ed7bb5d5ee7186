-- What respond is for a call, by the first of its checks that fails.
use Rattle.std.proofs.Common.{◌≡◌, ℕ, ◌-◌, ◌^◌, ◌≤◌, Bool, true, false, cond, eqb, ltb, List, [], ◌∷◌, length, Option, Some, None, refl, ap, ◌∙◌, arith}
use Rattle.std.specs.Prelude.{sum_by, ◌||◌}
use Rattle.std.proofs.lemmas.List.Sums.{sum_by-cons}
use Rattle.std.specs.Option.{option_map_or}
use Rattle.std.proofs.lemmas.Bool.{le-ltb}
use Rattle.std.specs.FinMap.{get}
use Rattle.rpc_msg.specs.declared.cred.Cred.{Cred}
use Rattle.nfs_proto.specs.declared.call.Call.{Call}
use Rattle.nfs_proto.specs.declared.stamp.Stamp.{Stamp}
use Rattle.fs_rules.specs.declared.file.File.{File}
use Rattle.fs_rules.specs.declared.plain_tree.PlainTree.{PlainTree}
use Rattle.fs_rules.specs.File.{used, slots_of}
use Rattle.fs_rules.specs.Numbers.{free_blocks}
use Rattle.fs_rules.specs.Statuses.{Check, first_failure, fbig, nospc}
use Rattle.fs_rules.specs.Arguments.{argument_checks}
use Rattle.fs_rules.specs.Edits.{Edit, Changed, limits, rise, used_at}
use Rattle.fs_rules.specs.Respond.{checks, own_checks, edits_of, decided, respond}
use Rattle.fs_decisions.specs.Steps.{refused}
use Rattle.fs_decisions.specs.Limits.{change_limits}
use Rattle.fs_decisions.proofs.RowLemmas.{behind_none, before_some}

-- ---- which check decides

-- a status that all checks together give is the answer
decided_some : (t : PlainTree) (call : Call) (now : Stamp) (edits : List Edit) (c : Check) (status : ℕ) → c ≡ Some status → decided c t call now edits ≡ refused t status
decided_some t call now edits c status is = ap (λ (k : Check). decided k t call now edits) is

module _ (t : PlainTree) (call : Call) (cred : Cred) (now : Stamp) (start : ℕ) where
  -- a check of the arguments fails
  pub arguments_fail : (status : ℕ) → first_failure (argument_checks t call cred) ≡ Some status → respond t call cred now start ≡ refused t status
  unfolding respond checks
  arguments_fail status is = decided_some t call now (edits_of t call cred now start) _ status (before_some (argument_checks t call cred) _ status is)

  module _ (passed : first_failure (argument_checks t call cred) ≡ None) where
    -- a check of the procedure fails
    pub check_fails : (status : ℕ) → first_failure (own_checks t call cred) ≡ Some status → respond t call cred now start ≡ refused t status
    unfolding respond checks
    check_fails status is =
        decided_some t call now (edits_of t call cred now start) _ status
        (behind_none (argument_checks t call cred) _ passed ∙ before_some (own_checks t call cred) _ status is)

    module _ (own : first_failure (own_checks t call cred) ≡ None) where
      -- a limit is passed
      pub limit_fails : (status : ℕ) → first_failure (limits t start (edits_of t call cred now start)) ≡ Some status → respond t call cred now start ≡ refused t status
      unfolding respond checks
      limit_fails status is =
          decided_some t call now (edits_of t call cred now start) _ status
          (behind_none (argument_checks t call cred) _ passed ∙ behind_none (own_checks t call cred) _ own ∙ is)

      -- nothing fails
      pub all_pass : first_failure (limits t start (edits_of t call cred now start)) ≡ None
          → respond t call cred now start ≡ decided None t call now (edits_of t call cred now start)
      unfolding respond checks
      all_pass is =
          ap (λ (k : Check). decided k t call now (edits_of t call cred now start))
          (behind_none (argument_checks t call cred) _ passed ∙ behind_none (own_checks t call cred) _ own ∙ is)

-- ---- the limits of one change

-- a file whose links and slots stay within their limits, and whose change number is that of the file before
pub record IsLimited (t : PlainTree) (n : ℕ) (f g : File) (grown : ℕ) : Type 0 where
  pub there : get t.files n ≡ Some f
  pub change : g.change ≡ f.change
  pub links : g.links ≤ 32000
  pub slots : length (slots_of g.content) ≤ 7650
  pub grown_is : used g.content - used f.content ≡ grown

by_full : (full : Bool) → first_failure (cond full (Some nospc) None ∷ []) ≡ cond full (Some nospc) None
unfolding first_failure
by_full true = refl
by_full false = refl

-- by the five tests
limited_by : (spent linked slotted full : Bool) → linked ≡ false → slotted ≡ false
    → first_failure (cond (spent || false) (Some fbig) None ∷ cond (linked || false) (Some nospc) None ∷ cond (slotted || false) (Some nospc) None ∷ None ∷ cond full (Some nospc) None ∷ [])
    ≡ cond spent (Some fbig) (cond full (Some nospc) None)
unfolding first_failure
limited_by true linked slotted full a b = refl
limited_by false linked slotted full a b =
    ap (λ (x : Bool). first_failure (cond (x || false) (Some nospc) None ∷ cond (slotted || false) (Some nospc) None ∷ None ∷ cond full (Some nospc) None ∷ [])) a
    ∙ ap (λ (x : Bool). first_failure (cond (x || false) (Some nospc) None ∷ None ∷ cond full (Some nospc) None ∷ [])) b ∙ by_full full

-- the rise of one change
one_rise : (t : PlainTree) (n : ℕ) (f g : File) (grown : ℕ) → IsLimited t n f g grown → sum_by (rise t) (Changed n g ∷ []) ≡ grown
one_rise t n f g grown is =
    let total = sum_by-cons (rise t) (Changed n g) [] in
    let old : used_at t n ≡ used f.content = ap (λ (o : Option File). option_map_or (λ f. used f.content) o 0) is.there in
    omega (arith, total, ap (λ (u : ℕ). used g.content - u) old, is.grown_is)

pub limits_of_change : (t : PlainTree) (start n : ℕ) (f g : File) (grown : ℕ) → IsLimited t n f g grown
    → first_failure (limits t start (Changed n g ∷ [])) ≡ change_limits t f.change grown
unfolding limits
limits_of_change t start n f g grown is =
    limited_by (eqb g.change (2 ^ 64 - 1)) (ltb 32000 g.links) (ltb 7650 (length (slots_of g.content))) (ltb (free_blocks t) (sum_by (rise t) (Changed n g ∷ [])))
    (le-ltb 32000 g.links is.links) (le-ltb 7650 (length (slots_of g.content)) is.slots)
    ∙ ap (λ (change : ℕ). cond (eqb change (2 ^ 64 - 1)) (Some fbig) (cond (ltb (free_blocks t) (sum_by (rise t) (Changed n g ∷ []))) (Some nospc) None)) is.change
    ∙ ap (λ (r : ℕ). cond (eqb f.change (2 ^ 64 - 1)) (Some fbig) (cond (ltb (free_blocks t) r) (Some nospc) None)) (one_rise t n f g grown is)
