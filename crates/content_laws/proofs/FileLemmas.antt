-- Calls with one handle that look at the record of its file, make checks of it, and then look at more of it.
use Rattle.std.proofs.Common.{◌≡◌, ℕ, true, false, cond, Bool, List, [], ◌∷◌, ◌++◌, map, Option, Some, None, refl, sym, ap, subst, ◌∙◌}
use Rattle.std.specs.Prelude.{All, not, is_some, option_map}
use Rattle.std.specs.FinMap as table
use Rattle.std.proofs.lemmas.List.Elements.{recursion_from_All}
use Rattle.rpc_msg.specs.declared.cred.Cred.{Cred}
use Rattle.nfs_proto.specs.declared.answer.Answer.{Answer}
use Rattle.nfs_proto.specs.declared.call.Call.{Call}
use Rattle.nfs_proto.specs.declared.handle.Handle.{Handle}
use Rattle.nfs_proto.specs.declared.stamp.Stamp.{Stamp}
use Rattle.fs_rules.specs.declared.file.File.{File}
use Rattle.fs_rules.specs.declared.plain_tree.PlainTree.{PlainTree}
use Rattle.fs_rules.specs.Arguments as rules
use Rattle.fs_rules.specs.Handle.{number_in}
use Rattle.fs_rules.specs.Respond.{Responded, answer_of, edits_of, own_checks}
use Rattle.fs_rules.specs.Statuses.{Check, fails_where, first_failure, stale}
use Rattle.mini_tx.specs.FlatMemory.{Flat, reads}
use Rattle.fs_image.specs.Owners.{Owners}
use Rattle.node_cache.specs.declared.held.Held.{Held}
use Rattle.node_cache.specs.declared.want.Want.TheVariants as want
use Rattle.plan_rules.specs.declared.look.Look.TheVariants.{Record}
use Rattle.plan_rules.specs.Matched.{IsOwnFile, IsOwnLook}
use Rattle.plan_rules.specs.Orders.{order}
use Rattle.plan_rules.specs.Steps.{Step, Looks, Checks, is_held, wanted_in, looks_in, refusal_in}
use Rattle.plan_rules.specs.Told.{file_of}
use Rattle.plan_rules.proofs.OrderLemmas.{orders_go_on}
use Rattle.plan_forms.specs.declared.plan.Reading.{Reading}
use Rattle.plan_forms.specs.Forms.{said}
use Rattle.read_laws.specs.Laws.{AnswersAs, IsPlannedOver}
use Rattle.read_laws.proofs.OwnLemmas.{handle_told, named_there, plain}
use Rattle.read_laws.proofs.RuleLemmas.{answers, refuses}
use Rattle.read_laws.proofs.StepLemmas.{behind, checks_refuse, checks_want}

-- whether there is a file
abbrev pub live_check : Option File → Check
live_check p = fails_where stale (not (is_some p))

-- the order of a call looks at the record of its file, and checks that it is there; the rest is told by it, as checks of it and
-- looks behind them. The rules make the same checks
pub record IsFileCall (held : Held) (t : PlainTree) (arrival : ℕ) (call : Call) (cred : Cred) (file : Handle) : Type 0 where
  pub rest : Option File → List Step
  pub order_is : order held arrival call cred ≡ Looks (Record (number_in file.0)) ∷ Checks (live_check (file_of held file.0)) ∷ rest (file_of held file.0)
  pub row : File → List Check
  pub more : File → List Step
  pub rest_is : (f : File) → rest (Some f) ≡ map Checks (row f) ++ more f
  pub alike : (f : File) → row (plain f) ≡ row f
  pub passes : (f : File) → refusal_in (more f) ≡ None
  pub checks : Option File → List Check
  pub checks_are : rules.argument_checks t call cred ++ own_checks t call cred ≡ live_check (rules.file_of t file.0) ∷ checks (rules.file_of t file.0)
  pub row_is : (f : File) → checks (Some f) ≡ row f

-- ---- steps at their head

look_first : (held : Held) (n : ℕ) (steps : List Step) → wanted_in held (Looks (Record n) ∷ steps) ≡ None → (is_held held (want.Inode n) ≡ true) × (wanted_in held steps ≡ None)
unfolding wanted_in
look_first held n steps none = by (is_held held (want.Inode n)) none
  where
    by : (b : Bool) → cond b (wanted_in held steps) (Some (want.Inode n)) ≡ None → (b ≡ true) × (wanted_in held steps ≡ None)
    by true is = (refl, is)
    by false is = absurd cc

stale_refuses : (n : ℕ) (steps : List Step) → refusal_in (Looks (Record n) ∷ Checks (live_check None) ∷ steps) ≡ Some stale
unfolding refusal_in
stale_refuses n steps = refl

stale_fails : (cs : List Check) → first_failure (live_check None ∷ cs) ≡ Some stale
unfolding first_failure
stale_fails cs = refl

live_goes : (held : Held) (f : File) (steps : List Step) → (wanted_in held (Checks (live_check (Some f)) ∷ steps) ≡ wanted_in held steps)
unfolding wanted_in
live_goes held f steps = refl

live_refuses : (n : ℕ) (f : File) (steps : List Step) → refusal_in (Looks (Record n) ∷ Checks (live_check (Some f)) ∷ steps) ≡ refusal_in steps
unfolding refusal_in
live_refuses n f steps = refl

live_fails : (f : File) (cs : List Check) → first_failure (live_check (Some f) ∷ cs) ≡ first_failure cs
unfolding first_failure
live_fails f cs = refl

module _ (held : Held) (flat : Flat) (t : PlainTree) (o : Owners) (arrival : ℕ) (call : Call) (cred : Cred) (now : Stamp) (start : ℕ) (file : Handle)
    (over : IsPlannedOver held flat t o arrival call cred) (is : IsFileCall held t arrival call cred file) (nothing : edits_of t call cred now start ≡ []) where
  abbrev pub n : ℕ
  n = number_in file.0

  abbrev steps : Option File → List Step
  steps p = Looks (Record n) ∷ Checks (live_check p) ∷ is.rest p

  none_wanted : wanted_in held (steps (file_of held file.0)) ≡ None
  none_wanted = ap (wanted_in held) (sym is.order_is) ∙ over.wanted

  pub there : is_held held (want.Inode n) ≡ true
  there = (look_first held n _ none_wanted).0

  own_by : (ss : List Step) → order held arrival call cred ≡ Looks (Record n) ∷ ss → IsOwnFile t.geometry flat o held n
  unfolding looks_in
  own_by ss same =
      (recursion_from_All (IsOwnLook t.geometry flat o held) (looks_in (Looks (Record n) ∷ ss))
      (subst (λ (xs : List Step). All (IsOwnLook t.geometry flat o held) (looks_in xs)) same over.own)).0

  pub own : IsOwnFile t.geometry flat o held n
  own = own_by _ is.order_is

  told : file_of held file.0 ≡ option_map plain (rules.file_of t file.0)
  told = handle_told held flat t o over.work over.same over.shows file.0 there own

  -- what is told where there is such a file
  module _ (f : File) (live : rules.file_of t file.0 ≡ Some f) where
    told_file : file_of held file.0 ≡ Some (plain f)
    told_file = told ∙ ap (λ (p : Option File). option_map plain p) live

    abbrev body : List Step
    body = map Checks (is.row (plain f)) ++ is.more (plain f)

    body_none : wanted_in held body ≡ None
    body_none =
        let all : wanted_in held (Checks (live_check (Some (plain f))) ∷ is.rest (Some (plain f))) ≡ None =
        (look_first held n _ (subst (λ (p : Option File). wanted_in held (steps p) ≡ None) told_file none_wanted)).1 in
        ap (wanted_in held) (sym (is.rest_is (plain f))) ∙ sym (live_goes held (plain f) (is.rest (Some (plain f)))) ∙ all

    row_refuses : refusal_in (map Checks (is.row (plain f))) ≡ first_failure (is.row f)
    row_refuses = checks_refuse (is.row (plain f)) ∙ ap first_failure (is.alike f)

    body_by : (c : Check) → first_failure (is.row f) ≡ c → refusal_in body ≡ c
    body_by None passes =
        (behind held (map Checks (is.row (plain f))) (is.more (plain f)) body_none (row_refuses ∙ passes)).refusal ∙ is.passes (plain f)
    body_by (Some status) fails =
        (orders_go_on.refused held (map Checks (is.row (plain f))) (is.more (plain f)) status (checks_want held (is.row (plain f))) (row_refuses ∙ fails)).2

    live_decides : refusal_in (order held arrival call cred) ≡ first_failure (is.row f)
    live_decides =
        ap refusal_in is.order_is ∙ ap (λ (p : Option File). refusal_in (steps p)) told_file ∙ live_refuses n (plain f) (is.rest (Some (plain f)))
        ∙ ap refusal_in (is.rest_is (plain f)) ∙ body_by (first_failure (is.row f)) refl

    rules_decide : first_failure (rules.argument_checks t call cred ++ own_checks t call cred) ≡ first_failure (is.row f)
    rules_decide =
        ap first_failure is.checks_are ∙ ap (λ (p : Option File). first_failure (live_check p ∷ is.checks p)) live ∙ live_fails f (is.checks (Some f))
        ∙ ap first_failure (is.row_is f)

    -- what comes behind the checks is not wanted
    more_none : first_failure (is.row f) ≡ None → wanted_in held (is.more (plain f)) ≡ None
    more_none passes =
        sym (behind held (map Checks (is.row (plain f))) (is.more (plain f)) body_none (row_refuses ∙ passes)).wanted ∙ body_none

    pub there_is : table.get t.files n ≡ Some f
    there_is = named_there t file.0 f live

  none_decides : rules.file_of t file.0 ≡ None → (refusal_in (order held arrival call cred) ≡ Some stale) × (first_failure (rules.argument_checks t call cred ++ own_checks t call cred) ≡ Some stale)
  none_decides none =
      let no_file : file_of held file.0 ≡ None = told ∙ ap (λ (p : Option File). option_map plain p) none in (
        ap refusal_in is.order_is ∙ ap (λ (p : Option File). refusal_in (steps p)) no_file ∙ stale_refuses n (is.rest None),
        ap first_failure is.checks_are ∙ ap (λ (p : Option File). first_failure (live_check p ∷ is.checks p)) none ∙ stale_fails (is.checks None),
      )

  decides_by : (p : Option File) → rules.file_of t file.0 ≡ p → refusal_in (order held arrival call cred) ≡ first_failure (rules.argument_checks t call cred ++ own_checks t call cred)
  decides_by None none = let both = none_decides none in both.0 ∙ sym both.1
  decides_by (Some f) live = live_decides f live ∙ sym (rules_decide f live)

  decides : refusal_in (order held arrival call cred) ≡ first_failure (rules.argument_checks t call cred ++ own_checks t call cred)
  decides = decides_by (rules.file_of t file.0) refl

  -- a reading that answers as the rules do where the file is there, its checks pass and nothing is wanted behind them
  abbrev pub AnswersHere : Reading → Type 0
  AnswersHere r = (f : File) → rules.file_of t file.0 ≡ Some f → first_failure (is.row f) ≡ None → wanted_in held (is.more (plain f)) ≡ None
      → answer_of t call ≡ said r.form (reads r.items flat)

  answer_by : (r : Reading) → AnswersHere r → (p : Option File) → rules.file_of t file.0 ≡ p → refusal_in (order held arrival call cred) ≡ None
      → answer_of t call ≡ said r.form (reads r.items flat)
  answer_by r here None none passes = absurd (let never : ◌≡◌ {A = Option ℕ} (Some stale) None = sym (none_decides none).0 ∙ passes in cc)
  answer_by r here (Some f) live passes = let row : first_failure (is.row f) ≡ None = sym (live_decides f live) ∙ passes in here f live row (more_none f live row)

  pub file_answers : (r : Reading) → AnswersHere r → AnswersAs held flat t arrival call cred now start r
  file_answers r here =
      record {
        refused = λ status fails. refuses t call cred now start nothing status (sym decides ∙ fails);
        answers = λ passes. answers t call cred now start nothing (sym decides ∙ passes)
            ∙ ap (λ (a : Answer). let x : Responded = record { answer = a; tree = t; made = None } in x) (answer_by r here (rules.file_of t file.0) refl passes);
      }
