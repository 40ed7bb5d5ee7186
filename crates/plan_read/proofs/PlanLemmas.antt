-- How a plan ends.
use Rattle.std.proofs.Common.{◌≡◌, ℕ, suc, ◌+◌, arith, map, List, [], ◌∷◌, ◌++◌, Option, Some, None, Result, Ok, Err, IfOk, refl, sym, ap, subst, ◌∙◌}
use Rattle.std.specs.Prelude.{◌%◌}
use Rattle.std.proofs.lemmas.List.{append-nil, map-append}
use Rattle.fs_rules.specs.Handle.{number_in}
use Rattle.fs_rules.specs.Lists.{below}
use Rattle.rpc_msg.specs.declared.cred.Cred.{Cred}
use Rattle.nfs_proto.specs.declared.answer.Answer.TheVariants.{Fault}
use Rattle.nfs_proto.specs.declared.call.Call.{Call}
use Rattle.nfs_proto.specs.declared.call.Call.TheVariants.{GetAttr, Lookup, Read, ReadDir, ReadLink, StatFs}
use Rattle.nfs_proto.specs.declared.handle.Handle.{Handle}
use Rattle.nfs_proto.specs.declared.stamp.Stamp.{Stamp}
use Rattle.mini_tx.specs.declared.item.Item.{Item}
use Rattle.node_cache.specs.declared.held.Held.{Held}
use Rattle.plan_rules.specs.declared.look.Look.{Look}
use Rattle.plan_rules.specs.Compared.{compares}
use Rattle.plan_rules.specs.Orders.{order, handle_steps, lookup_steps, looked_at}
use Rattle.plan_rules.specs.Steps.{refusal_in}
use Rattle.plan_rules.specs.Works.{IsWorkSet}
use Rattle.plan_forms.specs.declared.form.AnswerForm.{AnswerForm}
use Rattle.plan_forms.specs.declared.plan.Plan.{Plan}
use Rattle.plan_forms.specs.declared.plan.Plan.TheVariants.{Need, Final}
use Rattle.plan_forms.specs.declared.plan.Reading.{Reading}
use Rattle.plan_looks.specs.Goes.{Ends, GoesOn, IsRefused}
use Rattle.plan_looks.specs.declared.stop.Stop.{Stop}
use Rattle.plan_looks.specs.declared.stop.Stop.TheVariants as stop
use Rattle.read_laws.specs.Answers.{ready}
use Rattle.read_laws.specs.Promise.{IsPlan, KeepsPromise}
use Rattle.read_laws.proofs.PromiseLemmas.{read_finals_keep_promise}
use Rattle.plan_read.specs.Readings.{IsReading, reading_of}
use Rattle.plan_read.proofs.ReadingLemmas.{readings_answer}
use Rattle.plan_content.specs.Steps.{read_dir_steps, read_link_steps, read_steps}
use Rattle.plan_read.specs.Finals.{IsFinalOf, IsReadPlan, IsStopped}
use Rattle.plan_read.specs.Lookup.{directory_steps}

below_more : (k : ℕ) → below (suc k) ≡ below k ++ k ∷ []
unfolding below
below_more k = refl

-- what holds of what a call that succeeded gave
pub if_ok : {X E : Type 0} (P Q : X → Type 0) (r : Result X E) → ((x : X) → P x → Q x) → IfOk r P → IfOk r Q
if_ok P Q (Ok x) go is = go x is
if_ok P Q (Err e) go is = tt

pub get_attr_order : (held : Held) (arrival : ℕ) (file : Handle) (cred : Cred) → order held arrival (GetAttr file) cred ≡ handle_steps held file.0
unfolding order
get_attr_order held arrival file cred = refl

pub lookup_order : (held : Held) (arrival : ℕ) (dir : Handle) (name : List ℕ) (cred : Cred)
    → order held arrival (Lookup dir name) cred ≡ directory_steps held dir.0 name cred ++ lookup_steps held (number_in dir.0) name
unfolding order
lookup_order held arrival dir name cred = refl

pub stat_fs_order : (held : Held) (arrival : ℕ) (file : Handle) (cred : Cred) → order held arrival (StatFs file) cred ≡ handle_steps held file.0
unfolding order
stat_fs_order held arrival file cred = refl

pub read_link_order : (held : Held) (arrival : ℕ) (file : Handle) (cred : Cred)
    → order held arrival (ReadLink file) cred ≡ read_link_steps held (arrival % held.geometry.memories) file.0
unfolding order
read_link_order held arrival file cred = refl

pub read_order : (held : Held) (arrival : ℕ) (file : Handle) (offset count total : ℕ) (cred : Cred)
    → order held arrival (Read file offset count total) cred ≡ read_steps held (arrival % held.geometry.memories) file.0 offset count cred
unfolding order
read_order held arrival file offset count total cred = refl

pub read_dir_order : (held : Held) (arrival : ℕ) (dir : Handle) (cookie count : ℕ) (cred : Cred)
    → order held arrival (ReadDir dir cookie count) cred ≡ read_dir_steps held dir.0 cred
unfolding order
read_dir_order held arrival dir cookie count cred = refl

two_ways : (a b : Option ℕ) (status : ℕ) → a ≡ None → a ≡ Some status → ⊥
two_ways a b status none some = let never : ◌≡◌ {A = Option ℕ} None (Some status) = sym none ∙ some in absurd cc

module _ (held : Held) (arrival : ℕ) (call : Call) (cred : Cred) (looks : List Look) where
  pub read_plan : (r : Reading) (p : Plan) → GoesOn held (order held arrival call cred) [] looks → r ≡ reading_of held call → IsFinalOf held looks r p
      → IsReadPlan held arrival call cred p
  read_plan r (Need w) goes same final = absurd final
  read_plan r (Final mini form made changed) goes same final = (
    record {
      wanted = goes.wanted;
      refused = λ status fails. absurd (two_ways (refusal_in (order held arrival call cred)) None status goes.passes fails);
      answers = λ passes. (
        final.0 ∙ ap (λ ls. compares held ls ++ r.items) goes.looks ∙ ap (λ (x : Reading). compares held (looked_at held arrival call cred) ++ x.items) same,
        final.1 ∙ ap (λ (x : Reading). x.form) same,
      );
    },
    final.2,
    final.3,
  )

  some_same : (a b : ℕ) → ◌≡◌ {A = Option ℕ} (Some a) (Some b) → a ≡ b
  some_same a b same = cc

  pub refused_plan : (status : ℕ) (r : Reading) (p : Plan) → IsRefused held (order held arrival call cred) [] looks status → r ≡ ready (Fault status)
      → IsFinalOf held looks r p → IsReadPlan held arrival call cred p
  refused_plan status r (Need w) refused same final = absurd final
  refused_plan status r (Final mini form made changed) refused same final = (
    record {
      wanted = refused.wanted;
      refused = λ other fails. (
        final.0 ∙ ap (λ ls. compares held ls ++ r.items) refused.looks ∙ ap (λ (x : Reading). compares held (looked_at held arrival call cred) ++ x.items) same
            ∙ append-nil (compares held (looked_at held arrival call cred)),
        final.1 ∙ ap (λ (x : Reading). x.form) same ∙ ap (λ k. (ready (Fault k)).form) (some_same status other (sym refused.fails ∙ fails)),
      );
      answers = λ passes. absurd (two_ways (refusal_in (order held arrival call cred)) None status passes refused.fails);
    },
    final.2,
    final.3,
  )

  pub stopped_plan : (e : Stop) (p : Plan) → Ends held (order held arrival call cred) [] looks e → IsStopped held looks e p → IsReadPlan held arrival call cred p
  stopped_plan (stop.Need w) p wants is = subst (λ (x : Plan). IsReadPlan held arrival call cred x) (sym is) wants
  stopped_plan (stop.Refused s) p refused is = refused_plan s.0 (ready (Fault s.0)) p refused refl is
  stopped_plan stop.NoMemory p ends is = absurd is

-- a plan that only reads keeps its promise
pub plan_keeps : (held : Held) (arrival : ℕ) (call : Call) (cred : Cred) (now : Stamp) (p : Plan) → IsWorkSet held → IsReading call → IsReadPlan held arrival call cred p
    → IsPlan held arrival call cred now p
plan_keeps held arrival call cred now (Need w) work is plan = plan
plan_keeps held arrival call cred now (Final mini form made changed) work is plan = (
  plan.0.wanted,
  subst (λ (m : Option (ℕ × ℕ)). KeepsPromise held arrival call cred now mini form m changed) (sym plan.1)
      (subst (λ (ns : List ℕ). KeepsPromise held arrival call cred now mini form None ns) (sym plan.2)
      (read_finals_keep_promise held arrival call cred now (reading_of held call) mini form work (readings_answer held arrival call cred now work is) plan.0)),
)

-- reads that are made one by one
pub reads_none : (f : ℕ → Item) → map f (below 0) ≡ []
unfolding below
reads_none f = refl

pub reads_more : (f : ℕ → Item) (k : ℕ) → map f (below (k + 1)) ≡ map f (below k) ++ f k ∷ []
reads_more f k =
    let more : k + 1 ≡ suc k = omega arith in
    ap (λ n. map f (below n)) more ∙ ap (map f) (below_more k) ∙ map-append f (below k) (k ∷ [])
