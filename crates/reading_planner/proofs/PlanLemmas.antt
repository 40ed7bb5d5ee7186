-- What a node asks of the plan of a call that reads.
use Rattle.std.proofs.Common.{◌≡◌, ℕ, Bool, true, false, IsTrue, List, [], ◌∷◌, Result, Ok, Err, IfOk, refl, sym}
use Rattle.std.specs.Prelude.{◌&&◌, nat_lt}
use Rattle.std.specs.List.{AllByRecursion, list_all}
use Rattle.std.proofs.lemmas.List.Elements.{All-from_recursion}
use Rattle.rpc_msg.specs.declared.cred.Cred.{Cred}
use Rattle.nfs_proto.specs.declared.call.Call.{Call}
use Rattle.nfs_service.specs.Needs as needs
use Rattle.fs_rules.specs.declared.geometry.Geometry.{Geometry}
use Rattle.fs_rules.specs.Arguments.{handles_of}
use Rattle.fs_rules.specs.Handle.{number_in}
use Rattle.node_cache.specs.declared.held.Held.{Held}
use Rattle.plan_rules.specs.Orders.{wanted}
use Rattle.plan_rules.specs.Told.{is_number}
use Rattle.plan_rules.specs.Works.{IsWorkSet}
use Rattle.plan_forms.specs.declared.plan.Plan.{Plan}
use Rattle.plan_forms.specs.declared.plan.Plan.TheVariants.{Need, Final}
use Rattle.want_laws.specs.Laws.{HasNumbers}
use Rattle.want_laws.proofs.OrderLemmas.{wants_are_told}
use Rattle.plan_read.specs.Finals.{IsReadPlan}
use Rattle.plan_read.specs.Readings.{IsReading}
use Rattle.node_rules.specs.Plans.{IsServed, IsSound, IsWantTold, want_of}
use Rattle.reading_planner.proofs.AnswerLemmas.{read_finals_are_sound}

-- what holds of what a call that succeeded gave
pub if_ok : {X E : Type 0} (P Q : X → Type 0) (r : Result X E) → ((x : X) → P x → Q x) → IfOk r P → IfOk r Q
if_ok P Q (Ok x) go is = go x is
if_ok P Q (Err e) go is = tt

both_true : (a b : Bool) → a && b ≡ true → (a ≡ true) × (b ≡ true)
both_true true b is = (refl, is)
both_true false b is = absurd cc

grouped : (a b c : Bool) → a && b && c ≡ true → a && (b && c) ≡ true
grouped true b c is = is
grouped false b c is = absurd cc

-- the handles of a call that needs the file system have numbers
numbers_by : (g : Geometry) (names : List (List ℕ)) → list_all (needs.is_handle g) names ≡ true → AllByRecursion (λ name. IsTrue (is_number g (number_in name))) names
numbers_by g [] is = tt
numbers_by g (name ∷ names) is =
    let both = both_true (needs.is_handle g name) (list_all (needs.is_handle g) names) is in
    (grouped (nat_lt 0 (number_in name)) _ _ (both_true _ (needs.is_number g (number_in name)) both.0).1, numbers_by g names both.1)

pub have_numbers : (g : Geometry) (call : Call) → IsServed g call → HasNumbers g call
have_numbers g call served = All-from_recursion (λ name. IsTrue (is_number g (number_in name))) (handles_of call) (numbers_by g (handles_of call) served.handles)

module _ (held : Held) (arrival : ℕ) (call : Call) (cred : Cred) where
  pub is_wanted : (p : Plan) → IsReadPlan held arrival call cred p → want_of p ≡ wanted held arrival call cred
  is_wanted (Need w) plan = sym plan
  is_wanted (Final mini form made changed) plan = sym plan.0.wanted

  pub is_told : (p : Plan) → IsWorkSet held → IsServed held.geometry call → IsReadPlan held arrival call cred p → IsWantTold held p
  is_told (Need w) work served plan = wants_are_told held arrival call cred w work (have_numbers held.geometry call served) plan
  is_told (Final mini form made changed) work served plan = tt

  pub is_sound : (p : Plan) → IsWorkSet held → IsReading call → IsReadPlan held arrival call cred p → IsSound p
  is_sound (Need w) work reads plan = tt
  is_sound (Final mini form made changed) work reads plan = read_finals_are_sound held arrival call cred mini form work reads plan.0
