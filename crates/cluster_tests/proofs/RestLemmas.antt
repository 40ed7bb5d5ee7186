-- A shelf on which one more disk is laid.
use Rattle.std.proofs.Common.{◌≡◌, ◌⊎◌, inl, inr, ℕ, zero, suc, true, false, List, [], ◌∷◌, ◌++◌, Option, Some, None, refl, sym, subst, slice_index_or}
use Rattle.disk_model.specs.Plan.{Plan, history_after, plan_history, plan_health}
use Rattle.disk_model.specs.Shelf.{IsAtRest, Stock}
use Rattle.cluster_tests.specs.Fixture.{AreAtRest}

some_one : (x y : Plan) → ◌≡◌ {A = Option Plan} (Some x) (Some y) → x ≡ y
some_one x y is = cc

at_last : (disks : List (Option Plan)) (d : Plan) (k : ℕ) (x : Plan) → slice_index_or (disks ++ Some d ∷ []) k None ≡ Some x → (slice_index_or disks k None ≡ Some x) ⊎ (d ≡ x)
at_last [] d zero x is = inr (some_one d x is)
at_last [] d (suc k) x is = absurd cc
at_last (y ∷ disks) d zero x is = inl is
at_last (y ∷ disks) d (suc k) x is = at_last disks d k x is

blank_rests : (failing : List ℕ) → IsAtRest plan_history plan_health (record { changes = []; failing = failing; calls = 0; faults = 0; is_starved = false; is_usable = true })
unfolding history_after
blank_rests failing = (refl, refl)

pub one_more : (old new : Stock) (d : Plan) → new ≡ record old { disks = old.disks ++ Some d ∷ [] }
    → d ≡ record { changes = []; failing = d.failing; calls = 0; faults = 0; is_starved = false; is_usable = true } → AreAtRest old → AreAtRest new
one_more old new d is blank rest = subst AreAtRest (sym is) (λ k disk at. elim (at_last old.disks d k disk at) [
  | inl before ↦ rest k disk before
  | inr same ↦ subst (λ (p : Plan). IsAtRest plan_history plan_health p) same (subst (λ (p : Plan). IsAtRest plan_history plan_health p) (sym blank) (blank_rests d.failing))
])
