-- One memory node of several.
use Rattle.std.proofs.Common.{◌≡◌, ◌<◌, inl, inr, ℕ, zero, suc, List, [], ◌∷◌, ◌++◌, length, get_or, set, Option, Some, None, refl, sym, ap, subst, ◌∙◌, arith, slice_set}
use Rattle.std.specs.List.{slice_get}
use Rattle.std.specs.Result.{IfOk}
use Rattle.std.proofs.Common.{Result}
use Rattle.std.proofs.lemmas.Bool.{cases_eq}
use Rattle.std.proofs.lemmas.Result.{IfOk-weaker}
use Rattle.std.proofs.lemmas.Option.{get_or_from_slice_get}
use Rattle.disk_model.specs.Crash.{History}
use Rattle.disk_model.specs.declared.disk.Disk.{Ghosts}
use Rattle.disk_model.specs.Health.{Health}
use Rattle.link_model.specs.Links.{numbered}
use Rattle.mini_tx.specs.declared.geometry.Geometry4.{Geometry4}
use Rattle.mini_tx.specs.declared.message.Message.{Message}
use Rattle.mini_tx.specs.declared.posted.Posted.{Posted}
use Rattle.mem_rules.specs.declared.setup.Setup.{Setup}
use Rattle.story_rules.specs.MemoryNodes.{MemoryNode}
use Rattle.story_rules.specs.Story.{Site, Up}
use Rattle.story_laws.proofs.CastLemmas.{set_length}
use Rattle.story_laws.proofs.IdentifierLemmas.{get_same, get_other}
use Rattle.cluster_parts.specs.declared.delivered.Handled.{Handled}
use Rattle.cluster_parts.specs.declared.memory_slot.MemorySlot.{MemorySlot}
use Rattle.cluster_parts.specs.Slots.{Answers, IsAt, RestsAt, site_after}
use Rattle.cluster_memories.specs.Memories.{AreAt, AreRested, setup_for}

pub got : {A : Type 0} (xs : List A) (n : ℕ) (d : A) → n < length xs → slice_get xs n ≡ Some (get_or xs n d)
got [] n d below = absurd (omega (arith, below))
got (x ∷ xs) zero d below = refl
got (x ∷ xs) (suc n) d below = got xs n d (omega (arith, below))

pub there_is : {A : Type 0} (xs : List A) (n : ℕ) (was : A) → n < length xs → was ≡ get_or xs n was → slice_get xs n ≡ Some was
there_is {A = A} xs n was below is = got xs n was below ∙ ap (λ (x : A). Some x) (sym is)

one_some : {A : Type 0} (x y : A) → ◌≡◌ {A = Option A} (Some x) (Some y) → x ≡ y
one_some x y is = cc

-- of two lists in step, an element of each was changed
in_step : {A B : Type 0} (P : ℕ → A → B → Type 0) (xs : List A) (ys : List B) (n : ℕ) (was now : A) (old new : B) → slice_get xs n ≡ Some was → slice_get ys n ≡ Some old → P n now new
    → ((m : ℕ) (x : A) (y : B) → slice_get xs m ≡ Some x → slice_get ys m ≡ Some y → P m x y)
    → (m : ℕ) (x : A) (y : B) → slice_get (slice_set xs n now) m ≡ Some x → slice_get (slice_set ys n new) m ≡ Some y → P m x y
in_step {A = A} {B = B} P xs ys n was now old new there site own each m x y at is = elim (cases_eq m n) [
  | inl same ↦
      let mine : slice_get (slice_set xs n now) n ≡ Some x = subst (λ (k : ℕ). slice_get (slice_set xs n now) k ≡ Some x) same at in
      let its : slice_get (slice_set ys n new) n ≡ Some y = subst (λ (k : ℕ). slice_get (slice_set ys n new) k ≡ Some y) same is in
      let one : now ≡ x = one_some now x (sym (get_same xs n was now there) ∙ mine) in
      let two : new ≡ y = one_some new y (sym (get_same ys n old new site) ∙ its) in
      subst (λ (k : ℕ). P k x y) (sym same) (subst (λ (b : B). P n x b) two (subst (λ (a : A). P n a new) one own))
  | inr other ↦ each m x y (sym (get_other xs n m now other) ∙ at) (sym (get_other ys n m new other) ∙ is)
]

module _ {D : Type 0} {G : Ghosts D} (tells : D → Type 0) (history : D → History) (health : D → Health) (slots : List (MemorySlot D G)) (m : ℕ) (was now : MemorySlot D G)
    (there : slice_get slots m ≡ Some was) (x : Message) where
  pub at_after : (E : Type 0) (r : Result Handled E)
      → IfOk r (λ (handled : Handled). (s : Setup) (n : MemoryNode) (k : ℕ) → IsAt s was (Up n) → IsAt s now (site_after k n x handled))
      → IfOk r (λ (handled : Handled). (g : Geometry4) (sites : List Site) (n : MemoryNode) (k : ℕ) → AreAt g slots sites → slice_get sites m ≡ Some (Up n)
      → AreAt g (slice_set slots m now) (slice_set sites m (site_after k n x handled)))
  at_after E r = IfOk-weaker r
      (λ (handled : Handled). (s : Setup) (n : MemoryNode) (k : ℕ) → IsAt s was (Up n) → IsAt s now (site_after k n x handled))
      (λ (handled : Handled). (g : Geometry4) (sites : List Site) (n : MemoryNode) (k : ℕ) → AreAt g slots sites → slice_get sites m ≡ Some (Up n)
      → AreAt g (slice_set slots m now) (slice_set sites m (site_after k n x handled)))
      (λ handled fact g sites n k at up. record {
        many = set_length slots m now ∙ at.many ∙ sym (set_length sites m (site_after k n x handled));
        each = in_step (λ (j : ℕ) (slot : MemorySlot D G) (site : Site). IsAt (setup_for g j) slot site) slots sites m was now (Up n) (site_after k n x handled) there up
            (fact (setup_for g m) n k (at.each m was (Up n) there up)) at.each;
      })

  pub answer_after : (E : Type 0) (r : Result Handled E)
      → IfOk r (λ (handled : Handled). (s : Setup) (n : MemoryNode) → IsAt s was (Up n) → Answers n x handled)
      → IfOk r (λ (handled : Handled). (g : Geometry4) (sites : List Site) (n : MemoryNode) → AreAt g slots sites → slice_get sites m ≡ Some (Up n) → Answers n x handled)
  answer_after E r = IfOk-weaker r
      (λ (handled : Handled). (s : Setup) (n : MemoryNode) → IsAt s was (Up n) → Answers n x handled)
      (λ (handled : Handled). (g : Geometry4) (sites : List Site) (n : MemoryNode) → AreAt g slots sites → slice_get sites m ≡ Some (Up n) → Answers n x handled)
      (λ handled fact g sites n at up. fact (setup_for g m) n (at.each m was (Up n) there up))

  pub rests_after : (E : Type 0) (r : Result Handled E)
      → IfOk r (λ (handled : Handled). (s : Setup) (n : MemoryNode) (k : ℕ) (posted : List Posted) (p : Posted) → IsAt s was (Up n) → numbered posted k ≡ Some p → p.message ≡ x
      → RestsAt tells history health s posted was (Up n) → RestsAt tells history health s posted now (site_after k n x handled))
      → IfOk r (λ (handled : Handled). (g : Geometry4) (sites : List Site) (n : MemoryNode) (k : ℕ) (posted : List Posted) (p : Posted) → AreAt g slots sites
      → slice_get sites m ≡ Some (Up n) → numbered posted k ≡ Some p → p.message ≡ x → AreRested tells history health g posted slots sites
      → AreRested tells history health g posted (slice_set slots m now) (slice_set sites m (site_after k n x handled)))
  rests_after E r = IfOk-weaker r
      (λ (handled : Handled). (s : Setup) (n : MemoryNode) (k : ℕ) (posted : List Posted) (p : Posted) → IsAt s was (Up n) → numbered posted k ≡ Some p → p.message ≡ x
      → RestsAt tells history health s posted was (Up n) → RestsAt tells history health s posted now (site_after k n x handled))
      (λ (handled : Handled). (g : Geometry4) (sites : List Site) (n : MemoryNode) (k : ℕ) (posted : List Posted) (p : Posted) → AreAt g slots sites
      → slice_get sites m ≡ Some (Up n) → numbered posted k ≡ Some p → p.message ≡ x → AreRested tells history health g posted slots sites
      → AreRested tells history health g posted (slice_set slots m now) (slice_set sites m (site_after k n x handled)))
      (λ handled fact g sites n k posted p at up number same rested. record {
        each = in_step (λ (j : ℕ) (slot : MemorySlot D G) (site : Site). RestsAt tells history health (setup_for g j) posted slot site) slots sites m was now (Up n) (site_after k n x handled) there up
            (fact (setup_for g m) n k posted p (at.each m was (Up n) there up) number same (rested.each m was (Up n) there up)) rested.each;
      })
