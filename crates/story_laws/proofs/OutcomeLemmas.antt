-- A change that a coordinator ends as Committed is in the history.
use Rattle.std.proofs.Common.{◌≡◌, ◌⊎◌, inl, inr, ℕ, ◌+◌, nat_lt, nat_le, ◌==◌, ◌||◌, Bool, true, false, List, [], ◌∷◌, length, Option, refl, sym, ap, subst, ◌∙◌, arith, if◌then◌else◌}
use Rattle.std.proofs.lemmas.Bool.{eq-eqb, eqb-true, le-leb, false_from_ne_true}
use Rattle.mini_tx.specs.declared.item.Item.{Item}
use Rattle.mini_tx.specs.declared.placed_item.PlacedItem.{PlacedItem}
use Rattle.mini_tx.specs.declared.tx_id.TxId.{TxId}
use Rattle.mini_tx.specs.Minitransactions.{memory_of, is_write}
use Rattle.mini_tx.specs.Order.{is_same}
use Rattle.lock_table.proofs.OrderLemmas.{is_one, same_self}
use Rattle.tx_coord.specs.State as coord
use Rattle.tx_coord.specs.Rules as rules
use Rattle.tx_rules.specs.Mini.{In}
use Rattle.mem_rules.specs.Items.{any_write}
use Rattle.mem_rules.specs.Rules as node
use Rattle.story_rules.specs.Story.{Begun, Story}
use Rattle.story_rules.specs.Steps as steps
use Rattle.story_laws.specs.Beginnings.{IsAtBegunIf, RunsBegun}
use Rattle.story_laws.specs.Identifiers.{AreDistinct}
use Rattle.story_laws.specs.Outcomes.{CommittedIsAChange}
use Rattle.story_laws.specs.Votes.{IsLook, HasVoted}
use Rattle.story_laws.proofs.CommitLemmas.{committed_is_voted}
use Rattle.story_laws.proofs.CompleteLemmas.{not_both}
use Rattle.story_laws.proofs.GrowthLemmas.{true_both}

-- ---- what was begun under one identifier is one

pub same_begun : (begun : List Begun) (b d : Begun) → AreDistinct begun → In b begun → In d begun → b.id ≡ d.id → b ≡ d
same_begun [] b d distinct here there same = absurd here
same_begun (x ∷ begun) b d distinct here there same = go here there (same_begun begun b d distinct.1)
  where
    go : (b ≡ x) ⊎ In b begun → (d ≡ x) ⊎ In d begun → (In b begun → In d begun → b.id ≡ d.id → b ≡ d) → b ≡ d
    go (inl one) (inl other) rest = one ∙ sym other
    go (inl one) (inr later) rest = absurd (distinct.0 d later (sym same ∙ ap (λ (y : Begun). y.id) one))
    go (inr later) (inl other) rest = absurd (distinct.0 b later (same ∙ ap (λ (y : Begun). y.id) other))
    go (inr later) (inr last) rest = rest later last same

pub own_items : (begun : List Begun) (b : Begun) → AreDistinct begun → In b begun → steps.items_of begun b.id ≡ b.items
own_items [] b distinct is = absurd is
own_items (x ∷ begun) b distinct is = elim is [
  | inl same ↦
      ap (λ (t : Bool). if t then x.items else steps.items_of begun b.id) (ap (λ (y : Begun). is_same x.id y.id) same ∙ same_self x.id)
      ∙ ap (λ (y : Begun). y.items) (sym same)
  | inr there ↦
      ap (λ (t : Bool). if t then x.items else steps.items_of begun b.id)
      (false_from_ne_true (is_same x.id b.id) (λ one. distinct.0 b there (sym (is_one x.id b.id one))))
      ∙ own_items begun b distinct.1 there
]

-- ---- one participant has all items

placed_own : (n : ℕ) (ms : List ℕ) → In n (rules.placed_in n ms)
placed_own n [] = inl refl
placed_own n (m ∷ ms) = go (nat_lt m n) (m == n) refl (placed_own n ms)
  where
    go : (a b : Bool) → (m == n) ≡ b → In n (rules.placed_in n ms) → In n (if a then m ∷ rules.placed_in n ms else if b then m ∷ ms else n ∷ (m ∷ ms))
    go true b is rest = inr rest
    go false true is rest = inl (sym (eqb-true m n is))
    go false false is rest = inl refl

placed_old : (n k : ℕ) (ms : List ℕ) → In k ms → In k (rules.placed_in n ms)
placed_old n k [] there = absurd there
placed_old n k (m ∷ ms) there = go (nat_lt m n) (m == n) (placed_old n k ms) there
  where
    go : (a b : Bool) → (In k ms → In k (rules.placed_in n ms)) → (k ≡ m) ⊎ In k ms → In k (if a then m ∷ rules.placed_in n ms else if b then m ∷ ms else n ∷ (m ∷ ms))
    go true b rest (inl same) = inl same
    go true b rest (inr later) = inr (rest later)
    go false true rest here = here
    go false false rest here = inr here

takes_part : (items : List Item) (i : Item) → In i items → In (memory_of i) (rules.participants_of items)
takes_part [] i is = absurd is
takes_part (x ∷ items) i is = elim is [
  | inl same ↦ subst (λ (y : Item). In (memory_of y) (rules.participants_of (x ∷ items))) (sym same) (placed_own (memory_of x) (rules.participants_of items))
  | inr there ↦ placed_old (memory_of x) (memory_of i) (rules.participants_of items) (takes_part items i there)
]

one_only : (ps : List ℕ) → node.has_several ps ≡ false → (k m : ℕ) → In k ps → In m ps → k ≡ m
one_only [] single k m here there = absurd here
one_only (p ∷ []) single k m here there = only here there
  where
    only : (k ≡ p) ⊎ In k [] → (m ≡ p) ⊎ In m [] → k ≡ m
    only (inl one) (inl other) = one ∙ sym other
    only (inl one) (inr none) = absurd none
    only (inr none) other = absurd none
one_only (p ∷ q ∷ ps) single k m here there = absurd (not_both (nat_le 2 (length (p ∷ q ∷ ps))) (le-leb 2 (length (p ∷ q ∷ ps)) (omega arith)) single)

writes_here : (items : List Item) (m place : ℕ) → steps.has_write items ≡ true → ((i : Item) → In i items → memory_of i ≡ m) → any_write (rules.placed_from m place items) ≡ true
writes_here [] m place written all = absurd cc
writes_here (i ∷ items) m place written all =
    ap (λ (t : Bool). any_write (if t then p ∷ rules.placed_from m (place + 1) items else rules.placed_from m (place + 1) items)) (eq-eqb (memory_of i) m (all i (inl refl)))
    ∙ go (is_write i) (λ w. writes_here items m (place + 1) w (λ x there. all x (inr there))) written
  where
    p : PlacedItem
    p = record { place = place; item = i }

    go : (b : Bool) → (steps.has_write items ≡ true → any_write (rules.placed_from m (place + 1) items) ≡ true) → (b || steps.has_write items) ≡ true
        → (b || any_write (rules.placed_from m (place + 1) items)) ≡ true
    go true rest one = refl
    go false rest one = rest one

both_false : (a b : Bool) → (a || b) ≡ false → (a ≡ false) × (b ≡ false)
both_false true b is = absurd cc
both_false false b is = (refl, is)

-- what writes is no look
no_look : (items : List Item) (m : ℕ) → steps.has_write items ≡ true → In m (rules.participants_of items) → IsLook items m → ⊥
no_look items m written takes look =
    let parts = both_false (node.has_several (rules.participants_of items)) (any_write (rules.placed_for items m)) look in
    not_both (any_write (rules.placed_for items m))
    (writes_here items m 0 written (λ i there. one_only (rules.participants_of items) parts.0 (memory_of i) m (takes_part items i there) takes)) parts.1

-- ---- the law

all_from : (story : Story) (id : TxId) (ms : List ℕ) → ((m : ℕ) → In m ms → steps.has_granted id (steps.log_of story m) ≡ true) → steps.all_granted story id ms ≡ true
all_from story id [] each = refl
all_from story id (m ∷ ms) each =
    true_both (steps.has_granted id (steps.log_of story m)) (steps.all_granted story id ms) (each m (inl refl)) (all_from story id ms (λ k there. each k (inr there)))

granted_there : (story : Story) (b : Begun) (id : TxId) (m : ℕ) → AreDistinct story.begun → In b story.begun → b.id ≡ id → steps.has_write b.items ≡ true → In m (rules.participants_of b.items)
    → HasVoted story id m → steps.has_granted id (steps.log_of story m) ≡ true
granted_there story b id m distinct there named written takes (inl granted) = granted
granted_there story b id m distinct there named written takes (inr look) =
    let one : look.0 ≡ b = same_begun story.begun look.0 b distinct look.1 there (look.2 ∙ sym named) in
    absurd (no_look b.items m written takes (subst (λ (d : Begun). IsLook d.items m) one look.3))

pub committed_is_a_change : CommittedIsAChange
committed_is_a_change story n seat c r p from reads all counted complete there runs at posted sender ended written =
    let begun : RunsBegun story.begun (coord.Runs r) =
    subst (λ (phase : coord.Phase). RunsBegun story.begun phase) at (subst (λ (a : Option coord.State). IsAtBegunIf story.begun a) runs (all.begun.running n seat there)).phase in
    let b = begun.0 in
    let wrote : steps.has_write b.items ≡ true = ap steps.has_write begun.3 ∙ written in
    let items : steps.items_of story.begun r.id ≡ b.items =
    ap (λ (t : TxId). steps.items_of story.begun t) (sym begun.2) ∙ own_items story.begun b counted.distinct begun.1 in
    let voted = committed_is_voted story n seat c r p from reads all there runs at posted sender ended in
    let granted : steps.all_granted story r.id (rules.participants_of b.items) ≡ true =
    all_from story r.id (rules.participants_of b.items) (λ m takes.
    granted_there story b r.id m counted.distinct begun.1 begun.2 wrote takes
    (voted m (subst (λ (xs : List Item). In m (rules.participants_of xs)) begun.3 takes))) in
    complete r.id (record {
      written = ap steps.has_write items ∙ wrote;
      granted = ap (λ (xs : List Item). steps.all_granted story r.id (rules.participants_of xs)) items ∙ granted;
    })
