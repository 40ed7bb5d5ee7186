-- A table that fits a story, and the story's bytes as cells.
use Rattle.std.proofs.Common.{◌≡◌, inl, inr, ℕ, zero, suc, ◌+◌, ◌==◌, Bool, true, false, List, [], ◌∷◌, ◌++◌, map, reverse, cond, All, refl, sym, ap, subst, ◌∙◌, if◌then◌else◌}
use Rattle.std.proofs.lemmas.Bool.{eq-eqb, false_from_ne_true}
use Rattle.std.proofs.lemmas.List.{reverse-append}
use Rattle.mini_tx.specs.declared.actor.Actor.{Actor}
use Rattle.mini_tx.specs.declared.actor.Actor.TheVariants.{Memory}
use Rattle.mini_tx.specs.declared.item.Item.{Item}
use Rattle.mini_tx.specs.declared.message.Message.{Message}
use Rattle.mini_tx.specs.declared.message.Message.TheVariants.{Prepare}
use Rattle.mini_tx.specs.declared.placed_item.PlacedItem.{PlacedItem}
use Rattle.mini_tx.specs.declared.tx_id.TxId.{TxId}
use Rattle.mini_tx.specs.FlatMemory.{Flat, IsWithin, after}
use Rattle.mini_tx.specs.Laws.{IsTypedId}
use Rattle.mini_tx.specs.Minitransactions.{memory_of}
use Rattle.mini_tx.specs.Order.{is_same}
use Rattle.lock_table.proofs.OrderLemmas.{is_one}
use Rattle.mem_rules.specs.State.{State}
use Rattle.tx_coord.specs.Rules as rules
use Rattle.tx_rules.specs.Mini.{In, Setting}
use Rattle.tx_rules.proofs.FaithfulLemmas.{in_either}
use Rattle.tx_actors.proofs.LawLemmas.{identifiers_tell}
use Rattle.mem_laws.specs.Cells.{number}
use Rattle.mem_laws.specs.Loaded.{image_from}
use Rattle.mem_laws.specs.Minis as minis
use Rattle.mem_laws.specs.Shown.{IsTold}
use Rattle.mem_laws.proofs.CellLemmas.{sameness_is}
use Rattle.mem_laws.proofs.MiniLemmas.{minis_are_told, flat_memories_are_alike}
use Rattle.coord_laws.proofs.ListLemmas.{participants_are}
use Rattle.story_rules.specs.Story.{Begun}
use Rattle.story_rules.specs.Steps as steps
use Rattle.story_laws.specs.Identifiers.{AreDistinct}
use Rattle.story_laws.specs.Beginnings.{WasBegun, IsPart, IsAboutBegun}
use Rattle.story_shown.specs.History.{held_at_opening, flat_after}
use Rattle.story_shown.specs.Fits.{AreTyped, items_under, StoriesFit, PreparesAreTold, CellsAreTheBytes}

-- ---- the table

-- under the number of what was begun are its items
under_is : (begun : List Begun) (b : Begun) → AreTyped begun → AreDistinct begun → In b begun → items_under begun (number b.id) ≡ b.items
under_is [] b typed distinct is = absurd is
under_is (first ∷ begun) b typed distinct is = elim is [
  | inl same ↦
      ap (λ (t : Bool). if t then first.items else items_under begun (number b.id)) (eq-eqb (number first.id) (number b.id) (ap (λ (x : Begun). number x.id) (sym same)))
      ∙ ap (λ (x : Begun). x.items) (sym same)
  | inr there ↦
      ap (λ (t : Bool). if t then first.items else items_under begun (number b.id))
      (sameness_is first.id b.id (typed first (inl refl)) (typed b (inr there))
      ∙ false_from_ne_true (is_same first.id b.id) (λ one. distinct.0 b there (sym (is_one first.id b.id one))))
      ∙ under_is begun b (λ x h. typed x (inr h)) distinct.1 there
]

pub stories_fit : StoriesFit
stories_fit story typed distinct = record {
  coordinators = λ t. refl;
  minis = λ b is. ap minis.mini_of (under_is story.begun b typed distinct is);
  old = refl;
  found = refl;
  early = refl;
  start = λ m a. refl;
}

-- ---- what a `prepare` tells

placed_same : (m place : ℕ) (items : List Item) → minis.placed_from place items m ≡ rules.placed_from m place items
placed_same m place [] = refl
placed_same m place (i ∷ items) = go (memory_of i == m) (placed_same m (place + 1) items)
  where
    p : PlacedItem
    p = record { place = place; item = i }

    go : (b : Bool) → minis.placed_from (place + 1) items m ≡ rules.placed_from m (place + 1) items
        → cond b (p ∷ minis.placed_from (place + 1) items m) (minis.placed_from (place + 1) items m)
        ≡ (if b then p ∷ rules.placed_from m (place + 1) items else rules.placed_from m (place + 1) items)
    go true rest = ap (λ (l : List PlacedItem). p ∷ l) rest
    go false rest = rest

memory_is : (m n : ℕ) → ◌≡◌ {A = Actor} (Memory m) (Memory n) → m ≡ n
memory_is m n is = cc

pub part_is_told : (s : Setting) (m : ℕ) (b : Begun) (id : TxId) (participants : List ℕ) (items : List PlacedItem) → IsTypedId b.id → s.coord (number b.id) ≡ b.id.coord
    → s.mini (number b.id) ≡ minis.mini_of b.items → IsPart b (Memory m) id participants items → IsTold s m id participants items
part_is_told s m b id participants items typed coord mini part =
    let here : part.memory ≡ m = memory_is part.memory m (sym part.receiver) in
    let takes : In m (minis.participants_of b.items) =
    subst (λ (k : ℕ). In k (minis.participants_of b.items)) here (subst (λ (ns : List ℕ). In part.memory ns) (participants_are b.items) part.takes_part) in
    let all : participants ≡ minis.participants_of b.items = part.participants_are ∙ participants_are b.items in
    let own : items ≡ minis.placed_for b.items m =
    part.items_are ∙ ap (λ (k : ℕ). rules.placed_for b.items k) here ∙ sym (placed_same m 0 b.items) in
    subst (λ (t : TxId). IsTold s m t participants items) part.same
    (subst (λ (ps : List PlacedItem). IsTold s m b.id participants ps) (sym own)
    (subst (λ (ns : List ℕ). IsTold s m b.id ns (minis.placed_for b.items m)) (sym all) (minis_are_told s b.id b.items coord mini m takes)))

pub prepares_are_told : PreparesAreTold
prepares_are_told s story fits typed all p m id participants items there to is =
    let about : IsAboutBegun story.begun (Memory m) (Prepare id participants items) =
    subst (λ (x : Message). IsAboutBegun story.begun (Memory m) x) is (subst (λ (a : Actor). IsAboutBegun story.begun a p.message) to (all.posted p there)) in
    let b = about.0 in
    let own = typed b about.1 in
    part_is_told s m b id participants items own (fits.coordinators (number b.id) ∙ identifiers_tell b.id.coord b.id.boot b.id.seq own.1 own.2) (fits.minis b about.1) about.2

-- ---- the flat memory

-- the items of an identifier are those under its number
under_of : (begun : List Begun) (id : TxId) → AreTyped begun → IsTypedId id → items_under begun (number id) ≡ steps.items_of begun id
under_of [] id typed own = refl
under_of (b ∷ begun) id typed own =
    ap (λ (t : Bool). if t then b.items else items_under begun (number id)) (sameness_is b.id id (typed b (inl refl)) own)
    ∙ ap (λ (xs : List Item). if is_same b.id id then b.items else xs) (under_of begun id (λ x h. typed x (inr h)) own)

-- what has a write item was begun
pub was_written : (begun : List Begun) (id : TxId) → steps.has_write (steps.items_of begun id) ≡ true → WasBegun begun id
was_written [] id is = absurd cc
was_written (b ∷ begun) id is = go (was_written begun id) (is_same b.id id) refl is
  where
    go : (steps.has_write (steps.items_of begun id) ≡ true → WasBegun begun id) → (t : Bool) → is_same b.id id ≡ t
        → steps.has_write (if t then b.items else steps.items_of begun id) ≡ true → WasBegun (b ∷ begun) id
    go rest true same written = (b, inl refl, is_one b.id id same)
    go rest false differs written = let was = rest written in (was.0, inr was.1, was.2)

start_is : (states : List State) (m a : ℕ) → image_from states m a ≡ minis.cells_of_bytes (map (λ (s : State). s.image) states) m a
start_is [] m a = refl
start_is (s ∷ states) zero a = refl
start_is (s ∷ states) (suc m) a = start_is states m a

reverse_one : (t : ℕ) (ts : List ℕ) → reverse (t ∷ ts) ≡ reverse ts ++ t ∷ []
reverse_one t ts = reverse-append (t ∷ []) ts

in_numbers : (t : ℕ) (ids : List TxId) → In t (reverse (map number ids)) → (id : TxId) × In id ids × (t ≡ number id)
in_numbers t [] is = absurd is
in_numbers t (id ∷ ids) is = elim (in_either t (reverse (map number ids)) (number id ∷ []) (subst (λ (l : List ℕ). In t l) (reverse_one (number id) (map number ids)) is)) [
  | inl rest ↦ let it = in_numbers t ids rest in (it.0, inr it.1, it.2)
  | inr last ↦ elim last [ inl same ↦ (id, inl refl, same) | inr none ↦ absurd none ]
]

-- the last of a list come first
flat_both : (f : ℕ → List Item) (bytes : Flat) (xs ys : List ℕ) → minis.flat_after f bytes (xs ++ ys) ≡ minis.flat_after f (minis.flat_after f bytes ys) xs
flat_both f bytes [] ys = refl
flat_both f bytes (x ∷ xs) ys = ap (λ (b : Flat). after (f x) b) (flat_both f bytes xs ys)

flat_turned : (f : ℕ → List Item) (begun : List Begun) (ids : List TxId) → ((id : TxId) → In id ids → f (number id) ≡ steps.items_of begun id)
    → (bytes : Flat) → minis.flat_after f bytes (reverse (map number ids)) ≡ flat_after begun bytes ids
flat_turned f begun [] same bytes = refl
flat_turned f begun (id ∷ ids) same bytes =
    ap (λ (ts : List ℕ). minis.flat_after f bytes ts) (reverse_one (number id) (map number ids))
    ∙ flat_both f bytes (reverse (map number ids)) (number id ∷ [])
    ∙ ap (λ (xs : List Item). minis.flat_after f (after xs bytes) (reverse (map number ids))) (same id (inl refl))
    ∙ flat_turned f begun ids (λ x h. same x (inr h)) (after (steps.items_of begun id) bytes)

pub cells_are_the_bytes : CellsAreTheBytes
cells_are_the_bytes s story fits typed distinct within ids granted m a =
    flat_memories_are_alike s f bytes (reverse (map number ids)) (record {
      start = λ n c. fits.start n c ∙ start_is story.opening n c;
      minis = λ t is.
          let it = in_numbers t ids is in
          let was = of_id it.0 it.1 in
          subst (λ (n : ℕ). s.mini n ≡ minis.mini_of (f n)) (sym (it.2 ∙ ap number (sym was.2)))
          (fits.minis was.0 was.1 ∙ ap minis.mini_of (sym (under_is story.begun was.0 typed distinct was.1)));
      within = λ t is.
          let it = in_numbers t ids is in
          let was = of_id it.0 it.1 in
          subst (λ (n : ℕ). All (IsWithin bytes) (f n)) (sym (it.2 ∙ ap number (sym was.2)))
          (subst (λ (xs : List Item). All (IsWithin bytes) xs) (sym (under_is story.begun was.0 typed distinct was.1)) (within was.0 was.1));
    }) m a
    ∙ ap (λ (bs : Flat). minis.cells_of_bytes bs m a) (flat_turned f story.begun ids (λ id there. under_of story.begun id typed (typed_id id there)) bytes)
  where
    f : ℕ → List Item
    f = items_under story.begun

    bytes : Flat
    bytes = held_at_opening story

    of_id : (id : TxId) → In id ids → WasBegun story.begun id
    of_id id there = was_written story.begun id (granted id there).written

    typed_id : (id : TxId) → In id ids → IsTypedId id
    typed_id id there = let was = of_id id there in subst (λ (t : TxId). IsTypedId t) was.2 (typed was.0 was.1)
