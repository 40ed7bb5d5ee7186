-- Places of the history, reads out of votes, and what lies within the flat memory.
use Rattle.std.proofs.Common.{◌≡◌, ◌⊎◌, inl, inr, ◌≤◌, ◌+◌, ℕ, zero, suc, ◌==◌, Bool, true, false, cond, List, [], ◌∷◌, ◌++◌, length, map, reverse, take, drop, Some, refl, sym, ap, subst, ◌∙◌, append_assoc, slice_get, arith, if◌then◌else◌}
use Rattle.std.specs.List.{AllByRecursion}
use Rattle.std.proofs.lemmas.Bool.{cases_eq, eq-eqb, ne_eqb, eqb-true, eqb-false}
use Rattle.std.proofs.lemmas.List.{reverse-append, reverse-reverse, map-append}
use Rattle.mini_tx.specs.declared.item.Item.{Item}
use Rattle.mini_tx.specs.declared.item.Item.TheVariants.{Compare, Read, Write}
use Rattle.mini_tx.specs.declared.placed_item.PlacedItem.{PlacedItem}
use Rattle.mini_tx.specs.declared.tx_id.TxId.{TxId}
use Rattle.mini_tx.specs.FlatMemory.{Flat, IsWithin, bytes_at, held_by, reads, after}
use Rattle.mini_tx.specs.Minitransactions.{memory_of}
use Rattle.mini_tx.specs.Order.{is_same}
use Rattle.tx_coord.specs.Rules.{gathered, next_read, less_read, first_read, without_first}
use Rattle.tx_coord.specs.Votes.{Granted}
use Rattle.tx_rules.specs.Mini.{In}
use Rattle.tx_rules.proofs.FaithfulLemmas.{in_front, in_back}
use Rattle.mem_laws.specs.Minis.{placed_from}
use Rattle.mem_laws.proofs.MiniLemmas.{still_within}
use Rattle.story_rules.specs.Story.{Begun}
use Rattle.story_rules.specs.Steps.{items_of}
use Rattle.story_shown.specs.History.{flat_after}

-- ---- places

same_cons : {B : Type 0} (a b : B) (xs ys : List B) → a ≡ b → xs ≡ ys → a ∷ xs ≡ b ∷ ys
same_cons a b xs ys one rest = ap (λ (c : _). c ∷ xs) one ∙ ap (λ (l : List _). b ∷ l) rest

-- the first ones of a list that was mapped
pub prefix_is : {A B : Type 0} (f : A → B) (xs ys : List B) (zs : List A) → xs ++ ys ≡ map f zs → xs ≡ map f (take (length xs) zs)
prefix_is f [] ys zs is = refl
prefix_is f (x ∷ xs) ys [] is = absurd cc
prefix_is f (x ∷ xs) ys (z ∷ zs) is =
    let one : x ≡ f z = cc in
    let rest : xs ++ ys ≡ map f zs = cc in
    same_cons x (f z) xs (map f (take (length xs) zs)) one (prefix_is f xs ys zs rest)

pub prefix_fits : {A B : Type 0} (f : A → B) (xs ys : List B) (zs : List A) → xs ++ ys ≡ map f zs → length xs ≤ length zs
prefix_fits f [] ys zs is = omega arith
prefix_fits f (x ∷ xs) ys [] is = absurd cc
prefix_fits f (x ∷ xs) ys (z ∷ zs) is = let rest = prefix_fits f xs ys zs cc in omega (arith, rest)

-- and the one behind them
pub next_is : {A B : Type 0} (f : A → B) (xs : List B) (y : B) (ys : List B) (zs : List A) → xs ++ y ∷ ys ≡ map f zs → (z : A) × (slice_get zs (length xs) ≡ Some z) × (y ≡ f z)
next_is f [] y ys [] is = absurd cc
next_is f [] y ys (z ∷ zs) is = (z, refl, cc)
next_is f (x ∷ xs) y ys [] is = absurd cc
next_is f (x ∷ xs) y ys (z ∷ zs) is = next_is f xs y ys zs cc

-- a list at a place
pub at_place : {A : Type 0} (zs : List A) (at : ℕ) (z : A) → slice_get zs at ≡ Some z → zs ≡ take at zs ++ z ∷ drop (suc at) zs
at_place [] at z is = absurd cc
at_place (y ∷ zs) zero z is = ap (λ (x : _). x ∷ zs) cc
at_place (y ∷ zs) (suc at) z is = ap (λ (l : List _). y ∷ l) (at_place zs at z is)

-- the newest first
pub newest_first : {A B : Type 0} (f : A → B) (xs : List A) (z : A) (ys : List A) → reverse (map f (xs ++ z ∷ ys)) ≡ reverse (map f ys) ++ f z ∷ reverse (map f xs)
newest_first f xs z ys =
    ap reverse (map-append f xs (z ∷ ys)) ∙ reverse-append (map f xs) (f z ∷ map f ys)
    ∙ ap (λ (l : List _). l ++ reverse (map f xs)) (reverse-append (f z ∷ []) (map f ys))
    ∙ append_assoc (reverse (map f ys)) (f z ∷ []) (reverse (map f xs))

-- what stands behind the later ones, where the list is newest first
pub behind_is : {A B : Type 0} (f : A → B) (later before : List B) (zs : List A) → later ++ before ≡ reverse (map f zs) → reverse before ++ reverse later ≡ map f zs
behind_is f later before zs is = sym (reverse-append later before) ∙ ap reverse is ∙ reverse-reverse (map f zs)

pub in_reverse : {A : Type 0} (x : A) (xs : List A) → In x xs → In x (reverse xs)
in_reverse x [] is = absurd is
in_reverse x (y ∷ xs) is =
    subst (λ (l : List _). In x l) (sym (reverse-append (y ∷ []) xs))
    (elim is [ inl one ↦ in_back x (reverse xs) (y ∷ []) (inl one) | inr rest ↦ in_front x (reverse xs) (y ∷ []) (in_reverse x xs rest) ])

pub reverse_in : {A : Type 0} (x : A) (xs : List A) → In x (reverse xs) → In x xs
reverse_in x xs is = subst (λ (l : List _). In x l) (reverse-reverse xs) (in_reverse x (reverse xs) is)

-- an element splits its list
pub in_splits : {A : Type 0} (x : A) (xs : List A) → In x xs → (first : List A) × (rest : List A) × (xs ≡ first ++ x ∷ rest)
in_splits x [] is = absurd is
in_splits x (y ∷ xs) is = elim is [
  | inl one ↦ ([], xs, ap (λ (z : _). z ∷ xs) (sym one))
  | inr there ↦ let it = in_splits x xs there in (y ∷ it.0, it.1, ap (λ (l : List _). y ∷ l) it.2)
]

-- ---- reads

-- the bytes of the first vote of a memory node
abbrev pub vote_reads : ℕ → List Granted → List (List ℕ)
vote_reads m [] = []
vote_reads m (g ∷ grants) = if g.memory == m then g.reads else vote_reads m grants

abbrev head_of : List (List ℕ) → List ℕ
head_of [] = []
head_of (bytes ∷ rest) = bytes

first_is : (g : Granted) → first_read g ≡ head_of g.reads
first_is g = go g.reads refl
  where
    go : (l : List (List ℕ)) → g.reads ≡ l → first_read g ≡ head_of l
    go [] is = cc
    go (bytes ∷ rest) is = cc

next_is_first : (m : ℕ) (grants : List Granted) → next_read m grants ≡ head_of (vote_reads m grants)
next_is_first m [] = refl
next_is_first m (g ∷ grants) = go (g.memory == m) (next_is_first m grants)
  where
    go : (b : Bool) → next_read m grants ≡ head_of (vote_reads m grants)
        → (if b then first_read g else next_read m grants) ≡ head_of (if b then g.reads else vote_reads m grants)
    go true rest = first_is g
    go false rest = rest

less_here : (m : ℕ) (grants : List Granted) → vote_reads m (less_read m grants) ≡ drop 1 (vote_reads m grants)
less_here m [] = refl
less_here m (g ∷ grants) = go (g.memory == m) refl (less_here m grants)
  where
    go : (b : Bool) → (g.memory == m) ≡ b → vote_reads m (less_read m grants) ≡ drop 1 (vote_reads m grants)
        → vote_reads m (if b then without_first g ∷ grants else g ∷ less_read m grants) ≡ drop 1 (if b then g.reads else vote_reads m grants)
    go true is rest = ap (λ (t : Bool). if t then drop 1 g.reads else vote_reads m grants) is
    go false is rest = ap (λ (t : Bool). if t then g.reads else vote_reads m (less_read m grants)) is ∙ rest

less_there : (m k : ℕ) (grants : List Granted) → ¬ (m ≡ k) → vote_reads k (less_read m grants) ≡ vote_reads k grants
less_there m k [] other = refl
less_there m k (g ∷ grants) other = go (g.memory == m) refl (less_there m k grants other)
  where
    go : (b : Bool) → (g.memory == m) ≡ b → vote_reads k (less_read m grants) ≡ vote_reads k grants
        → vote_reads k (if b then without_first g ∷ grants else g ∷ less_read m grants) ≡ (if g.memory == k then g.reads else vote_reads k grants)
    go true is rest =
        let apart : (g.memory == k) ≡ false = ne_eqb g.memory k (λ e. other (sym (eqb-true g.memory m is) ∙ e)) in
        ap (λ (t : Bool). if t then drop 1 g.reads else vote_reads k grants) apart ∙ sym (ap (λ (t : Bool). if t then g.reads else vote_reads k grants) apart)
    go false is rest = ap (λ (l : List (List ℕ)). if g.memory == k then g.reads else l) rest

abbrev pub items_in : List PlacedItem → List Item
items_in items = map (λ (p : PlacedItem). p.item) items

-- each read item takes the next read of its memory node's vote
pub gathered_are : (bytes : Flat) (place : ℕ) (items : List Item) (grants : List Granted) → ((m : ℕ) → vote_reads m grants ≡ reads (items_in (placed_from place items m)) bytes)
    → gathered grants items ≡ reads items bytes
gathered_are bytes place [] grants each = refl
gathered_are bytes place (Compare memory at wanted ∷ items) grants each =
    gathered_are bytes (place + 1) items grants (λ m. each m ∙ go (memory == m) m)
  where
    go : (b : Bool) (m : ℕ)
        → reads (items_in (cond b (record { place = place; item = Compare memory at wanted } ∷ placed_from (place + 1) items m) (placed_from (place + 1) items m))) bytes
        ≡ reads (items_in (placed_from (place + 1) items m)) bytes
    go true m = refl
    go false m = refl
gathered_are bytes place (Write memory at new ∷ items) grants each =
    gathered_are bytes (place + 1) items grants (λ m. each m ∙ go (memory == m) m)
  where
    go : (b : Bool) (m : ℕ)
        → reads (items_in (cond b (record { place = place; item = Write memory at new } ∷ placed_from (place + 1) items m) (placed_from (place + 1) items m))) bytes
        ≡ reads (items_in (placed_from (place + 1) items m)) bytes
    go true m = refl
    go false m = refl
gathered_are bytes place (Read memory at n ∷ items) grants each =
    ap (λ (x : List ℕ). x ∷ gathered (less_read memory grants) items) (next_is_first memory grants ∙ ap head_of here)
    ∙ ap (λ (l : List (List ℕ)). bytes_at (held_by bytes memory) at n ∷ l) (gathered_are bytes (place + 1) items (less_read memory grants) left)
  where
    here : vote_reads memory grants ≡ bytes_at (held_by bytes memory) at n ∷ reads (items_in (placed_from (place + 1) items memory)) bytes
    here =
        each memory
        ∙ ap (λ (b : Bool). reads (items_in (cond b (record { place = place; item = Read memory at n } ∷ placed_from (place + 1) items memory) (placed_from (place + 1) items memory))) bytes)
        (eq-eqb memory memory refl)

    left : (m : ℕ) → vote_reads m (less_read memory grants) ≡ reads (items_in (placed_from (place + 1) items m)) bytes
    left m = elim (cases_eq memory m) [
      | inl same ↦
          subst (λ (k : ℕ). vote_reads k (less_read memory grants) ≡ reads (items_in (placed_from (place + 1) items k)) bytes) same
          (less_here memory grants
          ∙ ap (drop 1) (each memory ∙ ap (λ (b : Bool). reads (items_in (cond b (record { place = place; item = Read memory at n } ∷ placed_from (place + 1) items memory) (placed_from (place + 1) items memory))) bytes) (eq-eqb memory memory refl)))
      | inr other ↦
          less_there memory m grants other ∙ each m
          ∙ ap (λ (b : Bool). reads (items_in (cond b (record { place = place; item = Read memory at n } ∷ placed_from (place + 1) items m) (placed_from (place + 1) items m))) bytes) (ne_eqb memory m other)
    ]

-- the votes have these reads, or there is none of the memory node
pub vote_is : (R : ℕ → List (List ℕ)) (m : ℕ) (grants : List Granted) → ((g : Granted) → In g grants → g.reads ≡ R g.memory)
    → (vote_reads m grants ≡ R m) ⊎ ((vote_reads m grants ≡ []) × ((g : Granted) → In g grants → ¬ (g.memory ≡ m)))
vote_is R m [] each = inr (refl, λ g is. absurd is)
vote_is R m (g ∷ grants) each = go (g.memory == m) refl (vote_is R m grants (λ h is. each h (inr is)))
  where
    go : (b : Bool) → (g.memory == m) ≡ b → (vote_reads m grants ≡ R m) ⊎ ((vote_reads m grants ≡ []) × ((h : Granted) → In h grants → ¬ (h.memory ≡ m)))
        → ((if b then g.reads else vote_reads m grants) ≡ R m)
        ⊎ (((if b then g.reads else vote_reads m grants) ≡ []) × ((h : Granted) → In h (g ∷ grants) → ¬ (h.memory ≡ m)))
    go true is rest = inl (each g (inl refl) ∙ ap R (eqb-true g.memory m is))
    go false is (inl here) = inl here
    go false is (inr none) = inr (
      none.0,
      λ h there. elim there [
        | inl one ↦ λ e. eqb-false g.memory m is (ap (λ (x : Granted). x.memory) (sym one) ∙ e)
        | inr rest ↦ none.1 h rest
      ],
    )

-- ---- what lies within

pub within_items : (flat : Flat) (begun : List Begun) → ((b : Begun) → In b begun → AllByRecursion (IsWithin flat) b.items) → (id : TxId) → AllByRecursion (IsWithin flat) (items_of begun id)
within_items flat [] all id = tt
within_items flat (b ∷ begun) all id = go (is_same b.id id) (within_items flat begun (λ d is. all d (inr is)) id)
  where
    go : (t : Bool) → AllByRecursion (IsWithin flat) (items_of begun id) → AllByRecursion (IsWithin flat) (if t then b.items else items_of begun id)
    go true rest = all b (inl refl)
    go false rest = rest

pub within_after : (begun : List Begun) (flat : Flat) (ids : List TxId) → ((id : TxId) → AllByRecursion (IsWithin flat) (items_of begun id)) → (id : TxId)
    → AllByRecursion (IsWithin (flat_after begun flat ids)) (items_of begun id)
within_after begun flat [] all id = all id
within_after begun flat (x ∷ ids) all id =
    within_after begun (after (items_of begun x) flat) ids (λ t. still_within (items_of begun x) flat (all x) (items_of begun t) (all t)) id

-- a memory node of no item has none
pub no_items : (place m : ℕ) (items : List Item) → ((i : Item) → In i items → ¬ (memory_of i ≡ m)) → placed_from place items m ≡ []
no_items place m [] none = refl
no_items place m (i ∷ items) none =
    ap (λ (b : Bool). cond b (record { place = place; item = i } ∷ placed_from (place + 1) items m) (placed_from (place + 1) items m)) (ne_eqb (memory_of i) m (none i (inl refl)))
    ∙ no_items (place + 1) m items (λ x is. none x (inr is))
