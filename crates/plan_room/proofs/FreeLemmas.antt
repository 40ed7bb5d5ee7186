-- The free blocks of a map.
use Rattle.std.proofs.Common.{◌≡◌, ◌≢◌, ℕ, zero, suc, ◌+◌, ◌<◌, inl, inr, true, false, cond, Bool, List, [], ◌∷◌, ◌++◌, length, take, None, refl, sym, ap, ◌∙◌, arith, length-append}
use Rattle.std.specs.Prelude.{filter, not, get_or, is_some}
use Rattle.std.specs.List.{AllByRecursion}
use Rattle.std.proofs.lemmas.Bool.{cases_lt}
use Rattle.std.proofs.lemmas.List.{append-nil}
use Rattle.std.proofs.lemmas.List.Elements.{filter-append}
use Rattle.fs_bitmap.specs.Bits.{IsLowestFree, IsNoneFree, free_below, is_used}
use Rattle.fs_rules.specs.Lists.{below}
use Rattle.node_cache.specs.declared.held.Held.{Held}
use Rattle.plan_rules.specs.Told.{block_bits, free_on}
use Rattle.plan_room.specs.Picked.{free_blocks, free_of}

-- ---- words on lists

pub all_weaker : {X : Type 0} (P Q : X → Type 0) (xs : List X) → ((x : X) → P x → Q x) → AllByRecursion P xs → AllByRecursion Q xs
all_weaker P Q [] go all = tt
all_weaker P Q (x ∷ xs) go all = (go x all.0, all_weaker P Q xs go all.1)

pub all_joined : {X : Type 0} (P : X → Type 0) (xs ys : List X) → AllByRecursion P xs → AllByRecursion P ys → AllByRecursion P (xs ++ ys)
all_joined P [] ys first rest = rest
all_joined P (x ∷ xs) ys first rest = (first.0, all_joined P xs ys first.1 rest)

pub all_taken : {X : Type 0} (P : X → Type 0) (n : ℕ) (xs : List X) → AllByRecursion P xs → AllByRecursion P (take n xs)
all_taken P zero xs all = tt
all_taken P (suc n) [] all = tt
all_taken P (suc n) (x ∷ xs) all = (all.0, all_taken P n xs all.1)

chosen_one : {X : Type 0} (P : X → Type 0) (x : X) (xs : List X) (b : Bool) → P x → AllByRecursion P xs → AllByRecursion P (cond b (x ∷ xs) xs)
chosen_one P x xs true one rest = (one, rest)
chosen_one P x xs false one rest = rest

all_chosen : {X : Type 0} (P : X → Type 0) (p : X → Bool) (xs : List X) → AllByRecursion P xs → AllByRecursion P (filter p xs)
all_chosen P p [] all = tt
all_chosen P p (x ∷ xs) all = chosen_one P x (filter p xs) (p x) all.0 (all_chosen P p xs all.1)

one_passed : {X : Type 0} (p : X → Bool) (x : X) (xs : List X) (b : Bool) → p x ≡ b → AllByRecursion (λ y. p y ≡ true) xs → AllByRecursion (λ y. p y ≡ true) (cond b (x ∷ xs) xs)
one_passed p x xs true is rest = (is, rest)
one_passed p x xs false is rest = rest

passed : {X : Type 0} (p : X → Bool) (xs : List X) → AllByRecursion (λ x. p x ≡ true) (filter p xs)
passed p [] = tt
passed p (x ∷ xs) = one_passed p x (filter p xs) (p x) refl (passed p xs)

all_below : (n : ℕ) → AllByRecursion (λ k. k < n) (below n)
unfolding below
all_below zero = tt
all_below (suc n) =
    all_joined (λ k. k < suc n) (below n) (n ∷ []) (all_weaker (λ k. k < n) (λ k. k < suc n) (below n) (λ k less. omega (arith, less)) (all_below n)) (omega arith, tt)

-- ---- the lowest first

-- each is lower than those behind it
unfoldable pub AreAscending : List ℕ → Type 0
AreAscending [] = Unit {0}
AreAscending (b ∷ bs) = AllByRecursion (λ c. b < c) bs × AreAscending bs

ascending_last : (bs : List ℕ) (n : ℕ) → AreAscending bs → AllByRecursion (λ c. c < n) bs → AreAscending (bs ++ n ∷ [])
unfolding AreAscending
ascending_last [] n order less = (tt, tt)
ascending_last (b ∷ bs) n order less = (all_joined (λ c. b < c) bs (n ∷ []) order.0 (less.0, tt), ascending_last bs n order.1 less.1)

ascending_below : (n : ℕ) → AreAscending (below n)
unfolding below AreAscending
ascending_below zero = tt
ascending_below (suc n) = ascending_last (below n) n (ascending_below n) (all_below n)

one_ascending : (b : ℕ) (bs : List ℕ) (c : Bool) → AllByRecursion (λ k. b < k) bs → AreAscending bs → AreAscending (cond c (b ∷ bs) bs)
unfolding AreAscending
one_ascending b bs true less order = (less, order)
one_ascending b bs false less order = order

ascending_chosen : (p : ℕ → Bool) (bs : List ℕ) → AreAscending bs → AreAscending (filter p bs)
unfolding AreAscending
ascending_chosen p [] order = tt
ascending_chosen p (b ∷ bs) order = one_ascending b (filter p bs) (p b) (all_chosen (λ k. b < k) p bs order.0) (ascending_chosen p bs order.1)

pub ascending_taken : (n : ℕ) (bs : List ℕ) → AreAscending bs → AreAscending (take n bs)
unfolding AreAscending
ascending_taken zero bs order = tt
ascending_taken (suc n) [] order = tt
ascending_taken (suc n) (b ∷ bs) order = (all_taken (λ c. b < c) n bs order.0, ascending_taken n bs order.1)

-- ---- one that is marked

module _ (p : ℕ → Bool) where
  last_not : (n : ℕ) → p n ≡ false → filter p (below (suc n)) ≡ filter p (below n)
  unfolding below
  last_not n is = filter-append p (below n) (n ∷ []) ∙ ap (λ b. filter p (below n) ++ cond b (n ∷ []) []) is ∙ append-nil (filter p (below n))

  last_too : (n : ℕ) → p n ≡ true → filter p (below (suc n)) ≡ filter p (below n) ++ n ∷ []
  unfolding below
  last_too n is = filter-append p (below n) (n ∷ []) ∙ ap (λ b. filter p (below n) ++ cond b (n ∷ []) []) is

  none_chosen : (n : ℕ) → ((k : ℕ) → k < n → p k ≡ false) → filter p (below n) ≡ []
  unfolding below
  none_chosen zero none = refl
  none_chosen (suc n) none = last_not n (none n (omega arith)) ∙ none_chosen n (λ k less. none k (omega (arith, less)))

one_less : (p q : ℕ → Bool) (b n : ℕ) → b < n → p b ≡ true → ((k : ℕ) → k < b → p k ≡ false) → q b ≡ false → ((k : ℕ) → k ≢ b → q k ≡ p k)
    → filter p (below n) ≡ b ∷ filter q (below n)
one_less p q b zero less first before now others = absurd (omega (arith, less))
one_less p q b (suc n) less first before now others = elim (cases_lt b n) [
  | inl inside ↦ (
      let same : q n ≡ p n = others n (λ is. (omega (arith, inside, is))) in
      let rest = one_less p q b n inside first before now others in
      by_last (p n) refl same rest)
  | inr end ↦ (
      let here : b ≡ n = omega (arith, less, end) in
      let none : filter q (below n) ≡ [] = none_chosen q n (λ k under. others k (λ is. (omega (arith, under, is, here))) ∙ before k (omega (arith, under, here))) in
      last_too p n (ap p (sym here) ∙ first)
      ∙ ap (λ ks. ks ++ n ∷ []) (none_chosen p n (λ k under. before k (omega (arith, under, here))))
      ∙ ap (λ k. k ∷ []) (sym here)
      ∙ ap (λ ks. b ∷ ks) (sym (last_not q n (ap q (sym here) ∙ now) ∙ none)))
]
  where
    by_last : (c : Bool) → p n ≡ c → q n ≡ p n → filter p (below n) ≡ b ∷ filter q (below n) → filter p (below (suc n)) ≡ b ∷ filter q (below (suc n))
    by_last true is same rest = last_too p n is ∙ ap (λ ks. ks ++ n ∷ []) rest ∙ ap (λ ks. b ∷ ks) (sym (last_too q n (same ∙ is)))
    by_last false is same rest = last_not p n is ∙ rest ∙ ap (λ ks. b ∷ ks) (sym (last_not q n (same ∙ is)))

-- a map in which the lowest free block is marked has the others free
pub lowest_first : (old new : List ℕ) (blocks b : ℕ) → IsLowestFree old blocks b → is_used new b ≡ true → ((k : ℕ) → k ≢ b → is_used new k ≡ is_used old k)
    → free_blocks old blocks ≡ b ∷ free_blocks new blocks
lowest_first old new blocks b lowest marked others =
    one_less (λ k. not (is_used old k)) (λ k. not (is_used new k)) b blocks lowest.within (ap not lowest.free) (λ k less. ap not (lowest.before k less)) (ap not marked)
    (λ k other. ap not (others k other))

pub none_free : (bits : List ℕ) (blocks : ℕ) → IsNoneFree bits blocks → free_blocks bits blocks ≡ []
none_free bits blocks none = none_chosen (λ k. not (is_used bits k)) blocks (λ k less. ap not (none k less))

-- ---- how many there are

counted : (bits : List ℕ) (n : ℕ) → length (free_blocks bits n) ≡ free_below bits n
unfolding below free_below
counted bits zero = refl
counted bits (suc n) =
    ap length (filter-append (λ k. not (is_used bits k)) (below n) (n ∷ []))
    ∙ length-append (free_blocks bits n) (filter (λ k. not (is_used bits k)) (n ∷ []))
    ∙ ap (λ c. c + length (filter (λ k. not (is_used bits k)) (n ∷ []))) (counted bits n)
    ∙ ap (λ c. free_below bits n + c) (one (is_used bits n))
  where
    one : (b : Bool) → length (cond (not b) (n ∷ []) []) ≡ cond b 0 1
    one true = refl
    one false = refl

pub free_counted : (held : Held) (m : ℕ) → length (free_of held m) ≡ free_on held m
free_counted held m = go (is_some (get_or held.maps m None))
  where
    go : (b : Bool) → length (cond b (free_blocks (block_bits held m) held.geometry.blocks) []) ≡ cond b (free_below (block_bits held m) held.geometry.blocks) 0
    go true = counted (block_bits held m) held.geometry.blocks
    go false = refl

-- ---- what holds of each

-- a block of a memory node whose map is held, by which it is free
pub record IsFreeOn (held : Held) (m b : ℕ) : Type 0 where
  pub within : b < held.geometry.blocks
  pub held_is : is_some (get_or held.maps m None) ≡ true
  pub free : is_used (block_bits held m) b ≡ false

free_by : (held : Held) (m : ℕ) (bs : List ℕ) → is_some (get_or held.maps m None) ≡ true → AllByRecursion (λ b. b < held.geometry.blocks) bs
    → AllByRecursion (λ b. not (is_used (block_bits held m) b) ≡ true) bs → AllByRecursion (IsFreeOn held m) bs
free_by held m [] there less free = tt
free_by held m (b ∷ bs) there less free =
    (record { within = less.0; held_is = there; free = unmarked (is_used (block_bits held m) b) free.0 }, free_by held m bs there less.1 free.1)
  where
    unmarked : (c : Bool) → not c ≡ true → c ≡ false
    unmarked true is = absurd cc
    unmarked false is = refl

pub each_free : (held : Held) (m : ℕ) → AllByRecursion (IsFreeOn held m) (free_of held m)
each_free held m = go (is_some (get_or held.maps m None)) refl
  where
    test : ℕ → Bool
    test b = not (is_used (block_bits held m) b)

    go : (c : Bool) → is_some (get_or held.maps m None) ≡ c → AllByRecursion (IsFreeOn held m) (cond c (free_blocks (block_bits held m) held.geometry.blocks) [])
    go true is =
        free_by held m (free_blocks (block_bits held m) held.geometry.blocks) is
        (all_chosen (λ b. b < held.geometry.blocks) test (below held.geometry.blocks) (all_below held.geometry.blocks))
        (passed test (below held.geometry.blocks))
    go false is = tt

ascending_where : (c : Bool) (bs : List ℕ) → AreAscending bs → AreAscending (cond c bs [])
unfolding AreAscending
ascending_where true bs order = order
ascending_where false bs order = tt

pub free_ascending : (held : Held) (m : ℕ) → AreAscending (free_of held m)
free_ascending held m =
    ascending_where (is_some (get_or held.maps m None)) (free_blocks (block_bits held m) held.geometry.blocks)
    (ascending_chosen (λ b. not (is_used (block_bits held m) b)) (below held.geometry.blocks) (ascending_below held.geometry.blocks))
