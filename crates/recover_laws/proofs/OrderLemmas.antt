-- The machine's list of work in ascending order.
use Rattle.std.proofs.Common.{◌≡◌, ◌≤◌, ℕ, zero, suc, ◌==◌, ◌||◌, nat_lt, Bool, true, false, cond, List, [], ◌∷◌, ◌++◌, map, filter, length, inl, inr, refl, sym, ap, ◌∙◌, arith}
use Rattle.std.specs.List.{AllByRecursion}
use Rattle.std.proofs.lemmas.Bool.{ltb-true, lt-ltb, eq-eqb, false_from_ne_true}
use Rattle.tx_rules.specs.Lists.{is_in}
use Rattle.tx_rules.specs.Mini.{In}
use Rattle.tx_actors.specs.Manager.{Work, placed_in, ascending}

differ : {C : Type 0} {b : Bool} → b ≡ true → b ≡ false → C
differ p q = let e : true ≡ false = sym p ∙ q in absurd cc

-- ---- what is changed and keeps its identifier

abbrev pub Keeps : (Work → Work) → Type 0
Keeps f = (x : Work) → (f x).id ≡ x.id

placed_map : (f : Work → Work) → Keeps f → (x : Work) (ys : List Work) → map f (placed_in x ys) ≡ placed_in (f x) (map f ys)
placed_map f keeps x [] = refl
placed_map f keeps x (y ∷ ys) =
    go (nat_lt y.id x.id) (placed_map f keeps x ys)
    ∙ ap (λ b. cond b (f y ∷ placed_in (f x) (map f ys)) (f x ∷ f y ∷ map f ys)) (sym (ap (λ n. nat_lt n (f x).id) (keeps y) ∙ ap (nat_lt y.id) (keeps x)))
  where
    go : (b : Bool) → map f (placed_in x ys) ≡ placed_in (f x) (map f ys)
        → map f (cond b (y ∷ placed_in x ys) (x ∷ y ∷ ys)) ≡ cond b (f y ∷ placed_in (f x) (map f ys)) (f x ∷ f y ∷ map f ys)
    go true rest = ap (λ (zs : List Work). f y ∷ zs) rest
    go false rest = refl

pub ascending_map : (f : Work → Work) → Keeps f → (xs : List Work) → map f (ascending xs) ≡ ascending (map f xs)
ascending_map f keeps [] = refl
ascending_map f keeps (x ∷ xs) = placed_map f keeps x (ascending xs) ∙ ap (placed_in (f x)) (ascending_map f keeps xs)

-- ---- what is left

abbrev pub NotBelow : Work → Work → Type 0
NotBelow x y = nat_lt y.id x.id ≡ false

abbrev pub Sorted : List Work → Type 0
Sorted [] = Unit {0}
Sorted (x ∷ xs) = AllByRecursion (NotBelow x) xs × Sorted xs

all_placed : (P : Work → Type 0) (x : Work) (ys : List Work) → P x → AllByRecursion P ys → AllByRecursion P (placed_in x ys)
all_placed P x [] own all = (own, tt)
all_placed P x (y ∷ ys) own all = go (nat_lt y.id x.id) (all_placed P x ys own all.1)
  where
    go : (b : Bool) → AllByRecursion P (placed_in x ys) → AllByRecursion P (cond b (y ∷ placed_in x ys) (x ∷ y ∷ ys))
    go true rest = (all.0, rest)
    go false rest = (own, all)

not_below : (n m : ℕ) → nat_lt n m ≡ false → m ≤ n
not_below n zero h = omega arith
not_below zero (suc m) h = differ (lt-ltb zero (suc m) (omega arith)) h
not_below (suc n) (suc m) h =
    let below = not_below n m (false_from_ne_true (nat_lt n m) (λ yes. let l = ltb-true n m yes in differ (lt-ltb (suc n) (suc m) (omega (arith, l))) h)) in
    omega (arith, below)

not_below_back : (n m : ℕ) → m ≤ n → nat_lt n m ≡ false
not_below_back n m low = false_from_ne_true (nat_lt n m) (λ yes. let l = ltb-true n m yes in omega (arith, l, low))

further : (x y : Work) (ys : List Work) → NotBelow x y → AllByRecursion (NotBelow y) ys → AllByRecursion (NotBelow x) ys
further x y [] low all = tt
further x y (z ∷ ys) low all =
    let a = not_below y.id x.id low in
    let b = not_below z.id y.id all.0 in
    (not_below_back z.id x.id (omega (arith, a, b)), further x y ys low all.1)

placed_sorted : (x : Work) (ys : List Work) → Sorted ys → Sorted (placed_in x ys)
placed_sorted x [] sorted = (tt, tt)
placed_sorted x (y ∷ ys) sorted = go (nat_lt y.id x.id) refl (placed_sorted x ys sorted.1)
  where
    go : (b : Bool) → nat_lt y.id x.id ≡ b → Sorted (placed_in x ys) → Sorted (cond b (y ∷ placed_in x ys) (x ∷ y ∷ ys))
    go true below rest =
        let l = ltb-true y.id x.id below in
        (all_placed (NotBelow y) x ys (not_below_back x.id y.id (omega (arith, l))) sorted.0, rest)
    go false low rest = ((low, further x y ys low sorted.0), sorted)

pub ascending_sorted : (xs : List Work) → Sorted (ascending xs)
ascending_sorted [] = tt
ascending_sorted (x ∷ xs) = placed_sorted x (ascending xs) (ascending_sorted xs)

front : (x : Work) (ys : List Work) → AllByRecursion (NotBelow x) ys → placed_in x ys ≡ x ∷ ys
front x [] all = refl
front x (y ∷ ys) all = ap (λ b. cond b (y ∷ placed_in x ys) (x ∷ y ∷ ys)) all.0

all_filter : (P : Work → Type 0) (test : Work → Bool) (ys : List Work) → AllByRecursion P ys → AllByRecursion P (filter test ys)
all_filter P test [] all = tt
all_filter P test (y ∷ ys) all = go (test y) (all_filter P test ys all.1)
  where
    go : (b : Bool) → AllByRecursion P (filter test ys) → AllByRecursion P (cond b (y ∷ filter test ys) (filter test ys))
    go true rest = (all.0, rest)
    go false rest = rest

placed_filter : (test : Work → Bool) (x : Work) (ys : List Work) → Sorted ys → filter test (placed_in x ys) ≡ cond (test x) (placed_in x (filter test ys)) (filter test ys)
placed_filter test x [] sorted = refl
placed_filter test x (y ∷ ys) sorted = go (nat_lt y.id x.id) refl (placed_filter test x ys sorted.1)
  where
    F : List Work
    F = filter test ys

    left : Bool → List Work
    left b = cond b (y ∷ F) F

    go : (b : Bool) → nat_lt y.id x.id ≡ b → filter test (placed_in x ys) ≡ cond (test x) (placed_in x F) F
        → filter test (cond b (y ∷ placed_in x ys) (x ∷ y ∷ ys)) ≡ cond (test x) (placed_in x (left (test y))) (left (test y))
    go true below rest = ap (λ (zs : List Work). cond (test y) (y ∷ zs) zs) rest ∙ by (test x) (test y)
      where
        by : (a c : Bool) → cond c (y ∷ cond a (placed_in x F) F) (cond a (placed_in x F) F) ≡ cond a (placed_in x (left c)) (left c)
        by true true = sym (ap (λ b. cond b (y ∷ placed_in x F) (x ∷ y ∷ F)) below)
        by true false = refl
        by false true = refl
        by false false = refl
    go false low rest = by (test x)
      where
        by : (a : Bool) → cond a (x ∷ left (test y)) (left (test y)) ≡ cond a (placed_in x (left (test y))) (left (test y))
        by true = sym (front x (left (test y)) (all_filter (NotBelow x) test (y ∷ ys) (low, further x y ys low sorted.0)))
        by false = refl

pub ascending_filter : (test : Work → Bool) (xs : List Work) → filter test (ascending xs) ≡ ascending (filter test xs)
ascending_filter test [] = refl
ascending_filter test (x ∷ xs) =
    placed_filter test x (ascending xs) (ascending_sorted xs)
    ∙ go (test x) (ascending_filter test xs)
  where
    go : (b : Bool) → filter test (ascending xs) ≡ ascending (filter test xs)
        → cond b (placed_in x (filter test (ascending xs))) (filter test (ascending xs)) ≡ ascending (cond b (x ∷ filter test xs) (filter test xs))
    go true rest = ap (placed_in x) rest
    go false rest = rest

-- ---- one more

swap : (k y : Work) → (k.id ≡ y.id → ⊥) → (ls : List Work) → placed_in y (placed_in k ls) ≡ placed_in k (placed_in y ls)
swap k y other [] = go (nat_lt k.id y.id) (nat_lt y.id k.id) refl refl
  where
    go : (c d : Bool) → nat_lt k.id y.id ≡ c → nat_lt y.id k.id ≡ d → cond c (k ∷ y ∷ []) (y ∷ k ∷ []) ≡ cond d (y ∷ k ∷ []) (k ∷ y ∷ [])
    go true true c d = let p = ltb-true k.id y.id c in let q = ltb-true y.id k.id d in absurd (omega (arith, p, q))
    go true false c d = refl
    go false true c d = refl
    go false false c d =
        let p = not_below k.id y.id c in let q = not_below y.id k.id d in
        absurd (other (omega (arith, p, q)))
swap k y other (l ∷ ls) = go (nat_lt l.id y.id) (nat_lt l.id k.id) (nat_lt k.id y.id) (nat_lt y.id k.id) refl refl refl refl (swap k y other ls)
  where
    at_k : Bool → List Work
    at_k b = cond b (l ∷ placed_in k ls) (k ∷ l ∷ ls)

    at_y : Bool → List Work
    at_y a = cond a (l ∷ placed_in y ls) (y ∷ l ∷ ls)

    go : (a b c d : Bool) → nat_lt l.id y.id ≡ a → nat_lt l.id k.id ≡ b → nat_lt k.id y.id ≡ c → nat_lt y.id k.id ≡ d
        → placed_in y (placed_in k ls) ≡ placed_in k (placed_in y ls) → placed_in y (at_k b) ≡ placed_in k (at_y a)
    go true true c d a b k_y y_k rest =
        ap (λ t. cond t (l ∷ placed_in y (placed_in k ls)) (y ∷ l ∷ placed_in k ls)) a ∙ ap (λ (zs : List Work). l ∷ zs) rest
        ∙ sym (ap (λ t. cond t (l ∷ placed_in k (placed_in y ls)) (k ∷ l ∷ placed_in y ls)) b)
    go false true c d a b k_y y_k rest =
        let low = not_below l.id y.id a in let less = ltb-true l.id k.id b in
        let y_first : nat_lt y.id k.id ≡ true = lt-ltb y.id k.id (omega (arith, low, less)) in
        ap (λ t. cond t (l ∷ placed_in y (placed_in k ls)) (y ∷ l ∷ placed_in k ls)) a
        ∙ sym (ap (λ t. cond t (y ∷ placed_in k (l ∷ ls)) (k ∷ y ∷ l ∷ ls)) y_first ∙ ap (λ t. y ∷ cond t (l ∷ placed_in k ls) (k ∷ l ∷ ls)) b)
    go true false c d a b k_y y_k rest =
        let low = not_below l.id k.id b in let less = ltb-true l.id y.id a in
        let k_first : nat_lt k.id y.id ≡ true = lt-ltb k.id y.id (omega (arith, low, less)) in
        ap (λ t. cond t (k ∷ placed_in y (l ∷ ls)) (y ∷ k ∷ l ∷ ls)) k_first ∙ ap (λ t. k ∷ cond t (l ∷ placed_in y ls) (y ∷ l ∷ ls)) a
        ∙ sym (ap (λ t. cond t (l ∷ placed_in k (placed_in y ls)) (k ∷ l ∷ placed_in y ls)) b)
    go false false true true a b k_y y_k rest = let p = ltb-true k.id y.id k_y in let q = ltb-true y.id k.id y_k in absurd (omega (arith, p, q))
    go false false true false a b k_y y_k rest =
        ap (λ t. cond t (k ∷ placed_in y (l ∷ ls)) (y ∷ k ∷ l ∷ ls)) k_y ∙ ap (λ t. k ∷ cond t (l ∷ placed_in y ls) (y ∷ l ∷ ls)) a
        ∙ sym (ap (λ t. cond t (y ∷ placed_in k (l ∷ ls)) (k ∷ y ∷ l ∷ ls)) y_k)
    go false false false true a b k_y y_k rest =
        ap (λ t. cond t (k ∷ placed_in y (l ∷ ls)) (y ∷ k ∷ l ∷ ls)) k_y
        ∙ sym (ap (λ t. cond t (y ∷ placed_in k (l ∷ ls)) (k ∷ y ∷ l ∷ ls)) y_k ∙ ap (λ t. y ∷ cond t (l ∷ placed_in k ls) (k ∷ l ∷ ls)) b)
    go false false false false a b k_y y_k rest =
        let p = not_below k.id y.id k_y in let q = not_below y.id k.id y_k in
        absurd (other (omega (arith, p, q)))

abbrev pub number_of : Work → ℕ
number_of x = x.id

not_it : (k : Work) (y : Work) (xs : List Work) → is_in k.id (map number_of (y ∷ xs)) ≡ false → k.id ≡ y.id → ⊥
not_it k y xs none same = differ (ap (λ b. b || is_in k.id (map number_of xs)) (eq-eqb k.id y.id same)) none

not_later : (k : Work) (y : Work) (xs : List Work) → is_in k.id (map number_of (y ∷ xs)) ≡ false → is_in k.id (map number_of xs) ≡ false
not_later k y xs none = go (k.id == y.id) none
  where
    go : (b : Bool) → (b || is_in k.id (map number_of xs)) ≡ false → is_in k.id (map number_of xs) ≡ false
    go true h = differ refl h
    go false h = h

pub ascending_more : (k : Work) (xs : List Work) → is_in k.id (map number_of xs) ≡ false → ascending (xs ++ k ∷ []) ≡ placed_in k (ascending xs)
ascending_more k [] none = refl
ascending_more k (y ∷ xs) none = ap (placed_in y) (ascending_more k xs (not_later k y xs none)) ∙ swap k y (not_it k y xs none) (ascending xs)

-- ---- the same are in it

placed_in_is : (t : ℕ) (x : Work) (ys : List Work) → is_in t (map number_of (placed_in x ys)) ≡ ((t == x.id) || is_in t (map number_of ys))
placed_in_is t x [] = refl
placed_in_is t x (y ∷ ys) = go (nat_lt y.id x.id) (placed_in_is t x ys)
  where
    over : (a b c : Bool) → (a || (b || c)) ≡ (b || (a || c))
    over true true c = refl
    over true false c = refl
    over false true c = refl
    over false false c = refl

    go : (b : Bool) → is_in t (map number_of (placed_in x ys)) ≡ ((t == x.id) || is_in t (map number_of ys))
        → is_in t (map number_of (cond b (y ∷ placed_in x ys) (x ∷ y ∷ ys))) ≡ ((t == x.id) || is_in t (map number_of (y ∷ ys)))
    go true rest = ap (λ b. (t == y.id) || b) rest ∙ over (t == y.id) (t == x.id) (is_in t (map number_of ys))
    go false rest = refl

pub is_in_ascending : (t : ℕ) (xs : List Work) → is_in t (map number_of (ascending xs)) ≡ is_in t (map number_of xs)
is_in_ascending t [] = refl
is_in_ascending t (x ∷ xs) = placed_in_is t x (ascending xs) ∙ ap (λ b. (t == x.id) || b) (is_in_ascending t xs)

placed_length : (x : Work) (ys : List Work) → length (placed_in x ys) ≡ suc (length ys)
placed_length x [] = refl
placed_length x (y ∷ ys) = go (nat_lt y.id x.id) (placed_length x ys)
  where
    go : (b : Bool) → length (placed_in x ys) ≡ suc (length ys) → length (cond b (y ∷ placed_in x ys) (x ∷ y ∷ ys)) ≡ suc (length (y ∷ ys))
    go true rest = ap suc rest
    go false rest = refl

pub length_ascending : (xs : List Work) → length (ascending xs) ≡ length xs
length_ascending [] = refl
length_ascending (x ∷ xs) = placed_length x (ascending xs) ∙ ap suc (length_ascending xs)

in_placed : (z x : Work) (ys : List Work) → In z (placed_in x ys) → In z (x ∷ ys)
in_placed z x [] h = h
in_placed z x (y ∷ ys) h = go (nat_lt y.id x.id) (λ k. in_placed z x ys k) h
  where
    go : (b : Bool) → (In z (placed_in x ys) → In z (x ∷ ys)) → In z (cond b (y ∷ placed_in x ys) (x ∷ y ∷ ys)) → In z (x ∷ y ∷ ys)
    go true rest h = elim h [
      | inl here ↦ inr (inl here)
      | inr later ↦ elim (rest later) [ inl it ↦ inl it | inr behind ↦ inr (inr behind) ]
    ]
    go false rest h = h

pub in_ascending : (z : Work) (xs : List Work) → In z (ascending xs) → In z xs
in_ascending z [] h = h
in_ascending z (x ∷ xs) h = elim (in_placed z x (ascending xs) h) [ inl here ↦ inl here | inr later ↦ inr (in_ascending z xs later) ]

-- ---- members

pub in_map : {A B : Type 0} (f : A → B) (x : A) (xs : List A) → In x xs → In (f x) (map f xs)
in_map f x [] h = absurd h
in_map f x (y ∷ xs) h = elim h [ inl here ↦ inl (ap f here) | inr later ↦ inr (in_map f x xs later) ]

pub in_filter : {A : Type 0} (test : A → Bool) (x : A) (xs : List A) → test x ≡ true → In x xs → In x (filter test xs)
in_filter test x [] is h = absurd h
in_filter test x (y ∷ xs) is h = elim h [
  | inl here ↦ first here (test y) (sym (ap test here) ∙ is)
  | inr later ↦ behind (test y) (in_filter test x xs is later)
]
  where
    first : x ≡ y → (b : Bool) → b ≡ true → In x (cond b (y ∷ filter test xs) (filter test xs))
    first here true is_true = inl here
    first here false is_true = differ refl (sym is_true)

    behind : (b : Bool) → In x (filter test xs) → In x (cond b (y ∷ filter test xs) (filter test xs))
    behind true rest = inr rest
    behind false rest = rest
