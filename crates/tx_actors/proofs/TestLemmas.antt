-- Tests on lists, and their elements.
use Rattle.std.proofs.Common.{◌≡◌, ℕ, zero, suc, nat_lt, ◌==◌, Bool, true, false, cond, ◌||◌, List, [], ◌∷◌, map, filter, take, drop, Option, Some, ◌⊎◌, inl, inr, refl, sym, ap, ◌∙◌, subst}
use Rattle.std.proofs.lemmas.Bool.{eqb-true, eq-eqb, or_cases, and_parts}
use Rattle.tx_rules.specs.Mini.{In}
use Rattle.tx_rules.specs.Lists.{is_in, all_in, overlap}
use Rattle.tx_actors.specs.Node.{sorted_in, sorted}

pub or_left : (x y : Bool) → x ≡ true → (x || y) ≡ true
or_left x y is = ap (λ b. b || y) is

pub or_right : (x y : Bool) → y ≡ true → (x || y) ≡ true
or_right true y is = refl
or_right false y is = is

pub or_none : (x y : Bool) → (x || y) ≡ false → (x ≡ false) × (y ≡ false)
or_none true y is = absurd cc
or_none false y is = (refl, is)

pub some_is : {A : Type 0} (x y : A) → ◌≡◌ {A = Option A} (Some x) (Some y) → x ≡ y
some_is x y e = cc

-- a test cannot both hold and fail
pub not_two : (b : Bool) → b ≡ true → b ≡ false → ⊥
not_two b a c = let e : true ≡ false = sym a ∙ c in cc

pub is_in-In : (n : ℕ) (xs : List ℕ) → is_in n xs ≡ true → In n xs
is_in-In n [] h = absurd cc
is_in-In n (x ∷ xs) h = elim (or_cases (n == x) (is_in n xs) h) [ inl e ↦ inl (eqb-true n x e) | inr rest ↦ inr (is_in-In n xs rest) ]

pub In-is_in : (n : ℕ) (xs : List ℕ) → In n xs → is_in n xs ≡ true
In-is_in n [] h = absurd h
In-is_in n (x ∷ xs) h = elim h [ inl e ↦ or_left (n == x) (is_in n xs) (eq-eqb n x e) | inr rest ↦ or_right (n == x) (is_in n xs) (In-is_in n xs rest) ]

pub all_in-In : (xs ys : List ℕ) → all_in xs ys ≡ true → (n : ℕ) → In n xs → In n ys
all_in-In [] ys h n is = absurd is
all_in-In (x ∷ xs) ys h n is =
    let both = and_parts (is_in x ys) (all_in xs ys) h in
    elim is [ inl e ↦ subst (λ k. In k ys) (sym e) (is_in-In x ys both.0) | inr rest ↦ all_in-In xs ys both.1 n rest ]

-- lists that do not overlap have no common element
pub overlap-none : (xs ys : List ℕ) → overlap xs ys ≡ false → (n : ℕ) → In n xs → In n ys → ⊥
overlap-none [] ys h n is other = is
overlap-none (x ∷ xs) ys h n is other =
    let both = or_none (is_in x ys) (overlap xs ys) h in
    elim is [
      | inl e ↦ not_two (is_in x ys) (In-is_in x ys (subst (λ k. In k ys) e other)) both.0
      | inr rest ↦ overlap-none xs ys both.1 n rest other
    ]

-- lists that overlap have a common element
pub overlap-some : (xs ys : List ℕ) → overlap xs ys ≡ true → (n : ℕ) × In n xs × In n ys
overlap-some [] ys h = absurd cc
overlap-some (x ∷ xs) ys h = elim (or_cases (is_in x ys) (overlap xs ys) h) [
  | inl here ↦ (x, inl refl, is_in-In x ys here)
  | inr rest ↦ let it = overlap-some xs ys rest in (it.0, inr it.1, it.2)
]

-- ---- elements of changed lists

module _ {A : Type 0} where
  pub In-filter : (test : A → Bool) (x : A) (xs : List A) → In x (filter test xs) → In x xs × (test x ≡ true)
  In-filter test x [] h = absurd h
  In-filter test x (y ∷ xs) h = go (test y) refl (In-filter test x xs) h
    where
      go : (b : Bool) → test y ≡ b → (In x (filter test xs) → In x xs × (test x ≡ true)) → In x (cond b (y ∷ filter test xs) (filter test xs))
          → ((x ≡ y) ⊎ In x xs) × (test x ≡ true)
      go true is rest k = elim k [
        | inl e ↦ (inl e, ap test e ∙ is)
        | inr h ↦ (inr (rest h).0, (rest h).1)
      ]
      go false is rest k = (inr (rest k).0, (rest k).1)

  pub In-drop : (n : ℕ) (x : A) (xs : List A) → In x (drop n xs) → In x xs
  In-drop zero x xs h = h
  In-drop (suc n) x [] h = h
  In-drop (suc n) x (y ∷ xs) h = inr (In-drop n x xs h)

  pub In-take : (n : ℕ) (x : A) (xs : List A) → In x (take n xs) → In x xs
  In-take zero x xs h = absurd h
  In-take (suc n) x [] h = h
  In-take (suc n) x (y ∷ xs) h = elim h [ inl e ↦ inl e | inr rest ↦ inr (In-take n x xs rest) ]

-- an element of a changed list is an element that was changed
pub In-map : {A B : Type 0} (f : A → B) (y : B) (xs : List A) → In y (map f xs) → (x : A) × In x xs × (y ≡ f x)
In-map f y [] h = absurd h
In-map f y (x ∷ xs) h = elim h [
  | inl e ↦ (x, inl refl, e)
  | inr rest ↦ let it = In-map f y xs rest in (it.0, inr it.1, it.2)
]

module _ {A : Type 0} where
  pub filter-In : (test : A → Bool) (x : A) (xs : List A) → In x xs → test x ≡ true → In x (filter test xs)
  filter-In test x [] h is = absurd h
  filter-In test x (y ∷ xs) h is = go (test y) refl (λ rest. filter-In test x xs rest is) h
    where
      go : (b : Bool) → test y ≡ b → (In x xs → In x (filter test xs)) → (x ≡ y) ⊎ In x xs → In x (cond b (y ∷ filter test xs) (filter test xs))
      go true same rest k = elim k [ inl e ↦ inl e | inr later ↦ inr (rest later) ]
      go false same rest k = elim k [ inl e ↦ absurd (not_two (test y) (sym (ap test e) ∙ is) same) | inr later ↦ rest later ]

-- what is changed is an element of the changed list
pub map-In : {A B : Type 0} (f : A → B) (x : A) (xs : List A) → In x xs → In (f x) (map f xs)
map-In f x [] h = absurd h
map-In f x (y ∷ xs) h = elim h [ inl e ↦ inl (ap f e) | inr rest ↦ inr (map-In f x xs rest) ]

pub In-sorted_in : (x n : ℕ) (xs : List ℕ) → In x (sorted_in n xs) → (x ≡ n) ⊎ In x xs
In-sorted_in x n [] h = h
In-sorted_in x n (y ∷ xs) h = go (nat_lt y n) (n == y) (In-sorted_in x n xs) h
  where
    go : (b d : Bool) → (In x (sorted_in n xs) → (x ≡ n) ⊎ In x xs) → In x (cond b (y ∷ sorted_in n xs) (cond d (y ∷ xs) (n ∷ y ∷ xs))) → (x ≡ n) ⊎ ((x ≡ y) ⊎ In x xs)
    go true d rest k = elim k [
      | inl e ↦ inr (inl e)
      | inr h ↦ elim (rest h) [ inl e ↦ inl e | inr i ↦ inr (inr i) ]
    ]
    go false true rest k = inr k
    go false false rest k = k

pub sorted_in-In : (x n : ℕ) (xs : List ℕ) → (x ≡ n) ⊎ In x xs → In x (sorted_in n xs)
sorted_in-In x n [] h = h
sorted_in-In x n (y ∷ xs) h = go (nat_lt y n) (n == y) refl (sorted_in-In x n xs) h
  where
    go : (b d : Bool) → (n == y) ≡ d → ((x ≡ n) ⊎ In x xs → In x (sorted_in n xs)) → (x ≡ n) ⊎ ((x ≡ y) ⊎ In x xs) → In x (cond b (y ∷ sorted_in n xs) (cond d (y ∷ xs) (n ∷ y ∷ xs)))
    go true d is rest k = elim k [
      | inl e ↦ inr (rest (inl e))
      | inr (inl e) ↦ inl e
      | inr (inr h) ↦ inr (rest (inr h))
    ]
    go false true is rest k = elim k [ inl e ↦ inl (e ∙ eqb-true n y is) | inr h ↦ h ]
    go false false is rest k = k

pub sorted-In : (x : ℕ) (xs : List ℕ) → In x xs → In x (sorted xs)
sorted-In x [] h = h
sorted-In x (y ∷ xs) h = sorted_in-In x y (sorted xs) (elim h [ inl e ↦ inl e | inr rest ↦ inr (sorted-In x xs rest) ])

pub In-sorted : (x : ℕ) (xs : List ℕ) → In x (sorted xs) → In x xs
In-sorted x [] h = h
In-sorted x (y ∷ xs) h = elim (In-sorted_in x y (sorted xs) h) [ inl e ↦ inl e | inr rest ↦ inr (In-sorted x xs rest) ]
