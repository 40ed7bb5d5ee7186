-- Lists that are made by a function of the index.
use Rattle.std.proofs.Common.{◌≡◌, ℕ, zero, suc, ◌+◌, ◌<◌, List, [], ◌∷◌, ◌++◌, length, map, get_or, refl, sym, ap, ◌∙◌, arith, append_assoc}
use Rattle.std.specs.List.{range_with_len}
use Rattle.std.proofs.lemmas.List.{append-nil, length-append, length-map, ext_get_or, map-append}
use Rattle.std.proofs.lemmas.List.FromFn.{map-range_with_len_more, get_or-map-range_with_len}
use Rattle.fs_rules.specs.Lists.{below}

pub length_below : (n : ℕ) → length (below n) ≡ n
unfolding below
length_below zero = refl
length_below (suc n) = length-append (below n) (n ∷ []) ∙ (let e : length (below n) ≡ n = length_below n in omega arith)

module _ {X : Type 0} where
  pub length_made : (f : ℕ → X) (n : ℕ) → length (map f (below n)) ≡ n
  length_made f n = length-map (below n) f ∙ length_below n

  pub made_more : (f : ℕ → X) (n : ℕ) → map f (below (suc n)) ≡ map f (below n) ++ f n ∷ []
  unfolding below
  made_more f n = map-append f (below n) (n ∷ [])

  made_range : (f : ℕ → X) (n : ℕ) → map f (below n) ≡ map f (range_with_len 0 n)
  unfolding below
  made_range f zero = refl
  made_range f (suc n) =
      made_more f n ∙ ap (λ xs. xs ++ f n ∷ []) (made_range f n) ∙ sym (map-range_with_len_more f 0 n n (let e : 0 + n ≡ n = omega arith in e))
      ∙ ap (λ k. map f (range_with_len 0 k)) (let e : n + 1 ≡ suc n = omega arith in e)

  pub get_made : (f : ℕ → X) (n i : ℕ) (d : X) → i < n → get_or (map f (below n)) i d ≡ f i
  get_made f n i d lt = ap (λ (xs : List X). get_or xs i d) (made_range f n) ∙ get_or-map-range_with_len f 0 n i i d lt (let e : 0 + i ≡ i = omega arith in e)

  -- two functions that agree make the same list
  pub made_same : (f g : ℕ → X) (n : ℕ) → ((i : ℕ) → i < n → f i ≡ g i) → map f (below n) ≡ map g (below n)
  unfolding below
  made_same f g zero same = refl
  made_same f g (suc n) same =
      made_more f n ∙ ap (λ xs. xs ++ f n ∷ []) (made_same f g n (λ i lt. same i (omega arith)))
      ∙ ap (λ x. map g (below n) ++ x ∷ []) (same n (omega arith)) ∙ sym (made_more g n)

  -- a list is made in two parts
  pub made_split : (f : ℕ → X) (n m : ℕ) → map f (below (n + m)) ≡ map f (below n) ++ map (λ i. f (n + i)) (below m)
  unfolding below
  made_split f n zero = ap (λ k. map f (below k)) (let e : n + 0 ≡ n = omega arith in e) ∙ sym (append-nil (map f (below n)))
  made_split f n (suc m) =
      ap (λ k. map f (below k)) (let e : n + suc m ≡ suc (n + m) = omega arith in e)
      ∙ made_more f (n + m) ∙ ap (λ xs. xs ++ f (n + m) ∷ []) (made_split f n m)
      ∙ append_assoc (map f (below n)) (map (λ i. f (n + i)) (below m)) (f (n + m) ∷ [])
      ∙ ap (λ xs. map f (below n) ++ xs) (sym (made_more (λ i. f (n + i)) m))

  -- a list of the same length with the same elements is the list that was made
  pub made_is : (f : ℕ → X) (n : ℕ) (d : X) (xs : List X) → length xs ≡ n → ((i : ℕ) → i < n → get_or xs i d ≡ f i) → xs ≡ map f (below n)
  made_is f n d xs long same =
      ext_get_or d xs (map f (below n)) (long ∙ sym (length_made f n)) (λ i lt. let l : i < n = omega arith in same i l ∙ sym (get_made f n i d l))
