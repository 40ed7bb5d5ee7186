-- What follows from a reading function that succeeded, and facts on lists of bytes.
use Rattle.std.proofs.Common.{◌≡◌, ℕ, zero, suc, ◌+◌, Bool, true, false, cond, List, [], ◌∷◌, ◌++◌, length, take, drop, Result, Ok, Err, refl, sym, ap, ◌∙◌, arith, inl, inr}
use Rattle.std.proofs.lemmas.Bool.{cases_lt}
use Rattle.std.proofs.lemmas.List.{length-take, get_or-drop, get_or-take, get_or_past, get_or_append_left, get_or-append-add}
use Rattle.sfs_base.specs.Reading.{IsBytes, ◌>>=◌, IsExact}

-- the bytes behind the first n
pub IsBytes-drop : (n : ℕ) (bytes : List ℕ) → IsBytes bytes → IsBytes (drop n bytes)
IsBytes-drop n bytes fits i = rw get_or-drop (fits (n + i))

-- the first n bytes
pub IsBytes-take : (n : ℕ) (bytes : List ℕ) → IsBytes bytes → IsBytes (take n bytes)
IsBytes-take n bytes fits i =
    elim (cases_lt i n) [
      | inl below ↦ rw (get_or-take n bytes i 0 below) (fits i)
      | inr past ↦ rw (get_or_past (take n bytes) i 0 (omega (arith, length-take n bytes))) (omega arith)
    ]

-- the second of two lists
pub IsBytes-behind : (front back : List ℕ) → IsBytes (front ++ back) → IsBytes back
IsBytes-behind front back fits i = rw get_or-append-add at (fits (length front + i))

-- the first of two lists
pub IsBytes-before : (front back : List ℕ) → IsBytes (front ++ back) → IsBytes front
IsBytes-before front back fits i =
    elim (cases_lt i (length front)) [
      | inl below ↦ rw (get_or_append_left front back 0 i below) at (fits i)
      | inr past ↦ rw (get_or_past front i 0 past) (omega arith)
    ]

-- two lists, one behind the other
pub IsBytes-append : (front back : List ℕ) → IsBytes front → IsBytes back → IsBytes (front ++ back)
IsBytes-append [] back first second i = second i
IsBytes-append (x ∷ front) back first second zero = first 0
IsBytes-append (x ∷ front) back first second (suc i) = IsBytes-append front back (λ k. first (suc k)) second i

-- the value of a step that did not fail
pub bind_ok : {X Y E : Type 0} (r : Result X E) (f : X → Result Y E) (y : Y) → (r >>= f) ≡ Ok y → (x : X) × (r ≡ Ok x) × (f x ≡ Ok y)
bind_ok (Ok x) f y e = (x, refl, e)
bind_ok (Err d) f y e = absurd cc

-- a test that did not fail
pub guard_ok : {X E : Type 0} (b : Bool) (d : E) (r : Result X E) (y : X) → cond b (Err d) r ≡ Ok y → (b ≡ false) × (r ≡ Ok y)
guard_ok true d r y e = absurd cc
guard_ok false d r y e = (refl, e)

-- two values of `Ok` that are one
pub ok_is : {X : Type 0} {E : Type 0} (x y : X) → ◌≡◌ {A = Result X E} (Ok x) (Ok y) → x ≡ y
ok_is x y e = cc

-- no spelling begins another: where two of them stand at the front of the same bytes, they are of one value
-- and the same bytes follow
pub IsExact-one : {X E : Type 0} (read : List ℕ → Result (X × List ℕ) E) (Spells : X → List ℕ → Type 0) → IsExact read Spells
    → (x y : X) (item other rest last : List ℕ) → Spells x item → Spells y other → item ++ rest ≡ other ++ last → (x ≡ y) × (rest ≡ last)
IsExact-one read Spells exact x y item other rest last first second same =
    let both : ◌≡◌ {A = Result _ _} (Ok (x, rest)) (Ok (y, last)) = sym (exact.again x item rest first) ∙ ap read same ∙ exact.again y other last second in
    let pair = ok_is (x, rest) (y, last) both in
    (ap (λ (p : _ × List ℕ). p.0) pair, ap (λ (p : _ × List ℕ). p.1) pair)
