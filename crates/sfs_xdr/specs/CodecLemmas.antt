-- Reading takes the spellings of a value and nothing else, where it does so of each part.
use Rattle.std.proofs.Common.{◌≡◌, ℕ, zero, suc, ◌^◌, ◌<◌, ◌≤◌, Bool, true, false, cond, leb, List, [], ◌∷◌, ◌++◌, length, Result, Ok, Err, refl, sym, ap, subst, ◌∙◌, append_assoc, arith}
use Rattle.std.proofs.lemmas.Bool.{leb-true, le-leb}
use Rattle.std.proofs.lemmas.List.{append-nil}
use Rattle.sfs_base.specs.Reading.{IsBytes, IsExact, ◌>>=◌}
use Rattle.sfs_base.proofs.ReadingLemmas.{IsBytes-behind, bind_ok, ok_is}
use Rattle.sfs_xdr.specs.Codec.{Reading, plainly, number_item, boolean_item, fixed_item, text_item, both_of, made_of, tested_of, many_of, counted_of, ◌⟫◌, IsNumber, IsBoolean, IsFixed, IsText, Many, IsCounted}
use Rattle.std.specs.List.{flat_map, AllByRecursion}
use Rattle.sfs_xdr.specs.Items.{word, opaque_var}
use Rattle.sfs_xdr.specs.ItemLemmas.{word_exact, boolean_exact, opaque_exact, opaque_max_exact, writers_are_in}

-- ---- single items

-- a value that is read where faults are told apart
plainly_ok : {X E : Type 0} (r : Result X E) (x : X) → ◌≡◌ {A = Result X (Unit {0})} (plainly r) (Ok x) → r ≡ Ok x
unfolding plainly
plainly_ok (Ok y) x e = cc
plainly_ok (Err d) x e = absurd cc

pub plainly_is : {X E : Type 0} (r : Result X E) (x : X) → r ≡ Ok x → ◌≡◌ {A = Result X (Unit {0})} (plainly r) (Ok x)
unfolding plainly
plainly_is (Ok y) x e = cc
plainly_is (Err d) x e = absurd cc

plain_exact : {X E : Type 0} (read : List ℕ → Result (X × List ℕ) E) (Spells : X → List ℕ → Type 0) → IsExact read Spells
    → IsExact (λ bytes. plainly (read bytes)) Spells
plain_exact read Spells exact = record {
  found = λ bytes x rest fits e. exact.found bytes x rest fits (plainly_ok (read bytes) (x, rest) e);
  again = λ x item rest h. plainly_is (read (item ++ rest)) (x, rest) (exact.again x item rest h);
}

pub number_exact : IsExact number_item IsNumber
number_exact = plain_exact _ _ word_exact

pub boolean_item_exact : IsExact boolean_item IsBoolean
boolean_item_exact = plain_exact _ _ boolean_exact

pub fixed_exact : (n : ℕ) → IsExact (fixed_item n) (IsFixed n)
fixed_exact n = plain_exact _ _ (opaque_exact n)

pub text_exact : (max : ℕ) → max < 2 ^ 32 → IsExact (text_item max) (IsText max)
text_exact max small = plain_exact _ _ (opaque_max_exact max small)

-- ---- values of several parts

-- what a value and another behind it were
both_found : {X Y E : Type 0} (first : List ℕ → Result (X × List ℕ) E) (second : List ℕ → Result (Y × List ℕ) E) (A : X → List ℕ → Type 0) (B : Y → List ℕ → Type 0)
    → IsExact first A → IsExact second B → (bytes : List ℕ) (p : X × Y) (rest : List ℕ) → IsBytes bytes → both_of first second bytes ≡ Ok (p, rest)
    → (item : List ℕ) × (A p.0 ⟫ B p.1) item × (bytes ≡ item ++ rest)
both_found {X} {Y} {E} first second A B is-first is-second bytes p rest fits e =
    let s = bind_ok {Y = (X × Y) × List ℕ} {E = E} (first bytes) (λ x. second x.1 >>= λ y. Ok ((x.0, y.0), y.1)) (p, rest) e in
    let f = is-first.found bytes s.0.0 s.0.1 fits s.1 in
    let behind : IsBytes s.0.1 = IsBytes-behind f.0 s.0.1 (λ k. let g = fits k in rw f.2 at g) in
    let t = bind_ok {Y = (X × Y) × List ℕ} {E = E} (second s.0.1) (λ y. Ok ((s.0.0, y.0), y.1)) (p, rest) s.2 in
    let g = is-second.found s.0.1 t.0.0 t.0.1 behind t.1 in
    let pair = ok_is {E = E} ((s.0.0, t.0.0), t.0.1) (p, rest) t.2 in
    let value : (s.0.0, t.0.0) ≡ p = ap (λ (q : (X × Y) × List ℕ). q.0) pair in
    let left : t.0.1 ≡ rest = ap (λ (q : (X × Y) × List ℕ). q.1) pair in (
      f.0 ++ g.0,
      subst (λ (q : X × Y). (A q.0 ⟫ B q.1) (f.0 ++ g.0)) value (record { front = f.0; back = g.0; first = f.1; second = g.1; spelled = refl }),
      f.2 ∙ ap (λ (r : List ℕ). f.0 ++ r) (g.2 ∙ ap (λ (r : List ℕ). g.0 ++ r) left) ∙ sym (append_assoc f.0 g.0 rest),
    )

both_again : {X Y E : Type 0} (first : List ℕ → Result (X × List ℕ) E) (second : List ℕ → Result (Y × List ℕ) E) (A : X → List ℕ → Type 0) (B : Y → List ℕ → Type 0)
    → IsExact first A → IsExact second B → (p : X × Y) (item rest : List ℕ) → (A p.0 ⟫ B p.1) item → both_of first second (item ++ rest) ≡ Ok (p, rest)
both_again {X} {Y} {E} first second A B is-first is-second p item rest h =
    let one : first (item ++ rest) ≡ Ok (p.0, h.back ++ rest) =
    ap first (ap (λ (i : List ℕ). i ++ rest) h.spelled ∙ append_assoc h.front h.back rest) ∙ is-first.again p.0 h.front (h.back ++ rest) h.first in
    let two : second (h.back ++ rest) ≡ Ok (p.1, rest) = is-second.again p.1 h.back rest h.second in
    ap (λ (r : Result (X × List ℕ) E). r >>= λ x. second x.1 >>= λ y. Ok ((x.0, y.0), y.1)) one
    ∙ ap (λ (r : Result (Y × List ℕ) E). r >>= λ y. Ok ((p.0, y.0), y.1)) two

pub both_exact : {X Y E : Type 0} (first : List ℕ → Result (X × List ℕ) E) (second : List ℕ → Result (Y × List ℕ) E) (A : X → List ℕ → Type 0) (B : Y → List ℕ → Type 0)
    → IsExact first A → IsExact second B → IsExact (both_of first second) (λ p. A p.0 ⟫ B p.1)
both_exact first second A B is-first is-second = record {
  found = both_found first second A B is-first is-second;
  again = both_again first second A B is-first is-second;
}

-- a value that is made of another, from which the other is told again
pub made_exact : {X Y : Type 0} (make : X → Y) (parts : Y → X) (read : Reading X) (Spells : X → List ℕ → Type 0) → ((x : X) → parts (make x) ≡ x)
    → ((y : Y) → make (parts y) ≡ y) → IsExact read Spells → IsExact (made_of make read) (λ y. Spells (parts y))
made_exact {X} {Y} make parts read Spells back forth exact = record {
  found = λ bytes y rest fits e.
      let s = bind_ok {Y = Y × List ℕ} (read bytes) (λ x. Ok (make x.0, x.1)) (y, rest) e in
      let pair = ok_is {E = Unit {0}} (make s.0.0, s.0.1) (y, rest) s.2 in
      let value : s.0.0 ≡ parts y = sym (back s.0.0) ∙ ap (λ (q : Y × List ℕ). parts q.0) pair in
      let left : s.0.1 ≡ rest = ap (λ (q : Y × List ℕ). q.1) pair in
      let f = exact.found bytes s.0.0 s.0.1 fits s.1 in
      (f.0, subst (λ (x : X). Spells x f.0) value f.1, f.2 ∙ ap (λ (r : List ℕ). f.0 ++ r) left);
  again = λ y item rest h.
      ap (λ (r : Result (X × List ℕ) (Unit {0})). r >>= λ x. Ok (make x.0, x.1)) (exact.again (parts y) item rest h)
      ∙ ap (λ (z : Y). Ok (z, rest)) (forth y);
}

-- what a test let through
tested_ok : {X : Type 0} (b : Bool) (x y : X) → ◌≡◌ {A = Result X (Unit {0})} (cond b (Ok x) (Err tt)) (Ok y) → (b ≡ true) × (x ≡ y)
tested_ok true x y e = (refl, cc)
tested_ok false x y e = absurd cc

-- a value that passes a test
pub tested_exact : {X : Type 0} (test : X → Bool) (read : Reading X) (Spells : X → List ℕ → Type 0) → IsExact read Spells
    → IsExact (tested_of test read) (λ x item. (test x ≡ true) × Spells x item)
tested_exact {X} test read Spells exact = record {
  found = λ bytes y rest fits e.
      let s = bind_ok {Y = X × List ℕ} (read bytes) (λ x. cond (test x.0) (Ok x) (Err tt)) (y, rest) e in
      let t = tested_ok (test s.0.0) s.0 (y, rest) s.2 in
      let value : s.0.0 ≡ y = ap (λ (q : X × List ℕ). q.0) t.1 in
      let left : s.0.1 ≡ rest = ap (λ (q : X × List ℕ). q.1) t.1 in
      let f = exact.found bytes s.0.0 s.0.1 fits s.1 in
      (f.0, subst (λ (x : X). (test x ≡ true) × Spells x f.0) value (t.0, f.1), f.2 ∙ ap (λ (r : List ℕ). f.0 ++ r) left);
  again = λ y item rest h.
      ap (λ (r : Result (X × List ℕ) (Unit {0})). r >>= λ x. cond (test x.0) (Ok x) (Err tt)) (exact.again y item rest h.1)
      ∙ ap (λ b. cond b (Ok (y, rest)) (Err tt)) h.0;
}

-- ---- lists

-- so many values one behind another
many_found : {X : Type 0} (read : Reading X) (Spells : X → List ℕ → Type 0) → IsExact read Spells → (n : ℕ) (bytes : List ℕ) (xs : List X) (rest : List ℕ)
    → IsBytes bytes → many_of read n bytes ≡ Ok (xs, rest) → (item : List ℕ) × ((length xs ≡ n) × Many Spells xs item) × (bytes ≡ item ++ rest)
unfolding many_of
many_found {X} read Spells exact zero bytes xs rest fits e =
    let pair = ok_is {E = Unit {0}} ([], bytes) (xs, rest) e in
    let value : [] ≡ xs = ap (λ (q : List X × List ℕ). q.0) pair in
    let left : bytes ≡ rest = ap (λ (q : List X × List ℕ). q.1) pair in
    ([], subst (λ (l : List X). (length l ≡ 0) × Many Spells l []) value (refl, refl), left)
many_found {X} read Spells exact (suc n) bytes xs rest fits e =
    let s = bind_ok {Y = List X × List ℕ} (read bytes) (λ x. many_of read n x.1 >>= λ l. Ok (x.0 ∷ l.0, l.1)) (xs, rest) e in
    let f = exact.found bytes s.0.0 s.0.1 fits s.1 in
    let behind : IsBytes s.0.1 = IsBytes-behind f.0 s.0.1 (λ k. let g = fits k in rw f.2 at g) in
    let t = bind_ok {Y = List X × List ℕ} (many_of read n s.0.1) (λ l. Ok (s.0.0 ∷ l.0, l.1)) (xs, rest) s.2 in
    let g = many_found read Spells exact n s.0.1 t.0.0 t.0.1 behind t.1 in
    let pair = ok_is {E = Unit {0}} (s.0.0 ∷ t.0.0, t.0.1) (xs, rest) t.2 in
    let value : s.0.0 ∷ t.0.0 ≡ xs = ap (λ (q : List X × List ℕ). q.0) pair in
    let left : t.0.1 ≡ rest = ap (λ (q : List X × List ℕ). q.1) pair in (
      f.0 ++ g.0,
      subst (λ (l : List X). (length l ≡ suc n) × Many Spells l (f.0 ++ g.0)) value
          (ap suc g.1.0, record { front = f.0; back = g.0; first = f.1; second = g.1.1; spelled = refl }),
      f.2 ∙ ap (λ (r : List ℕ). f.0 ++ r) (g.2 ∙ ap (λ (r : List ℕ). g.0 ++ r) left) ∙ sym (append_assoc f.0 g.0 rest),
    )

many_again : {X : Type 0} (read : Reading X) (Spells : X → List ℕ → Type 0) → IsExact read Spells → (xs : List X) (item rest : List ℕ)
    → Many Spells xs item → many_of read (length xs) (item ++ rest) ≡ Ok (xs, rest)
unfolding many_of
many_again {X} read Spells exact [] item rest h = ap (λ (i : List ℕ). Ok ([], i ++ rest)) h
many_again {X} read Spells exact (x ∷ xs) item rest h =
    let one : read (item ++ rest) ≡ Ok (x, h.back ++ rest) =
    ap read (ap (λ (i : List ℕ). i ++ rest) h.spelled ∙ append_assoc h.front h.back rest) ∙ exact.again x h.front (h.back ++ rest) h.first in
    ap (λ (r : Result (X × List ℕ) (Unit {0})). r >>= λ y. many_of read (length xs) y.1 >>= λ l. Ok (y.0 ∷ l.0, l.1)) one
    ∙ ap (λ (r : Result (List X × List ℕ) (Unit {0})). r >>= λ l. Ok (x ∷ l.0, l.1)) (many_again read Spells exact xs h.back rest h.second)

-- so many values one behind another
pub many_exact : {X : Type 0} (read : Reading X) (Spells : X → List ℕ → Type 0) → IsExact read Spells → (n : ℕ)
    → IsExact (many_of read n) (λ xs item. (length xs ≡ n) × Many Spells xs item)
many_exact read Spells exact n = record {
  found = many_found read Spells exact n;
  again = λ xs item rest h. ap (λ k. many_of read k (item ++ rest)) (sym h.0) ∙ many_again read Spells exact xs item rest h.1;
}

-- what the test of a number let through
counted_ok : {X : Type 0} (b : Bool) (r : Result X (Unit {0})) (y : X) → cond b r (Err tt) ≡ Ok y → (b ≡ true) × (r ≡ Ok y)
counted_ok true r y e = (refl, e)
counted_ok false r y e = absurd cc

-- at most so many values, behind their number
pub counted_exact : {X : Type 0} (max : ℕ) (read : Reading X) (Spells : X → List ℕ → Type 0) → IsExact read Spells
    → IsExact (counted_of max read) (IsCounted max Spells)
unfolding counted_of
counted_exact {X} max read Spells exact = record {
  found = λ bytes xs rest fits e.
      let s = bind_ok {Y = List X × List ℕ} (number_item bytes) (λ n. cond (leb n.0 max) (many_of read n.0 n.1) (Err tt)) (xs, rest) e in
      let f = number_exact.found bytes s.0.0 s.0.1 fits s.1 in
      let behind : IsBytes s.0.1 = IsBytes-behind f.0 s.0.1 (λ k. let g = fits k in rw f.2 at g) in
      let t = counted_ok (leb s.0.0 max) (many_of read s.0.0 s.0.1) (xs, rest) s.2 in
      let g = (many_exact read Spells exact s.0.0).found s.0.1 xs rest behind t.1 in
      let few : length xs ≤ max = subst (λ (k : ℕ). k ≤ max) (sym g.1.0) (leb-true s.0.0 max t.0) in (
        f.0 ++ g.0,
        (few, record { front = f.0; back = g.0; first = subst (λ (k : ℕ). IsNumber k f.0) (sym g.1.0) f.1; second = g.1.1; spelled = refl }),
        f.2 ∙ ap (λ (r : List ℕ). f.0 ++ r) g.2 ∙ sym (append_assoc f.0 g.0 rest),
      );
  again = λ xs item rest h.
      let one : number_item (item ++ rest) ≡ Ok (length xs, h.1.back ++ rest) =
      ap number_item (ap (λ (i : List ℕ). i ++ rest) h.1.spelled ∙ append_assoc h.1.front h.1.back rest) ∙ number_exact.again (length xs) h.1.front (h.1.back ++ rest) h.1.first in
      ap (λ (r : Result (ℕ × List ℕ) (Unit {0})). r >>= λ n. cond (leb n.0 max) (many_of read n.0 n.1) (Err tt)) one
      ∙ ap (λ b. cond b (many_of read (length xs) (h.1.back ++ rest)) (Err tt)) (le-leb (length xs) max h.0)
      ∙ (many_exact read Spells exact (length xs)).again xs h.1.back rest (refl, h.1.second);
}

-- ---- what a writer spells

pub text_written : (max : ℕ) (bytes : List ℕ) → length bytes ≤ max → IsText max bytes (opaque_var bytes)
text_written max bytes few = (few, (writers_are_in bytes).1)

-- values one behind another, each as a writer spells it
many_written : {X : Type 0} (Spells : X → List ℕ → Type 0) (spelling : X → List ℕ) (Typed Fits : X → Type 0) → ((x : X) → Typed x → Fits x → Spells x (spelling x))
    → (xs : List X) → AllByRecursion Typed xs → AllByRecursion Fits xs → Many Spells xs (flat_map spelling xs)
many_written Spells spelling Typed Fits written [] typed fits = refl
many_written Spells spelling Typed Fits written (x ∷ xs) typed fits = record {
  front = spelling x;
  back = flat_map spelling xs;
  first = written x typed.0 fits.0;
  second = many_written Spells spelling Typed Fits written xs typed.1 fits.1;
  spelled = refl;
}

pub counted_written : {X : Type 0} (max : ℕ) → max < 2 ^ 32 → (Spells : X → List ℕ → Type 0) (spelling : X → List ℕ) (Typed Fits : X → Type 0)
    → ((x : X) → Typed x → Fits x → Spells x (spelling x)) → (xs : List X) → AllByRecursion Typed xs → length xs ≤ max → AllByRecursion Fits xs
    → IsCounted max Spells xs (word (length xs) ++ flat_map spelling xs)
counted_written max small Spells spelling Typed Fits written xs typed few fits =
    (few, record { front = word (length xs); back = flat_map spelling xs; first = (omega (arith, few, small), refl); second = many_written Spells spelling Typed Fits written xs typed fits; spelled = refl })

-- ---- lists, as a loop reads and writes them

-- what is read behind some values, with these before it
abbrev pub prefixed : {X : Type 0} → List X → Result (List X × List ℕ) (Unit {0}) → Result (List X × List ℕ) (Unit {0})
prefixed xs (Ok p) = Ok (xs ++ p.0, p.1)
prefixed xs (Err e) = Err tt

-- one more value
pub prefixed_step : {X : Type 0} (read : Reading X) (xs : List X) (n m : ℕ) (x : X) (bytes rest : List ℕ) → read bytes ≡ Ok (x, rest) → n ≡ suc m
    → prefixed xs (many_of read n bytes) ≡ prefixed (xs ++ x ∷ []) (many_of read m rest)
unfolding many_of
prefixed_step {X} read xs n m x bytes rest e is =
    ap (λ k. prefixed xs (many_of read k bytes)) is
    ∙ ap (λ (r : Result (X × List ℕ) (Unit {0})). prefixed xs (r >>= λ y. many_of read m y.1 >>= λ l. Ok (y.0 ∷ l.0, l.1))) e
    ∙ joined (many_of read m rest)
  where
    joined : (r : Result (List X × List ℕ) (Unit {0})) → prefixed xs (r >>= λ l. Ok (x ∷ l.0, l.1)) ≡ prefixed (xs ++ x ∷ []) r
    joined (Ok p) = ap (λ (l : List X). Ok (l, p.1)) (sym (append_assoc xs (x ∷ []) p.0))
    joined (Err d) = refl

-- a value that is not there
pub prefixed_stop : {X : Type 0} (read : Reading X) (xs : List X) (n m : ℕ) (bytes : List ℕ) → read bytes ≡ Err tt → n ≡ suc m
    → prefixed xs (many_of read n bytes) ≡ Err tt
unfolding many_of
prefixed_stop {X} read xs n m bytes e is =
    ap (λ k. prefixed xs (many_of read k bytes)) is
    ∙ ap (λ (r : Result (X × List ℕ) (Unit {0})). prefixed xs (r >>= λ y. many_of read m y.1 >>= λ l. Ok (y.0 ∷ l.0, l.1))) e

-- no value is left
pub prefixed_done : {X : Type 0} (read : Reading X) (xs : List X) (n : ℕ) (bytes : List ℕ) → n ≡ 0 → prefixed xs (many_of read n bytes) ≡ Ok (xs, bytes)
unfolding many_of
prefixed_done {X} read xs n bytes is = ap (λ k. prefixed xs (many_of read k bytes)) is ∙ ap (λ (l : List X). Ok (l, bytes)) (append-nil xs)

-- no value was read yet
pub prefixed_none : {X : Type 0} (r : Result (List X × List ℕ) (Unit {0})) → prefixed [] r ≡ r
prefixed_none (Ok p) = refl
prefixed_none (Err d) = refl

-- a value that is made of another, of which some is forgotten
pub forgetting_exact : {X Y : Type 0} (make : X → Y) (read : Reading X) (Spells : X → List ℕ → Type 0) → IsExact read Spells
    → IsExact (made_of make read) (λ y item. (x : X) × (make x ≡ y) × Spells x item)
forgetting_exact {X} {Y} make read Spells exact = record {
  found = λ bytes y rest fits e.
      let s = bind_ok {Y = Y × List ℕ} (read bytes) (λ x. Ok (make x.0, x.1)) (y, rest) e in
      let pair = ok_is {E = Unit {0}} (make s.0.0, s.0.1) (y, rest) s.2 in
      let value : make s.0.0 ≡ y = ap (λ (q : Y × List ℕ). q.0) pair in
      let left : s.0.1 ≡ rest = ap (λ (q : Y × List ℕ). q.1) pair in
      let f = exact.found bytes s.0.0 s.0.1 fits s.1 in
      (f.0, (s.0.0, value, f.1), f.2 ∙ ap (λ (r : List ℕ). f.0 ++ r) left);
  again = λ y item rest h.
      ap (λ (r : Result (X × List ℕ) (Unit {0})). r >>= λ x. Ok (make x.0, x.1)) (exact.again h.0 item rest h.2)
      ∙ ap (λ (z : Y). Ok (z, rest)) h.1;
}

-- the same spellings, told in another way
pub same_exact : {X : Type 0} (read : Reading X) (A B : X → List ℕ → Type 0) → ((x : X) (item : List ℕ) → A x item → B x item)
    → ((x : X) (item : List ℕ) → B x item → A x item) → IsExact read A → IsExact read B
same_exact read A B forth back exact = record {
  found = λ bytes x rest fits e. let f = exact.found bytes x rest fits e in (f.0, forth x f.0 f.1, f.2);
  again = λ x item rest h. exact.again x item rest (back x item h);
}

-- an item as a writer spells it, and another behind it
pub behind : {First Second : List ℕ → Type 0} (front back : List ℕ) → First front → Second back → (First ⟫ Second) (front ++ back)
behind front back first second = record { front = front; back = back; first = first; second = second; spelled = refl }

-- nothing is owed of any value of a list
pub no_dues : {X : Type 0} (xs : List X) → AllByRecursion (λ x. Unit {0}) xs
no_dues [] = tt
no_dues (x ∷ xs) = (tt, no_dues xs)
