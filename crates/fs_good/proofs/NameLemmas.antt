-- The names of slots, taken one by one into a set.
use denote.Ref.{Bor}
use Rattle.std.proofs.Common.{Ordering, Less, Equal, Greater, ◌≡◌, ℕ, ◌+◌, ◌<◌, ◌≤◌, Bool, true, false, not, ◌||◌, List, [], ◌∷◌, length, get_or, Option, Some, None, inl, inr, refl, sym, ap, subst, ◌∙◌, arith}
use Rattle.std.specs.Prelude.{◌⊎◌, slice_get, bytes_eq, unwrap_or}
use Rattle.std.specs.Cmp.Lexicographic.{slice_cmp, bytes_decides}
use Rattle.std.specs.BTreeMap.{is_at}
use Rattle.std.specs.BTreeSet.{insert_key}
use Rattle.std.specs.List.{list_any}
use Rattle.std.specs.Ordering.{match_ordering, nat_cmp}
use Rattle.std.proofs.lemmas.Bool.{true≢false, cases_lt}
use Rattle.std.proofs.lemmas.Map.Lookups.{exact_bytes}
use Rattle.std.proofs.lemmas.Map.Text.{is_eq-slice_cmp}
use Rattle.std.proofs.lemmas.Option.{none-some}
use Rattle.fs_rules.specs.declared.entry.Entry.{Entry}
use Rattle.fs_good.specs.Places.{AreDistinct, Below, IsFirst, IsNameTaken, IsTaken, knows}
use Rattle.fs_good.proofs.LoopLemmas.{at_place, below_more, firsts_distinct, there}

-- ---- the set

abbrev name_cmp : Bor (List ℕ) → Bor (List ℕ) → Ordering
name_cmp x y = slice_cmp nat_cmp x.now y.now

turned : (a b c : Bool) → (b || (a || c)) ≡ (a || (b || c))
turned true true c = refl
turned true false c = refl
turned false true c = refl
turned false false c = refl

twice : (a c : Bool) → (a || c) ≡ (a || (a || c))
twice true c = refl
twice false c = refl

-- what is known with one name more
known_more : (k : Bor (List ℕ)) (x : List ℕ) (names : List (Bor (List ℕ))) → knows (insert_key name_cmp names k) x ≡ (bytes_eq x k.now || knows names x)
known_more k x [] = refl
known_more k x (y ∷ ys) = go (name_cmp k y) refl (known_more k x ys)
  where
    go : (o : Ordering) → name_cmp k y ≡ o → knows (insert_key name_cmp ys k) x ≡ (bytes_eq x k.now || knows ys x)
        → knows (match_ordering o (k ∷ y ∷ ys) (y ∷ ys) (y ∷ insert_key name_cmp ys k)) x ≡ (bytes_eq x k.now || (bytes_eq x y.now || knows ys x))
    go Less is later = refl
    go Equal is later =
        subst (λ (n : List ℕ). (bytes_eq x y.now || knows ys x) ≡ (bytes_eq x n || (bytes_eq x y.now || knows ys x))) (sym (exact_bytes k.now y.now is))
        (twice (bytes_eq x y.now) (knows ys x))
    go Greater is later =
        ap (λ (b : Bool). bytes_eq x y.now || b) later ∙ turned (bytes_eq x k.now) (bytes_eq x y.now) (knows ys x)

-- the set's own look-up is that of the bytes
known_there : (k : Bor (List ℕ)) (names : List (Bor (List ℕ))) → list_any (is_at (name_cmp k)) names ≡ knows names k.now
known_there k [] = refl
known_there k (y ∷ ys) = λ i. is_eq-slice_cmp k.now y.now i || known_there k ys i

pub name_taken : (old new : List (Bor (List ℕ))) (k : Bor (List ℕ)) (is_new : Bool) → is_new ≡ not (list_any (is_at (name_cmp k)) old) → new ≡ insert_key name_cmp old k
    → IsNameTaken old new k.now is_new
name_taken old new k is_new added keys = (
  added ∙ ap not (known_there k old),
  λ other. ap (λ (names : List (Bor (List ℕ))). knows names other) keys ∙ known_more k other old,
)

-- ---- the slots

-- a slot before a place has this name
pub record IsBefore (slots : List (Option Entry)) (end : ℕ) (name : List ℕ) : Type 0 where
  pub place : ℕ
  pub entry : Entry
  pub before : place < end
  pub there : slice_get slots place ≡ Some (Some entry)
  pub same : entry.name ≡ name

-- the names before a place were taken, and are different
pub record AreTaken (names : List (Bor (List ℕ))) (slots : List (Option Entry)) (end : ℕ) : Type 0 where
  pub known : Below (λ e. knows names e.name ≡ true) slots end
  pub only : (name : List ℕ) → knows names name ≡ true → IsBefore slots end name
  pub firsts : (i : ℕ) → i < end → IsFirst slots i

pub none_taken : (names : List (Bor (List ℕ))) (slots : List (Option Entry)) → names ≡ [] → AreTaken names slots 0
none_taken names slots none = record {
  known = λ j e less is. absurd (omega (arith, less));
  only = λ name is. absurd (true≢false (sym is ∙ ap (λ (ks : List (Bor (List ℕ))). knows ks name) none));
  firsts = λ j less. absurd (omega (arith, less));
}

earlier : (slots : List (Option Entry)) (i : ℕ) (name : List ℕ) → IsBefore slots i name → IsBefore slots (i + 1) name
earlier slots i name b = record { place = b.place; entry = b.entry; before = (let less = b.before in omega (arith, less)); there = b.there; same = b.same }

either : (a b : Bool) → (a || b) ≡ true → (a ≡ true) ⊎ (b ≡ true)
either true b is = inl refl
either false b is = inr is

right_true : (a b : Bool) → b ≡ true → (a || b) ≡ true
right_true true b is = refl
right_true false b is = is

left_true : (a b : Bool) → a ≡ true → (a || b) ≡ true
left_true true b is = refl
left_true false b is = absurd (true≢false (sym is))

same_bytes : (x y : List ℕ) → bytes_eq x y ≡ true → x ≡ y
same_bytes x y is = (bytes_decides x y).0 is

bytes_same : (x y : List ℕ) → x ≡ y → bytes_eq x y ≡ true
bytes_same x y is = (bytes_decides x y).1 is

not_true : (b : Bool) → true ≡ not b → b ≡ false
not_true true is = absurd (true≢false is)
not_true false is = refl

not_false : (b : Bool) → false ≡ not b → b ≡ true
not_false true is = refl
not_false false is = absurd (true≢false (sym is))

module _ (old new : List (Bor (List ℕ))) (slots : List (Option Entry)) (i : ℕ) (within : i < length slots) (taken : AreTaken old slots i) where
  -- an empty slot
  past_empty : None ≡ get_or slots i None → IsTaken old new None true → AreTaken new slots (i + 1)
  past_empty is same = record {
    known = below_more (λ e. knows new e.name ≡ true) slots i None within is (λ e no. absurd (none-some e no)) (λ j e less at. same.1 e.name ∙ taken.known j e less at);
    only = λ name is_known. earlier slots i name (taken.only name (sym (same.1 name) ∙ is_known));
    firsts = λ j less. elim (cases_lt j i) [
      | inl before ↦ taken.firsts j before
      | inr not_before ↦ λ d at. absurd (none-some d (at_place slots i None within is j d (omega (arith, less, not_before)) at))
    ];
  }

  module _ (e : Entry) (is : Some e ≡ get_or slots i (Some e)) (b : Bool) (one : IsTaken old new (Some e) b) where
    same_entry : (d : Entry) → Some e ≡ Some d → e ≡ d
    same_entry d found = ap (λ o. unwrap_or o e) found

    -- a slot with another name than all before it
    past_new : b ≡ true → AreTaken new slots (i + 1)
    past_new yes_it =
        record { known = known_of; only = only_of; firsts = firsts_of }
      where
        fresh : knows old e.name ≡ false
        fresh = not_true (knows old e.name) (sym yes_it ∙ one.0)

        known_of : Below (λ d. knows new d.name ≡ true) slots (i + 1)
        known_of = below_more (λ d. knows new d.name ≡ true) slots i (Some e) within is
            (λ d found. one.1 d.name ∙ left_true (bytes_eq d.name e.name) (knows old d.name) (bytes_same d.name e.name (sym (ap (λ (x : Entry). x.name) (same_entry d found)))))
            (λ j d less at. one.1 d.name ∙ right_true (bytes_eq d.name e.name) (knows old d.name) (taken.known j d less at))

        only_of : (name : List ℕ) → knows new name ≡ true → IsBefore slots (i + 1) name
        only_of name is_known = elim (either (bytes_eq name e.name) (knows old name) (sym (one.1 name) ∙ is_known)) [
          | inl same ↦ record { place = i; entry = e; before = omega arith; there = there slots i (Some e) within is; same = sym (same_bytes name e.name same) }
          | inr before ↦ earlier slots i name (taken.only name before)
        ]

        firsts_of : (j : ℕ) → j < i + 1 → IsFirst slots j
        firsts_of j less = elim (cases_lt j i) [
          | inl before ↦ taken.firsts j before
          | inr not_before ↦ λ d at k f lower to same.
              let here : j ≡ i = omega (arith, less, not_before) in
              let entry : e ≡ d = same_entry d (at_place slots i (Some e) within is j d here at) in
              let known : knows old f.name ≡ true = taken.known k f (omega (arith, lower, here)) to in
              let name : f.name ≡ e.name = same ∙ ap (λ (x : Entry). x.name) (sym entry) in
              true≢false (sym known ∙ ap (λ (n : List ℕ). knows old n) name ∙ fresh)
        ]

    -- a slot with the name of one before it
    past_old : b ≡ false → AreDistinct slots → ⊥
    past_old no_it distinct =
        let was = taken.only e.name (not_false (knows old e.name) (sym no_it ∙ one.0)) in
        let same : was.place ≡ i = distinct was.place i was.entry e was.there (there slots i (Some e) within is) was.same in
        let less = was.before in omega (arith, less, same)

pub taken_more : (old new : List (Bor (List ℕ))) (slots : List (Option Entry)) (i : ℕ) (s : Option Entry) (b : Bool) → i < length slots → s ≡ get_or slots i s → AreTaken old slots i → IsTaken old new s b
    → b ≡ true → AreTaken new slots (i + 1)
taken_more old new slots i None b within is taken one yes_it = past_empty old new slots i within taken is (refl, one.1)
taken_more old new slots i (Some e) b within is taken one yes_it = past_new old new slots i within taken e is b one yes_it

pub taken_twice : (old new : List (Bor (List ℕ))) (slots : List (Option Entry)) (i : ℕ) (s : Option Entry) (b : Bool) → i < length slots → s ≡ get_or slots i s → AreTaken old slots i → IsTaken old new s b
    → b ≡ false → AreDistinct slots → ⊥
taken_twice old new slots i None b within is taken one no_it distinct = true≢false (sym one.0 ∙ no_it)
taken_twice old new slots i (Some e) b within is taken one no_it distinct = past_old old new slots i within taken e is b one no_it distinct

pub all_taken : (names : List (Bor (List ℕ))) (slots : List (Option Entry)) (end : ℕ) → length slots ≤ end → AreTaken names slots end → AreDistinct slots
all_taken names slots end whole taken = firsts_distinct slots end whole taken.firsts
