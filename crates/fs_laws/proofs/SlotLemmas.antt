-- Slots after a name was put or taken.
use Rattle.std.proofs.Common.{◌≡◌, ◌≢◌, ℕ, zero, suc, ◌+◌, ◌%◌, ◌<◌, ◌≤◌, Bool, true, false, cond, List, [], ◌∷◌, ◌++◌, length, replicate, set, get_or, Option, Some, None, ◌⊎◌, inl, inr, refl, sym, ap, subst, ◌∙◌, arith}
use Rattle.std.specs.Prelude.{nat_lt, is_some, is_none, slice_get, count_by, find, position, option_map, option_and_then}
use Rattle.std.specs.List.{position_or_len}
use Rattle.std.specs.Option.{option_map_or, option_or}
use Rattle.std.specs.Cmp.Lexicographic.{bytes_decides}
use Rattle.std.proofs.lemmas.Bool.{cases_eq, ltb-true, ltb-false}
use Rattle.std.proofs.lemmas.Option.{slice_get_within, get_or_from_slice_get}
use Rattle.std.proofs.lemmas.List.{length-set, length-append}
use Rattle.std.proofs.lemmas.List.Sums.{sum_by-set, sum_by-append, passes_at_first, fails_before_first, sum_by-cons}
use Rattle.fs_rules.specs.declared.entry.Entry.{Entry}
use Rattle.fs_rules.specs.Slots.{has_name, slot_of, file_named, slot_for, with_room, put_name, take_name}
use Rattle.fs_rules.specs.Good.{IsName}
use Rattle.fs_laws.proofs.SumLemmas.{one_where}
use Rattle.fs_laws.proofs.WholeLemmas.{IsSlotList}

-- ---- lists with one element written

pub get_set_here : {X : Type 0} (xs : List X) (i : ℕ) (v : X) → i < length xs → slice_get (set xs i v) i ≡ Some v
get_set_here [] i v lt = absurd (omega arith)
get_set_here (x ∷ xs) zero v lt = refl
get_set_here (x ∷ xs) (suc i) v lt = get_set_here xs i v (omega arith)

pub get_set_other : {X : Type 0} (xs : List X) (i j : ℕ) (v : X) → j ≢ i → slice_get (set xs i v) j ≡ slice_get xs j
get_set_other [] i j v apart = refl
get_set_other (x ∷ xs) zero zero v apart = absurd (apart refl)
get_set_other (x ∷ xs) zero (suc j) v apart = refl
get_set_other (x ∷ xs) (suc i) zero v apart = refl
get_set_other (x ∷ xs) (suc i) (suc j) v apart = get_set_other xs i j v (λ same. apart (ap suc same))

-- a count after one element was written over another
pub count_set : {X : Type 0} (p : X → Bool) (xs : List X) (i : ℕ) (old new : X) → slice_get xs i ≡ Some old
    → count_by p (set xs i new) + one_where (p old) ≡ count_by p xs + one_where (p new)
count_set p xs i old new there =
    let a = sum_by-set (λ x. one_where (p x)) xs i new old (slice_get_within xs i old there) in
    let b : one_where (p (get_or xs i old)) ≡ one_where (p old) = ap (λ x. one_where (p x)) (get_or_from_slice_get xs i old old there) in
    omega (arith, a, b)

-- ---- the first element that passes a test

pub record First {X : Type 0} (p : X → Bool) (xs : List X) : Type 0 where
  pub place : ℕ
  pub value : X
  pub there : slice_get xs place ≡ Some value
  pub passes : p value ≡ true
  pub position : position p xs ≡ Some place
  pub find : find p xs ≡ Some value

pub record Nowhere {X : Type 0} (p : X → Bool) (xs : List X) : Type 0 where
  pub fails : (i : ℕ) (x : X) → slice_get xs i ≡ Some x → p x ≡ false
  pub position : position p xs ≡ None
  pub find : find p xs ≡ None

find_at : {X : Type 0} (p : X → Bool) (xs : List X) (i : ℕ) (x : X) → slice_get xs i ≡ Some x → p x ≡ true
    → ((k : ℕ) (y : X) → k < i → slice_get xs k ≡ Some y → p y ≡ false) → find p xs ≡ Some x
find_at p [] i x there is before = absurd cc
find_at p (y ∷ xs) zero x there is before =
    let same : y ≡ x = cc in
    ap (λ b. cond b (Some y) (find p xs)) (ap p same ∙ is) ∙ there
find_at p (y ∷ xs) (suc i) x there is before =
    ap (λ b. cond b (Some y) (find p xs)) (before 0 y (omega arith) refl) ∙ find_at p xs i x there is (λ k z lt at. before (suc k) z (omega arith) at)

find_none : {X : Type 0} (p : X → Bool) (xs : List X) → ((i : ℕ) (x : X) → slice_get xs i ≡ Some x → p x ≡ false) → find p xs ≡ None
find_none p [] fails = refl
find_none p (y ∷ xs) fails = ap (λ b. cond b (Some y) (find p xs)) (fails 0 y refl) ∙ find_none p xs (λ i x there. fails (suc i) x there)

-- what stands at a place that is within a list
element : {X : Type 0} (xs : List X) (i : ℕ) → i < length xs → (x : X) × (slice_get xs i ≡ Some x)
element [] i lt = absurd (omega arith)
element (x ∷ xs) zero lt = (x, refl)
element (x ∷ xs) (suc i) lt = element xs i (omega arith)

pub first_of : {X : Type 0} (p : X → Bool) (xs : List X) → First p xs ⊎ Nowhere p xs
first_of {X} p xs = go (nat_lt (position_or_len p xs) (length xs)) refl where
  fails_at : (i : ℕ) (x : X) → i < position_or_len p xs → slice_get xs i ≡ Some x → p x ≡ false
  fails_at i x lt there = ap p (sym (get_or_from_slice_get xs i x x there)) ∙ fails_before_first p xs i x lt

  go : (b : Bool) → nat_lt (position_or_len p xs) (length xs) ≡ b → First p xs ⊎ Nowhere p xs
  go true is =
      let lt = ltb-true (position_or_len p xs) (length xs) is in
      let x = element xs (position_or_len p xs) lt in
      let passes : p x.0 ≡ true = ap p (sym (get_or_from_slice_get xs (position_or_len p xs) x.0 x.0 x.1)) ∙ passes_at_first p xs x.0 lt in
      inl (record {
        place = position_or_len p xs;
        value = x.0;
        there = x.1;
        passes = passes;
        position = ap (λ b. cond b (Some (position_or_len p xs)) None) is;
        find = find_at p xs (position_or_len p xs) x.0 x.1 passes (λ k y lt at. fails_at k y lt at);
      })
  go false is =
      let ge = ltb-false (position_or_len p xs) (length xs) is in
      let fails : (i : ℕ) (x : X) → slice_get xs i ≡ Some x → p x ≡ false = λ i x there. fails_at i x (omega (arith, slice_get_within xs i x there)) there in
      inr (record {
        fails = fails;
        position = ap (λ b. cond b (Some (position_or_len p xs)) None) is;
        find = find_none p xs fails;
      })

-- ---- names in slots

-- a slot with a name
pub record HasEntry (name : List ℕ) (slot : Option Entry) : Type 0 where
  pub entry : Entry
  pub is : slot ≡ Some entry
  pub name' : entry.name ≡ name

entry_of : (name : List ℕ) (slot : Option Entry) → has_name name slot ≡ true → HasEntry name slot
entry_of name None h = absurd cc
entry_of name (Some e) h = record { entry = e; is = refl; name' = sym ((bytes_decides name e.name).0 h) }

pub name_has : (name : List ℕ) (e : Entry) → e.name ≡ name → has_name name (Some e) ≡ true
name_has name e is = (bytes_decides name e.name).1 (sym is)

-- the slot of a name that is there
pub record IsThere (slots : List (Option Entry)) (name : List ℕ) : Type 0 where
  pub place : ℕ
  pub entry : Entry
  pub there : slice_get slots place ≡ Some (Some entry)
  pub name' : entry.name ≡ name
  pub slot : slot_of slots name ≡ Some place
  pub file : file_named slots name ≡ Some entry.file

-- and of one that is not
pub record IsAbsent (slots : List (Option Entry)) (name : List ℕ) : Type 0 where
  pub never : (i : ℕ) (e : Entry) → slice_get slots i ≡ Some (Some e) → e.name ≢ name
  pub slot : slot_of slots name ≡ None
  pub file : file_named slots name ≡ None

pub there_or_absent : (slots : List (Option Entry)) (name : List ℕ) → IsThere slots name ⊎ IsAbsent slots name
there_or_absent slots name = elim (first_of (has_name name) slots) [
  | inl f ↦
      let h = entry_of name f.value f.passes in
      inl (record {
        place = f.place;
        entry = h.entry;
        there = f.there ∙ ap Some h.is;
        name' = h.name';
        slot = f.position;
        file = ap (option_and_then (λ (s : Option Entry). option_map (λ e. e.file) s)) (f.find ∙ ap Some h.is);
      })
  | inr n ↦ inr (record {
    never = λ i e there same. absurd (let a : true ≡ false = sym (name_has name e same) ∙ n.fails i (Some e) there in cc);
    slot = n.position;
    file = ap (option_and_then (λ (s : Option Entry). option_map (λ e. e.file) s)) n.find;
  })
]

-- a name that names a file is there
pub there_from_file : (slots : List (Option Entry)) (name : List ℕ) (m : ℕ) → file_named slots name ≡ Some m → (h : IsThere slots name) × (h.entry.file ≡ m)
there_from_file slots name m is = elim (there_or_absent slots name) [
  | inl h ↦ (h, (let e : ◌≡◌ {A = Option ℕ} (Some h.entry.file) (Some m) = sym h.file ∙ is in cc))
  | inr n ↦ absurd (let e : ◌≡◌ {A = Option ℕ} None (Some m) = sym n.file ∙ is in cc)
]

pub absent_from_file : (slots : List (Option Entry)) (name : List ℕ) → file_named slots name ≡ None → IsAbsent slots name
absent_from_file slots name is = elim (there_or_absent slots name) [
  | inl h ↦ absurd (let e : ◌≡◌ {A = Option ℕ} (Some h.entry.file) None = sym h.file ∙ is in cc)
  | inr n ↦ n
]

-- ---- slots that are in order

-- names in order, however many slots there are
pub record AreNames (slots : List (Option Entry)) : Type 0 where
  pub whole : length slots % 15 ≡ 0
  pub names : (i : ℕ) (e : Entry) → slice_get slots i ≡ Some (Some e) → IsName e.name
  pub distinct : (i j : ℕ) (e d : Entry) → slice_get slots i ≡ Some (Some e) → slice_get slots j ≡ Some (Some d) → e.name ≡ d.name → i ≡ j

pub names_from_list : (slots : List (Option Entry)) → IsSlotList slots → AreNames slots
names_from_list slots l = record { whole = l.whole; names = l.names; distinct = l.distinct }

pub list_from_names : (slots : List (Option Entry)) → AreNames slots → length slots ≤ 7650 → IsSlotList slots
list_from_names slots n few = record { whole = n.whole; few = few; names = n.names; distinct = n.distinct }

-- an entry that is written where no other has its name
names_set : (slots : List (Option Entry)) (i : ℕ) (e : Entry) → AreNames slots → i < length slots → IsName e.name
    → ((j : ℕ) (d : Entry) → slice_get slots j ≡ Some (Some d) → d.name ≡ e.name → j ≡ i) → AreNames (set slots i (Some e))
names_set slots i e n lt is only = record {
  whole = ap (λ (k : ℕ). k % 15) (length-set slots i (Some e)) ∙ n.whole;
  names = λ j d there. elim (cases_eq j i) [
    | inl at ↦ subst (λ (x : Entry). IsName x.name) (new j d at there) is
    | inr apart ↦ n.names j d (old j d apart there)
  ];
  distinct = λ j k d c there_d there_c same. elim (cases_eq j i) [
    | inl at ↦ elim (cases_eq k i) [
      | inl at_k ↦ at ∙ sym at_k
      | inr apart ↦ absurd (apart (only k c (old k c apart there_c) (sym same ∙ ap (λ (x : Entry). x.name) (sym (new j d at there_d)))))
    ]
    | inr apart ↦ elim (cases_eq k i) [
      | inl at_k ↦ absurd (apart (only j d (old j d apart there_d) (same ∙ ap (λ (x : Entry). x.name) (sym (new k c at_k there_c)))))
      | inr apart_k ↦ n.distinct j k d c (old j d apart there_d) (old k c apart_k there_c) same
    ]
  ];
} where
  new : (j : ℕ) (d : Entry) → j ≡ i → slice_get (set slots i (Some e)) j ≡ Some (Some d) → e ≡ d
  new j d at there =
      let k : ◌≡◌ {A = Option (Option Entry)} (Some (Some e)) (Some (Some d)) = sym (get_set_here slots i (Some e) lt) ∙ ap (slice_get (set slots i (Some e))) (sym at) ∙ there in
      cc

  old : (j : ℕ) (d : Entry) → j ≢ i → slice_get (set slots i (Some e)) j ≡ Some (Some d) → slice_get slots j ≡ Some (Some d)
  old j d apart there = sym (get_set_other slots i j (Some e) apart) ∙ there

-- a slot that is emptied
names_emptied : (slots : List (Option Entry)) (i : ℕ) → AreNames slots → i < length slots → AreNames (set slots i None)
names_emptied slots i n lt = record {
  whole = ap (λ (k : ℕ). k % 15) (length-set slots i None) ∙ n.whole;
  names = λ j d there. n.names j d (old j d there);
  distinct = λ j k d c there_d there_c same. n.distinct j k d c (old j d there_d) (old k c there_c) same;
} where
  old : (j : ℕ) (d : Entry) → slice_get (set slots i None) j ≡ Some (Some d) → slice_get slots j ≡ Some (Some d)
  old j d there = elim (cases_eq j i) [
    | inl at ↦ absurd (let k : ◌≡◌ {A = Option (Option Entry)} (Some None) (Some (Some d)) = sym (get_set_here slots i None lt) ∙ ap (slice_get (set slots i None)) (sym at) ∙ there in
        let m : ◌≡◌ {A = Option Entry} None (Some d) = cc in cc)
    | inr apart ↦ sym (get_set_other slots i j None apart) ∙ there
  ]

-- ---- a name is taken

-- the slots without a name that was there
pub record IsTaken (slots : List (Option Entry)) (e : Entry) (left : List (Option Entry)) : Type 0 where
  pub names : AreNames left
  pub size : length left ≡ length slots
  pub counts : (p : Option Entry → Bool) → p None ≡ false → count_by p left + one_where (p (Some e)) ≡ count_by p slots

pub taken : (slots : List (Option Entry)) (name : List ℕ) → AreNames slots → (h : IsThere slots name) → IsTaken slots h.entry (take_name slots name)
unfolding take_name
taken slots name n h = subst (IsTaken slots h.entry) (sym (ap (λ (o : Option ℕ). option_map_or (λ i. set slots i None) o slots) h.slot)) (record {
  names = names_emptied slots h.place n (slice_get_within slots h.place (Some h.entry) h.there);
  size = length-set slots h.place None;
  counts = λ p none.
      let a = count_set p slots h.place (Some h.entry) None h.there in
      let b : one_where (p None) ≡ 0 = ap one_where none in
      omega (arith, a, b);
})

-- ---- a name is put

-- the slots with a name, which stands where old was
pub record IsPut (slots : List (Option Entry)) (e : Entry) (old : Option Entry) (new : List (Option Entry)) : Type 0 where
  pub names : AreNames new
  pub counts : (p : Option Entry → Bool) → p None ≡ false → count_by p new + one_where (p old) ≡ count_by p slots + one_where (p (Some e))
  pub others : (name : List ℕ) → name ≢ e.name → file_named new name ≡ file_named slots name

count_nones : (p : Option Entry → Bool) (n : ℕ) → p None ≡ false → count_by p (replicate n None) ≡ 0
count_nones p zero none = refl
count_nones p (suc n) none =
    let a : one_where (p None) ≡ 0 = ap one_where none in
    omega (arith, a, count_nones p n none, sum_by-cons (λ s. one_where (p s)) None (replicate n None))

none_in_nones : (n j : ℕ) (d : Entry) → slice_get (replicate n None) j ≡ Some (Some d) → ⊥
none_in_nones zero j d h = cc
none_in_nones (suc n) zero d h = let k : ◌≡◌ {A = Option Entry} None (Some d) = cc in cc
none_in_nones (suc n) (suc j) d h = none_in_nones n j d h

-- slots, and the same ones with empty slots behind them, have the same entries
in_front : (slots : List (Option Entry)) (n j : ℕ) (d : Entry) → slice_get (slots ++ replicate n None) j ≡ Some (Some d) → slice_get slots j ≡ Some (Some d)
in_front [] n j d h = absurd (none_in_nones n j d h)
in_front (s ∷ slots) n zero d h = h
in_front (s ∷ slots) n (suc j) d h = in_front slots n j d h

in_whole : (slots more : List (Option Entry)) (j : ℕ) (s : Option Entry) → slice_get slots j ≡ Some s → slice_get (slots ++ more) j ≡ Some s
in_whole [] more j s h = absurd cc
in_whole (x ∷ slots) more zero s h = h
in_whole (x ∷ slots) more (suc j) s h = in_whole slots more j s h

first_behind : (slots more : List (Option Entry)) (s : Option Entry) → slice_get (slots ++ s ∷ more) (length slots) ≡ Some s
first_behind [] more s = refl
first_behind (x ∷ slots) more s = first_behind slots more s

-- slots with the same entries of a name have the same file of it
record SameEntries (name : List ℕ) (a b : List (Option Entry)) : Type 0 where
  there : (j : ℕ) (d : Entry) → d.name ≡ name → slice_get a j ≡ Some (Some d) → slice_get b j ≡ Some (Some d)
  back : (j : ℕ) (d : Entry) → d.name ≡ name → slice_get b j ≡ Some (Some d) → slice_get a j ≡ Some (Some d)

same_file : (name : List ℕ) (a b : List (Option Entry)) → AreNames b → SameEntries name a b → file_named a name ≡ file_named b name
same_file name a b n same = elim (there_or_absent a name) [
  | inl h ↦ elim (there_or_absent b name) [
    | inl k ↦
        let at = same.there h.place h.entry h.name' h.there in
        let place : h.place ≡ k.place = n.distinct h.place k.place h.entry k.entry at k.there (h.name' ∙ sym k.name') in
        let both : ◌≡◌ {A = Option (Option Entry)} (Some (Some h.entry)) (Some (Some k.entry)) = sym at ∙ ap (slice_get b) place ∙ k.there in
        let entry : h.entry ≡ k.entry = cc in
        h.file ∙ ap (λ (e : Entry). Some e.file) entry ∙ sym k.file
    | inr k ↦ absurd (k.never h.place h.entry (same.there h.place h.entry h.name' h.there) h.name')
  ]
  | inr h ↦ elim (there_or_absent b name) [
    | inl k ↦ absurd (h.never k.place k.entry (same.back k.place k.entry k.name' k.there) k.name')
    | inr k ↦ h.file ∙ sym k.file
  ]
]

-- slots with room for a name, and the slot that it gets
record IsRoom (slots : List (Option Entry)) (e : Entry) (old : Option Entry) (room : List (Option Entry)) (place : ℕ) : Type 0 where
  names : AreNames room
  there : slice_get room place ≡ Some old
  old_name : (d : Entry) → old ≡ Some d → d.name ≡ e.name
  only : (j : ℕ) (d : Entry) → slice_get room j ≡ Some (Some d) → d.name ≡ e.name → j ≡ place
  counts : (p : Option Entry → Bool) → p None ≡ false → count_by p room ≡ count_by p slots
  front : (j : ℕ) (d : Entry) → slice_get room j ≡ Some (Some d) → slice_get slots j ≡ Some (Some d)
  back : (j : ℕ) (d : Entry) → slice_get slots j ≡ Some (Some d) → slice_get room j ≡ Some (Some d)

put_in : (slots : List (Option Entry)) (e : Entry) (old : Option Entry) (room : List (Option Entry)) (place : ℕ) → AreNames slots → IsName e.name → IsRoom slots e old room place
    → IsPut slots e old (set room place (Some e))
put_in slots e old room place n is r =
    let lt = slice_get_within room place old r.there in
    record {
      names = names_set room place e r.names lt is r.only;
      counts = λ p none. omega (arith, count_set p room place old (Some e) r.there, r.counts p none);
      others = λ name other. same_file name (set room place (Some e)) slots n (record {
        there = λ j d named there. r.front j d (sym (get_set_other room place j (Some e) (apart_new name other j d named there)) ∙ there);
        back = λ j d named there. get_set_other room place j (Some e) (apart_old name other j d named there) ∙ r.back j d there;
      });
    } where
      apart_new : (name : List ℕ) → name ≢ e.name → (j : ℕ) (d : Entry) → d.name ≡ name → slice_get (set room place (Some e)) j ≡ Some (Some d) → j ≢ place
      apart_new name other j d named there at =
          let k : ◌≡◌ {A = Option (Option Entry)} (Some (Some e)) (Some (Some d)) =
          sym (get_set_here room place (Some e) (slice_get_within room place old r.there)) ∙ ap (slice_get (set room place (Some e))) (sym at) ∙ there in
          let same : e ≡ d = cc in
          other (sym named ∙ ap (λ (x : Entry). x.name) (sym same))

      apart_old : (name : List ℕ) → name ≢ e.name → (j : ℕ) (d : Entry) → d.name ≡ name → slice_get slots j ≡ Some (Some d) → j ≢ place
      apart_old name other j d named there at =
          let k : ◌≡◌ {A = Option (Option Entry)} (Some old) (Some (Some d)) = sym r.there ∙ ap (slice_get room) (sym at) ∙ r.back j d there in
          let same : old ≡ Some d = cc in
          other (sym named ∙ r.old_name d same)

put_at : (slots : List (Option Entry)) (e : Entry) (room : List (Option Entry)) (place : ℕ) → with_room slots e.name ≡ room → slot_for room e.name ≡ Some place
    → put_name slots e ≡ set room place (Some e)
unfolding put_name
put_at slots e room place room_is slot_is =
    ap (λ (r : List (Option Entry)). option_map_or (λ i. set r i (Some e)) (slot_for r e.name) slots) room_is
    ∙ ap (λ (o : Option ℕ). option_map_or (λ i. set room i (Some e)) o slots) slot_is

-- there is room where a slot is found
room_here : (slots : List (Option Entry)) (e : Entry) (old : Option Entry) (place : ℕ) → AreNames slots → slice_get slots place ≡ Some old
    → ((d : Entry) → old ≡ Some d → d.name ≡ e.name) → ((j : ℕ) (d : Entry) → slice_get slots j ≡ Some (Some d) → d.name ≡ e.name → j ≡ place)
    → IsRoom slots e old slots place
room_here slots e old place n there old_name only = record {
  names = n;
  there = there;
  old_name = old_name;
  only = only;
  counts = λ p none. refl;
  front = λ j d h. h;
  back = λ j d h. h;
}

-- a name that is there keeps its slot
pub put_over : (slots : List (Option Entry)) (e : Entry) → AreNames slots → IsName e.name → (h : IsThere slots e.name) → IsPut slots e (Some h.entry) (put_name slots e)
put_over slots e n is h =
    let slot : slot_for slots e.name ≡ Some h.place = ap (λ (o : Option ℕ). option_or o (position is_none slots)) h.slot in
    let room : with_room slots e.name ≡ slots = ap (λ (o : Option ℕ). cond (is_some o) slots (slots ++ replicate 15 None)) slot in
    subst (IsPut slots e (Some h.entry)) (sym (put_at slots e slots h.place room slot))
    (put_in slots e (Some h.entry) slots h.place n is (room_here slots e (Some h.entry) h.place n h.there
    (λ d same. let k : h.entry ≡ d = cc in ap (λ (x : Entry). x.name) (sym k) ∙ h.name')
    (λ j d there named. n.distinct j h.place d h.entry there h.there (named ∙ sym h.name'))))

empty_of : (s : Option Entry) → is_none s ≡ true → s ≡ None
empty_of None h = refl
empty_of (Some e) h = absurd cc

-- more empty slots leave names in order
more_names : (slots : List (Option Entry)) → AreNames slots → AreNames (slots ++ replicate 15 None)
more_names slots n = record {
  whole = let a : length (slots ++ replicate 15 None) ≡ length slots + 15 = length-append slots (replicate 15 None) in omega (arith, a, n.whole);
  names = λ i e there. n.names i e (in_front slots 15 i e there);
  distinct = λ i j e d there_e there_d same. n.distinct i j e d (in_front slots 15 i e there_e) (in_front slots 15 j d there_d) same;
}

-- a new name gets an empty slot
pub put_new : (slots : List (Option Entry)) (e : Entry) → AreNames slots → IsName e.name → IsAbsent slots e.name → IsPut slots e None (put_name slots e)
put_new slots e n is h = elim (first_of is_none slots) [
  | inl f ↦
      let slot : slot_for slots e.name ≡ Some f.place = ap (λ (o : Option ℕ). option_or o (position is_none slots)) h.slot ∙ f.position in
      let room : with_room slots e.name ≡ slots = ap (λ (o : Option ℕ). cond (is_some o) slots (slots ++ replicate 15 None)) slot in
      subst (IsPut slots e None) (sym (put_at slots e slots f.place room slot))
      (put_in slots e None slots f.place n is (room_here slots e None f.place n (f.there ∙ ap Some (empty_of f.value f.passes))
      (λ d same. absurd cc) (λ j d there named. absurd (h.never j d there named))))
  | inr full ↦
      let none : slot_for slots e.name ≡ None = ap (λ (o : Option ℕ). option_or o (position is_none slots)) h.slot ∙ full.position in
      let room : with_room slots e.name ≡ slots ++ replicate 15 None = ap (λ (o : Option ℕ). cond (is_some o) slots (slots ++ replicate 15 None)) none in
      let f = empty_behind in
      let slot : slot_for (slots ++ replicate 15 None) e.name ≡ Some f.place = ap (λ (o : Option ℕ). option_or o (position is_none (slots ++ replicate 15 None))) (absent_behind h) ∙ f.position in
      subst (IsPut slots e None) (sym (put_at slots e (slots ++ replicate 15 None) f.place room slot))
      (put_in slots e None (slots ++ replicate 15 None) f.place n is (record {
        names = more_names slots n;
        there = f.there ∙ ap Some (empty_of f.value f.passes);
        old_name = λ d same. absurd cc;
        only = λ j d there named. absurd (h.never j d (in_front slots 15 j d there) named);
        counts = λ p none. omega (arith, count_nones p 15 none, sum_by-append (λ s. one_where (p s)) slots (replicate 15 None));
        front = in_front slots 15;
        back = λ j d there. in_whole slots (replicate 15 None) j (Some d) there;
      }))
] where
  empty_behind : First is_none (slots ++ replicate 15 None)
  empty_behind = elim (first_of is_none (slots ++ replicate 15 None)) [
    | inl f ↦ f
    | inr never ↦ absurd (let k : true ≡ false = never.fails (length slots) None (first_behind slots (replicate 14 None) None) in cc)
  ]

  absent_behind : IsAbsent slots e.name → slot_of (slots ++ replicate 15 None) e.name ≡ None
  absent_behind h = elim (there_or_absent (slots ++ replicate 15 None) e.name) [
    | inl k ↦ absurd (h.never k.place k.entry (in_front slots 15 k.place k.entry k.there) k.name')
    | inr k ↦ k.slot
  ]
