-- Two files whose blocks hold the same are the same.
use Rattle.std.proofs.Common.{◌≡◌, ◌≢◌, ℕ, zero, suc, ◌+◌, ◌-◌, ◌*◌, ◌<◌, ◌≤◌, true, false, List, [], ◌∷◌, Option, Some, None, inl, inr, refl, sym, ap, subst, ◌∙◌, arith}
use Rattle.std.specs.Prelude.{◌/◌, ◌++◌, nat_lt, length, map, take, drop, slice_get, is_some, unwrap_or, if◌then◌else◌}
use Rattle.std.specs.FinMap as table
use Rattle.std.proofs.lemmas.Bool.{cases_Bool, cases_order, true≢false, ltb-true, ltb-false, lt-ltb, le-ltb}
use Rattle.std.proofs.lemmas.List.{take-append-drop, length-drop}
use Rattle.std.proofs.lemmas.Option.{none-some}
use Rattle.sfs_base.proofs.MapLemmas.{same_look_ups, greatest_has, greatest_none}
use Rattle.fs_dir.specs.declared.slot.Slot.{Slot}
use Rattle.fs_dir.proofs.BlockLemmas.{block_one}
use Rattle.fs_rules.specs.declared.content.Content.{Content}
use Rattle.fs_rules.specs.declared.content.Content.TheVariants.{Regular, Link, Directory}
use Rattle.fs_rules.specs.declared.entry.Entry.{Entry}
use Rattle.fs_rules.specs.File.{BlockMap, kind_of, slots_of, parent_of, greatest, last_of, chains_up_to}
use Rattle.fs_image.specs.Records.{NameFiles}
use Rattle.fs_image.specs.Parts.{chains_of, is_stored, slot_of, slots_at, HoldsBlock}

-- ---- a stored block has its chaining block

up_to : (g : Option ℕ) (i : ℕ) → (g ≡ None → ⊥) → ((k : ℕ) → g ≡ Some k → i ≤ k) → i / 510 < chains_up_to g
up_to None i some most = absurd (some refl)
up_to (Some k) i some most = let within = most k refl in omega (arith, within)

map_chains : (blocks : BlockMap) (i : ℕ) → is_some (table.get blocks i) ≡ true → i / 510 < chains_up_to (greatest blocks)
map_chains blocks i stored =
    up_to (greatest blocks) i
    (λ none. true≢false (sym stored ∙ ap is_some (greatest_none blocks none i)))
    (λ k is. elim (cases_Bool (nat_lt k i)) [
      | inl past ↦ absurd (true≢false (sym stored ∙ ap is_some ((greatest_has blocks k is).1 i (ltb-true k i past))))
      | inr within ↦ omega (arith, ltb-false k i within)
    ])

last_up_to : (n i : ℕ) → i < n → i / 510 < chains_up_to (last_of n)
last_up_to n i below =
    subst (λ b. i / 510 < chains_up_to (if b then Some (n - 1) else None)) (sym (lt-ltb 0 n (omega (arith, below))))
    (omega (arith, below))

pub stored_chains : (c : Content) (i : ℕ) → is_stored c i ≡ true → i / 510 < chains_of c
stored_chains (Regular blocks) i stored = map_chains blocks i stored
stored_chains (Directory slots parent) i stored = last_up_to (length slots / 15) i (ltb-true i (length slots / 15) stored)
stored_chains (Link blocks) i stored = map_chains blocks i stored

-- ---- the content by its blocks

pub tail_names : (s : Option Entry) (slots : List (Option Entry)) → NameFiles (s ∷ slots) → NameFiles slots
tail_names s slots names = λ i e is. names (suc i) e is

slot_one : (s r : Option Entry) → ((e : Entry) → s ≡ Some e → e.file ≢ 0) → ((e : Entry) → r ≡ Some e → e.file ≢ 0) → slot_of s ≡ slot_of r → s ≡ r
slot_one None None fs fr same = refl
slot_one None (Some e) fs fr same = absurd (fr e refl (sym (ap (λ (x : Slot). x.number) same)))
slot_one (Some e) None fs fr same = absurd (fs e refl (ap (λ (x : Slot). x.number) same))
slot_one (Some e) (Some d) fs fr same = λ i. Some (record { file = (ap (λ (x : Slot). x.number) same) i; name = (ap (λ (x : Slot). x.name) same) i })

head_of : Slot → List Slot → Slot
head_of s [] = s
head_of s (x ∷ xs) = x

rest_of : List Slot → List Slot
rest_of [] = []
rest_of (x ∷ xs) = xs

pub slots_one : (xs ys : List (Option Entry)) → NameFiles xs → NameFiles ys → map slot_of xs ≡ map slot_of ys → xs ≡ ys
unfolding head_of rest_of
slots_one [] [] fx fy same = refl
slots_one [] (y ∷ ys) fx fy same = absurd (omega (arith, ap length same))
slots_one (x ∷ xs) [] fx fy same = absurd (omega (arith, ap length same))
slots_one (x ∷ xs) (y ∷ ys) fx fy same =
    let here : x ≡ y = slot_one x y (λ e is. fx 0 e (ap Some is)) (λ e is. fy 0 e (ap Some is)) (ap (head_of (slot_of x)) same) in
    let rest : xs ≡ ys = slots_one xs ys (tail_names x xs fx) (tail_names y ys fy) (ap rest_of same) in
    λ i. here i ∷ rest i

-- ---- lists by fifteens

past_fifteen : {A : Type 0} (n : ℕ) (xs : List A) → length xs ≡ 15 * (n + 1) → length (drop 15 xs) ≡ 15 * n
past_fifteen n xs sized = omega (arith, length-drop 15 xs, sized)

drop_none : {A : Type 0} (n : ℕ) (xs : List A) → xs ≡ [] → drop n xs ≡ []
drop_none zero xs none = none
drop_none (suc n) [] none = refl
drop_none (suc n) (x ∷ xs) none = absurd (omega (arith, ap length none))

pub drop_sum : {A : Type 0} (a b : ℕ) (xs : List A) → drop (a + b) xs ≡ drop b (drop a xs)
drop_sum zero b xs = let same : 0 + b ≡ b = omega arith in ap (λ k. drop k xs) same
drop_sum (suc a) b [] = drop_none (suc a + b) [] refl ∙ sym (drop_none b [] refl)
drop_sum (suc a) b (x ∷ xs) = let same : suc a + b ≡ suc (a + b) = omega arith in ap (λ k. drop k (x ∷ xs)) same ∙ drop_sum a b xs

drop_next : {A : Type 0} (i : ℕ) (xs : List A) → drop (15 * (i + 1)) xs ≡ drop (15 * i) (drop 15 xs)
drop_next i xs =
    let sum : 15 * (i + 1) ≡ 15 + 15 * i = omega arith in
    ap (λ k. drop k xs) sum ∙ drop_sum 15 (15 * i) xs

pub by_fifteens : {A : Type 0} (n : ℕ) (xs ys : List A) → length xs ≡ 15 * n → length ys ≡ 15 * n
    → ((i : ℕ) → i < n → take 15 (drop (15 * i) xs) ≡ take 15 (drop (15 * i) ys)) → xs ≡ ys
by_fifteens zero xs ys sx sy same = no_length xs sx ∙ sym (no_length ys sy)
  where
    no_length : {A : Type 0} (xs : List A) → length xs ≡ 0 → xs ≡ []
    no_length [] none = refl
    no_length (x ∷ xs) none = absurd (omega (arith, none))
by_fifteens (suc n) xs ys sx sy same =
    let first : take 15 xs ≡ take 15 ys = same 0 (omega arith) in
    let rest : drop 15 xs ≡ drop 15 ys =
    by_fifteens n (drop 15 xs) (drop 15 ys) (past_fifteen n xs (sx ∙ omega arith)) (past_fifteen n ys (sy ∙ omega arith))
    (λ i below. ap (take 15) (sym (drop_next i xs)) ∙ same (i + 1) (omega (arith, below)) ∙ ap (take 15) (drop_next i ys)) in
    sym (take-append-drop 15 xs) ∙ (λ i. first i ++ rest i) ∙ take-append-drop 15 ys

names_later : (n : ℕ) (slots : List (Option Entry)) → NameFiles slots → NameFiles (drop n slots)
names_later zero slots names = names
names_later (suc n) [] names = names
names_later (suc n) (s ∷ slots) names = names_later n slots (tail_names s slots names)

names_of_both : (s : Option Entry) (slots : List (Option Entry)) → ((e : Entry) → s ≡ Some e → e.file ≢ 0) → NameFiles slots → NameFiles (s ∷ slots)
names_of_both s slots here names = each
  where
    some_one : (o : Option Entry) (e : Entry) → Some o ≡ Some (Some e) → o ≡ Some e
    some_one o e is = ap (λ x. unwrap_or x None) is

    each : (i : ℕ) (e : Entry) → slice_get (s ∷ slots) i ≡ Some (Some e) → e.file ≢ 0
    each zero e is = here e (some_one s e is)
    each (suc i) e is = names i e is

names_first : (n : ℕ) (slots : List (Option Entry)) → NameFiles slots → NameFiles (take n slots)
names_first zero slots names = λ i e is. absurd (none-some (Some e) is)
names_first (suc n) [] names = names
names_first (suc n) (s ∷ slots) names = names_of_both s (take n slots) (λ e is. names 0 e (ap Some is)) (names_first n slots (tail_names s slots names))

-- ---- the content

-- what makes the content of a good tree's file: whole blocks of slots, which name no file 0
pub record IsWhole (c : Content) : Type 0 where
  pub sized : length (slots_of c) ≡ 15 * (length (slots_of c) / 15)
  pub names : NameFiles (slots_of c)

-- the blocks of a content, by what is held there
abbrev pub Found : (ℕ → Option (List ℕ)) → Content → Type 0
Found found c = (i : ℕ) → (is_some (found i) ≡ is_stored c i) × ((bytes : List ℕ) → found i ≡ Some bytes → HoldsBlock c i bytes)

look_ups : (found : ℕ → Option (List ℕ)) (b c : BlockMap) (i : ℕ) (o : Option (List ℕ)) → found i ≡ o → is_some (found i) ≡ is_some (table.get b i) → is_some (found i) ≡ is_some (table.get c i)
    → ((bytes : List ℕ) → found i ≡ Some bytes → table.get b i ≡ Some bytes) → ((bytes : List ℕ) → found i ≡ Some bytes → table.get c i ≡ Some bytes) → table.get b i ≡ table.get c i
look_ups found b c i None is there also at too = none_of (table.get b i) (sym there ∙ ap is_some is) ∙ sym (none_of (table.get c i) (sym also ∙ ap is_some is))
  where
    none_of : (o : Option (List ℕ)) → is_some o ≡ false → o ≡ None
    none_of None none = refl
    none_of (Some x) none = absurd (true≢false none)
look_ups found b c i (Some bytes) is there also at too = at bytes is ∙ sym (too bytes is)

maps_one : (found : ℕ → Option (List ℕ)) (b c : BlockMap) → ((i : ℕ) → (is_some (found i) ≡ is_some (table.get b i)) × ((bytes : List ℕ) → found i ≡ Some bytes → table.get b i ≡ Some bytes))
    → ((i : ℕ) → (is_some (found i) ≡ is_some (table.get c i)) × ((bytes : List ℕ) → found i ≡ Some bytes → table.get c i ≡ Some bytes)) → b ≡ c
maps_one found b c db dc = same_look_ups b c (λ i. look_ups found b c i (found i) refl (db i).0 (dc i).0 (db i).1 (dc i).1)

lengths_one : (a b : ℕ) → ((i : ℕ) → nat_lt i a ≡ nat_lt i b) → a ≡ b
lengths_one a b same = elim (cases_order a b) [
  | inl is ↦ is
  | inr rest ↦ elim rest [
    | inl less ↦ absurd (true≢false (sym (lt-ltb a b less) ∙ sym (same a) ∙ not_below a))
    | inr more ↦ absurd (true≢false (sym (lt-ltb b a more) ∙ same b ∙ not_below b))
  ]
]
  where
    not_below : (n : ℕ) → nat_lt n n ≡ false
    not_below n = le-ltb n n (omega arith)

fifteen_one : (found : ℕ → Option (List ℕ)) (xs ys : List (Option Entry)) (parent other i : ℕ) (o : Option (List ℕ)) → found i ≡ o → NameFiles xs → NameFiles ys
    → Found found (Directory xs parent) → Found found (Directory ys other) → i < length xs / 15 → slots_at xs i ≡ slots_at ys i
fifteen_one found xs ys parent other i None is nx ny fx fy below = absurd (true≢false (sym (lt-ltb i (length xs / 15) below) ∙ sym (fx i).0 ∙ ap is_some is))
fifteen_one found xs ys parent other i (Some bytes) is nx ny fx fy below =
    slots_one (slots_at xs i) (slots_at ys i) (names_first 15 _ (names_later (15 * i) xs nx)) (names_first 15 _ (names_later (15 * i) ys ny))
    (block_one (map slot_of (slots_at xs i)) (map slot_of (slots_at ys i)) bytes ((fx i).1 bytes is) ((fy i).1 bytes is))

pub content_one : (found : ℕ → Option (List ℕ)) (c d : Content) → IsWhole c → IsWhole d → Found found c → Found found d → kind_of c ≡ kind_of d
    → unwrap_or (parent_of c) 0 ≡ unwrap_or (parent_of d) 0 → c ≡ d
content_one found (Regular b) (Regular c) wc wd fc fd kind parent = ap Regular (maps_one found b c fc fd)
content_one found (Regular b) (Directory slots p) wc wd fc fd kind parent = absurd (omega (arith, kind))
content_one found (Regular b) (Link c) wc wd fc fd kind parent = absurd (omega (arith, kind))
content_one found (Directory slots p) (Regular b) wc wd fc fd kind parent = absurd (omega (arith, kind))
content_one found (Directory xs p) (Directory ys q) wc wd fc fd kind parent =
    let many : length xs / 15 ≡ length ys / 15 = lengths_one (length xs / 15) (length ys / 15) (λ i. sym (fc i).0 ∙ (fd i).0) in
    let slots : xs ≡ ys =
    by_fifteens (length xs / 15) xs ys wc.sized (wd.sized ∙ ap (λ n. 15 * n) (sym many))
    (λ i below. fifteen_one found xs ys p q i (found i) refl wc.names wd.names fc fd below) in
    λ i. Directory (slots i) (parent i)
content_one found (Directory slots p) (Link b) wc wd fc fd kind parent = absurd (omega (arith, kind))
content_one found (Link b) (Regular c) wc wd fc fd kind parent = absurd (omega (arith, kind))
content_one found (Link b) (Directory slots p) wc wd fc fd kind parent = absurd (omega (arith, kind))
content_one found (Link b) (Link c) wc wd fc fd kind parent = ap Link (maps_one found b c fc fd)
