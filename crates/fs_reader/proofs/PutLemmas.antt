-- A content that has one block more.
use Rattle.std.proofs.Common.{◌≡◌, ◌≢◌, ℕ, zero, suc, ◌+◌, ◌*◌, ◌<◌, true, List, [], ◌∷◌, length, map, take, drop, Option, Some, None, inl, inr, refl, sym, ap, subst, ◌∙◌, arith}
use Rattle.std.specs.Prelude.{◌/◌, ◌==◌, ◌++◌, nat_lt, is_some, unwrap_or, if◌then◌else◌}
use Rattle.std.specs.List.{AllByRecursion}
use Rattle.std.specs.FinMap as table
use Rattle.std.proofs.lemmas.Bool.{cases_Bool, cases_order, true≢false, eqb-true, eq-eqb, ltb-true, lt-ltb, le-ltb}
use Rattle.std.proofs.lemmas.List.{drop_at, take-append-le, drop-append-le, length-append, length-drop, length-map}
use Rattle.std.proofs.Math.Seq.{take-length}
use Rattle.std.proofs.lemmas.Option.{none-some}
use Rattle.sfs_base.proofs.MapLemmas.{get_inserted, get_past_insert}
use Rattle.fs_dir.specs.declared.slot.Slot.{Slot}
use Rattle.fs_dir.specs.Slots.{FitsSlot, SpellsSlots}
use Rattle.fs_rules.specs.declared.content.Content.{Content}
use Rattle.fs_rules.specs.declared.content.Content.TheVariants.{Regular, Link, Directory}
use Rattle.fs_rules.specs.declared.entry.Entry.{Entry}
use Rattle.fs_rules.specs.File.{BlockMap, slots_of}
use Rattle.fs_image.specs.Parts.{is_stored, slot_of, slots_at, HoldsBlock}
use Rattle.fs_image.specs.Records.{NameFiles}
use Rattle.fs_reader.specs.Contents.{entry_of, AreSlotsOf, HasMoreSlots, IsPut, IsOfKind}

-- ---- the slots that bytes spell

name_none : (s : Slot) → s.number ≡ 0 → FitsSlot s → slot_of None ≡ s
name_none s none fits =
    let name : [] ≡ s.name = sym (fits.is.empty none) in
    λ i. record { number = (sym none) i; name = name i }

entry_back : (s : Slot) → FitsSlot s → slot_of (entry_of s) ≡ s
entry_back s fits = elim (cases_Bool (s.number == 0)) [
  | inl none ↦ ap (λ b. slot_of (if b then None else Some (record { file = s.number; name = s.name }))) none ∙ name_none s (eqb-true s.number 0 none) fits
  | inr some ↦ ap (λ b. slot_of (if b then None else Some (record { file = s.number; name = s.name }))) some
]

entries_back : (slots : List Slot) → AllByRecursion FitsSlot slots → map slot_of (map entry_of slots) ≡ slots
entries_back [] fit = refl
entries_back (s ∷ slots) fit = λ i. (entry_back s fit.0) i ∷ (entries_back slots fit.1) i

entry_names : (s : Slot) (e : Entry) → entry_of s ≡ Some e → e.file ≢ 0
entry_names s e is none = elim (cases_Bool (s.number == 0)) [
  | inl empty ↦ absurd (none-some e (sym (ap (λ b. if b then None else Some (record { file = s.number; name = s.name })) empty) ∙ is))
  | inr some ↦
      let same : record { file = s.number; name = s.name } ≡ e =
      ap (λ o. unwrap_or o e) (sym (ap (λ b. if b then None else Some (record { file = s.number; name = s.name })) some) ∙ is) in
      true≢false (sym (eq-eqb s.number 0 (ap (λ (d : Entry). d.file) same ∙ none)) ∙ some)
]

some_one : {A : Type 0} (a b : A) → Some a ≡ Some b → a ≡ b
some_one a b is = ap (λ x. unwrap_or x a) is

entries_name : (slots : List Slot) → NameFiles (map entry_of slots)
entries_name [] i e is = absurd (none-some (Some e) is)
entries_name (s ∷ slots) zero e is = entry_names s e (some_one (entry_of s) (Some e) is)
entries_name (s ∷ slots) (suc i) e is = entries_name slots i e is

pub slots_are : (slots : List Slot) (bytes : List ℕ) → SpellsSlots slots bytes → AreSlotsOf (map entry_of slots) bytes
slots_are slots bytes spells =
    record {
      spelled = subst (λ (s : List Slot). SpellsSlots s bytes) (sym (entries_back slots spells.fit)) spells;
      names = entries_name slots;
    }

-- ---- what a content has then

pub record HasPut (c : Content) (i : ℕ) (bytes : List ℕ) (new : Content) : Type 0 where
  pub here : is_stored new i ≡ true
  pub other : (j : ℕ) → j ≢ i → is_stored new j ≡ is_stored c j
  pub holds : HoldsBlock new i bytes
  pub others : (j : ℕ) (b : List ℕ) → j ≢ i → is_stored c j ≡ true → HoldsBlock c j b → HoldsBlock new j b
  pub sized : length (slots_of new) ≡ 15 * (length (slots_of new) / 15)
  pub names : NameFiles (slots_of new)
  pub kind : IsOfKind c new

no_names : NameFiles []
no_names i e is = absurd (none-some (Some e) is)

map_put : (blocks : BlockMap) (i : ℕ) (bytes : List ℕ) → HasPut (Regular blocks) i bytes (Regular (table.insert blocks i bytes))
map_put blocks i bytes =
    record {
      here = ap is_some (get_inserted blocks i bytes i refl);
      other = λ j other. ap is_some (get_past_insert blocks i bytes j other);
      holds = get_inserted blocks i bytes i refl;
      others = λ j b other stored is. get_past_insert blocks i bytes j other ∙ is;
      sized = refl;
      names = no_names;
      kind = record { kind = refl; parent = refl };
    }

link_put : (blocks : BlockMap) (i : ℕ) (bytes : List ℕ) → HasPut (Link blocks) i bytes (Link (table.insert blocks i bytes))
link_put blocks i bytes =
    record {
      here = ap is_some (get_inserted blocks i bytes i refl);
      other = λ j other. ap is_some (get_past_insert blocks i bytes j other);
      holds = get_inserted blocks i bytes i refl;
      others = λ j b other stored is. get_past_insert blocks i bytes j other ∙ is;
      sized = refl;
      names = no_names;
      kind = record { kind = refl; parent = refl };
    }

names_both : (xs ys : List (Option Entry)) → NameFiles xs → NameFiles ys → NameFiles (xs ++ ys)
names_both [] ys nx ny i e is = ny i e is
names_both (x ∷ xs) ys nx ny zero e is = nx 0 e is
names_both (x ∷ xs) ys nx ny (suc i) e is = names_both xs ys (λ k d at. nx (suc k) d at) ny i e is

module _ (slots more : List (Option Entry)) (i : ℕ) (bytes : List ℕ) (sized : length slots ≡ 15 * i) (fifteen : length more ≡ 15) where
  both_sized : length (slots ++ more) ≡ 15 * (i + 1)
  both_sized = omega (arith, length-append slots more, sized, fifteen)

  many : length (slots ++ more) / 15 ≡ i + 1
  many = omega (arith, both_sized)

  few : length slots / 15 ≡ i
  few = omega (arith, sized)

  last_slots : slots_at (slots ++ more) i ≡ more
  last_slots =
      ap (take 15) (drop_at slots more (15 * i) sized)
      ∙ ap (λ n. take n more) (sym fifteen) ∙ take-length more

  first_slots : (j : ℕ) → j < i → slots_at (slots ++ more) j ≡ slots_at slots j
  first_slots j below =
      ap (take 15) (drop-append-le (15 * j) slots more (omega (arith, below, sized)))
      ∙ take-append-le 15 (drop (15 * j) slots) more (omega (arith, below, sized, length-drop (15 * j) slots))

  past : (j : ℕ) → j ≢ i → nat_lt j (length (slots ++ more) / 15) ≡ nat_lt j (length slots / 15)
  past j other = elim (cases_order j i) [
    | inl same ↦ absurd (other same)
    | inr rest ↦ elim rest [
      | inl less ↦ lt-ltb j (length (slots ++ more) / 15) (omega (arith, less, many)) ∙ sym (lt-ltb j (length slots / 15) (omega (arith, less, few)))
      | inr above ↦ le-ltb j (length (slots ++ more) / 15) (omega (arith, above, many)) ∙ sym (le-ltb j (length slots / 15) (omega (arith, above, few)))
    ]
  ]

slots_put : (slots : List (Option Entry)) (parent i : ℕ) (bytes : List ℕ) (news : List (Option Entry)) → NameFiles slots → HasMoreSlots slots i bytes news
    → HasPut (Directory slots parent) i bytes (Directory news parent)
slots_put slots parent i bytes news named has =
    let fifteen : length has.more ≡ 15 = sym (length-map has.more slot_of) ∙ has.are.spelled.sized in
    subst (λ (s : List (Option Entry)). HasPut (Directory slots parent) i bytes (Directory s parent)) (sym has.new_is)
    (record {
      here = lt-ltb i (length (slots ++ has.more) / 15) (omega (arith, many slots has.more i bytes has.sized fifteen));
      other = λ j other. past slots has.more i bytes has.sized fifteen j other;
      holds = subst (λ (s : List (Option Entry)). SpellsSlots (map slot_of s) bytes) (sym (last_slots slots has.more i bytes has.sized fifteen)) has.are.spelled;
      others = λ j b other stored is. subst (λ (s : List (Option Entry)). SpellsSlots (map slot_of s) b)
          (sym (first_slots slots has.more i bytes has.sized fifteen j (omega (arith, ltb-true j (length slots / 15) stored, has.sized)))) is;
      sized = omega (arith, both_sized slots has.more i bytes has.sized fifteen);
      names = names_both slots has.more named has.are.names;
      kind = record { kind = refl; parent = refl };
    })

pub has_put : (c : Content) (i : ℕ) (bytes : List ℕ) (new : Content) → NameFiles (slots_of c) → IsPut c i bytes new → HasPut c i bytes new
has_put (Regular blocks) i bytes new names put = subst (HasPut (Regular blocks) i bytes) (sym put) (map_put blocks i bytes)
has_put (Directory slots parent) i bytes new names put =
    subst (HasPut (Directory slots parent) i bytes) (sym put.new_is) (slots_put slots parent i bytes put.slots names put.has)
has_put (Link blocks) i bytes new names put = subst (HasPut (Link blocks) i bytes) (sym put) (link_put blocks i bytes)

-- slots that were read behind those that were there
pub more_slots : (slots : List (Option Entry)) (index : ℕ) (bytes : List ℕ) (read : List Slot) (news : List (Option Entry)) → length slots ≡ 15 * index → SpellsSlots read bytes
    → news ≡ slots ++ map entry_of read → HasMoreSlots slots index bytes news
more_slots slots index bytes read news sized spells is = record { sized = sized; more = map entry_of read; are = slots_are read bytes spells; new_is = is }
