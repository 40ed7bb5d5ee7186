-- What is read can be written, set bits are counted, and names are found alike.
use Rattle.std.proofs.Common.{◌≡◌, ◌≢◌, ℕ, zero, suc, ◌+◌, ◌<◌, ◌≤◌, true, false, Bool, cond, List, [], ◌∷◌, Option, Some, None, inl, inr, refl, sym, ap, ◌∙◌, arith}
use Rattle.std.specs.Prelude.{◌++◌, ◌&&◌, nat_lt, not, map, position, is_none, bytes_eq, All, if◌then◌else◌}
use Rattle.std.specs.List.{AllByRecursion, prefix_len}
use Rattle.std.proofs.lemmas.Bool.{cases_eq, ne_eqb}
use Rattle.std.proofs.lemmas.Cmp.{nat_list_eq_equiv}
use Rattle.std.proofs.lemmas.List.{length-map}
use Rattle.fs_layout.specs.declared.reference.Reference.{Reference}
use Rattle.fs_layout.specs.References.{IsReference, reference_words}
use Rattle.fs_layout.specs.Words.{AreWords}
use Rattle.fs_bitmap.specs.Bits.{is_used, free_below}
use Rattle.fs_chain.specs.ReferenceLists.{references_words}
use Rattle.fs_dir.specs.declared.slot.Slot.{Slot}
use Rattle.fs_dir.specs.Slots as blocks
use Rattle.fs_dir.specs.Slots.{IsSlot, FitsSlot, AreSlots, SpellsSlots, in_use}
use Rattle.fs_rules.specs.declared.entry.Entry.{Entry}
use Rattle.fs_rules.specs.Slots as rules
use Rattle.fs_image.specs.Parts.{slot_of}
use Rattle.fs_image.proofs.ContentLemmas.{tail_names}
use Rattle.fs_image.specs.Records.{ReadChainsAreChains, ReadSlotsAreSlots, IsSet, SetBitsAreCounted, NameFiles, SlotsAreFoundAlike}

-- ---- what is read can be written

first_words : (r : Option Reference) (header others : List ℕ) → AreWords ((reference_words r ++ header) ++ others) → IsReference r
first_words None header others words = tt
first_words (Some to) header others words = (words 0, words 1)

pub read_chains : ReadChainsAreChains
read_chains c bytes spells = first_words c.next (c.file ∷ c.index ∷ []) (references_words c.references) spells.words

all_slots : (slots : List Slot) → AllByRecursion FitsSlot slots → All IsSlot slots
all_slots [] fit k d within = absurd (omega (arith, within))
all_slots (s ∷ slots) fit zero d within = fit.0.is
all_slots (s ∷ slots) fit (suc k) d within = all_slots slots fit.1 k d (omega (arith, within))

pub read_slots : ReadSlotsAreSlots
read_slots slots bytes spells = record { sized = spells.sized; are = all_slots slots spells.fit }

-- ---- a bit that is set is counted

abbrev free_bit : Bool → ℕ
free_bit b = if b then 0 else 1

alike_below : (old new : List ℕ) (bit n : ℕ) (on : Bool) → n ≤ bit → IsSet old new bit on → free_below new n ≡ free_below old n
unfolding free_below
alike_below old new bit zero on within set = refl
alike_below old new bit (suc n) on within set =
    omega (arith, alike_below old new bit n on (omega (arith, within)) set, ap free_bit (set.others n (λ same. omega (arith, same, within))))

counted : (old new : List ℕ) (bit bits : ℕ) (on : Bool) → bit < bits → IsSet old new bit on
    → free_below new bits + free_bit (is_used old bit) ≡ free_below old bits + free_bit on
unfolding free_below
counted old new bit zero on below set = absurd (omega (arith, below))
counted old new bit (suc n) on below set = elim (cases_eq bit n) [
  | inl last ↦
      let here : free_bit (is_used new n) ≡ free_bit on = ap free_bit (ap (is_used new) (sym last) ∙ set.changed) in
      let was : free_bit (is_used old bit) ≡ free_bit (is_used old n) = ap (λ k. free_bit (is_used old k)) last in
      omega (arith, here, was, alike_below old new bit n on (omega (arith, last)) set)
  | inr earlier ↦
      let same : free_bit (is_used new n) ≡ free_bit (is_used old n) = ap free_bit (set.others n (λ is. earlier (sym is))) in
      omega (arith, same, counted old new bit n on (omega (arith, below, earlier)) set)
]

pub set_counted : SetBitsAreCounted
set_counted old new bit bits below = (
  λ set was. let free : free_bit (is_used old bit) ≡ 1 = ap free_bit was in omega (arith, counted old new bit bits true below set, free),
  λ set was. let full : free_bit (is_used old bit) ≡ 0 = ap free_bit was in omega (arith, counted old new bit bits false below set, full),
  λ on set was. let same : free_bit (is_used old bit) ≡ free_bit on = ap free_bit was in omega (arith, counted old new bit bits on below set, same),
)

-- ---- names

-- two tests that agree find the first at one place
prefix_alike : (p : Slot → Bool) (q : Option Entry → Bool) (slots : List (Option Entry)) → NameFiles slots
    → ((s : Option Entry) → ((e : Entry) → s ≡ Some e → e.file ≢ 0) → p (slot_of s) ≡ q s) → prefix_len p (map slot_of slots) ≡ prefix_len q slots
prefix_alike p q [] names same = refl
prefix_alike p q (s ∷ slots) names same =
    ap (λ b. cond b (1 + prefix_len p (map slot_of slots)) 0) (same s (λ e is. names 0 e (ap Some is)))
    ∙ ap (λ n. cond (q s) (1 + n) 0) (prefix_alike p q slots (tail_names s slots names) same)

position_alike : (p : Slot → Bool) (q : Option Entry → Bool) (slots : List (Option Entry)) → NameFiles slots
    → ((s : Option Entry) → ((e : Entry) → s ≡ Some e → e.file ≢ 0) → p (slot_of s) ≡ q s) → position p (map slot_of slots) ≡ position q slots
position_alike p q slots names same =
    let place : prefix_len (λ x. not (p x)) (map slot_of slots) ≡ prefix_len (λ x. not (q x)) slots =
    prefix_alike (λ x. not (p x)) (λ x. not (q x)) slots names (λ s fine. ap not (same s fine)) in
    λ i. cond (nat_lt (place i) ((length-map slots slot_of) i)) (Some (place i)) None

named_alike : (name : List ℕ) (s : Option Entry) → ((e : Entry) → s ≡ Some e → e.file ≢ 0) → blocks.has_name name (slot_of s) ≡ rules.has_name name s
named_alike name None fine = refl
named_alike name (Some e) fine = ap (λ b. not b && bytes_eq e.name name) (ne_eqb e.file 0 (fine e refl)) ∙ nat_list_eq_equiv.symm e.name name

empty_alike : (s : Option Entry) → ((e : Entry) → s ≡ Some e → e.file ≢ 0) → not (in_use (slot_of s)) ≡ is_none s
empty_alike None fine = refl
empty_alike (Some e) fine = ap (λ b. not (not b)) (ne_eqb e.file 0 (fine e refl))

pub slots_found : SlotsAreFoundAlike
slots_found slots names =
    (λ name. position_alike (blocks.has_name name) (rules.has_name name) slots names (named_alike name), position_alike (λ s. not (in_use s)) is_none slots names empty_alike)
