-- What is known of valid items, and of the votes on them and the entries of these votes.
use Rattle.std.proofs.Common.{◌≡◌, ◌≤◌, ◌+◌, ℕ, Bool, true, false, cond, eqb, leb, ltb, List, [], ◌∷◌, map, length, Option, Some, None, refl, sym, ap, ◌∙◌, arith}
use Rattle.std.specs.List.{AllByRecursion, All}
use Rattle.std.specs.Prelude.{◌||◌, drop, Ok}
use Rattle.std.proofs.lemmas.Bool.{eqb-false, ltb-false}
use Rattle.std.proofs.lemmas.List.{length-map, length-take, length-drop, append-nil}
use Rattle.std.proofs.lemmas.List.Elements.{All-from_recursion, recursion_from_All}
use Rattle.mini_tx.specs.declared.cut_id.CutId.{CutId}
use Rattle.mini_tx.specs.declared.entry.Entry.{Entry}
use Rattle.mini_tx.specs.declared.item.Item.{Item}
use Rattle.mini_tx.specs.declared.item.Item.TheVariants as item
use Rattle.mini_tx.specs.declared.mini_fault.MiniFault.TheVariants as fault
use Rattle.mini_tx.specs.declared.placed_item.PlacedItem.{PlacedItem}
use Rattle.mini_tx.specs.declared.tx_id.TxId.{TxId}
use Rattle.mini_tx.specs.EntryGrammar.{longest, FitsBytes, FitsVote, FitsEntry, entry_spelling}
use Rattle.mini_tx.specs.EntryReading.{entry_of, entry_item, whole_of}
use Rattle.mini_tx.specs.EntryLaws.{entries_exact, entries_written}
use Rattle.mini_tx.specs.FlatMemory.{bytes_at}
use Rattle.mini_tx.specs.Laws.{IsTypedEntry}
use Rattle.mini_tx.specs.Minitransactions.{memory_of, place_of, bytes_of, is_outside, first_outside, place_refusal, bytes_of_all, refusal}
use Rattle.mem_rules.specs.declared.difference.Difference.{Difference}
use Rattle.mem_rules.specs.declared.setup.Setup.{Setup}
use Rattle.mem_rules.specs.Items.{differs, first_difference, read_before, reads_of, write_before, writes_of}
use Rattle.mem_rules.specs.Rules.{rule_by_items, rule_by_cut, vote_by}
use Rattle.mem_rules.specs.Fit.{IsSetup, IsInside, IsWriteInside, AreInside, size_of}

-- ---- valid items lie within the image

-- no answer came from a test
none_step : {X : Type 0} (b : Bool) (v : X) (rest : Option X) → cond b (Some v) rest ≡ None → (b ≡ false) × (rest ≡ None)
none_step true v rest e = absurd cc
none_step false v rest e = (refl, e)

or_both : (a b : Bool) → a || b ≡ false → (a ≡ false) × (b ≡ false)
or_both true b e = absurd cc
or_both false b e = (refl, e)

inside : (memories size : ℕ) (i : Item) → is_outside memories size i ≡ false → IsInside size (place_of i) (bytes_of i)
inside memories size i e =
    let first = or_both (eqb (bytes_of i) 0) (leb memories (memory_of i) || ltb size (place_of i + bytes_of i)) e in
    let second = or_both (leb memories (memory_of i)) (ltb size (place_of i + bytes_of i)) first.1 in
    let some = eqb-false (bytes_of i) 0 first.0 in
    let ends : place_of i + bytes_of i ≤ size = ltb-false size (place_of i + bytes_of i) second.1 in
    (omega arith, ends)

all_inside : (memories size at : ℕ) (items : List PlacedItem) → first_outside memories size at (map (λ (p : PlacedItem). p.item) items) ≡ None
    → AllByRecursion (λ (p : PlacedItem). IsInside size (place_of p.item) (bytes_of p.item)) items
all_inside memories size at [] e = tt
all_inside memories size at (p ∷ items) e =
    let n = none_step (is_outside memories size p.item) at (first_outside memories size (at + 1) (map (λ (q : PlacedItem). q.item) items)) e in
    (inside memories size p.item n.0, all_inside memories size (at + 1) items n.1)

no_place : (outside : Option ℕ) (items : List Item) → place_refusal outside items ≡ None → outside ≡ None
no_place None items e = refl
no_place (Some at) items e = absurd cc

record IsValid (size : ℕ) (items : List PlacedItem) : Type 0 where
  pub few : length items ≤ 512
  pub within : AllByRecursion (λ (p : PlacedItem). IsInside size (place_of p.item) (bytes_of p.item)) items

valid_items : (memories size : ℕ) (items : List PlacedItem) → refusal (map (λ (p : PlacedItem). p.item) items) memories size ≡ None → IsValid size items
valid_items memories size items e =
    let own = map (λ (p : PlacedItem). p.item) items in
    let more = place_refusal (first_outside memories size 0 own) own in
    let large = cond (ltb 1048576 (bytes_of_all own)) (Some fault.TooLarge) more in
    let many = cond (ltb 512 (length own)) (Some fault.TooManyItems) large in
    let a = none_step (eqb (length own) 0) fault.Empty many e in
    let b = none_step (ltb 512 (length own)) fault.TooManyItems large a.1 in
    let c = none_step (ltb 1048576 (bytes_of_all own)) fault.TooLarge more b.1 in
    let count : length own ≤ 512 = ltb-false 512 (length own) b.0 in
    record {
      few = omega (arith, length-map items (λ (p : PlacedItem). p.item));
      within = all_inside memories size 0 items (no_place (first_outside memories size 0 own) own c.1);
    }

pub valid_inside : (memories size : ℕ) (items : List PlacedItem) → refusal (map (λ (p : PlacedItem). p.item) items) memories size ≡ None → AreInside size items
valid_inside memories size items e = All-from_recursion (λ (p : PlacedItem). IsInside size (place_of p.item) (bytes_of p.item)) items (valid_items memories size items e).within

pub valid_few : (memories size : ℕ) (items : List PlacedItem) → refusal (map (λ (p : PlacedItem). p.item) items) memories size ≡ None → length items ≤ 512
valid_few memories size items e = (valid_items memories size items e).few

-- ---- what votes and entries have a spelling

bytes_fit : (image : List ℕ) (at n : ℕ) → length image ≤ longest → FitsBytes (bytes_at image at n)
bytes_fit image at n small = omega (arith, length-take n (drop at image), length-drop at image)

read_fits : (image : List ℕ) (i : Item) (others : List (List ℕ)) → length image ≤ longest → AllByRecursion FitsBytes others → AllByRecursion FitsBytes (read_before image i others)
read_fits image (item.Compare memory at bytes) others small fit = fit
read_fits image (item.Read memory at n) others small fit = (bytes_fit image at n small, fit)
read_fits image (item.Write memory at bytes) others small fit = fit

reads_fit : (image : List ℕ) (items : List PlacedItem) → length image ≤ longest → AllByRecursion FitsBytes (reads_of image items)
reads_fit image [] small = tt
reads_fit image (p ∷ items) small = read_fits image p.item (reads_of image items) small (reads_fit image items small)

read_more : (image : List ℕ) (i : Item) (others : List (List ℕ)) → length (read_before image i others) ≤ length others + 1
read_more image (item.Compare memory at bytes) others = omega arith
read_more image (item.Read memory at n) others = omega arith
read_more image (item.Write memory at bytes) others = omega arith

reads_few : (image : List ℕ) (items : List PlacedItem) → length (reads_of image items) ≤ length items
reads_few image [] = omega arith
reads_few image (p ∷ items) = omega (arith, read_more image p.item (reads_of image items), reads_few image items)

write_inside : (size : ℕ) (i : Item) → IsInside size (place_of i) (bytes_of i) → (others : _) → AllByRecursion (IsWriteInside size) others → AllByRecursion (IsWriteInside size) (write_before i others)
write_inside size (item.Compare memory at bytes) within others all = all
write_inside size (item.Read memory at n) within others all = all
write_inside size (item.Write memory at bytes) within others all = (within, all)

writes_inside : (size : ℕ) (items : List PlacedItem) → AllByRecursion (λ (p : PlacedItem). IsInside size (place_of p.item) (bytes_of p.item)) items → AllByRecursion (IsWriteInside size) (writes_of items)
writes_inside size [] all = tt
writes_inside size (p ∷ items) all = write_inside size p.item all.0 (writes_of items) (writes_inside size items all.1)

write_more : (i : Item) (others : _) → length (write_before i others) ≤ length others + 1
write_more (item.Compare memory at bytes) others = omega arith
write_more (item.Read memory at n) others = omega arith
write_more (item.Write memory at bytes) others = omega arith

pub writes_few : (items : List PlacedItem) → length (writes_of items) ≤ length items
writes_few [] = omega arith
writes_few (p ∷ items) = omega (arith, write_more p.item (writes_of items), writes_few items)

pub all_writes_inside : (size : ℕ) (items : List PlacedItem) → AreInside size items → All (IsWriteInside size) (writes_of items)
all_writes_inside size items all =
    All-from_recursion (IsWriteInside size) (writes_of items)
    (writes_inside size items (recursion_from_All (λ (p : PlacedItem). IsInside size (place_of p.item) (bytes_of p.item)) items all))

pub each_weaker : {X : Type 0} (P Q : X → Type 0) (xs : List X) → ((x : X) → P x → Q x) → AllByRecursion P xs → AllByRecursion Q xs
each_weaker P Q [] weaker all = tt
each_weaker P Q (x ∷ xs) weaker all = (weaker x all.0, each_weaker P Q xs weaker all.1)

difference_fits : (image : List ℕ) (items : List PlacedItem) (d : Difference) → length image ≤ longest → first_difference image items ≡ Some d → FitsBytes d.kept
difference_fits image [] d small e = absurd cc
difference_fits image (p ∷ items) d small e = go (differs image p.item) e (difference_fits image items d small)
  where
    found : Difference
    found = record { place = p.place; kept = bytes_at image (place_of p.item) (bytes_of p.item) }

    go : (b : Bool) → cond b (Some found) (first_difference image items) ≡ Some d → (first_difference image items ≡ Some d → FitsBytes d.kept) → FitsBytes d.kept
    go true is rest =
        let same : bytes_at image (place_of p.item) (bytes_of p.item) ≡ d.kept = cc in
        omega (arith, bytes_fit image (place_of p.item) (bytes_of p.item) small, ap (length {A = ℕ}) same)
    go false is rest = rest is

-- the vote on a new identifier has a spelling
pub new_vote_fits : (image : List ℕ) (items : List PlacedItem) (cut : Option CutId) (holder : Option TxId) → length image ≤ longest → length items ≤ longest
    → FitsVote (vote_by image items (rule_by_cut cut holder (first_difference image items)))
new_vote_fits image items (Some cut) holder small few = tt
new_vote_fits image items None (Some holder) small few = tt
new_vote_fits image items None None small few = go (first_difference image items) refl
  where
    go : (d : Option Difference) → first_difference image items ≡ d → FitsVote (vote_by image items (rule_by_items d))
    go (Some d) is = difference_fits image items d small is
    go None is = (omega (arith, reads_few image items), reads_fit image items small)

-- an image is not large
pub small_image : (s : Setup) → IsSetup s → size_of s ≤ 69214208
small_image s setup = omega (arith, setup.blocks.1, setup.inodes.1)

-- what is written of an entry is read as the entry
pub read_again : (e : Entry) → IsTypedEntry e → FitsEntry e → entry_of (entry_spelling e) ≡ Ok e
read_again e typed fits =
    let again = entries_exact.again e (entry_spelling e) [] (entries_written e typed fits) in
    let alone : entry_item (entry_spelling e) ≡ Ok (e, []) = ap entry_item (sym (append-nil (entry_spelling e))) ∙ again in
    ap whole_of alone
