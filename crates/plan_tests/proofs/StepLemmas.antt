-- Items that lie within a flat memory, and what they read.
use Rattle.std.proofs.Common.{◌≡◌, ℕ, ◌+◌, ◌-◌, ◌<◌, ◌≤◌, true, false, Bool, List, [], ◌∷◌, length, map, drop, Option, Some, None, refl, ap, ◌∙◌, arith, length-take, length-drop}
use Rattle.std.specs.Prelude.{All, ◌&&◌, nat_le, slice_get}
use Rattle.std.specs.Option.{option_map_or}
use Rattle.std.specs.List.{AllByRecursion, list_all}
use Rattle.std.proofs.lemmas.Bool.{leb-true}
use Rattle.std.proofs.lemmas.List.Elements.{All-from_recursion, recursion_from_All}
use Rattle.std.proofs.lemmas.Option.{get_or_from_slice_get, slice_get_within}
use Rattle.mini_tx.specs.declared.item.Item.{Item}
use Rattle.mini_tx.specs.declared.item.Item.TheVariants as item
use Rattle.mini_tx.specs.FlatMemory.{Flat, IsWithin, bytes_at, held_by, reads}
use Rattle.mini_tx.specs.Minitransactions.{memory_of, place_of, bytes_of}
use Rattle.plan_rules.specs.Fetched.{AreReads}
use Rattle.plan_tests.specs.Within.{is_within}

both_true : (a b : Bool) → a && b ≡ true → (a ≡ true) × (b ≡ true)
both_true true b is = (refl, is)
both_true false b is = absurd cc

fits_by : (flat : Flat) (memory at len : ℕ) (p : Option (List ℕ)) → slice_get flat memory ≡ p
    → option_map_or (λ image. nat_le at (length image) && nat_le len (length image - at)) p false ≡ true
    → (memory < length flat) × (at + len ≤ length (held_by flat memory))
fits_by flat memory at len None here is = absurd cc
fits_by flat memory at len (Some image) here is =
    let both = both_true (nat_le at (length image)) _ is in
    let first = leb-true at (length image) both.0 in
    let second = leb-true len (length image - at) both.1 in
    let same : held_by flat memory ≡ image = get_or_from_slice_get flat memory image [] here in
    (slice_get_within flat memory image here, omega (arith, first, second, ap length same))

one_within : (flat : Flat) (i : Item) → is_within flat i ≡ true → IsWithin flat i
one_within flat i is =
    let both = fits_by flat (memory_of i) (place_of i) (bytes_of i) (slice_get flat (memory_of i)) refl is in
    record { there = both.0; ends = both.1 }

all_by : (flat : Flat) (items : List Item) → list_all (is_within flat) items ≡ true → AllByRecursion (IsWithin flat) items
all_by flat [] is = tt
all_by flat (i ∷ items) is =
    let both = both_true (is_within flat i) _ is in (one_within flat i both.0, all_by flat items both.1)

pub all_within : (flat : Flat) (items : List Item) → list_all (is_within flat) items ≡ true → All (IsWithin flat) items
all_within flat items is = All-from_recursion (IsWithin flat) items (all_by flat items is)

-- what is read is as much and as long as is asked for
sized_by : (flat : Flat) (items : List Item) → AllByRecursion (IsWithin flat) items → AreReads items (reads items flat)
sized_by flat [] all = refl
sized_by flat (item.Compare memory at bytes ∷ items) all = sized_by flat items all.1
sized_by flat (item.Read memory at len ∷ items) all =
    let within = all.0.ends in
    let long : length (bytes_at (held_by flat memory) at len) ≡ len =
    omega (arith, within, length-take len (drop at (held_by flat memory)), length-drop at (held_by flat memory)) in
    ap (λ n. n ∷ map length (reads items flat)) long ∙ ap (λ ns. len ∷ ns) (sized_by flat items all.1)
sized_by flat (item.Write memory at bytes ∷ items) all = sized_by flat items all.1

pub reads_sized : (flat : Flat) (items : List Item) → All (IsWithin flat) items → (rs : List (List ℕ)) → rs ≡ reads items flat → AreReads items rs
reads_sized flat items all rs is =
    ap (map length) is ∙ sized_by flat items (recursion_from_All (IsWithin flat) items all)
