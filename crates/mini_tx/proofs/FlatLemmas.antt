-- What writing leaves of the sizes of the flat memory.
use Rattle.std.proofs.Common.{◌≡◌, ℕ, ◌+◌, ◌<◌, ◌≤◌, Bool, true, false, List, [], ◌∷◌, ◌++◌, take, drop, set, get_or, length, eqb, eqb-true, refl, sym, ap, ◌∙◌, arith}
use Rattle.std.proofs.lemmas.Bool.{eq-eqb}
use Rattle.std.proofs.lemmas.List.{length-append, length-take, length-drop, length-set, get_or-set_same, get_or-set_other, get_or_default, drop_more}
use Rattle.mini_tx.specs.declared.item.Item.{Item}
use Rattle.mini_tx.specs.declared.item.Item.TheVariants as item
use Rattle.mini_tx.specs.FlatMemory.{Flat, held_by, with_bytes, after, IsWithin}

-- as many memory nodes, and each of as many bytes
pub record IsAsLarge (flat before : Flat) : Type 0 where
  pub nodes : length flat ≡ length before
  pub bytes : (memory : ℕ) → length (held_by flat memory) ≡ length (held_by before memory)

-- the flat memory with the item in place, if it writes
abbrev pub written : Item → Flat → Flat
written (item.Compare memory at bytes) flat = flat
written (item.Read memory at len) flat = flat
written (item.Write memory at bytes) flat = set flat memory (with_bytes (held_by flat memory) at bytes)

pub after_one : (i : Item) (items : List Item) (flat : Flat) → after (i ∷ items) flat ≡ after items (written i flat)
after_one (item.Compare memory at bytes) items flat = refl
after_one (item.Read memory at len) items flat = refl
after_one (item.Write memory at bytes) items flat = refl

length-with_bytes : (image : List ℕ) (at : ℕ) (bytes : List ℕ) → at + length bytes ≤ length image → length (with_bytes image at bytes) ≡ length image
length-with_bytes image at bytes fits =
    omega (
      arith,
      fits,
      length-append (take at image) (bytes ++ drop (at + length bytes) image),
      length-append bytes (drop (at + length bytes) image),
      length-take at image,
      length-drop (at + length bytes) image,
    )

-- what holds of one memory node, with other bytes there, and of all others
held_changed : (flat : Flat) (memory other : ℕ) (bytes : List ℕ) → length bytes ≡ length (held_by flat memory) → memory < length flat
    → length (held_by (set flat memory bytes) other) ≡ length (held_by flat other)
held_changed flat memory other bytes sized there = go (eqb other memory) refl
  where
    go : (b : Bool) → eqb other memory ≡ b → length (held_by (set flat memory bytes) other) ≡ length (held_by flat other)
    go true e =
        let same : other ≡ memory = eqb-true other memory e in
        ap (λ (m : ℕ). length (held_by (set flat memory bytes) m)) same ∙ ap (length {A = ℕ}) (get_or-set_same flat memory bytes [] there) ∙ sized
        ∙ ap (λ (m : ℕ). length (held_by flat m)) (sym same)
    go false e = ap (length {A = ℕ}) (get_or-set_other flat memory other bytes [] (λ same. let there_is : eqb other memory ≡ true = eq-eqb other memory same in absurd cc))

-- one step of writing
pub record IsWritten (items : List Item) (index : ℕ) (flat next before : Flat) : Type 0 where
  pub left : after (drop (index + 1) items) next ≡ after items before
  pub sized : IsAsLarge next before

pub written_more : (items : List Item) (index : ℕ) (i : Item) (flat before : Flat) → index < length items → i ≡ get_or items index i
    → after (drop index items) flat ≡ after items before → IsAsLarge flat before → IsWithin before i
    → IsWritten items index flat (written i flat) before
written_more items index i flat before below is left sized within =
    record {
      left =
          sym (after_one i (drop (index + 1) items) flat)
          ∙ ap (λ (x : Item). after (x ∷ drop (index + 1) items) flat) is
          ∙ ap (λ (xs : List Item). after xs flat) (sym (drop_more items index i below))
          ∙ left;
      sized = kept i within;
    }
  where
    kept : (j : Item) → IsWithin before j → IsAsLarge (written j flat) before
    kept (item.Compare memory at bytes) w = sized
    kept (item.Read memory at len) w = sized
    kept (item.Write memory at bytes) w =
        let here : length (held_by flat memory) ≡ length (held_by before memory) = sized.bytes memory in
        let fits : at + length bytes ≤ length (held_by flat memory) = omega (arith, here, w.ends) in
        record {
          nodes = length-set flat memory (with_bytes (held_by flat memory) at bytes) ∙ sized.nodes;
          bytes = λ other.
              held_changed flat memory other (with_bytes (held_by flat memory) at bytes) (length-with_bytes (held_by flat memory) at bytes fits)
              (omega (arith, w.there, sized.nodes))
              ∙ sized.bytes other;
        }

-- what was written is the item, and where it is no write item, nothing was
pub written_one : (i : Item) (flat next : Flat) (memory at : ℕ) (bytes given : List ℕ) (image any : List ℕ) → i ≡ item.Write memory at bytes → memory < length flat
    → given ≡ bytes → image ≡ with_bytes (get_or flat memory any) at given → next ≡ set flat memory image → next ≡ written i flat
written_one i flat next memory at bytes given image any is there same image_is next_is =
    next_is
    ∙ ap (set flat memory) (image_is ∙ ap (λ (h : List ℕ). with_bytes h at given) (get_or_default flat memory any [] there) ∙ ap (with_bytes (held_by flat memory) at) same)
    ∙ ap (λ (x : Item). written x flat) (sym is)

pub written_none : (i : Item) (flat : Flat) → ((memory at : ℕ) (bytes : List ℕ) → i ≡ item.Write memory at bytes → ⊥) → flat ≡ written i flat
written_none (item.Compare memory at bytes) flat other = refl
written_none (item.Read memory at len) flat other = refl
written_none (item.Write memory at bytes) flat other = absurd (other memory at bytes refl)
