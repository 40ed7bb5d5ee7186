-- What was read and is unfit, and where it lies.
use Rattle.std.proofs.Common.{◌≡◌, ℕ, ◌+◌, List, [], ◌∷◌, ◌++◌, Option, Some, None, Result, Err, refl, sym, ap, ◌∙◌, arith}
use Rattle.std.specs.Prelude.{filter, slice_get}
use Rattle.std.specs.Option.{option_map_or}
use Rattle.fs_layout.specs.declared.attrs.Attrs.{Attrs}
use Rattle.fs_layout.specs.Inodes.{SpellsInode}
use Rattle.fs_layout.specs.declared.reference.Reference.{Reference}
use Rattle.fs_layout.specs.Places.{record_at, block_place}
use Rattle.fs_image.specs.Owners.{Chain}
use Rattle.fs_image.specs.Places.{layout_of}
use Rattle.fs_image.specs.Stamps.{stamp}
use Rattle.mini_tx.specs.declared.item.Item.{Item}
use Rattle.mini_tx.specs.declared.item.Item.TheVariants as item
use Rattle.node_cache.specs.declared.entry.Entry.{Entry}
use Rattle.node_cache.specs.declared.held.Held.{Held}
use Rattle.node_cache.specs.Cached.{held_of}
use Rattle.node_cache.specs.declared.want.Want.TheVariants as want
use Rattle.plan_rules.specs.Told.{memory_at, inode_at, place_of}
use Rattle.plan_rules.specs.Fits.{IsFitRecord}
use Rattle.plan_rules.specs.Fetched.{is_read, read_items, block_read, part_read, fetched, IsFitChainRead, IsUnfitAt}
use Rattle.plan_keep.specs.Links.{LiesThere}

-- the read of a record
record_item : (m at n : ℕ) → m ≡ memory_at n → at ≡ record_at (inode_at n)
    → ◌≡◌ {A = Option Item} (Some (item.Read (memory_at n) (record_at (inode_at n)) 128)) (Some (item.Read m at 128))
record_item m at n is_m is_at = ap (λ k. Some (item.Read k (record_at (inode_at n)) 128)) (sym is_m) ∙ ap (λ k. Some (item.Read m k 128)) (sym is_at)

pub unfit_record : (held : Held) (n m at : ℕ) (bytes : List ℕ) (reads : List (List ℕ)) → reads ≡ bytes ∷ []
    → ((a : Attrs) → SpellsInode a bytes → IsFitRecord held.geometry a → ⊥) → m ≡ memory_at n → at ≡ record_at (inode_at n)
    → IsUnfitAt held (want.Inode n) reads m at
unfolding fetched
unfit_record held n m at bytes reads is none is_m is_at =
    record {
      index = 0;
      len = 128;
      bytes = bytes;
      read = ap (λ rs. slice_get rs 0) is;
      item_is = record_item m at n is_m is_at;
      unfit = λ fit. none fit.0 fit.1 fit.2;
      before = λ i b below read. absurd (omega (arith, below));
    }

-- ---- blocks

-- no stamp is read
pub no_stamp : (held : Held) (n : ℕ) (items : List Item) (o : Option Entry) → held_of n held.entries ≡ o
    → filter is_read (option_map_or (λ e. item.Compare (memory_at n) (record_at (inode_at n) + 24) (stamp e.attrs) ∷ []) o [] ++ items) ≡ filter is_read items
no_stamp held n items None here = refl
no_stamp held n items (Some e) here = refl

-- what is read of a part that lies somewhere
pub chain_item : (held : Held) (n k m at : ℕ) (r : Reference) → place_of held n (Chain k) ≡ Some r → LiesThere held.geometry r m at
    → slice_get (read_items (fetched held (want.Chain n k))) 0 ≡ Some (item.Read m at 4096)
unfolding fetched
chain_item held n k m at r place lies =
    ap (λ items. slice_get items 0) (no_stamp held n (part_read held n (Chain k)) (held_of n held.entries) refl)
    ∙ ap (λ o. slice_get (filter is_read (option_map_or (λ p. block_read held.geometry p ∷ []) o [])) 0) place
    ∙ (ap (λ k. Some (item.Read k (block_place (layout_of held.geometry) r.block) 4096)) (sym lies.memory_is) ∙ ap (λ k. Some (item.Read m k 4096)) (sym lies.at_is))

pub unfit_chain : (held : Held) (n k m at : ℕ) (bytes : List ℕ) (reads : List (List ℕ)) (r : Reference) → reads ≡ bytes ∷ [] → (IsFitChainRead held n k bytes → ⊥)
    → place_of held n (Chain k) ≡ Some r → LiesThere held.geometry r m at → IsUnfitAt held (want.Chain n k) reads m at
unfit_chain held n k m at bytes reads r is none place lies =
    record {
      index = 0;
      len = 4096;
      bytes = bytes;
      read = ap (λ rs. slice_get rs 0) is;
      item_is = chain_item held n k m at r place lies;
      unfit = none;
      before = λ i b below read. absurd (omega (arith, below));
    }

-- a refusal is the same where another value was due
pub err_same : {X Y E : Type 0} (e f : E) → ◌≡◌ {A = Result X E} (Err e) (Err f) → ◌≡◌ {A = Result Y E} (Err e) (Err f)
err_same e f is = let same : e ≡ f = cc in ap Err same
