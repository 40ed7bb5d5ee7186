-- Puts of the files of edits touch nothing else.
use Rattle.std.proofs.Common.{◌≡◌, ℕ, ◌<◌, true, false, Bool, List, [], ◌∷◌, sym, subst, ◌∙◌}
use Rattle.std.specs.List.{AllByRecursion}
use Rattle.fs_layout.specs.Places.{number_of}
use Rattle.fs_layout.specs.Superblocks.{SpellsSuperblock}
use Rattle.fs_rules.specs.declared.plain_tree.PlainTree.{PlainTree}
use Rattle.fs_rules.specs.Edits.{Edit}
use Rattle.mini_tx.specs.FlatMemory.{Flat}
use Rattle.fs_image.specs.Edits.{are_of, OnlyOf}
use Rattle.fs_image.specs.Owners.{Owners}
use Rattle.fs_image.specs.Regions.{Region, FirstPage, Record, Block}
use Rattle.fs_image.specs.Stands.{IsImage, Shows}
use Rattle.image_puts.specs.Only.{AreMapsOf, AreOwnersAfter, IsPutOf, IsRegionOf}
use Rattle.image_puts.specs.Puts.{IsElsewhere, IsPut, Put}

no_both : (b : Bool) → b ≡ true → b ≡ false → ⊥
no_both true is not = absurd cc
no_both false is not = absurd cc

module _ (t : PlainTree) (es : List Edit) (puts : List Put) (flat new : Flat) (o p : Owners) (shows : Shows flat t o) (put : IsPut t.geometry puts flat new)
    (of : AllByRecursion (IsPutOf es o) puts) (maps : AreMapsOf t.geometry es flat new p) (owners : AreOwnersAfter t.geometry es o p) where
  -- a region that is none of these files is put by none
  elsewhere : (m : ℕ) (r : Region) → (IsRegionOf es o m r → ⊥) → (qs : List Put) → AllByRecursion (IsPutOf es o) qs → AllByRecursion (IsElsewhere m r) qs
  elsewhere m r none [] every = tt
  elsewhere m r none (q ∷ qs) every =
      ((λ memory region. none (subst (λ s. IsRegionOf es o m s) region (subst (λ k. IsRegionOf es o k q.region) memory every.0))), elsewhere m r none qs every.1)

  image : (m : ℕ) → m < t.geometry.memories → IsImage t.geometry new m
  image m is =
      let old = shows.images m is in
      record {
        sized = put.images.sized m is;
        superblock =
            subst (SpellsSuperblock (record { memory = m; memories = t.geometry.memories; blocks = t.geometry.blocks; inodes = t.geometry.inodes }))
            (sym (put.kept m FirstPage tt (elsewhere m FirstPage (λ none. none) puts of))) old.superblock;
        no_block = λ k past within. maps.no_block m k is past within;
        no_inode = λ k past within. maps.no_inode m k is past within;
        no_record = put.behind m ∙ old.no_record;
      }

  pub puts_are_only : OnlyOf t.geometry es flat new o p
  puts_are_only =
      record {
        memories = put.images.memories ∙ sym shows.memories;
        images = image;
        inverse = owners.inverse;
        inside = owners.inside;
        places = owners.places;
        records = λ m inode memory within other. put.kept m (Record inode) within (elsewhere m (Record inode) (λ mine. no_both (are_of es (number_of m inode)) mine other) puts of);
        inodes = maps.inodes;
        blocks = λ n x r other is.
            put.kept r.memory (Block r.block) (shows.inside n x r is).1.block
            (elsewhere r.memory (Block r.block) (λ mine. no_both (are_of es n) (mine n x is) other) puts of);
        bits = maps.bits;
      }
