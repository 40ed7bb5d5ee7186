-- Files of edits are shown where they were put.
use Rattle.std.proofs.Common.{◌≡◌, ℕ, ◌+◌, ◌<◌, ◌≤◌, List, ◌++◌, length, drop, Option, Some, None, inl, inr, sym, ap, subst, ◌∙◌, arith}
use Rattle.std.specs.Prelude.{is_some}
use Rattle.std.specs.FinMap as table
use Rattle.std.proofs.lemmas.List.{append-nil, drop_all, length-take-le, length-drop}
use Rattle.fs_layout.specs.declared.attrs.Attrs.{Attrs}
use Rattle.fs_layout.specs.declared.reference.Reference.{Reference}
use Rattle.fs_layout.specs.Inodes.{SpellsInode}
use Rattle.fs_layout.specs.Places.{number_of}
use Rattle.fs_layout.proofs.RecordLemmas.{length-inode}
use Rattle.fs_rules.specs.declared.content.Content.{Content}
use Rattle.fs_rules.specs.declared.file.File.{File}
use Rattle.fs_rules.specs.declared.geometry.Geometry.{Geometry}
use Rattle.fs_rules.specs.declared.plain_tree.PlainTree.{PlainTree}
use Rattle.fs_rules.specs.Edits.{edited}
use Rattle.fs_rules.specs.Numbers.{kept_at}
use Rattle.fs_laws.proofs.EditLemmas.{geometry_edited}
use Rattle.mini_tx.specs.FlatMemory.{Flat, held_by, with_bytes}
use Rattle.fs_image.specs.Owners.{Part, Chain, Owners}
use Rattle.fs_image.specs.Parts.{inode_of, live_inode, Holds}
use Rattle.fs_image.specs.Places.{layout_of, inode_bytes, block_bytes}
use Rattle.fs_image.specs.Regions.{Record, Block, start}
use Rattle.fs_image.specs.Stands.{Shows, ShowsFile}
use Rattle.fs_image.specs.Written.{IsKept, IsWritten}
use Rattle.fs_image.proofs.EditLemmas.{edits_are_shown}
use Rattle.fs_image.proofs.RegionLemmas.{regions_are_inside}
use Rattle.fs_image.proofs.WrittenLemmas.{written_is_shown}
use Rattle.image_puts.specs.Puts.{IsPut, Put}
use Rattle.image_puts.specs.Only.{PutsAreOnly}
use Rattle.file_puts.specs.Edits.{EditPutsAreShown}
use Rattle.file_puts.specs.Files.{IsBitOf, IsChanged, IsFilePut, IsFreed, IsMade, IsPartLeft, IsPartPut, IsRecordPut, block_put, changed, freed, left, made, put, record_put}

-- bytes that are replaced as a whole
whole : (xs bytes : List ℕ) → length bytes ≡ length xs → with_bytes xs 0 bytes ≡ bytes
whole xs bytes long =
    let past : length xs ≤ 0 + length bytes = omega (arith, long) in
    ap (λ rest. bytes ++ rest) (drop_all (0 + length bytes) xs past) ∙ append-nil bytes

module _ (t u : PlainTree) (puts : List Put) (flat new : Flat) (w q : Part → Option Reference) (m inode : ℕ) (is_put : IsPut t.geometry puts flat new)
    (geometry : u.geometry ≡ t.geometry) (long : length (inode_bytes flat m inode) ≡ 128) where
  record_shown : (a : Attrs) → IsRecordPut puts m inode a → SpellsInode a (inode_bytes new m inode)
  record_shown a r =
      let size : length r.bytes ≡ length (inode_bytes flat m inode) = ap length r.spelled.bytes_are ∙ length-inode a ∙ sym long in
      let is : inode_bytes new m inode ≡ with_bytes (inode_bytes flat m inode) 0 r.bytes = is_put.put r.among.at (record_put m inode r.bytes) r.among.there in
      subst (SpellsInode a) (sym (is ∙ whole (inode_bytes flat m inode) r.bytes size)) r.spelled

  part_shown : (c : Content) (x : Part) (r : Reference) → IsPartPut t puts flat q (number_of m inode) c x r → Holds q (number_of m inode) c x (block_bytes t.geometry new r)
  part_shown c x r p =
      let is : block_bytes t.geometry new r ≡ with_bytes (block_bytes t.geometry flat r) p.offset p.bytes = is_put.put p.among.at (block_put r p.offset p.bytes) p.among.there in
      subst (λ b. Holds q (number_of m inode) c x b) (sym is) p.holds

  part_left : (c d : Content) (x : Part) (r : Reference) → IsPartLeft t puts w q c d x r → IsKept t flat new w q c d x r
  part_left c d x r l = record { place = l.place; bytes = is_put.kept r.memory (Block r.block) l.block.block l.elsewhere; same = l.same }

  written_of : (old file : File) → IsChanged t u puts flat w q m inode old file → IsBitOf u new m inode → IsWritten t u flat new w q m inode old file
  written_of old file c bit =
      record {
        geometry = geometry;
        record_is = record_shown (live_inode file (q (Chain 0))) c.record_is;
        there = c.there;
        each = λ x r at. elim (c.each x r at) [
          | put p ↦ inl (part_shown file.content x r p)
          | left l ↦ inr (part_left old.content file.content x r l)
        ];
        bit = bit;
      }

  made_shown : (file : File) → IsMade t u puts flat q m inode file → IsBitOf u new m inode → ShowsFile new u q m inode (Some file)
  made_shown file f bit =
      record {
        record_is = record_shown (live_inode file (q (Chain 0))) f.record_is;
        there = f.there;
        holds = λ g x r live at.
            let same : file ≡ g = cc in
            subst (λ (h : File). Holds q (number_of m inode) h.content x (block_bytes u.geometry new r)) same
            (subst (λ (k : Geometry). Holds q (number_of m inode) file.content x (block_bytes k new r)) (sym geometry) (part_shown file.content x r (f.each x r at)));
        bit = bit;
      }

  freed_shown : IsFreed u puts q m inode → IsBitOf u new m inode → ShowsFile new u q m inode None
  freed_shown f bit =
      record {
        record_is = record_shown (inode_of None (kept_at u (number_of m inode)) (q (Chain 0))) f.record_is;
        there = λ x. ap is_some (f.none x);
        holds = λ g x r live at. absurd cc;
        bit = bit;
      }

  pub file_shown : ShowsFile flat t w m inode (table.get t.files (number_of m inode)) → IsFilePut t u puts flat w q m inode → IsBitOf u new m inode
      → ShowsFile new u q m inode (table.get u.files (number_of m inode))
  file_shown shown (changed old file c) bit =
      subst (λ f. ShowsFile new u q m inode f) (sym c.is)
      (written_is_shown t u flat new w q m inode old file (subst (λ f. ShowsFile flat t w m inode f) c.was shown) (written_of old file c bit))
  file_shown shown (made file f) bit = subst (λ f. ShowsFile new u q m inode f) (sym f.is) (made_shown file f bit)
  file_shown shown (freed f) bit = subst (λ f. ShowsFile new u q m inode f) (sym f.is) (freed_shown f bit)

-- the record of an inode has its length in each image
record_long : (t : PlainTree) (flat : Flat) (o : Owners) → Shows flat t o → (m inode : ℕ) → m < t.geometry.memories → inode < t.geometry.inodes
    → length (inode_bytes flat m inode) ≡ 128
record_long t flat o shows m inode below within =
    let at = start (layout_of t.geometry) (Record inode) in
    let ends : at + 128 ≤ length (held_by flat m) =
    subst (λ n. at + 128 ≤ n) (sym (shows.images m below).sized) (regions_are_inside (layout_of t.geometry) (Record inode) within) in
    let rest = length-drop at (held_by flat m) in
    length-take-le 128 (drop at (held_by flat m)) (omega (arith, ends, rest))

pub edit_puts_are_shown : PutsAreOnly → EditPutsAreShown
edit_puts_are_shown puts_are_only now t es puts flat new o p shows e =
    edits_are_shown now t es flat new o p shows (puts_are_only t es puts flat new o p shows e.put e.only e.maps e.owners)
    (λ m inode below within is.
    file_shown t (edited now t es) puts flat new (o.place (number_of m inode)) (p.place (number_of m inode)) m inode e.put (geometry_edited now t es)
    (record_long t flat o shows m inode below within) (shows.files m inode below within) (e.files m inode below within is) (e.bits m inode below within is))
