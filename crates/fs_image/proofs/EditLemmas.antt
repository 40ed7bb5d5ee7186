-- A tree after edits: what they leave alone, and what a flat memory shows of it.
use Rattle.std.proofs.Common.{◌≡◌, ◌≢◌, ℕ, ◌+◌, ◌*◌, ◌<◌, false, List, [], ◌∷◌, Option, Some, inl, inr, refl, sym, ap, subst, ◌∙◌}
use Rattle.std.specs.Prelude.{◌==◌, ◌-◌, ◌^◌, ◌&&◌, nat_lt, not, is_some, unwrap_or}
use Rattle.std.specs.FinMap as table
use Rattle.std.proofs.lemmas.Bool.{cases_Bool, or_parts, eqb-false}
use Rattle.nfs_proto.specs.declared.stamp.Stamp.{Stamp}
use Rattle.fs_layout.specs.declared.reference.Reference.{Reference}
use Rattle.fs_layout.specs.Places.{number_of}
use Rattle.fs_layout.specs.Inodes.{SpellsInode}
use Rattle.fs_bitmap.specs.Bits.{is_used}
use Rattle.fs_rules.specs.declared.content.Content.{Content}
use Rattle.fs_rules.specs.declared.file.File.{File}
use Rattle.fs_rules.specs.declared.geometry.Geometry.{Geometry}
use Rattle.fs_rules.specs.declared.kept.Kept.{Kept}
use Rattle.fs_rules.specs.declared.plain_tree.PlainTree.{PlainTree}
use Rattle.fs_rules.specs.Edits.{Edit, Changed, Made, Freed, changed_at, edit, edited}
use Rattle.fs_rules.specs.Numbers.{IsNumber, kept_at, is_free}
use Rattle.fs_laws.proofs.EditLemmas.{get_apart, get_left, geometry_edited}
use Rattle.mini_tx.specs.FlatMemory.{Flat}
use Rattle.fs_image.specs.Owners.{Part, Chain, Block}
use Rattle.fs_image.specs.Parts.{Holds, inode_of, has_part_of}
use Rattle.fs_image.specs.Places.{inode_bytes, inode_map, block_map, block_bytes}
use Rattle.fs_image.specs.Stands.{IsBlock, IsImage, ShowsFile}
use Rattle.fs_image.specs.Edits.{file_of, are_of, EditsAreShown}

-- ---- what edits leave alone

-- what is there of a number: its file, and what it keeps
pub record IsLeft (t u : PlainTree) (n : ℕ) : Type 0 where
  pub file : table.get u.files n ≡ table.get t.files n
  pub kept : table.get u.freed n ≡ table.get t.freed n

one_left : (now : Stamp) (t : PlainTree) (e : Edit) (n : ℕ) → n ≢ file_of e → IsLeft t (edit now t e) n
one_left now t (Changed k f) n apart = record { file = get_apart t.files k (changed_at now f) n apart; kept = refl }
one_left now t (Made k f) n apart = record { file = get_apart t.files k f n apart; kept = get_left t.freed k n apart }
one_left now t (Freed k f) n apart = record { file = get_left t.files k n apart; kept = get_apart t.freed k (record { generation = f.generation; change = f.change + 1 }) n apart }

left : (now : Stamp) (t : PlainTree) (es : List Edit) (n : ℕ) → are_of es n ≡ false → IsLeft t (edited now t es) n
unfolding edited
left now t [] n none = record { file = refl; kept = refl }
left now t (e ∷ es) n none =
    let parts = or_parts (file_of e == n) (are_of es n) none in
    let here = one_left now t e n (λ same. eqb-false (file_of e) n parts.0 (sym same)) in
    let rest = left now (edit now t e) es n parts.1 in
    record { file = rest.file ∙ here.file; kept = rest.kept ∙ here.kept }

kept_left : (t u : PlainTree) (n : ℕ) → IsLeft t u n → kept_at u n ≡ kept_at t n
kept_left t u n same = ap (λ (o : Option Kept). unwrap_or o (record { generation = 0; change = 0 })) same.kept

free_left : (t u : PlainTree) (n : ℕ) → IsLeft t u n → is_free u n ≡ is_free t n
free_left t u n same =
    ap (λ (o : Option File). not (is_some o) && (nat_lt (kept_at u n).generation (2 ^ 32 - 1) && nat_lt (kept_at u n).change (2 ^ 64 - 1))) same.file
    ∙ ap (λ (k : Kept). not (is_some (table.get t.files n)) && (nat_lt k.generation (2 ^ 32 - 1) && nat_lt k.change (2 ^ 64 - 1))) (kept_left t u n same)

-- ---- what is there of a file that is left alone

-- what a block holds goes by where the parts are
holds_there : (q w : Part → Option Reference) → ((x : Part) → w x ≡ q x) → (n : ℕ) (content : Content) (x : Part) (bytes : List ℕ) → Holds q n content x bytes → Holds w n content x bytes
holds_there q w same n content (Chain k) bytes h =
    record {
      chain = h.chain;
      spelled = h.spelled;
      next = h.next ∙ sym (same (Chain (k + 1)));
      file = h.file;
      index_is = h.index_is;
      references = λ j within. h.references j within ∙ ap Some (sym (same (Block (510 * k + j))));
    }
holds_there q w same n content (Block index) bytes h = h

module _ (flat new : Flat) (t u : PlainTree) (q w : Part → Option Reference) (m inode : ℕ)
    (geometry : u.geometry ≡ t.geometry) (same : IsLeft t u (number_of m inode)) (places : (x : Part) → w x ≡ q x)
    (bytes : inode_bytes new m inode ≡ inode_bytes flat m inode) (bit : is_used (inode_map new m) inode ≡ is_used (inode_map flat m) inode)
    (blocks : (x : Part) (r : Reference) → q x ≡ Some r → block_bytes t.geometry new r ≡ block_bytes t.geometry flat r)
  where
    n : ℕ
    n = number_of m inode

    record_left : SpellsInode (inode_of (table.get t.files (number_of m inode)) (kept_at t (number_of m inode)) (q (Chain 0))) (inode_bytes flat m inode)
        → SpellsInode (inode_of (table.get u.files (number_of m inode)) (kept_at u (number_of m inode)) (w (Chain 0))) (inode_bytes new m inode)
    record_left spelled =
        subst (λ b. SpellsInode (inode_of (table.get u.files (number_of m inode)) (kept_at u (number_of m inode)) (w (Chain 0))) b) (sym bytes)
        (subst (λ p. SpellsInode (inode_of (table.get u.files (number_of m inode)) (kept_at u (number_of m inode)) p) (inode_bytes flat m inode)) (sym (places (Chain 0)))
        (subst (λ k. SpellsInode (inode_of (table.get u.files (number_of m inode)) k (q (Chain 0))) (inode_bytes flat m inode)) (sym (kept_left t u (number_of m inode) same))
        (subst (λ f. SpellsInode (inode_of f (kept_at t (number_of m inode)) (q (Chain 0))) (inode_bytes flat m inode)) (sym same.file) spelled)))

    pub shown_alike : ShowsFile flat t q m inode (table.get t.files (number_of m inode)) → ShowsFile new u w m inode (table.get u.files (number_of m inode))
    shown_alike shown =
        record {
          record_is = record_left shown.record_is;
          there = λ x. ap is_some (places x) ∙ shown.there x ∙ ap (λ f. has_part_of f x) (sym same.file);
          holds = λ f x r live at.
              subst (λ b. Holds w (number_of m inode) f.content x b) (ap (λ g. block_bytes g new r) (sym geometry))
              (subst (λ b. Holds w (number_of m inode) f.content x b) (sym (blocks x r (sym (places x) ∙ at)))
              (holds_there q w places (number_of m inode) f.content x _ (shown.holds f x r (sym same.file ∙ live) (sym (places x) ∙ at))));
          bit = bit ∙ shown.bit ∙ ap not (sym (free_left t u (number_of m inode) same));
        }

-- ---- all files

pub edits_are_shown : EditsAreShown
edits_are_shown now t es flat new o p shows only touched =
    let geometry = geometry_edited now t es in
    record {
      memories = only.memories ∙ shows.memories ∙ ap (λ (g : Geometry). g.memories) (sym geometry);
      images = subst (λ (g : Geometry). (m : ℕ) → m < g.memories → IsImage g new m) (sym geometry) only.images;
      inverse = only.inverse;
      inside = subst (λ (g : Geometry). (n : ℕ) (x : Part) (r : Reference) → p.place n x ≡ Some r → IsNumber g n × IsBlock g r) (sym geometry) only.inside;
      files = subst (λ (g : Geometry). (m inode : ℕ) → m < g.memories → inode < g.inodes
          → ShowsFile new (edited now t es) (p.place (number_of m inode)) m inode (table.get (edited now t es).files (number_of m inode))) (sym geometry)
          (λ m inode below within. elim (cases_Bool (are_of es (number_of m inode))) [
            | inl is ↦ touched m inode below within is
            | inr none ↦ shown_alike flat new t (edited now t es) (o.place (number_of m inode)) (p.place (number_of m inode)) m inode geometry
                (left now t es (number_of m inode) none) (only.places (number_of m inode) none) (only.records m inode below within none) (only.inodes m inode below within none)
                (λ x r. only.blocks (number_of m inode) x r none) (shows.files m inode below within)
          ]);
      bits = subst (λ (g : Geometry). (r : Reference) → IsBlock g r → is_used (block_map new r.memory) r.block ≡ is_some (p.owner r)) (sym geometry) only.bits;
    }
