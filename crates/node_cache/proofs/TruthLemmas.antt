-- Why true entries stay true.
use Rattle.std.proofs.Common.{arith, ◌≡◌, ℕ, ◌+◌, ◌*◌, ◌<◌, true, false, List, take, drop, IsSome, Option, Some, None, inl, inr, refl, sym, subst, ◌∙◌}
use Rattle.std.specs.FinMap as table
use Rattle.std.proofs.lemmas.Bool.{cases_Bool}
use Rattle.fs_layout.specs.declared.reference.Reference.{Reference}
use Rattle.fs_layout.specs.Inodes.{SpellsInode}
use Rattle.fs_layout.specs.Places.{number_of}
use Rattle.fs_layout.proofs.RecordLemmas.{inode_one}
use Rattle.fs_chain.specs.Chains.{SpellsChain}
use Rattle.fs_dir.specs.Slots.{SpellsSlots}
use Rattle.fs_rules.specs.declared.file.File.{File}
use Rattle.fs_rules.specs.declared.geometry.Geometry.{Geometry}
use Rattle.fs_rules.specs.declared.plain_tree.PlainTree.{PlainTree}
use Rattle.fs_rules.specs.Edits.{Edit, edited}
use Rattle.fs_rules.specs.Numbers.{kept_at}
use Rattle.fs_laws.proofs.EditLemmas.{geometry_edited}
use Rattle.mini_tx.specs.FlatMemory.{Flat}
use Rattle.fs_image.specs.Edits.{are_of, OnlyOf}
use Rattle.fs_image.specs.Owners.{Part, Chain, Block, Owners}
use Rattle.fs_image.specs.Parts.{inode_of}
use Rattle.fs_image.specs.Places.{inode_bytes, block_bytes}
use Rattle.fs_image.specs.Stands.{Shows}
use Rattle.fs_image.proofs.StampLemmas.{stamp_in_record, stamps_tell}
use Rattle.node_cache.specs.declared.entry.Entry.{Entry}
use Rattle.node_cache.specs.declared.entry.HeldGroup.{HeldGroup}
use Rattle.node_cache.specs.Truth.{IsThere, IsGroup, IsOwn, IsTrueEntry, Stays, Rises, TrueEntriesStay, change_at, Raises, EditsKeepEntries, MatchedEntriesAreOwn}

-- what is there stays there
module _ (g : Geometry) (flat new : Flat) where
  there_by : (IsIt : List ℕ → Type 0) (p : Option Reference) → ((r : Reference) → p ≡ Some r → block_bytes g new r ≡ block_bytes g flat r)
      → IsThere g flat IsIt p → IsThere g new IsIt p
  there_by IsIt None same there = there
  there_by IsIt (Some r) same there = subst IsIt (sym (same r refl)) there

  module _ (w q : Part → Option Reference) (e : Entry) where
    group_stays : Stays g flat new w q e.number → (s : HeldGroup) → IsGroup g flat w s → IsGroup g new q s
    group_stays stays s is =
        record {
          blocks = λ j within.
              (let was = is.blocks j within in
              let there = there_by (SpellsSlots (take 15 (drop (15 * j) s.slots))) (w (Block (64 * s.group + j))) (stays.blocks (Block (64 * s.group + j))) was.1 in
              (was.0, subst (λ p. IsThere g new (SpellsSlots (take 15 (drop (15 * j) s.slots))) p) (sym (stays.places (Block (64 * s.group + j)))) there));
          whole = λ j below some. is.whole j below (subst (λ (p : Option Reference). IsSome p) (stays.places (Block (64 * s.group + j))) some);
        }

    own_stays : Stays g flat new w q e.number → IsOwn g flat w e → IsOwn g new q e
    own_stays stays own =
        record {
          record_is = λ m inode at. subst (λ b. SpellsInode e.attrs b) (sym (stays.record_is m inode at)) (own.record_is m inode at);
          chains = λ i c held. subst (λ p. IsThere g new (SpellsChain c.chain) p) (sym (stays.places (Chain c.index)))
              (there_by (SpellsChain c.chain) (w (Chain c.index)) (stays.blocks (Chain c.index)) (own.chains i c held));
          groups = λ i s held. group_stays stays s (own.groups i s held);
        }

    pub stays_true : IsTrueEntry g flat w e → Stays g flat new w q e.number → IsTrueEntry g new q e
    stays_true is stays =
        record {
          older = λ m inode a at spelled. is.older m inode a at (subst (λ b. SpellsInode a b) (stays.record_is m inode at) spelled);
          same = λ m inode a at spelled equal. own_stays stays (is.same m inode a at (subst (λ b. SpellsInode a b) (stays.record_is m inode at) spelled) equal);
        }

    pub rises_true : IsTrueEntry g flat w e → Rises g flat new e.number → IsTrueEntry g new q e
    rises_true is rises =
        record {
          older = λ m inode b at spelled.
              (let was = rises m inode at in let older = is.older m inode was.0 at was.1 in let rose = was.2 b spelled in omega (arith, older, rose));
          same = λ m inode b at spelled equal.
              (let was = rises m inode at in let older = is.older m inode was.0 at was.1 in let rose = was.2 b spelled in absurd (omega (arith, older, rose, equal)));
        }

pub true_entries_stay : TrueEntriesStay
true_entries_stay g flat new w q e is (inl stays) = stays_true g flat new w q e is stays
true_entries_stay g flat new w q e is (inr rises) = rises_true g flat new w q e is rises

-- ---- edits

-- the record that shows a number has the change number of the tree
change_in : (t : PlainTree) (n : ℕ) (first : Option Reference) (file : Option File) → table.get t.files n ≡ file
    → (inode_of file (kept_at t n) first).change ≡ change_at t n
change_in t n first None at = rw at refl
change_in t n first (Some f) at = rw at refl

module _ (t u : PlainTree) (es : List Edit) (flat new : Flat) (o p : Owners) (e : Entry) (shows : Shows flat t o) (only : OnlyOf t.geometry es flat new o p)
    (shown : Shows new u p) (geometry : u.geometry ≡ t.geometry) (raises : Raises t u es) where
  left_alone : are_of es e.number ≡ false → Stays t.geometry flat new (o.place e.number) (p.place e.number) e.number
  left_alone none =
      record {
        record_is = λ m inode at. only.records m inode at.is_memory at.is_inode (subst (λ n. are_of es n ≡ false) at.number none);
        places = only.places e.number none;
        blocks = λ x r at. only.blocks e.number x r none at;
      }

  raised : are_of es e.number ≡ true → Rises t.geometry flat new e.number
  raised one m inode at =
      let n = number_of m inode in
      let was = (shows.files m inode at.is_memory at.is_inode).record_is in
      let is = (shown.files m inode (subst (λ (g : Geometry). m < g.memories) (sym geometry) at.is_memory) (subst (λ (g : Geometry). inode < g.inodes) (sym geometry) at.is_inode)).record_is in
      let rose = raises n (subst (λ k. are_of es k ≡ true) at.number one) in (
        inode_of (table.get t.files n) (kept_at t n) (o.place n (Chain 0)),
        was,
        λ b spelled.
            (let same : b ≡ inode_of (table.get u.files n) (kept_at u n) (p.place n (Chain 0)) = inode_one b (inode_of (table.get u.files n) (kept_at u n) (p.place n (Chain 0))) (inode_bytes new m inode) spelled is in
            let before = change_in t n (o.place n (Chain 0)) (table.get t.files n) refl in
            let behind = change_in u n (p.place n (Chain 0)) (table.get u.files n) refl in
            rw same (rw before (rw behind rose))),
      )

  pub kept_true : IsTrueEntry t.geometry flat (o.place e.number) e → IsTrueEntry t.geometry new (p.place e.number) e
  kept_true is = elim (cases_Bool (are_of es e.number)) [
    | inl one ↦ rises_true t.geometry flat new (o.place e.number) (p.place e.number) e is (raised one)
    | inr none ↦ stays_true t.geometry flat new (o.place e.number) (p.place e.number) e is (left_alone none)
  ]

pub matched_entries_are_own : MatchedEntriesAreOwn
matched_entries_are_own g flat place e m inode a spelled at record_is held match is =
    is.same m inode a at record_is (stamps_tell a e.attrs (inode_bytes flat m inode) spelled record_is held (sym (stamp_in_record a (inode_bytes flat m inode) record_is) ∙ match)).2

pub edits_keep_entries : EditsKeepEntries
edits_keep_entries now t es flat new o p e shows only shown raises is =
    kept_true t (edited now t es) es flat new o p e shows only shown (geometry_edited now t es) raises is
