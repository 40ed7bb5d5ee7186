-- A file whose parts are written or kept is shown.
use Rattle.std.proofs.Common.{ℕ, List, Option, Some, inl, inr, refl, sym, ap, subst, ◌∙◌}
use Rattle.std.specs.Prelude.{map, unwrap_or}
use Rattle.fs_layout.specs.declared.reference.Reference.{Reference}
use Rattle.fs_layout.specs.Places.{number_of}
use Rattle.fs_dir.specs.Slots.{SpellsSlots}
use Rattle.fs_rules.specs.declared.content.Content.{Content}
use Rattle.fs_rules.specs.declared.content.Content.TheVariants.{Regular, Link, Directory}
use Rattle.fs_rules.specs.declared.file.File.{File}
use Rattle.fs_rules.specs.declared.geometry.Geometry.{Geometry}
use Rattle.fs_image.specs.Owners.{Part, Chain, Block}
use Rattle.fs_image.specs.Parts.{slot_of, Holds, HoldsBlock}
use Rattle.fs_image.specs.Places.{block_bytes}
use Rattle.fs_image.specs.Written.{HasSame, HasSameBlock, WrittenIsShown}

block_kept : (c d : Content) (index : ℕ) (bytes : List ℕ) → HasSameBlock c d index → HoldsBlock c index bytes → HoldsBlock d index bytes
block_kept (Regular b) (Regular c) index bytes same holds = sym same ∙ holds
block_kept (Regular b) (Directory slots parent) index bytes same holds = absurd same
block_kept (Regular b) (Link c) index bytes same holds = absurd same
block_kept (Directory slots parent) (Regular c) index bytes same holds = absurd same
block_kept (Directory xs p) (Directory ys q) index bytes same holds = subst (λ slots. SpellsSlots (map slot_of slots) bytes) same holds
block_kept (Directory slots parent) (Link c) index bytes same holds = absurd same
block_kept (Link b) (Regular c) index bytes same holds = absurd same
block_kept (Link b) (Directory slots parent) index bytes same holds = absurd same
block_kept (Link b) (Link c) index bytes same holds = sym same ∙ holds

part_kept : (w q : Part → Option Reference) (n : ℕ) (c d : Content) (x : Part) (bytes : List ℕ) → HasSame w q c d x → Holds w n c x bytes → Holds q n d x bytes
part_kept w q n c d (Chain k) bytes same h =
    record {
      chain = h.chain;
      spelled = h.spelled;
      next = h.next ∙ same.0;
      file = h.file;
      index_is = h.index_is;
      references = λ j within. h.references j within ∙ ap Some (same.1 j within);
    }
part_kept w q n c d (Block index) bytes same h = block_kept c d index bytes same h

pub written_is_shown : WrittenIsShown
written_is_shown t u flat new w q m inode old file shown written =
    record {
      record_is = written.record_is;
      there = written.there;
      holds = λ f x r live at.
          subst (λ (h : File). Holds q (number_of m inode) h.content x (block_bytes u.geometry new r)) (ap (λ o. unwrap_or o file) live)
          (subst (λ (g : Geometry). Holds q (number_of m inode) file.content x (block_bytes g new r)) (sym written.geometry)
          (elim (written.each x r at) [
            | inl holds ↦ holds
            | inr kept ↦
                subst (λ b. Holds q (number_of m inode) file.content x b) (sym kept.bytes)
                (part_kept w q (number_of m inode) old.content file.content x (block_bytes t.geometry flat r) kept.same (shown.holds old x r refl kept.place))
          ]));
      bit = written.bit;
    }
