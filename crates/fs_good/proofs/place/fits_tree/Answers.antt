use Rattle.std.proofs.Common.{◌≡◌, ◌+◌, List, Option, sym, subst}
use Rattle.std.specs.Prelude.{IsTrue}
use Rattle.fs_rules.specs.declared.content.Content.{Content}
use Rattle.fs_rules.specs.declared.entry.Entry.{Entry}
use Rattle.fs_rules.specs.File.{slots_of}
use Rattle.fs_rules.specs.Good.{subdirectories}
use Rattle.fs_good.specs.Places.{AreUnder, HasLinksFor}
use Rattle.fs_good.proofs.place.fits_tree.Goals as goal

pub returns-in-Directory : goal.returns-in-Directory
returns-in-Directory c =
    subst (λ (x : Content). (IsTrue c.fits_slots.result → HasLinksFor c.args.tree.now c.args.links x × AreUnder c.args.tree.now c.args.number (slots_of x))
    × (HasLinksFor c.args.tree.now c.args.links x × AreUnder c.args.tree.now c.args.number (slots_of x) → IsTrue c.fits_slots.result)) (sym c.in-Directory.is)
    (subst (λ (l : List (Option Entry)). (IsTrue c.fits_slots.result → (c.args.links ≡ 2 + subdirectories c.args.tree.now l) × AreUnder c.args.tree.now c.args.number l)
    × ((c.args.links ≡ 2 + subdirectories c.args.tree.now l) × AreUnder c.args.tree.now c.args.number l → IsTrue c.fits_slots.result)) c.as_slice.ensures.value c.fits_slots.ensures)
