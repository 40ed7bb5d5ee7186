use Rattle.std.proofs.Common.{◌+◌, ◌-◌, ◌*◌, length, slice_set, ap, ◌∙◌, arith}
use Rattle.fs_layout.specs.Words.{spelled}
use Rattle.fs_chain.specs.ReferenceLists.{SpellReferences, references_in}
use Rattle.fs_chain.proofs.ReferencesLemmas.{fitting_words}
use Rattle.fs_chain.proofs.BytesLemmas.{set_kept, references_kept, references_only}
use Rattle.fs_chain.proofs.references.References.set.Goals as goal
use borrow.Rule.Slice.PartMut.{put_mid}

-- the bytes afterwards spell the references with this one
kept : (c : goal.After-write_words) → SpellReferences (slice_set (references_in c.self.inside.bytes) c.args.index c.args.reference)
    (put_mid (8 * c.args.index) (8 * c.args.index + 8 - 8 * c.args.index) c.self.inside.bytes c.write_words.new.into)
kept c =
    let i = c.args.index in
    let rs = references_in c.self.inside.bytes in
    set_kept rs c.self.inside.bytes c.write_words.new.into i (8 * i + 8 - 8 * i) c.args.reference c.self.invariant c.requires.inside (omega arith)
    (fitting_words c.args.reference c.requires.fits) (c.write_words.ensures ∙ ap spelled c.to_words.ensures)

pub invariant_of-self : goal.invariant_of-self
invariant_of-self c = references_kept (slice_set (references_in c.self.inside.bytes) c.args.index c.args.reference) _ (kept c)

pub returns-clause-changed : goal.returns-clause-changed
returns-clause-changed c =
    references_only (slice_set (references_in c.self.inside.bytes) c.args.index c.args.reference) _ (kept c)
    ∙ ap (λ rs. slice_set rs c.args.index c.args.reference) c.self.view_is

pub returns-clause-sized : goal.returns-clause-sized
returns-clause-sized c =
    ap length (references_only (slice_set (references_in c.self.inside.bytes) c.args.index c.args.reference) _ (kept c)) ∙ (kept c).sized
