use Rattle.std.proofs.Common.{refl, sym, ap, ◌∙◌, slice_index_or, arith}
use Rattle.std.proofs.lemmas.List.{take_all}
use Rattle.fs_layout.specs.Words.{spelled}
use Rattle.fs_layout.proofs.WordLemmas.{write_step, spelled_none}
use Rattle.fs_layout.proofs.words.write_words.Goals as goal

pub loop-index-init : goal.loop-index-init
loop-index-init c = sym spelled_none

pub loop-index-preserved : goal.loop-index-preserved
loop-index-preserved c =
    write_step c.args.words.now c.loop-index.into c.copy_from_slice.new.self c.loop-index.index (slice_index_or c.args.words.now c.loop-index.index 0) _ (omega arith) (omega arith) (omega arith) refl (c.copy_from_slice.ensures.after ∙ c.to_be_bytes.ensures) c.loop-index.invariant

pub returns : goal.returns
returns c =
    sym (take_all _ c.loop-index.into (omega arith)) ∙ c.loop-index.invariant ∙ ap spelled (take_all _ c.args.words.now (omega arith))
