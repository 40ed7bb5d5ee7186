use Rattle.std.proofs.Common.{◌≡◌, ap, sym, ◌∙◌, arith}
use Rattle.std.proofs.lemmas.List.{take_all, length-replicate, length-set}
use Rattle.fs_layout.specs.Words.{spelled}
use Rattle.fs_layout.proofs.WordLemmas.{read_step, spelled_none, zeros_are_words, AreWords-set}
use Rattle.fs_layout.proofs.words.read_words.Goals as goal

pub loop-index-init : goal.loop-index-init
loop-index-init g c = record { sized = length-replicate g.row.N 0; words = zeros_are_words g.row.N; read = spelled_none }

pub loop-index-preserved : goal.loop-index-preserved
loop-index-preserved g c =
    let items = c.loop-index.word-items in
    let i = c.loop-index.index in
    let w = c.from_be_bytes.result in
    record {
      sized = length-set items i w ∙ c.loop-index.invariant.sized;
      words = AreWords-set items i w c.loop-index.invariant.words (omega arith);
      read = read_step c.args.bytes.now items i w (λ k. omega (arith, c.type_inv.bytes k)) (omega arith) (omega arith) c.from_be_bytes.ensures c.loop-index.invariant.read;
    }

pub returns-clause-found : goal.returns-clause-found
returns-clause-found g c =
    let items = c.loop-index.word-items in
    let bytes = c.args.bytes.now in
    let whole : spelled items ≡ bytes = ap spelled (sym (take_all c.loop-index.index items (omega arith))) ∙ c.loop-index.invariant.read ∙ take_all _ bytes (omega arith) in
    (c.loop-index.invariant.words, sym whole)
