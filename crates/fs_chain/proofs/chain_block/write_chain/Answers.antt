use Rattle.std.proofs.Common.{rules, subst, ap, ◌∙◌}
use Rattle.fs_layout.specs.Words.{AreWords, spelled}
use Rattle.fs_chain.proofs.ChainLemmas.{chain_by, chain_found}
use Rattle.fs_chain.proofs.chain_block.write_chain.Goals as goal

pub returns : goal.returns
unfolding chain_by
returns c =
    let fits : AreWords c.header_of.result = search rules in
    chain_found c.write_words.new.into c.write.new.into c.args.c.now.next c.args.c.now.file c.args.c.now.index c.args.c.now.references
    (subst AreWords c.header_of.ensures fits) (c.write_words.ensures ∙ ap spelled c.header_of.ensures) c.write.ensures
