-- The words so far, a separator and the next word are one word more.
use Rattle.line_words.proofs.WritingLemmas.{words_written}
use Rattle.line_words.proofs.writing.push_words.Goals as goal

pub loop-i-preserved : goal.loop-i-preserved
loop-i-preserved c =
    words_written c.args.out.now.items c.loop-i.out.items c.push_separator.new.out.items c.append.new.out.items c.args.words.now c.loop-i.i _ c.loop-i-test.true c.loop-i.invariant c.in_ok-push_separator.ensures.ok c.in_ok-append.ensures.ok
