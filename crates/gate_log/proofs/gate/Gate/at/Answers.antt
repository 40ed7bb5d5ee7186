use Rattle.std.proofs.Common.{◌+◌, drop, subst, sym, ap, ◌∙◌, arith, rules}
use Rattle.disk_model.specs.Crash.{Holds}
use Rattle.gate_log.proofs.ScanLemmas.{holds_drop, holds_take}
use Rattle.gate_log.proofs.gate.Gate.at.Goals as goal

pub returns-then-is_full-clause-stands : goal.returns-then-is_full-clause-stands
returns-then-is_full-clause-stands c content gate holds = record {
  opened = ap content (omega arith) ∙ holds.each 0 (omega arith) ∙ c.if-bytes-ne-OPEN.false;
  size = c.word_of-length.result;
  fits = c.word_of-length.ensures.fits;
  spelled = λ room. subst (Holds content (gate + 1)) (sym c.word_of-length.ensures.spelled)
      (holds_take content (gate + 1) 4 (drop 1 c.args.bytes.now) (holds_drop content gate 1 c.args.bytes.now holds));
  past = search rules;
}

pub returns-clause-stands : goal.returns-clause-stands
returns-clause-stands c content gate holds = (
  ap content (omega arith) ∙ holds.each 0 (omega arith) ∙ c.if-bytes-ne-OPEN.false,
  subst (Holds content (gate + 1)) (sym c.word_of-length.ensures.spelled)
      (holds_take content (gate + 1) 4 (drop 1 c.args.bytes.now) (holds_drop content gate 1 c.args.bytes.now holds)),
)
