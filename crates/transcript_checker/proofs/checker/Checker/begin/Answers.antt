use Rattle.std.proofs.Common.{◌≡◌, Some, refl, ap, ◌∙◌}
use Rattle.transcript_facts.specs.declared.facts.Facts.{Facts}
use Rattle.transcript_facts.specs.declared.now.Now.{Now}
use Rattle.transcript_telling.specs.Tellings.{begun_by, opened_by}
use Rattle.transcript_checker.proofs.StandLemmas.{then_ok}
use Rattle.transcript_checker.proofs.checker.Checker.begin.Goals as goal

pub returns : goal.returns
returns c = then_ok c.begin_cut.result c.begin_cut.ensures (λ e. record {
  said = c.begin.new.facts.said;
  none = c.begin.ensures.none;
  facts = c.in_ok-happen.ensures {u = tt} ∙ ap (λ (f : Facts). begun_by f c.args.event.now) (c.begin.ensures.begins ∙ ap (λ (n : Now). opened_by c.args.self.now.facts c.args.taken c.args.drained n c.begin.new.facts.said) c.of.ensures);
  geometry = refl;
  trees = refl;
  replies = c.in_ok-come.ensures {u = tt};
  cuts = e;
})
