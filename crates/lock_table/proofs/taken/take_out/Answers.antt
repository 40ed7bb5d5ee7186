use Rattle.std.proofs.Common.{List, sym, ap, subst, ◌∙◌}
use Rattle.std.specs.List.{slice_range}
use Rattle.lock_table.specs.declared.lock.Lock.{Lock}
use Rattle.lock_table.specs.Spans.{hull}
use Rattle.lock_table.specs.Locked.{IsLine, IsWindow}
use Rattle.lock_table.proofs.LineLemmas.{line_without}
use Rattle.lock_table.proofs.PartLemmas.{middle_is}
use Rattle.lock_table.proofs.WindowLemmas.{window_fits}
use Rattle.lock_table.proofs.taken.take_out.Goals as goal

pub returns-clause-taken : goal.returns-clause-taken
returns-clause-taken c =
    let w = subst (λ (ls : List Lock). IsWindow ls c.args.span c.window-from.result.0 c.window-from.result.1) c.deref.ensures.value c.window-from.ensures in
    let fits = window_fits c.args.locks.now.items c.args.span c.window-from.result.0 c.window-from.result.1 w in
    record {
      to = c.window-from.result.1;
      window = w;
      left = c.remove_all.ensures.left w.front w.middle w.rest w.is w.begins fits.2;
      spans = c.hull-hull.ensures
          ∙ ap (λ (ls : List Lock). hull c.args.span ls)
          (ap (λ (ls : List Lock). slice_range ls c.window-from.result.0 c.window-from.result.1) (c.deref-2.ensures.value ∙ w.is)
          ∙ middle_is w.front w.middle w.rest c.window-from.result.0 c.window-from.result.1 w.begins w.ends);
    }

pub returns-clause-line : goal.returns-clause-line
returns-clause-line c =
    let w = subst (λ (ls : List Lock). IsWindow ls c.args.span c.window-from.result.0 c.window-from.result.1) c.deref.ensures.value c.window-from.ensures in
    let fits = window_fits c.args.locks.now.items c.args.span c.window-from.result.0 c.window-from.result.1 w in
    subst IsLine (sym (c.remove_all.ensures.left w.front w.middle w.rest w.is w.begins fits.2)) (line_without w.front w.middle w.rest (subst IsLine w.is c.requires.line))
