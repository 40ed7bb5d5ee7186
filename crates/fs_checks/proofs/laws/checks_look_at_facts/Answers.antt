use Rattle.fs_checks.proofs.FactsLemmas.{set_attr_looks, existing_looks, read_looks, write_looks, named_looks, pair_looks, list_looks, may_looks, link_looks, over_looks}
use Rattle.fs_checks.proofs.laws.checks_look_at_facts.Goals as goal

pub returns : goal.returns
returns c =
    record {
      access = may_looks;
      set_attr = set_attr_looks;
      read = read_looks;
      write = write_looks;
      named = named_looks;
      pair = pair_looks;
      list = list_looks;
      existing = existing_looks;
      link = link_looks;
      over = over_looks;
    }
