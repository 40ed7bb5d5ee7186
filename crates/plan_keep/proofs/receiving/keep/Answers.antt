use Rattle.std.proofs.Common.{length, ap, subst, ◌∙◌}
use Rattle.node_cache.specs.declared.want.Want.{Want}
use Rattle.plan_rules.specs.Fetched.{AreReads, fetched}
use Rattle.plan_rules.specs.Works.{IsTold}
use Rattle.plan_keep.proofs.ReadsLemmas.{one_record, one_chain, one_page, all_of_group}
use Rattle.plan_keep.proofs.receiving.keep.Goals as goal

pub keep_record-requires : goal.keep_record-requires
keep_record-requires c =
    ap length c.as_slice-reads.ensures.value ∙ one_record c.args.held.now c.in-Inode.number c.args.reads.now
    (subst (λ (w : Want). AreReads (fetched c.args.held.now w) c.args.reads.now) c.in-Inode.is c.requires.reads)

pub keep_chain-requires-clause-one : goal.keep_chain-requires-clause-one
keep_chain-requires-clause-one c =
    ap length c.as_slice-reads.ensures.value ∙ one_chain c.args.held.now c.requires.work c.in-Chain.number c.in-Chain.index c.args.reads.now
    (subst (λ (w : Want). IsTold c.args.held.now w) c.in-Chain.is c.requires.told)
    (subst (λ (w : Want). AreReads (fetched c.args.held.now w) c.args.reads.now) c.in-Chain.is c.requires.reads)

pub keep_group-requires-clause-reads : goal.keep_group-requires-clause-reads
keep_group-requires-clause-reads c =
    ap length c.as_slice-reads.ensures.value ∙ all_of_group c.args.held.now c.requires.work c.in-Slots.number c.in-Slots.group c.args.reads.now
    (subst (λ (w : Want). IsTold c.args.held.now w) c.in-Slots.is c.requires.told)
    (subst (λ (w : Want). AreReads (fetched c.args.held.now w) c.args.reads.now) c.in-Slots.is c.requires.reads)

pub keep_maps-requires-clause-one : goal.keep_maps-requires-clause-one
keep_maps-requires-clause-one c =
    ap length c.as_slice-reads.ensures.value ∙ one_page c.args.held.now c.in-Map.memory c.args.reads.now
    (subst (λ (w : Want). AreReads (fetched c.args.held.now w) c.args.reads.now) c.in-Map.is c.requires.reads)
