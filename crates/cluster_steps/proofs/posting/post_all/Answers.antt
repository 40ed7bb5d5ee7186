use Rattle.std.proofs.Common.{◌≡◌, ◌++◌, List, [], ◌∷◌, map, sym, ap, subst, ◌∙◌, arith}
use Rattle.std.proofs.lemmas.List.{append-nil, append_assoc}
use Rattle.mini_tx.specs.declared.posted.Posted.{Posted}
use Rattle.tx_coord.specs.declared.outgoing.Outgoing.{Outgoing}
use Rattle.story_rules.specs.Steps.{sent_by}
use Rattle.cluster_steps.proofs.posting.post_all.Goals as goal

pub loop-outgoing-preserved : goal.loop-outgoing-preserved
loop-outgoing-preserved g c = record {
  life = omega (arith, c.in_ok-k.ensures.ok.number, c.in_ok-k.ensures.ok.count, c.if-k-ge-MAX_MESSAGES.false);
  posts = λ posted stands.
      let old = c.loop-outgoing.invariant.posts posted stands in
      let sent : Posted = sent_by c.args.n c.in-Some.outgoing in (
        old.0 ++ sent ∷ [],
        (
          c.in_ok-k.ensures.stands old.0 old.1.0,
          append_assoc old.0 (sent ∷ []) (map (sent_by c.args.n) c.next.new.self)
              ∙ ap (λ (q : List Outgoing). old.0 ++ map (sent_by c.args.n) q) (sym c.in-Some.ensures.next) ∙ old.1.1,
        ),
      );
}

pub returns : goal.returns
returns g c = λ posted stands.
    let old = c.loop-outgoing.invariant.posts posted stands in
    subst (λ (ps : List Posted). g.L.Link.stands c.loop-outgoing.link ps)
    (sym (append-nil old.0) ∙ ap (λ (q : List Outgoing). old.0 ++ map (sent_by c.args.n) q) (sym c.in_default.ensures.none) ∙ old.1.1
    ∙ ap (λ (q : List Outgoing). posted ++ map (sent_by c.args.n) q) c.new-queue.ensures) old.1.0
