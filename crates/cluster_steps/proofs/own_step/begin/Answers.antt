use Rattle.std.proofs.Common.{◌≡◌, Some, None, sym, ap, subst, ◌∙◌}
use Rattle.std.proofs.lemmas.Result.{on_ok_weaker}
use Rattle.mini_tx.specs.declared.tx_id.TxId.{TxId}
use Rattle.tx_coord.specs.Rules.{begun, next_id}
use Rattle.tx_coord.specs.State.{State}
use Rattle.tx_coord.proofs.ParticipantLemmas.{taking_part}
use Rattle.story_rules.specs.Steps.{has_write}
use Rattle.cluster_parts.specs.Books.{doubts_of}
use Rattle.cluster_seats.specs.Seats.{nodes_in}
use Rattle.cluster_steps.proofs.NodeStep.{some_at, steps_length}
use Rattle.cluster_steps.proofs.BeginStep.{began, begins, one_id}
use Rattle.cluster_steps.proofs.own_step.begin.Goals as goal

pub state-requires : goal.state-requires
state-requires g c =
    steps_length (λ (s : State). begun s c.args.mini) c.args.n (nodes_in c.args.seats.now) (nodes_in c.begin.new.self) c.in_ok-posts.posts c.in_ok-posts.ensures c.requires.there

pub enter-requires : goal.enter-requires
enter-requires g c own is =
    let one = some_at (nodes_in c.args.seats.now) c.args.n c.requires.there in
    let same = began c.args.n c.args.mini (nodes_in c.args.seats.now) (nodes_in c.begin.new.self) c.in_ok-posts.posts one.0 c.in_ok-posts.ensures one.1 c.state.result.now c.state.ensures in
    subst (λ (id : TxId). doubts_of c.args.book.now id ≡ None) (one_id (next_id one.0.state) own (sym same ∙ sym c.running.ensures ∙ is)) (c.requires.unknown one.0 one.1)

pub returns : goal.returns
returns g c =
    on_ok_weaker c.post_all.result
    (begins c.args.n c.args.mini (nodes_in c.args.seats.now) (nodes_in c.begin.new.self) c.in_ok-posts.posts _ _ c.args.book.now c.enter.new.book c.as_slice-2.result.now c.is_change-change.result c.running.result
    c.requires.there c.in_ok-posts.ensures
    (c.is_change-change.ensures ∙ ap has_write (c.as_slice.ensures.value ∙ c.items.ensures))
    (c.as_slice-2.ensures.value ∙ c.in_ok-participants.ensures.items ∙ taking_part c.args.mini c.participants.result.now c.participants.ensures)
    (λ d there. c.running.ensures ∙ began c.args.n c.args.mini (nodes_in c.args.seats.now) (nodes_in c.begin.new.self) c.in_ok-posts.posts d c.in_ok-posts.ensures there c.state.result.now c.state.ensures)
    c.enter.ensures.history c.in_ok-enter.ensures.doubts)
    c.post_all.ensures
