use Rattle.std.proofs.Common.{sym, ap, subst, ◌∙◌}
use Rattle.std.specs.Prelude.{◌%◌}
use Rattle.fs_rules.specs.declared.plain_tree.PlainTree.{PlainTree}
use Rattle.nfs_service.specs.Reply.{HasHandle}
use Rattle.arrival_outcome.proofs.RulesLemmas.{respond-cluster, respond-handle, respond-spelled, change_spelled}
use Rattle.arrival_outcome.proofs.outcome.Outcome.of.Goals as goal

pub respond-requires-clause-pick : goal.respond-requires-clause-pick
respond-requires-clause-pick c = (c.args.arrival % c.args.tree.now.geometry.memories, c.pick_for-pick.ensures c.in-Asked.cred c.args.now)

pub reply_to-requires-clause-handle : goal.reply_to-requires-clause-handle
reply_to-requires-clause-handle c =
    let start = c.args.arrival % c.args.tree.now.geometry.memories in
    let meets = (c.in_ok-response-in-Asked.ensures {u = tt}).meets start (c.pick_for-pick.ensures c.in-Asked.cred c.args.now) in
    subst HasHandle (sym meets.answer) (respond-handle c.args.tree.now c.in-Asked.call c.in-Asked.cred c.args.now start)

pub returns-in_ok-reply_to-in-Asked-clause-cluster : goal.returns-in_ok-reply_to-in-Asked-clause-cluster
returns-in_ok-reply_to-in-Asked-clause-cluster c =
    let start = c.args.arrival % c.args.tree.now.geometry.memories in
    let meets = (c.in_ok-response-in-Asked.ensures {u = tt}).meets start (c.pick_for-pick.ensures c.in-Asked.cred c.args.now) in
    ap (λ (t : PlainTree). t.geometry) meets.tree ∙ respond-cluster c.args.tree.now c.in-Asked.call c.in-Asked.cred c.args.now start

pub returns-in_ok-reply_to-in-Asked-clause-spelled : goal.returns-in_ok-reply_to-in-Asked-clause-spelled
returns-in_ok-reply_to-in-Asked-clause-spelled c =
    let start = c.args.arrival % c.args.tree.now.geometry.memories in
    let meets = (c.in_ok-response-in-Asked.ensures {u = tt}).meets start (c.pick_for-pick.ensures c.in-Asked.cred c.args.now) in
    change_spelled c.args.tree.now c.respond.new.self _ c.in_ok-response-in-Asked.response.change meets.changed
    (respond-spelled c.args.tree.now c.in-Asked.call c.in-Asked.cred c.args.now start)
