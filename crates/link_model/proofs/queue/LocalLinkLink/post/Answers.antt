use Rattle.std.proofs.Common.{arith}
use Rattle.link_model.specs.SlotLemmas.{one_more, one_more_of}
use Rattle.link_model.proofs.queue.LocalLinkLink.post.Goals as goal

pub returns-clause-ok : goal.returns-clause-ok
returns-clause-ok c = one_more c.args.self.now.gone c.args.self.now.slots.items c.push_back.new.self.items (record { from = c.args.from; to = c.args.to; message = c.args.message }) _
    c.in_ok-push_back.ensures.items
    (let long = c.in_ok-push_back.ensures.len in let now = c.args.self.now.slots.ok.0 in omega (arith, c.len.ensures, long, now))

pub returns-clause-stands : goal.returns-clause-stands
returns-clause-stands c = λ posted of_. one_more_of posted c.args.self.now.gone c.args.self.now.slots.items c.push_back.new.self.items
    (record { from = c.args.from; to = c.args.to; message = c.args.message }) c.in_ok-push_back.ensures.items of_
