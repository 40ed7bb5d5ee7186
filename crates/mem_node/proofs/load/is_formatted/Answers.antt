use Rattle.std.proofs.Common.{◌≡◌, length, subst, ◌∙◌, rules}
use Rattle.disk_model.specs.Crash.{History, Holds}
use Rattle.mem_node.proofs.LoadLemmas.{formatted_iff}
use Rattle.mem_node.proofs.load.is_formatted.Goals as goal

pub returns-clause-told : goal.returns-clause-told
returns-clause-told g c told =
    let content = (g.D.Disk.history c.args.disk.now).now.content in
    let second : Holds content 128 c.read-2.new.into =
    subst (λ (h : History). Holds h.now.content 128 c.read-2.new.into) (c.in_ok-read.ensures.kept told) (c.in_ok-read-2.ensures.given (c.in_ok-read.ensures.hands.speaks told)) in
    let one : length c.read.new.into ≡ 32 = search rules in
    let two : length c.read-2.new.into ≡ 1 = search rules in
    formatted_iff c.args.setup content c.read.new.into c.deref.result.now c.read-2.new.into c.is_mark.result (c.in_ok-read.ensures.given told) one second two
    (c.deref.ensures.value ∙ c.in_ok-wanted.ensures) c.is_mark.ensures
