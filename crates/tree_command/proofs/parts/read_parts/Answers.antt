use Rattle.std.proofs.Common.{◌+◌, ◌<◌, List, ℕ, length, subst, sym}
use Rattle.tree_command.specs.Reading.{OfText, ReadsImage}
use Rattle.tree_command.proofs.ImageLemmas.{AreBegun, image_none, image_some, none_read, parts_more, parts_short}
use Rattle.tree_command.proofs.parts.read_parts.Goals as goal

pub loop-init : goal.loop-init
loop-init g c =
    let left = g.S.Source.left c.args.input.now in
    let count = g.S.Source.faults c.args.input.now in
    subst (λ (ps : List (List ℕ)). AreBegun c.args.geometry.now left left count count ps 0) (sym c.new-parts.ensures) (none_read c.args.geometry.now left count)

pub returns-in_default-clause-parts : goal.returns-in_default-clause-parts
returns-in_default-clause-parts g c =
    let ok = c.in_ok-image.ensures {u = tt} in
    let left = g.S.Source.left in
    let faults = g.S.Source.faults in
    let short = image_none (left c.loop.input) (left c.read_image.new.input) c.image_bytes-size.result c.in_ok-image.field-0 c.in_default.not-Some ok.image in
    parts_short c.args.geometry.now (left c.args.input.now) (left c.loop.input) (left c.read_image.new.input) (faults c.args.input.now) (faults c.loop.input)
    c.loop.parts c.loop.counter c.loop.invariant c.loop-test.true
    (subst (λ (k : ℕ). OfText (left c.loop.input) (λ text. length text < k)) c.image_bytes-size.ensures short)

pub loop-preserved : goal.loop-preserved
loop-preserved g c =
    let ok = c.in_ok-image.ensures {u = tt} in
    let left = g.S.Source.left in
    let faults = g.S.Source.faults in
    let image =
    image_some (left c.loop.input) (left c.read_image.new.input) _ c.in_ok-image.field-0 c.in-Some.image c.in-Some.is
    (subst (λ (k : ℕ). ReadsImage (left c.loop.input) (left c.read_image.new.input) k c.in_ok-image.field-0) c.image_bytes-size.ensures ok.image) in
    subst (λ (ps : List (List ℕ)). AreBegun c.args.geometry.now (left c.args.input.now) (left c.read_image.new.input) (faults c.args.input.now) (faults c.read_image.new.input) ps (c.loop.counter + 1))
    (sym (c.in_ok-push.ensures {u = tt}).ok)
    (parts_more c.args.geometry.now (left c.args.input.now) (left c.loop.input) (left c.read_image.new.input)
    (faults c.args.input.now) (faults c.loop.input) (faults c.read_image.new.input) c.loop.parts c.in-Some.image c.loop.counter c.loop.invariant image ok.counts)
