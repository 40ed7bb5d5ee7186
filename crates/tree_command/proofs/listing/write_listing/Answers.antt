use Rattle.std.proofs.Common.{List, ℕ, subst}
use Rattle.std.proofs.lemmas.Result.{err_from_is_err_and}
use Rattle.fs_listing.specs.Listing.{listing}
use Rattle.fs_rules.specs.declared.file.File.{File}
use Rattle.tree_command.specs.Writing.{text_of}
use Rattle.tree_command.proofs.WriteLemmas.{IsListed, front_written, listed_all, listed_front, listed_more}
use Rattle.tree_command.proofs.listing.write_listing.Goals as goal

pub loop-number-preserved : goal.loop-number-preserved
loop-number-preserved g c =
    let ok = c.in_ok-write_file.ensures {u = tt} in
    let bytes = text_of (listing c.args.tree.now) in
    let held = g.K.Sink.held in
    let faults = g.K.Sink.faults in
    listed_more (held c.args.output.now) (held c.loop-number.output) (held c.write_file.new.output)
    (faults c.args.output.now) (faults c.loop-number.output) (faults c.write_file.new.output) bytes ok.front.0 c.in-Some.number.now c.in-Some.file.now c.next.new.self
    (subst (λ (files : List (ℕ × File)). IsListed (held c.args.output.now) (held c.loop-number.output) (faults c.args.output.now) (faults c.loop-number.output) bytes files)
    c.in-Some.ensures.steps c.loop-number.invariant)
    ok.front.1 ok.front.2 ok.counts

pub returns-in_err-write_file-clause-front : goal.returns-in_err-write_file-clause-front
returns-in_err-write_file-clause-front g c =
    let p = err_from_is_err_and c.from_residual.result c.from_residual.ensures.1 in
    let bytes = text_of (listing c.args.tree.now) in
    let held = g.K.Sink.held in
    let faults = g.K.Sink.faults in
    let more =
    listed_front (held c.args.output.now) (held c.loop-number.output) (held c.write_file.new.output)
    (faults c.args.output.now) (faults c.loop-number.output) bytes c.write_file.ensures.front.0 c.in-Some.number.now c.in-Some.file.now c.next.new.self
    (subst (λ (files : List (ℕ × File)). IsListed (held c.args.output.now) (held c.loop-number.output) (faults c.args.output.now) (faults c.loop-number.output) bytes files)
    c.in-Some.ensures.steps c.loop-number.invariant) c.write_file.ensures.front.1 in
    front_written (held c.args.output.now) (held c.write_file.new.output) bytes _ c.from_residual.result p.0 p.1 more

pub returns-clause-front : goal.returns-clause-front
returns-clause-front g c =
    let held = g.K.Sink.held in
    let faults = g.K.Sink.faults in
    listed_all (held c.args.output.now) (held c.loop-number.output) (faults c.args.output.now) (faults c.loop-number.output) (text_of (listing c.args.tree.now))
    c.loop-number.number-iterator c.loop-number.invariant c.in-None.ensures.steps.0
