use Rattle.std.proofs.Common.{ℕ, List, ◌++◌, sym, ap, ◌∙◌}
use Rattle.std.specs.Prelude.{◌%◌}
use Rattle.nfs_proto.specs.declared.call.Call.{Call}
use Rattle.plan_rules.specs.Orders.{order, handle_steps, lookup_steps}
use Rattle.fs_rules.specs.Handle.{number_in}
use Rattle.plan_looks.proofs.GoesLemmas.{same_steps}
use Rattle.plan_read.specs.Lookup.{directory_steps}
use Rattle.plan_content.specs.Steps.{read_dir_steps, read_link_steps, read_steps}
use Rattle.plan_read.proofs.PlanLemmas.{get_attr_order, lookup_order, read_dir_order, read_link_order, read_order, stat_fs_order}
use Rattle.plan_read.proofs.procedures.reading.Goals as goal

pub returns-in-GetAttr-clause-goes : goal.returns-in-GetAttr-clause-goes
returns-in-GetAttr-clause-goes c arrival =
    let held = c.args.held.now in
    let file = c.in-GetAttr.file in
    same_steps held (order held arrival c.args.call.now c.args.cred.now) (handle_steps held file.0) c.args.looks.now c.get_attr.new.looks c.get_attr.result
    (ap (λ (x : Call). order held arrival x c.args.cred.now) c.in-GetAttr.is ∙ get_attr_order held arrival file c.args.cred.now) c.get_attr.ensures.goes

pub returns-in-StatFs-clause-goes : goal.returns-in-StatFs-clause-goes
returns-in-StatFs-clause-goes c arrival =
    let held = c.args.held.now in
    let file = c.in-StatFs.file in
    same_steps held (order held arrival c.args.call.now c.args.cred.now) (handle_steps held file.0) c.args.looks.now c.stat_fs.new.looks c.stat_fs.result
    (ap (λ (x : Call). order held arrival x c.args.cred.now) c.in-StatFs.is ∙ stat_fs_order held arrival file c.args.cred.now) c.stat_fs.ensures.goes

pub returns-in-Lookup-clause-goes : goal.returns-in-Lookup-clause-goes
returns-in-Lookup-clause-goes c arrival =
    let held = c.args.held.now in
    let dir = c.in-Lookup.dir in
    let cred = c.args.cred.now in
    same_steps held (order held arrival c.args.call.now cred) (directory_steps held dir.0 c.as_slice.result.now cred ++ lookup_steps held (number_in dir.0) c.as_slice.result.now)
    c.args.looks.now c.lookup.new.looks c.lookup.result
    (ap (λ (x : Call). order held arrival x cred) c.in-Lookup.is ∙ lookup_order held arrival dir c.in-Lookup.name cred
    ∙ ap (λ (x : List ℕ). directory_steps held dir.0 x cred ++ lookup_steps held (number_in dir.0) x) (sym c.as_slice.ensures.value)) c.lookup.ensures.goes

pub returns-in-ReadLink-clause-goes : goal.returns-in-ReadLink-clause-goes
returns-in-ReadLink-clause-goes c arrival =
    let held = c.args.held.now in
    let file = c.in-ReadLink.file in
    let start = arrival % held.geometry.memories in
    same_steps held (order held arrival c.args.call.now c.args.cred.now) (read_link_steps held start file.0) c.args.looks.now c.read_link.new.looks c.read_link.result
    (ap (λ (x : Call). order held arrival x c.args.cred.now) c.in-ReadLink.is ∙ read_link_order held arrival file c.args.cred.now) (c.read_link.ensures.goes start)

pub returns-in-Read-clause-goes : goal.returns-in-Read-clause-goes
returns-in-Read-clause-goes c arrival =
    let held = c.args.held.now in
    let is = c.in-Read in
    let cred = c.args.cred.now in
    let start = arrival % held.geometry.memories in
    same_steps held (order held arrival c.args.call.now cred) (read_steps held start is.file.0 is.offset is.count cred) c.args.looks.now c.read.new.looks c.read.result
    (ap (λ (x : Call). order held arrival x cred) is.is ∙ read_order held arrival is.file is.offset is.count _ cred) (c.read.ensures.goes start)

pub returns-in-ReadDir-clause-goes : goal.returns-in-ReadDir-clause-goes
returns-in-ReadDir-clause-goes c arrival =
    let held = c.args.held.now in
    let is = c.in-ReadDir in
    let cred = c.args.cred.now in
    same_steps held (order held arrival c.args.call.now cred) (read_dir_steps held is.dir.0 cred) c.args.looks.now c.read_dir.new.looks c.read_dir.result
    (ap (λ (x : Call). order held arrival x cred) is.is ∙ read_dir_order held arrival is.dir is.cookie is.count cred) c.read_dir.ensures.goes
