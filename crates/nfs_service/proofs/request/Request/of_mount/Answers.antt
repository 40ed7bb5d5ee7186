use Rattle.std.proofs.Common.{◌∙◌, arith}
use Rattle.mount_proto.proofs.ShortLemmas.{answer_short}
use Rattle.nfs_service.proofs.request.Request.of_mount.Goals as goal

pub returns-in-Ok-clause-sized : goal.returns-in-Ok-clause-sized
returns-in-Ok-clause-sized c =
    let short = answer_short c.args.call.now.procedure c.as_slice.result.now c.in-Ok.body ((c.in-Ok.ensures {u = tt}).found) in
    c.told.ensures.sized short.numbers (omega (arith, short.few)) (c.as_slice-in-Ok.ensures.value ∙ short.spelled)
