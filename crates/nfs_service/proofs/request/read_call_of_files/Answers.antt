use Rattle.std.proofs.Common.{arith}
use Rattle.nfs_service.proofs.ReplyLemmas.{all_fit}
use Rattle.nfs_service.proofs.request.read_call_of_files.Goals as goal

pub returns-clause-fits : goal.returns-clause-fits
returns-clause-fits c = all_fit c.args.procedure c.args.args.now c.read_args.result (λ i. omega (arith, c.type_inv.args i)) c.read_args.ensures.found
