use Rattle.read_laws.proofs.PromiseLemmas.{read_finals_keep_promise}
use Rattle.read_laws.proofs.laws.read_finals_keep_promise.Goals as goal

pub returns : goal.returns
returns c = read_finals_keep_promise
