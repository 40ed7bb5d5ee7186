use Rattle.std.proofs.Common.{◌≡◌, ◌+◌, ◌++◌, ◌∷◌, [], ℕ, List, suc, sym, ap, ◌∙◌, arith}
use Rattle.tx_coord.specs.State.{Machine}
use Rattle.sinfonia.specs.First.{first_machine, first_machines}
use Rattle.sinfonia.proofs.first.first_seats.Goals as goal

one_more : (n m : ℕ) (seats : List Machine) (one : Machine) → m ≡ suc n → one ≡ first_machine n → seats ≡ first_machines n ++ one ∷ [] → seats ≡ first_machines m
one_more n m seats one next same is = is ∙ ap (λ (x : Machine). first_machines n ++ x ∷ []) same ∙ ap first_machines (sym next)

pub loop-n-preserved : goal.loop-n-preserved
loop-n-preserved c =
    one_more c.loop-n.n (c.loop-n.n + 1) c.push.new.self.nodes.items c.new.result (omega arith) c.new.ensures (c.in_ok-push.ensures.ok ∙ ap (λ (ms : List Machine). ms ++ c.new.result ∷ []) c.loop-n.invariant)
