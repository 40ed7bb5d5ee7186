use Rattle.std.proofs.Common.{◌≡◌, List, ℕ, replicate, get_or, ap, ◌∙◌, rules}
use Rattle.disk_model.proofs.ContentLemmas.{zeros_at}
use Rattle.disk_model.proofs.frame.Frame.new.Goals as goal

pub returns : goal.returns
returns c place =
    let are : c.in_ok-vec.field-0.items ≡ replicate 4096 0 = search rules in
    ap (λ (l : List ℕ). get_or l place 0) are ∙ zeros_at 4096 place
