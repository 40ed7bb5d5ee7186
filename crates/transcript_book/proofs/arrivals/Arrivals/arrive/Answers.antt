use Rattle.std.proofs.Common.{length, ◌∙◌, ap, List, ◌∷◌, [], ◌++◌, ◌+◌}
use Rattle.transcript_rules.specs.declared.arrival.Arrival.{Arrival}
use Rattle.transcript_book.specs.declared.open.Open.{Open}
use Rattle.transcript_book.proofs.OpenLemmas.{arrived_kept}
use Rattle.transcript_book.proofs.arrivals.Arrivals.arrive.Goals as goal

pub invariant_of-self-2 : goal.invariant_of-self-2
invariant_of-self-2 c =
    arrived_kept c.self.inside.told.items c.push.new.self.items c.self.inside.going.items c.push-2.new.self.items c.args.arrival c.open_of-open.result c.next_number-number.result
    c.requires (c.next_number-number.ensures ∙ ap (λ (xs : List Arrival). length xs + 1) c.deref.ensures.value) c.open_of-open.ensures
    ((c.in_ok-push.ensures {u = tt}).items) ((c.in_ok-push-2.ensures {u = tt}).items ∙ ap (λ (os : List Open). os ++ c.open_of-open.result ∷ []) (c.in_ok-reserve.ensures {u = tt}).items) c.self.invariant
