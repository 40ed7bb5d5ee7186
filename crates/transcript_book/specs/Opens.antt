-- The arrivals that run or wait, beside all.
use Rattle.std.specs.Prelude.{ℕ, ◌+◌, ◌==◌, ◌&&◌, nat_lt, Bool, true, false, List, [], ◌∷◌, if◌then◌else◌, Option, Some, None}
use Rattle.std.specs.Option.{option_map_or}
use Rattle.transcript_rules.specs.declared.arrival.Arrival.{Arrival}
use Rattle.transcript_book.specs.declared.open.Open.{Open}

-- it has not ended
abbrev pub is_running : Arrival → Bool
is_running a = option_map_or (λ e. false) a.ended true

abbrev pub open_of : ℕ → Arrival → Open
open_of k a = record { number = k; node = a.node; points = a.points; under = a.under }

-- those of some arrivals, the first of which has the number k, that have not ended
unfoldable pub opens : ℕ → List Arrival → List Open
opens k [] = []
opens k (a ∷ rest) = if is_running a then open_of k a ∷ opens (k + 1) rest else opens (k + 1) rest

-- the first of them at a node
unfoldable pub first_of : ℕ → List Open → Option ℕ
first_of n [] = None
first_of n (x ∷ rest) = if x.node == n then Some x.number else first_of n rest

-- one at a node came before an event
abbrev pub is_before : ℕ → ℕ → Open → Bool
is_before n now o = (o.node == n) && nat_lt o.under now
