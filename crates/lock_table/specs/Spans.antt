-- Ranges of places, and locks of them.
use Rattle.std.specs.Prelude.{ℕ, ◌+◌, ◌≤◌, Bool, ◌&&◌, nat_le, nat_lt, max, min, List, [], ◌∷◌}
use Rattle.mini_tx.specs.declared.range.Range.{Range}
use Rattle.lock_table.specs.declared.lock.Lock.{Lock}
use Rattle.lock_table.specs.declared.span.Span.{Span}

-- whether a range has a place
abbrev pub covers : ℕ → Range → Bool
covers place r = nat_le r.at place && nat_lt place (r.at + r.length)

-- two ranges overlap: the later beginning lies before the earlier end
abbrev pub overlap : Range → Range → Bool
overlap a b = nat_lt (max a.at b.at) (min (a.at + a.length) (b.at + b.length))

abbrev pub IsNonempty : Range → Type 0
IsNonempty r = 1 ≤ r.length

abbrev pub span_of : Range → Span
span_of r = record { at = r.at; end = r.at + r.length }

-- whether a span has a place
abbrev pub has : ℕ → Span → Bool
has place s = nat_le s.at place && nat_lt place s.end

-- from the first place of both to the last
abbrev pub joined : Span → Span → Span
joined a b = record { at = min a.at b.at; end = max a.end b.end }

-- from the first place of a span and these locks to the last
abbrev pub hull : Span → List Lock → Span
hull s [] = s
hull s (l ∷ locks) = hull (joined s l.span) locks
