-- Legal transcripts: what they begin with, and how they end.
use Rattle.std.proofs.Common.{[], ◌∷◌, refl}
use Rattle.transcript_rules.specs.Next.{noted, told, next_in, may_come}
use Rattle.transcript_rules.specs.Legal.{IsLegalFrom}
use Rattle.transcript_rules.specs.Laws.{PrefixesAreLegal, NothingFollowsTheEnd, TheEndAloneIsLegal}

pub prefixes : PrefixesAreLegal
unfolding IsLegalFrom
prefixes o schedule book [] more legal = tt
prefixes o schedule book (l ∷ ls) more legal = (legal.0, prefixes o schedule (noted o schedule book l) ls more legal.1)

pub ends : NothingFollowsTheEnd
unfolding noted told
ends o schedule book l allowed = cc allowed.ongoing

pub end_alone : TheEndAloneIsLegal
unfolding IsLegalFrom next_in may_come
end_alone = (
  record {
    ongoing = refl;
    true_line = record { none = refl };
    carried = tt;
    cause = tt;
    place = record { over = record { ongoing = refl; told = refl; due = refl }; comes = refl };
  },
  tt,
)
