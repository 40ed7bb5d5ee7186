-- What holds of legal transcripts.
use Rattle.std.specs.Prelude.{List, [], ◌∷◌, ◌++◌, Some}
use Rattle.event_text.specs.declared.event.Event.TheVariants as event
use Rattle.line_text.specs.declared.line.Line.{Line}
use Rattle.line_text.specs.declared.line.Line.TheVariants as line
use Rattle.transcript_rules.specs.Opening.{Opening, Schedule}
use Rattle.transcript_rules.specs.Book.{Book}
use Rattle.transcript_rules.specs.Legal.{IsAllowed, IsLegalFrom, IsTranscript}
use Rattle.transcript_rules.specs.Next.{noted}

-- the lines that legal lines begin with are legal
abbrev pub PrefixesAreLegal : Type 0
PrefixesAreLegal = (o : Opening) (schedule : Schedule) (book : Book) (ls more : List Line) → IsLegalFrom o schedule book (ls ++ more) → IsLegalFrom o schedule book ls

-- no line may come behind `end`
abbrev pub NothingFollowsTheEnd : Type 0
NothingFollowsTheEnd = (o : Opening) (schedule : Schedule) (book : Book) (l : Line) → IsAllowed o schedule (noted o schedule book line.End) l → ⊥

-- of the schedule `cluster 1 1 1 1`, `end`, the transcript is `end`
abbrev pub TheEndAloneIsLegal : Type 0
TheEndAloneIsLegal = IsTranscript (Some (event.Cluster 1 1 1 1) ∷ Some event.End ∷ []) (line.End ∷ [])
