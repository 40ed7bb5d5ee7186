-- Lines that begin an event.
use Rattle.std.specs.Prelude.{◌≡◌, ℕ, ◌==◌, Bool, true, false, if◌then◌else◌, List, [], ◌∷◌, ◌++◌, Option, None, Some}
use Rattle.fs_rules.specs.declared.plain_tree.PlainTree.{PlainTree}
use Rattle.event_text.specs.declared.event.Event.{Event}
use Rattle.event_text.specs.declared.event.Event.TheVariants as event
use Rattle.transcript_book.specs.declared.said.Said.{Said}
use Rattle.transcript_book.specs.Sayings.{AreSaid}
use Rattle.transcript_facts.specs.Now.{now_of}
use Rattle.transcript_next.specs.Same.{is_event}
use Rattle.transcript_telling.specs.Tellings.{begun_by, opened_by}
use Rattle.transcript_checker.specs.declared.checker.Checker.{Checker}

abbrev pub is_arrival : Event → ℕ → Bool
is_arrival (event.Arrive other sec usec bytes) node = other == node
is_arrival e node = false

abbrev pub is_end_of : Event → Bool
is_end_of event.End = true
is_end_of e = false

-- this event comes
abbrev pub is_coming : Event → Option Event → Bool
is_coming e None = false
is_coming e (Some c) = is_event c e

-- the event that comes, where it is an arrival at this node
abbrev pub arriving : ℕ → Option Event → Option Event
arriving node None = None
arriving node (Some e) = if is_arrival e node then Some e else None

-- what is kept beside arrivals, and beside backups, where an event begins
abbrev pub replies_by : Event → List (Option (List ℕ)) → List (Option (List ℕ))
replies_by (event.Arrive node sec usec bytes) replies = replies ++ None ∷ []
replies_by e replies = replies

abbrev pub cuts_by : Event → List (Option PlainTree) → List (Option PlainTree)
cuts_by event.Backup cuts = cuts ++ None ∷ []
cuts_by e cuts = cuts

-- the event began, and did what it does
pub record Begins (before : Checker) (taken drained : ℕ) (e : Event) (after : Checker) : Type 0 where
  pub said : Said
  pub none : AreSaid [] said
  pub facts : after.facts ≡ begun_by (opened_by before.facts taken drained (now_of (Some e)) said) e
  pub geometry : after.geometry ≡ before.geometry
  pub trees : after.trees ≡ before.trees
  pub replies : after.replies ≡ replies_by e before.replies
  pub cuts : after.cuts.trees.items ≡ cuts_by e before.cuts.trees.items
