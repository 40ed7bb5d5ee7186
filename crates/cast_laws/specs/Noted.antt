-- What a note of a coordinator says of the story of a cluster.
use Rattle.std.specs.Prelude.{◌≡◌, ◌≢◌, ◌≤◌, ℕ, true, List, length, Option, Some, None, slice_get, if◌then◌else◌}
use Rattle.mini_tx.specs.declared.actor.Actor.TheVariants.{Memory}
use Rattle.mini_tx.specs.declared.item.Item.{Item}
use Rattle.mini_tx.specs.declared.posted.Posted.{Posted}
use Rattle.mini_tx.specs.declared.tx_id.TxId.{TxId}
use Rattle.mini_tx.specs.Order.{is_same}
use Rattle.tx_coord.specs.declared.outcome.Outcome.TheVariants.{Committed}
use Rattle.tx_coord.specs.Rules as rules
use Rattle.tx_coord.specs.Rules.{next_id}
use Rattle.tx_coord.specs.State as coord
use Rattle.tx_rules.specs.Mini.{In}
use Rattle.story_rules.specs.MemoryNodes.{MemoryNode, reaction}
use Rattle.story_rules.specs.Story.{Begun, Entered, Seat, Story, Up}
use Rattle.story_rules.specs.Steps.{Handled, begun_by, delivered, grant_of, is_logged, items_of, message_at}
use Rattle.story_laws.specs.Acts.{Begins, IsTold, MayHappen}
use Rattle.story_shown.specs.History.{IsOutcome, last_id}
use Rattle.cluster_notes.specs.Notes.{Noted, cast_of, fresh, with_entry}

-- it is of what the coordinator began last; and of the votes on that which have an entry the last was cast at the place of the
-- history that it has
pub record IsNoteOf (story : Story) (c : coord.State) (note : Noted) : Type 0 where
  pub id : note.id ≡ last_id c
  pub logged : note.logged ≡ is_logged (items_of story.begun note.id)
  pub last : (m k : ℕ) → In (Entered note.id m k) story.casts → k ≤ note.entered
  pub there : (m k : ℕ) → In (Entered note.id m k) story.casts → (w : ℕ) × In (Entered note.id w note.entered) story.casts

-- an identifier was granted anew, or none, when the history had this length
abbrev pub noted_by : Option TxId → ℕ → Noted → Noted
noted_by None at note = note
noted_by (Some id) at note = if is_same id note.id then with_entry true at note else note

-- a note is true when its minitransaction begins, and stays so at the beginnings of other nodes; and at a memory node's vote
-- where it is brought up to that
pub record NotesAreTrue : Type 0 where
  pub begun : (size : ℕ) (story : Story) (n : ℕ) (seat : Seat) (c : coord.State) (items : List Item) → IsTold size story → MayHappen size story (Begins n items)
      → slice_get story.nodes n ≡ Some seat → seat.actor ≡ Some c → IsNoteOf (begun_by story n items) (rules.begun c items).now (fresh (next_id c) (is_logged items))
  pub beside : (size : ℕ) (story : Story) (n other : ℕ) (seat beside : Seat) (c d : coord.State) (items : List Item) (note : Noted) → IsTold size story
      → slice_get story.nodes n ≡ Some seat → seat.actor ≡ Some c → slice_get story.nodes other ≡ Some beside → beside.actor ≡ Some d → other ≢ n
      → IsNoteOf story d note → IsNoteOf (begun_by story n items) d note
  pub voted : (size : ℕ) (story : Story) (k m : ℕ) (p : Posted) (node : MemoryNode) (d : coord.State) (note : Noted) → IsTold size story → message_at story k ≡ Some p → p.to ≡ Memory m
      → slice_get story.sites m ≡ Some (Up node) → IsNoteOf story d note
      → IsNoteOf (delivered story k Handled) d (noted_by (grant_of (reaction node p.message).entry) (length story.committed) note)

-- what a true note tells of an outcome whose votes have entries is the place of the history at which its reads were those of
-- the flat memory
abbrev pub CastsAreTold : Type 0
CastsAreTold = (size : ℕ) (story : Story) (n : ℕ) (seat : Seat) (c : coord.State) (bytes : List (List ℕ)) (note : Noted) → IsTold size story → slice_get story.nodes n ≡ Some seat
    → seat.actor ≡ Some c → c.phase ≡ coord.Ended (Committed bytes) → IsNoteOf story c note → note.logged ≡ true
    → (b : Begun) × In b story.begun × (b.id ≡ last_id c) × (outcome : IsOutcome story b bytes) × (outcome.at ≡ cast_of note)
