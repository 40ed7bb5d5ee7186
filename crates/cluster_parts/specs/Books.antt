-- What a cluster counts.
use Rattle.std.specs.Prelude.{◌≡◌, List}
use Rattle.mini_tx.specs.declared.tx_id.TxId.{TxId}
use Rattle.grant_ledger.specs.declared.doubt.Doubt.{Doubt}
use Rattle.grant_ledger.specs.Doubts.{waits_of}
use Rattle.story_rules.specs.Story.{Story}
use Rattle.cluster_laws.specs.Doubts.{Waits, AreInDoubt}
use Rattle.cluster_parts.specs.declared.book.Book.{Book}

-- the history, oldest first
abbrev pub history_of : Book → List TxId
history_of book = book.committed.items

-- who is missing of what is in doubt
abbrev pub doubts_of : Book → Waits
doubts_of book = waits_of book.ledger

-- it has the history of the story, and what is in doubt there
pub record IsBook (book : Book) (story : Story) : Type 0 where
  pub committed : history_of book ≡ story.committed
  pub doubts : AreInDoubt story (doubts_of book)
