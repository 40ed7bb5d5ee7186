-- What a test decides, and the rules of a reply and of a change that speak of no tree.
use Rattle.std.specs.Prelude.{◌≡◌, ℕ, ◌+◌, ◌≤◌, ◌<◌, Bool, true, false, Option, Some, None, ◌⊎◌}
use Rattle.nfs_service.specs.Needs.{needs_files}
use Rattle.nfs_service.specs.Reply.{heard}
use Rattle.mini_tx.specs.declared.actor.Actor.TheVariants.{Node}
use Rattle.transcript_rules.specs.declared.arrival.Arrival.{Arrival}
use Rattle.transcript_rules.specs.Opening.{Opening}
use Rattle.transcript_rules.specs.Book.{Book, is_up, points_of}
use Rattle.transcript_rules.specs.Truth.{may_change, EndsInOrder}
use Rattle.transcript_rules.specs.Carried.{RestsOnVote, RestsOnAll, IsPrepared, IsStarted}

-- a test is true exactly where this holds
pub record Decides (b : Bool) (P : Type 0) : Type 0 where
  pub to : b ≡ true → P
  pub from : P → b ≡ true

-- a reply may name this prefix
abbrev pub Names : ℕ → ℕ → ℕ → Option ℕ → Type 0
Names points at before None = (before ≤ at) × (at ≤ points)
Names points at before (Some point) = at ≡ point

-- a reply may stand, but for its bytes
pub record MayReply (o : Opening) (book : Book) (number at : ℕ) (a : Arrival) : Type 0 where
  pub runs : a.ended ≡ None
  pub order : EndsInOrder book number a
  pub names : Names (points_of book) at a.points a.point
  pub at_once : a.under ≡ book.under → (is_up book (Node a.node) ≡ true) × (needs_files o.geometry (heard a.bytes) ≡ false)
  pub later : a.under < book.under → (needs_files o.geometry (heard a.bytes) ≡ true) × RestsOnVote book a
  pub whole : RestsOnAll book a

-- a change may stand, but for what its call makes of the tree
pub record MayPoint (book : Book) (point : ℕ) (a : Arrival) : Type 0 where
  pub number : point ≡ points_of book + 1
  pub first : a.point ≡ None
  pub may : may_change a.ended ≡ true
  pub under : IsPrepared book a ⊎ IsStarted book
