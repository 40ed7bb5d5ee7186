-- What an arrival comes to: its reply, and the change that it made.
use Rattle.std.specs.Prelude.{◌≡◌, ◌≢◌, ℕ, ◌+◌, List, Option, Some, None, IfSome, IfNone}
use Rattle.fs_tree.specs.declared.response.Change.{Change}
use Rattle.fs_rules.specs.declared.plain_tree.PlainTree.{PlainTree}
use Rattle.line_text.specs.Grammar.{IsWritableFile}
use Rattle.line_words.specs.Words.{HasDatagramLength}
use Rattle.arrival_outcome.specs.declared.outcome.Outcome.{Outcome}
use Rattle.nfs_service.specs.Reply.{Effect}

-- a tree was replaced by another, which is told exactly where they differ, with the file that was made
pub record Replaces (old new : PlainTree) (change : Option Change) (made : Option (ℕ × ℕ)) : Type 0 where
  pub changed : IfSome change (λ c. (new ≢ old) × (c.made ≡ made))
  pub unchanged : IfNone change (new ≡ old)

-- an outcome is what the effect of the request says; what gets no reply changes nothing
abbrev pub ComesTo : PlainTree → PlainTree → Outcome → Option Effect → Type 0
ComesTo old new o None = (o.reply ≡ None) × (o.change ≡ None) × (new ≡ old)
ComesTo old new o (Some e) = (o.reply ≡ Some e.reply) × (new ≡ e.tree) × Replaces old new o.change e.made

-- a reply has the length of a datagram
abbrev pub IsSizedReply : Option (List ℕ) → Type 0
IsSizedReply None = Unit {0}
IsSizedReply (Some reply) = HasDatagramLength reply

-- the file that was made has a spelling
abbrev pub IsSpelledChange : Option Change → Type 0
IsSpelledChange None = Unit {0}
IsSpelledChange (Some change) = IsWritableFile change.made

-- how many changes there were after this one
abbrev pub points_after : ℕ → Option Change → ℕ
points_after points None = points
points_after points (Some change) = points + 1
