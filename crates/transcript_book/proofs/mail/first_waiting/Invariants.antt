-- No message before the index waits.
use Rattle.std.proofs.Common.{◌≡◌, ◌<◌, ◌≤◌, ℕ, length, slice_get, Some, false}
use Rattle.transcript_rules.specs.declared.post.Post.{Post as APost}
use Rattle.transcript_book.proofs.mail.first_waiting.Given as goal

abbrev pub invariant-loop-index : goal.invariant-loop-index
invariant-loop-index l = (l.index ≤ length l.posts) × ((i : ℕ) (p : APost) → i < l.index → slice_get l.posts i ≡ Some p → p.waits ≡ false)
