-- What is kept beside the messages.
use Rattle.std.specs.Prelude.{◌≡◌, ℕ, ◌<◌, ◌≤◌, false, List, length, slice_get, Some}
use Rattle.transcript_rules.specs.declared.post.Post.{Post}

-- none of the first messages waits
pub record ArePassed (posts : List Post) (first : ℕ) : Type 0 where
  pub within : first ≤ length posts
  pub passed : (i : ℕ) (p : Post) → i < first → slice_get posts i ≡ Some p → p.waits ≡ false
