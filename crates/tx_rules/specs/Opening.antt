-- The logs and images with which a cluster may open.
use Rattle.std.specs.Prelude.{◌≡◌, ℕ, List, [], Some, ◌⊎◌}
use Rattle.tx_rules.specs.Mini.{In, Memory, IsMini, Setting, IsLive}
use Rattle.tx_rules.specs.Decision.{Entry, At, named_in, Record, IsOpen, IsCommitted}
use Rattle.tx_rules.specs.World.{Stands, opened}

-- an identifier has its point
abbrev pub HasPoint : Setting → List ℕ → ℕ → Type 0
HasPoint s points t = In t points ⊎ In t s.early

-- at this cell an identifier that has its point still has its write to come
pub record IsPending (s : Setting) (log : List Entry) (points : List ℕ) (m a t v : ℕ) : Type 0 where
  pub point : HasPoint s points t
  pub record_open : IsOpen log m t
  pub writes : (s.mini t).writes m a ≡ Some v

-- logs and images that were found are sound for the memory with which the cluster opens: what is named is known; an
-- undecided record has an identifier that was found undecided, of a well-formed minitransaction, and its entries
-- promise what they promise in a run; early are exactly the committed ones of these; and the opening memory is
-- the settled one: each image with the writes in place that committed identifiers still have to come
pub record IsOpening (s : Setting) (log : List Entry) (image : Memory) : Type 0 where
  pub known : (m : ℕ) (r : Record) → In (At m r) log → In (named_in r) s.found ⊎ In (named_in r) s.old
  pub live : (t : ℕ) → In t s.found → IsLive s t
  pub closed : (m t : ℕ) → In t s.old → ¬ IsOpen log m t
  pub minis : (t : ℕ) → In t s.found → IsMini (s.mini t)
  pub stands : (m : ℕ) (r : Record) → In (At m r) log → In (named_in r) s.found → Stands s (opened s log image) m r
  pub early : (t : ℕ) → In t s.early → In t s.found × IsCommitted s log t
  pub committed : (t : ℕ) → In t s.found → IsCommitted s log t → In t s.early
  pub pending : (m a t v : ℕ) → IsPending s log [] m a t v → s.start m a ≡ v
  pub settled : (m a : ℕ) → ((t v : ℕ) → ¬ IsPending s log [] m a t v) → s.start m a ≡ image m a

-- a cluster that is formatted: nothing is known, and the images are the opening memory
pub record IsFormatted (s : Setting) : Type 0 where
  pub old : s.old ≡ []
  pub found : s.found ≡ []
  pub early : s.early ≡ []
