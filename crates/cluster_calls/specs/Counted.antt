-- A link that counts what is posted on it.
use Rattle.std.specs.Prelude.{◌≡◌, ℕ, List, length}
use Rattle.link_model.specs.Links.{Shown}
use Rattle.mini_tx.specs.declared.posted.Posted.{Posted}
use Rattle.cluster_calls.specs.declared.counted.Counted.{Counted}

abbrev pub link_below : {L : Type 0} → Counted L → L
link_below l = l.link

abbrev pub count_of : {L : Type 0} → Counted L → ℕ
count_of l = l.posted

-- it shows what the link below does
abbrev pub counted_shown : {L : Type 0} → (L → Shown) → Counted L → Shown
counted_shown shown l = shown l.link

-- it stands for what the link below does, and has counted that
abbrev pub counted_stands : {L : Type 0} → (L → List Posted → Type 0) → Counted L → List Posted → Type 0
counted_stands stands l posted = stands l.link posted × (l.posted ≡ length posted)
