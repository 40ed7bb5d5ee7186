-- A Committed outcome is of votes of all participants.
use Rattle.std.proofs.Common.{◌≡◌, ◌⊎◌, inl, inr, ℕ, ◌==◌, ◌&&◌, ◌||◌, not, Bool, true, false, List, [], ◌∷◌, length, filter, cond, Option, refl, sym, ap, subst, ◌∙◌, arith, if◌then◌else◌}
use Rattle.std.proofs.lemmas.Bool.{eqb-true}
use Rattle.mini_tx.specs.declared.actor.Actor.{Actor}
use Rattle.mini_tx.specs.declared.actor.Actor.TheVariants.{Memory}
use Rattle.mini_tx.specs.declared.message.Message.{Message}
use Rattle.mini_tx.specs.declared.message.Message.TheVariants as message
use Rattle.mini_tx.specs.declared.tx_id.TxId.{TxId}
use Rattle.mini_tx.specs.declared.vote.Vote.{Vote}
use Rattle.mini_tx.specs.declared.vote.Vote.TheVariants as vote
use Rattle.mini_tx.specs.Order.{is_same}
use Rattle.tx_coord.specs.declared.outcome.Outcome.{Outcome}
use Rattle.tx_coord.specs.declared.outcome.Outcome.TheVariants.{Committed}
use Rattle.tx_coord.specs.declared.progress.Progress.TheVariants.{Waits}
use Rattle.tx_coord.specs.declared.running.Running.{Running}
use Rattle.tx_coord.specs.State as coord
use Rattle.tx_coord.specs.Rules as rules
use Rattle.tx_coord.specs.Votes as counted
use Rattle.tx_rules.specs.Mini.{In}
use Rattle.story_rules.specs.Story.{Story}
use Rattle.story_laws.specs.Committed.{CommittedIsVoted}
use Rattle.story_laws.specs.Votes.{HasVoted, IsVoted, AreCountedVotes, AreCountedIf}
use Rattle.story_laws.proofs.GrowthLemmas.{both_true}
use Rattle.story_laws.proofs.VoteLemmas.{with_grant_counts}

-- ---- no vote is missing

all_have : (test : ℕ → Bool) (ps : List ℕ) → length (filter (λ m. not (test m)) ps) ≡ 0 → (m : ℕ) → In m ps → test m ≡ true
all_have test [] none m there = absurd there
all_have test (p ∷ ps) none m there = go (test p) refl none (all_have test ps) there
  where
    go : (b : Bool) → test p ≡ b → length (cond (not b) (p ∷ filter (λ k. not (test k)) ps) (filter (λ k. not (test k)) ps)) ≡ 0
        → (length (filter (λ k. not (test k)) ps) ≡ 0 → (k : ℕ) → In k ps → test k ≡ true) → (m ≡ p) ⊎ In m ps → test m ≡ true
    go true is none_ rest (inl same) = ap test same ∙ is
    go true is none_ rest (inr later) = rest none_ m later
    go false is none_ rest here = absurd (omega (arith, none_))

granted_by : (grants : List counted.Granted) (m : ℕ) → rules.has_granted grants m ≡ true → (g : counted.Granted) × In g grants × (g.memory ≡ m)
granted_by [] m is = absurd cc
granted_by (g ∷ grants) m is = go (g.memory == m) refl (granted_by grants m) is
  where
    go : (b : Bool) → (g.memory == m) ≡ b → (rules.has_granted grants m ≡ true → (h : counted.Granted) × In h grants × (h.memory ≡ m))
        → (b || rules.has_granted grants m) ≡ true → (h : counted.Granted) × ((h ≡ g) ⊎ In h grants) × (h.memory ≡ m)
    go true same rest is_ = (g, inl refl, eqb-true g.memory m same)
    go false same rest is_ = let it = rest is_ in (it.0, inr it.1, it.2)

-- ---- what ends as Committed

module _ (story : Story) (c : coord.State) (r : Running) (from : ℕ) (reads : List (List ℕ)) (runs : c.phase ≡ coord.Runs r) (counts : AreCountedVotes story (coord.Runs r)) where
  abbrev AllVoted : Type 0
  AllVoted = (m : ℕ) → In m (rules.participants_of r.mini) → HasVoted story r.id m

  unlike : (a : Running) (o : Outcome) → coord.Runs a ≡ coord.Ended o → ⊥
  unlike a o is = cc

  still : c.phase ≡ coord.Ended (Committed reads) → AllVoted
  still ended = absurd (unlike r (Committed reads) (sym runs ∙ ended))

  by_vote : (id : TxId) (v w : Vote) → v ≡ w → is_same r.id id ≡ true → IsVoted story (Memory from) (message.Voted id v)
      → (rules.after_vote c (rules.counted r from w)).now.phase ≡ coord.Ended (Committed reads) → AllVoted
  by_vote id v (vote.Granted bytes) is same voted ended = go (length (rules.missing r_) == 0) refl ended
    where
      r_ : Running
      r_ = rules.with_grant r from bytes

      all : AreCountedVotes story (coord.Runs r_)
      all = with_grant_counts story c from id v (λ xs granted. voted from id xs refl (ap (λ (x : Vote). message.Voted id x) granted)) r bytes is same counts

      go : (b : Bool) → (length (rules.missing r_) == 0) ≡ b
          → (rules.after_vote c (if b then rules.ended_by r_ true (Committed (rules.gathered r_.grants r_.mini)) else Waits r_)).now.phase ≡ coord.Ended (Committed reads) → AllVoted
      go true none ended_ = λ m takes.
          let g = granted_by r_.grants m (all_have (λ k. rules.has_granted r_.grants k) (rules.participants_of r.mini) (eqb-true (length (rules.missing r_)) 0 none) m takes) in
          subst (λ (k : ℕ). HasVoted story r.id k) g.2 (all g.0 g.1)
      go false none ended_ = absurd (unlike r_ (Committed reads) ended_)
  by_vote id v (vote.Mismatch place kept) is same voted ended = absurd cc
  by_vote id v (vote.Locked holder) is same voted ended = absurd cc
  by_vote id v (vote.Forced floor) is same voted ended = absurd cc
  by_vote id v (vote.Held cut) is same voted ended = absurd cc

  on_running : (id : TxId) (v : Vote) → IsVoted story (Memory from) (message.Voted id v) → (rules.on_vote c from id v (coord.Runs r)).now.phase ≡ coord.Ended (Committed reads) → AllVoted
  on_running id v voted ended = go (rules.counts r from id v) refl ended
    where
      go : (b : Bool) → rules.counts r from id v ≡ b → (if b then rules.after_vote c (rules.counted r from v) else rules.quiet c).now.phase ≡ coord.Ended (Committed reads) → AllVoted
      go true is ended_ = by_vote id v v refl (both_true (is_same r.id id) (rules.is_in from (rules.missing r) && rules.fits (rules.placed_for r.mini from) v) is).0 voted ended_
      go false is ended_ = still ended_

  heard_ended : (x : Message) → IsVoted story (Memory from) x → (rules.heard c from x).now.phase ≡ coord.Ended (Committed reads) → AllVoted
  heard_ended (message.Voted id v) voted ended =
      on_running id v voted (subst (λ (phase : coord.Phase). (rules.on_vote c from id v phase).now.phase ≡ coord.Ended (Committed reads)) runs ended)
  heard_ended (message.Done id) voted ended = still ended
  heard_ended (message.Prepare id participants items) voted ended = still ended
  heard_ended (message.Decide id commit) voted ended = still ended
  heard_ended (message.Forget id) voted ended = still ended
  heard_ended message.List voted ended = still ended
  heard_ended (message.Kept ids cut) voted ended = still ended
  heard_ended (message.Ask id) voted ended = still ended
  heard_ended (message.Answer id ok) voted ended = still ended
  heard_ended (message.Hold cut) voted ended = still ended
  heard_ended (message.Held cut answer) voted ended = still ended
  heard_ended (message.Release cut) voted ended = still ended
  heard_ended (message.Drop cut) voted ended = still ended
  heard_ended (message.ReadCut cut place) voted ended = still ended
  heard_ended (message.Piece cut place bytes) voted ended = still ended

pub committed_is_voted : CommittedIsVoted
committed_is_voted story n seat c r p from reads all there runs at posted sender ended =
    let counts : AreCountedVotes story (coord.Runs r) =
    subst (λ (phase : coord.Phase). AreCountedVotes story phase) at (subst (λ (a : Option coord.State). AreCountedIf story a) runs (all.counts n seat there)) in
    heard_ended story c r from reads at counts p.message (subst (λ (f : Actor). IsVoted story f p.message) sender (all.votes p posted)) ended
