-- What shows in a memory node of the machine shows in one that has the same.
use Rattle.std.proofs.Common.{◌≡◌, ℕ, ap, subst, ◌∙◌}
use Rattle.std.proofs.Math.Path.{fun_ext}
use Rattle.mini_tx.specs.declared.tx_id.TxId.{TxId}
use Rattle.mini_tx.specs.declared.vote.Vote.{Vote}
use Rattle.mem_rules.specs.State.{State}
use Rattle.tx_rules.specs.Mini.{Setting, reads_of}
use Rattle.tx_rules.specs.World.{after_all}
use Rattle.tx_actors.specs.Node.{View, view, IsAlike}
use Rattle.tx_actors.proofs.AlikeLemmas.{all_elsewhere}
use Rattle.mem_laws.specs.Cells.{number, cells_from}
use Rattle.mem_laws.specs.Shown.{IsShownVote, Shows}
use Rattle.mem_laws.specs.Laws.{OthersLeaveIt}
use Rattle.mem_laws.proofs.ImageLemmas.{map_alike}

module _ (s : Setting) (m : ℕ) where
  -- a vote shows where the same was seen
  pub vote_alike : (v u : View) (id : TxId) (x : Vote) → ((a : ℕ) → v.seen (number id) a ≡ u.seen (number id) a) → IsShownVote s m v id x → IsShownVote s m u id x
  vote_alike v u id x seen shown granted fresh =
      let both = shown granted fresh in
      (both.0, both.1 ∙ ap (reads_of s (number id) m) (fun_ext seen))

  pub shows_alike : (state : State) (v u : View) → IsAlike v u → Shows s m state v → Shows s m state u
  shows_alike state v u alike shows =
      subst (λ rs. Shows s m state (record { records = rs; image = u.image; seen = u.seen })) alike.records (record {
        floors = shows.floors;
        votes = λ c floor is.
            let both = shows.votes c floor is in
            (both.0, vote_alike v (record { records = v.records; image = u.image; seen = u.seen }) floor.id floor.vote (alike.seen (number floor.id)) both.1);
        kept = shows.kept;
        ascending = shows.ascending;
        records = λ k h.
            let shown = shows.records k h in
            record {
              typed = shown.typed;
              granted = shown.granted;
              vote = vote_alike v (record { records = v.records; image = u.image; seen = u.seen }) k.id k.vote (alike.seen (number k.id)) shown.vote;
              participants = shown.participants;
              undecided = shown.undecided;
              decision = shown.decision;
              locked = shown.locked;
              written = shown.written;
            };
        within = shows.within;
        undecided = shows.undecided;
        granted = shows.granted;
        typed = shows.typed;
        image = λ at n fits. shows.image at n fits ∙ map_alike v.image u.image (cells_from at n) (λ a h. alike.image a);
      })

pub others_leave_it : OthersLeaveIt
others_leave_it s m state w events other shows = shows_alike s m state (view w m) (view (after_all s w events) m) (all_elsewhere s m w events other) shows
