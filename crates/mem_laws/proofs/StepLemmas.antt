-- With each message a memory node does what the machine's does.
use Rattle.std.proofs.Common.{◌≡◌, ℕ, Bool, true, false, cond, ◌||◌, List, [], ◌∷◌, Option, Some, None, refl, sym, ap, subst, ◌∙◌}
use Rattle.mini_tx.specs.declared.message.Message as sent_type
use Rattle.mini_tx.specs.declared.message.Message.TheVariants as sent
use Rattle.mem_rules.specs.Rules as node
use Rattle.mem_rules.specs.State.{kept_of, after_one}
use Rattle.tx_rules.specs.Lists.{is_in}
use Rattle.tx_rules.specs.Mini.{Setting, nodes_of}
use Rattle.tx_rules.specs.World.{World, Message, Prepare, Granted, Looked, Refused, DecideCommit, DecideAbort, Done, Forgotten, ListKept, Kept, Ask, AnswerOk, AnswerAbort}
use Rattle.tx_actors.specs.Node as machine
use Rattle.mem_laws.specs.Cells.{number}
use Rattle.mem_laws.specs.Shown.{Shows, cut_held, posted}
use Rattle.mem_laws.specs.Steps.{IsForOthers, IsShownMessage, shown_answer, IsShownStep, ReactionsAreTheMachines}
use Rattle.mem_laws.proofs.DecideLemmas.{decisions, forgetting, answers}
use Rattle.mem_laws.proofs.LeaveLemmas.{decisions_leave, forgetting_leaves_same, answers_leave}
use Rattle.mem_laws.proofs.ListLemmas.{lists_are_the_machines}
use Rattle.mem_laws.proofs.StateLemmas.{state_is}
use Rattle.mem_laws.proofs.VoteLemmas.{vote_is}

module _ (s : Setting) (m : ℕ) (n : node.Node) (w : World) where
  abbrev v : machine.View
  v = machine.view w m

  abbrev Step : node.Reaction → machine.Reaction → Type 0
  Step r x = IsShownStep s m n w r x

  -- a participant takes it
  taken : (t : ℕ) (r : node.Reaction) (x : machine.Reaction) → (is_in m (nodes_of s t) || is_in t s.old) ≡ true → Step r x → Step r (machine.to_participant s m t x)
  taken t r x part step = subst (λ b. Step r (cond b x machine.silent)) (sym part) step

  -- the same message is sent
  by_message : (r : node.Reaction) (x y : Message) → x ≡ y → Step r (machine.handle s m (cut_held n.copy) v y) → Step r (machine.handle s m (cut_held n.copy) v x)
  by_message r x y same step = subst (λ z. Step r (machine.handle s m (cut_held n.copy) v z)) (sym same) step

  ignored : (x : Message) → IsForOthers x → Shows s m n.state v → Step (node.silent n) (machine.handle s m (cut_held n.copy) v x)
  ignored (Prepare t) other shows = absurd other
  ignored (Granted k t reads) other shows = record { appended = refl; posted = refl; shows = shows }
  ignored (Looked k t reads) other shows = record { appended = refl; posted = refl; shows = shows }
  ignored (Refused k t why) other shows = record { appended = refl; posted = refl; shows = shows }
  ignored (DecideCommit t) other shows = absurd other
  ignored (DecideAbort t) other shows = absurd other
  ignored (Done k t) other shows = record { appended = refl; posted = refl; shows = shows }
  ignored (Forgotten t) other shows = absurd other
  ignored ListKept other shows = absurd other
  ignored (Kept k ids) other shows = record { appended = refl; posted = refl; shows = shows }
  ignored (Ask t) other shows = absurd other
  ignored (AnswerOk k t) other shows = record { appended = refl; posted = refl; shows = shows }
  ignored (AnswerAbort k t) other shows = record { appended = refl; posted = refl; shows = shows }

pub step_is : ReactionsAreTheMachines
step_is s m n w (sent.Prepare id participants items) x (same, (part, asked)) =
    let vote = vote_is s m n (machine.view w m) id participants items asked in
    by_message s m n w _ x (Prepare (number id)) same
    (taken s m n w (number id) _ _ part record {
      appended = vote.appends;
      posted = vote.posts ∙ sym (ap (shown_answer s m) vote.voted);
      shows = state_is s m n w id participants items asked;
    })
step_is s m n w (sent.Decide id true) x (same, (part, named)) =
    let step = decisions s m n (machine.view w m) id true named in
    by_message s m n w _ x (DecideCommit (number id)) same
    (taken s m n w (number id) _ _ part record {
      appended = step.appended;
      posted = step.posted ∙ sym (ap (shown_answer s m) step.answered);
      shows = decisions_leave s m n w id true named;
    })
step_is s m n w (sent.Decide id false) x (same, (part, named)) =
    let step = decisions s m n (machine.view w m) id false named in
    by_message s m n w _ x (DecideAbort (number id)) same
    (taken s m n w (number id) _ _ part record {
      appended = step.appended;
      posted = step.posted ∙ sym (ap (shown_answer s m) step.answered);
      shows = decisions_leave s m n w id false named;
    })
step_is s m n w (sent.Forget id) x (same, (part, named)) =
    let step = forgetting s m n (machine.view w m) id named in
    by_message s m n w _ x (Forgotten (number id)) same
    (taken s m n w (number id) _ _ part record {
      appended = step.appended;
      posted = step.posted ∙ sym (ap (shown_answer s m) step.answered);
      shows = forgetting_leaves_same s m n w id named;
    })
step_is s m n w (sent.Ask id) x (same, (part, named)) =
    let step = answers s m n (machine.view w m) id named in
    by_message s m n w _ x (Ask (number id)) same
    (taken s m n w (number id) _ _ part record {
      appended = step.1.appended;
      posted = step.1.posted ∙ sym (ap (shown_answer s m) step.1.answered);
      shows = answers_leave s m n w id named;
    })
step_is s m n w sent.List x (same, shows) =
    let list = lists_are_the_machines s m n (machine.view w m) shows in
    by_message s m n w _ x ListKept same record {
      appended = refl;
      posted = ap (λ ids. Kept m ids ∷ []) (sym list.2) ∙ sym (ap (λ (r : node.Reaction). shown_answer s m r.answer) list.1);
      shows = shows;
    }
step_is s m n w (sent.Voted id vote) x (other, shows) = ignored s m n w x other shows
step_is s m n w (sent.Done id) x (other, shows) = ignored s m n w x other shows
step_is s m n w (sent.Kept ids cut) x (other, shows) = ignored s m n w x other shows
step_is s m n w (sent.Answer id ok) x (other, shows) = ignored s m n w x other shows
step_is s m n w (sent.Held cut answer) x (other, shows) = ignored s m n w x other shows
step_is s m n w (sent.Piece cut place bytes) x (other, shows) = ignored s m n w x other shows
step_is s m n w (sent.Hold cut) x never = absurd never
step_is s m n w (sent.Release cut) x never = absurd never
step_is s m n w (sent.Drop cut) x never = absurd never
step_is s m n w (sent.ReadCut cut place) x never = absurd never
