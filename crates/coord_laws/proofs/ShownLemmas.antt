-- What ends is told and finishing alike.
use Rattle.std.proofs.Common.{◌≡◌, ℕ, zero, suc, ◌-◌, Bool, true, false, not, cond, List, [], ◌∷◌, ◌++◌, map, filter, drop, length, Some, None, inl, inr, refl, sym, ap, subst, ◌∙◌}
use Rattle.tx_coord.specs.declared.finishing.Finishing.{Finishing}
use Rattle.tx_coord.specs.declared.outgoing.Outgoing.{Outgoing}
use Rattle.tx_coord.specs.declared.progress.Ending.{Ending}
use Rattle.tx_coord.specs.declared.progress.Progress.TheVariants.{Ends}
use Rattle.tx_coord.specs.State.{State, Ended}
use Rattle.tx_coord.specs.Rules as rules
use Rattle.tx_rules.specs.Lists.{is_in}
use Rattle.tx_rules.specs.Mini.{In, Setting, nodes_of, has_several}
use Rattle.tx_rules.specs.World.{Message}
use Rattle.tx_actors.specs.Coordinator as machine
use Rattle.mem_laws.specs.Cells.{number}
use Rattle.mem_laws.proofs.VoteLemmas.{several_is}
use Rattle.coord_laws.specs.Shown.{IsKnown, IsShownFinishing, AreShownFinishing, ShowsCoordinator, shown_post, IsShownStep}

-- ---- lists of decisions

drop_shown : (s : Setting) (n : ℕ) (fs : List Finishing) (xs : List machine.Finishing) → AreShownFinishing s fs xs → AreShownFinishing s (drop n fs) (drop n xs)
drop_shown s zero fs xs are = are
drop_shown s (suc n) [] [] are = are
drop_shown s (suc n) [] (x ∷ xs) are = absurd are
drop_shown s (suc n) (f ∷ fs) [] are = absurd are
drop_shown s (suc n) (f ∷ fs) (x ∷ xs) are = drop_shown s n fs xs are.1

more_shown : (s : Setting) (f : Finishing) (x : machine.Finishing) → IsShownFinishing s f x → (fs : List Finishing) (xs : List machine.Finishing) → AreShownFinishing s fs xs
    → AreShownFinishing s (fs ++ f ∷ []) (xs ++ x ∷ [])
more_shown s f x is [] [] are = (is, tt)
more_shown s f x is [] (y ∷ xs) are = absurd are
more_shown s f x is (g ∷ fs) [] are = absurd are
more_shown s f x is (g ∷ fs) (y ∷ xs) are = (are.0, more_shown s f x is fs xs are.1)

same_length : (s : Setting) (fs : List Finishing) (xs : List machine.Finishing) → AreShownFinishing s fs xs → length fs ≡ length xs
same_length s [] [] are = refl
same_length s [] (x ∷ xs) are = absurd are
same_length s (f ∷ fs) [] are = absurd are
same_length s (f ∷ fs) (x ∷ xs) are = ap suc (same_length s fs xs are.1)

newest_shown : (s : Setting) (n : ℕ) (fs : List Finishing) (xs : List machine.Finishing) → AreShownFinishing s fs xs → AreShownFinishing s (rules.newest n fs) (machine.newest n xs)
newest_shown s n fs xs are =
    subst (λ (k : ℕ). AreShownFinishing s (rules.newest n fs) (drop (k - n) xs)) (same_length s fs xs are) (drop_shown s (length fs - n) fs xs are)

all_wait : (ps : List ℕ) → ps ≡ filter (λ m. not (is_in m [])) ps
all_wait [] = refl
all_wait (p ∷ ps) = ap (λ (xs : List ℕ). p ∷ xs) (all_wait ps)

-- ---- messages

-- each of these messages shows in one
pub all_show : (f : ℕ → Outgoing) (p : Message) → ((m : ℕ) → shown_post (f m).message ≡ Some p) → (ms : List ℕ) (o : Outgoing) → In o (map f ms) → shown_post o.message ≡ Some p
all_show f p show [] o h = absurd h
all_show f p show (m ∷ ms) o h = elim h [ inl e ↦ ap (λ (x : Outgoing). shown_post x.message) e ∙ show m | inr rest ↦ all_show f p show ms o rest ]

-- ---- the end of what runs

-- what has ended, for both
pub ended_shows : (s : Setting) (c : State) (x : machine.Coordinator) (e : Ending) (o : machine.Outcome) → ShowsCoordinator s c x → IsKnown s e.id (rules.participants_of e.mini)
    → IsShownStep s (rules.after_vote c (Ends e)) (machine.ended s x (number e.id) e.commit o) × ((machine.ended s x (number e.id) e.commit o).ends ≡ o ∷ [])
ended_shows s c x e o shows known = go (has_several (nodes_of s (number e.id))) (sym (ap (λ ps. has_several ps) known.nodes ∙ several_is (rules.participants_of e.mini)))
  where
    f : Finishing
    f = rules.finishing_of e.id e.commit (rules.participants_of e.mini)

    y : machine.Finishing
    y = record { id = number e.id; commits = e.commit; done = [] }

    first : IsShownFinishing s (rules.finishing_of e.id e.commit (rules.participants_of e.mini)) (record { id = number e.id; commits = e.commit; done = [] })
    first = record { known = known; id = refl; commits = refl; waits = all_wait (rules.participants_of e.mini) }

    many : machine.Act
    many = record {
      now = record x { running = None; finishing = machine.newest 32 (x.finishing ++ record { id = number e.id; commits = e.commit; done = [] } ∷ []) };
      posts = machine.decide e.commit (number e.id) ∷ [];
      ends = o ∷ [];
    }

    one : machine.Act
    one = record { now = record x { running = None }; posts = []; ends = o ∷ [] }

    step : Bool → rules.Step
    step b = record {
      now = record c {
        phase = Ended e.outcome;
        finishing = cond b (rules.newest 32 (c.finishing ++ rules.finishing_of e.id e.commit (rules.participants_of e.mini) ∷ [])) c.finishing;
      };
      posts = cond b (map (rules.decide e.id e.commit) (rules.participants_of e.mini)) [];
    }

    go : (b : Bool) → rules.has_several (rules.participants_of e.mini) ≡ b
        → IsShownStep s (rules.after_vote c (Ends e)) (cond b many one) × ((cond b many one).ends ≡ o ∷ [])
    go true is = (
      subst (λ (d : Bool). IsShownStep s (step d) many) (sym is) (record {
        shows = record {
          next = shows.next;
          phase = tt;
          finishing = newest_shown s 32 (c.finishing ++ f ∷ []) (x.finishing ++ y ∷ []) (more_shown s f y first c.finishing x.finishing shows.finishing);
        };
        posts = λ (p : Outgoing) h. (machine.decide e.commit (number e.id), inl refl, all_show (rules.decide e.id e.commit) (machine.decide e.commit (number e.id)) (λ m. refl) (rules.participants_of e.mini) p h);
      }),
      refl,
    )
    go false is = (
      subst (λ (d : Bool). IsShownStep s (step d) one) (sym is) (record {
        shows = record { next = shows.next; phase = tt; finishing = shows.finishing };
        posts = λ (p : Outgoing) h. absurd h;
      }),
      refl,
    )
