-- `done` is noted of the same, and the same is posted again.
use Rattle.std.proofs.Common.{◌≡◌, ℕ, ◌==◌, ◌&&◌, Bool, true, false, not, cond, List, ◌∷◌, map, filter, length, Option, Some, None, is_some, refl, sym, ap, subst, ◌∙◌}
use Rattle.mini_tx.specs.declared.tx_id.TxId.{TxId}
use Rattle.mini_tx.specs.Laws.{IsTypedId}
use Rattle.mini_tx.specs.Order.{is_same}
use Rattle.tx_coord.specs.declared.outgoing.Outgoing.{Outgoing}
use Rattle.tx_recover.specs.declared.notice.Notice.TheVariants as notice
use Rattle.tx_recover.specs.declared.work.Work.{Work}
use Rattle.tx_recover.specs.Rules as rules
use Rattle.tx_rules.specs.Lists.{is_in, all_in}
use Rattle.tx_rules.specs.Mini.{In}
use Rattle.tx_rules.specs.World.{Message, Forgotten, Ask}
use Rattle.tx_actors.specs.Coordinator.{decide}
use Rattle.tx_actors.specs.Manager as machine
use Rattle.mem_laws.specs.Cells.{number}
use Rattle.recover_laws.specs.Shown.{IsShownWork, AreShownWorks, heard_in, shown_post}
use Rattle.recover_laws.specs.Laws.{DoneIsTheManagers, ResendsAreTheManagers}
use Rattle.recover_laws.proofs.OrderLemmas.{ascending_map, ascending_filter, in_ascending, in_map}
use Rattle.recover_laws.proofs.WorkLemmas.{IsPostOf, named_is, map_shown, filter_shown, post_of, told_shows, less, none_missing}

noted_shows : (m : ℕ) (id : TxId) → IsTypedId id → (w : Work) (x : machine.Work) → IsShownWork w x → IsShownWork (rules.noted m id w) (machine.done_noted m (number id) x)
noted_shows m id typed w x is = go (is_same w.id id) (x.id == number id) w.decision x.decision (named_is w x id typed is) is.decision refl
  where
    go : (a b : Bool) (d f : Option Bool) → a ≡ b → f ≡ d → w.decision ≡ d
        → IsShownWork (cond (a && is_some d) (record w { waits = rules.without m w.waits }) w) (cond (b && is_some f) (record x { done = m ∷ x.done }) x)
    go true true (Some c) (Some e) same alike is_d = record {
      typed = is.typed;
      id = is.id;
      nodes = is.nodes;
      decision = is.decision;
      waits =
          ap (rules.without m) (is.waits ∙ ap (λ o. filter (λ n. not (is_in n (heard_in x o))) w.participants) is_d) ∙ less m x.done w.participants
          ∙ ap (λ o. filter (λ n. not (is_in n (heard_in (record x { done = m ∷ x.done }) o))) w.participants) (sym is_d);
      missing = λ none. let g : ◌≡◌ {A = Option Bool} (Some c) None = sym is_d ∙ none in absurd cc;
      early = λ none. let g : ◌≡◌ {A = Option Bool} (Some c) None = sym is_d ∙ none in absurd cc;
    }
    go true true (Some c) None same alike is_d = absurd cc
    go true true None (Some e) same alike is_d = absurd cc
    go true true None None same alike is_d = is
    go true false d f same alike is_d = absurd cc
    go false true d f same alike is_d = absurd cc
    go false false d f same alike is_d = is

through_is : (w : Work) (x : machine.Work) → IsShownWork w x → rules.is_through w ≡ machine.is_through x
through_is w x is = go w.decision refl
  where
    go : (d : Option Bool) → w.decision ≡ d → rules.is_through w ≡ machine.is_through x
    go None e = ap (λ o. is_some o && (length w.waits == 0)) e ∙ sym (ap (λ o. is_some o && all_in x.nodes x.done) (is.decision ∙ e))
    go (Some c) e =
        ap (λ o. is_some o && (length w.waits == 0)) e
        ∙ ap (λ (ms : List ℕ). length ms == 0) (is.waits ∙ ap (λ o. filter (λ n. not (is_in n (heard_in x o))) w.participants) e)
        ∙ sym (
        ap (λ o. is_some o && all_in x.nodes x.done) (is.decision ∙ e) ∙ ap (λ ps. all_in ps x.done) is.nodes ∙ none_missing x.done w.participants
        )

keeps_noted : (m t : ℕ) (x : machine.Work) → (machine.done_noted m t x).id ≡ x.id
keeps_noted m t x = go ((x.id == t) && is_some x.decision)
  where
    go : (b : Bool) → (cond b (record x { done = m ∷ x.done }) x).id ≡ x.id
    go true = refl
    go false = refl

pub done_is_the_managers : DoneIsTheManagers
done_is_the_managers works xs m id are typed =
    record {
      shows = subst (λ (ys : List machine.Work). AreShownWorks (filter left (map f works)) ys) (ascending_filter stays (map g xs))
          (filter_shown left stays (λ w x is. ap not (through_is w x is)) (map f works) (machine.ascending (map g xs)) noted);
      posts = λ o h tells. shown o
          (post_of rules.forgets (filter rules.is_through (map f works)) (filter machine.is_through (machine.ascending (map g xs)))
          (filter_shown rules.is_through machine.is_through through_is (map f works) (machine.ascending (map g xs)) noted) o h);
    }
  where
    f : Work → Work
    f w = rules.noted m id w

    g : machine.Work → machine.Work
    g x = machine.done_noted m (number id) x

    left : Work → Bool
    left w = not (rules.is_through w)

    stays : machine.Work → Bool
    stays x = not (machine.is_through x)

    noted : AreShownWorks (map f works) (machine.ascending (map g xs))
    noted = subst (λ (ys : List machine.Work). AreShownWorks (map f works) ys) (ascending_map g (keeps_noted m (number id)) xs)
        (map_shown f g (noted_shows m id typed) works (machine.ascending xs) are)

    shown : (o : Outgoing) → IsPostOf rules.forgets (filter machine.is_through (machine.ascending (map g xs))) o
        → (p : Message) × In p (map (λ (x : machine.Work). Forgotten x.id) (filter machine.is_through (map g xs))) × (shown_post o.message ≡ Some p)
    shown o it = (
      Forgotten it.shown.id,
      in_map (λ (x : machine.Work). Forgotten x.id) it.shown (filter machine.is_through (map g xs))
          (in_ascending it.shown (filter machine.is_through (map g xs))
          (subst (λ (ys : List machine.Work). In it.shown ys) (ascending_filter machine.is_through (map g xs)) it.among)),
      told_shows (notice.Forget it.work.id) it.work.participants o it.posted ∙ ap (λ t. Some (Forgotten t)) (sym it.is.id),
    )

pub resends_are_the_managers : ResendsAreTheManagers
resends_are_the_managers works xs are o h tells = shown (post_of rules.again works (machine.ascending xs) are o h)
  where
    last : (w : Work) (x : machine.Work) → IsShownWork w x → shown_post (rules.message_of (rules.last_told w.id w.decision)) ≡ Some (machine.again x x.decision)
    last w x is = go w.decision x.decision is.decision
      where
        go : (d e : Option Bool) → e ≡ d → shown_post (rules.message_of (rules.last_told w.id d)) ≡ Some (machine.again x e)
        go None None same = ap (λ t. Some (Ask t)) (sym is.id)
        go None (Some c) same = absurd cc
        go (Some c) None same = absurd cc
        go (Some c) (Some e) same = by c e (let s : e ≡ c = cc in s)
          where
            by : (c e : Bool) → e ≡ c → Some (decide c (number w.id)) ≡ Some (decide e x.id)
            by c e same = ap (λ t. Some (decide c t)) (sym is.id) ∙ ap (λ b. Some (decide b x.id)) (sym same)

    shown : IsPostOf rules.again (machine.ascending xs) o → (p : Message) × In p (machine.resend_manager xs) × (shown_post o.message ≡ Some p)
    shown it = (
      machine.again it.shown it.shown.decision,
      in_map (λ (x : machine.Work). machine.again x x.decision) it.shown (machine.ascending xs) it.among,
      told_shows (rules.last_told it.work.id it.work.decision) it.work.waits o it.posted ∙ last it.work it.shown it.is,
    )
