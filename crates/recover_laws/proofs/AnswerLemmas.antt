-- The same answers are noted, and the same is decided.
use Rattle.std.proofs.Common.{◌≡◌, ℕ, ◌==◌, ◌&&◌, Bool, true, false, not, cond, List, [], ◌∷◌, map, filter, length, Option, Some, None, is_none, refl, sym, ap, subst, ◌∙◌}
use Rattle.mini_tx.specs.declared.tx_id.TxId.{TxId}
use Rattle.mini_tx.specs.Laws.{IsTypedId}
use Rattle.mini_tx.specs.Order.{is_same}
use Rattle.tx_coord.specs.declared.outgoing.Outgoing.{Outgoing}
use Rattle.tx_recover.specs.declared.notice.Notice.TheVariants as notice
use Rattle.tx_recover.specs.declared.work.Work.{Work}
use Rattle.tx_recover.specs.Rules as rules
use Rattle.tx_rules.specs.Lists.{is_in, all_in}
use Rattle.tx_rules.specs.Mini.{In}
use Rattle.tx_rules.specs.World.{Message, DecideCommit, DecideAbort}
use Rattle.tx_actors.specs.Coordinator.{decide}
use Rattle.tx_actors.specs.Manager as machine
use Rattle.mem_laws.specs.Cells.{number}
use Rattle.recover_laws.specs.Shown.{IsShownWork, AreShownWorks, ShowsWorks, IsShownStep, heard_in, shown_post}
use Rattle.recover_laws.specs.Laws.{AnswersAreTheManagers}
use Rattle.recover_laws.proofs.OrderLemmas.{ascending_map, in_ascending, in_map, in_filter}
use Rattle.recover_laws.proofs.WorkLemmas.{IsPostOf, named_is, map_shown, post_of, told_shows, all_wait, less, none_missing, member_is, not_agreed}

-- one that is decided shows in one that is decided as well
decided_shows : (commit : Bool) (w : Work) (x : machine.Work) → IsTypedId w.id → x.id ≡ number w.id → x.nodes ≡ w.participants → x.done ≡ []
    → IsShownWork (rules.decided commit w).now (record x { decision = Some commit })
decided_shows commit w x typed id nodes none =
    record {
      typed = typed;
      id = id;
      nodes = nodes;
      decision = refl;
      waits = all_wait w.participants ∙ ap (λ (ms : List ℕ). filter (λ m. not (is_in m ms)) w.participants) (sym none);
      missing = λ e. let f : ◌≡◌ {A = Option Bool} (Some commit) None = e in absurd cc;
      early = λ e. none;
    }

-- ---- what one makes of an answer

-- of the turn of the recoverer's, and of what the machine's noted and then decides by a test
record Turns (commit : Bool) (turn : rules.Turn) (noted now : machine.Work) (test : Bool) : Type 0 where
  shown : IsShownWork turn.now now
  posts : (o : Outgoing) → In o turn.posts → (test ≡ true) × (shown_post o.message ≡ Some (decide commit noted.id))

stays_turns : (commit test : Bool) (w : Work) (x : machine.Work) → IsShownWork w x → test ≡ false → Turns commit (rules.stays w) x (cond test (record x { decision = Some commit }) x) test
stays_turns commit test w x is not_ = record {
  shown = subst (λ (b : Bool). IsShownWork w (cond b (record x { decision = Some commit }) x)) (sym not_) is;
  posts = λ o h. absurd h;
}

ok_turns : (m : ℕ) (id : TxId) → IsTypedId id → (w : Work) (x : machine.Work) → IsShownWork w x
    → Turns true (rules.answered m id true w) (machine.ok_noted m (number id) x) (machine.decided_as true machine.is_agreed (machine.ok_noted m (number id) x))
    (machine.is_agreed (machine.ok_noted m (number id) x))
ok_turns m id typed w x is = go (is_same w.id id) (x.id == number id) w.decision x.decision (named_is w x id typed is) is.decision refl
  where
    Made : rules.Turn → machine.Work → Type 0
    Made turn noted = Turns true turn noted (machine.decided_as true machine.is_agreed noted) (machine.is_agreed noted)

    heard : Work
    heard = record w { waits = rules.without m w.waits }

    noted : machine.Work
    noted = record x { oks = m ∷ x.oks }

    same : Made (rules.stays w) x
    same = stays_turns true (machine.is_agreed x) w x is (not_agreed w x is)

    waits_are : w.decision ≡ None → heard.waits ≡ filter (λ n. not (is_in n (m ∷ x.oks))) w.participants
    waits_are e =
        ap (rules.without m) (is.waits ∙ ap (λ o. filter (λ n. not (is_in n (heard_in x o))) w.participants) e) ∙ less m x.oks w.participants

    agreed_is : w.decision ≡ None → machine.is_agreed noted ≡ (length heard.waits == 0)
    agreed_is e =
        ap (λ o. is_none o && all_in x.nodes (m ∷ x.oks)) (is.decision ∙ e)
        ∙ ap (λ ps. all_in ps (m ∷ x.oks)) is.nodes ∙ none_missing (m ∷ x.oks) w.participants ∙ ap (λ (ms : List ℕ). length ms == 0) (sym (waits_are e))

    counted : w.decision ≡ None → (b : Bool) → (length heard.waits == 0) ≡ b
        → Turns true (cond b (rules.decided true heard) (rules.stays heard)) noted (machine.decided_as true machine.is_agreed noted) (machine.is_agreed noted)
    counted e true none =
        let yes = agreed_is e ∙ none in
        record {
          shown = subst (λ (b : Bool). IsShownWork (rules.decided true heard).now (cond b (record noted { decision = Some true }) noted)) (sym yes)
              (decided_shows true heard noted is.typed is.id is.nodes (is.early e));
          posts = λ o h. (yes, told_shows (notice.Decide w.id true) w.participants o h ∙ ap (λ t. Some (decide true t)) (sym is.id));
        }
    counted e false some = stays_turns true (machine.is_agreed noted) heard noted (record {
      typed = is.typed;
      id = is.id;
      nodes = is.nodes;
      decision = is.decision;
      waits = waits_are e ∙ ap (λ o. filter (λ n. not (is_in n (heard_in noted o))) w.participants) (sym e);
      missing = λ none. some;
      early = is.early;
    }) (agreed_is e ∙ some)

    go : (a b : Bool) (d f : Option Bool) → a ≡ b → f ≡ d → w.decision ≡ d
        → Made (cond (a && is_none d) (rules.agreed m w) (rules.stays w)) (cond (b && is_none f) noted x)
    go true true None None e same_decision is_none = counted is_none (length heard.waits == 0) refl
    go true true None (Some c) e same_decision is_none = absurd cc
    go true true (Some c) None e same_decision is_some = absurd cc
    go true true (Some c) (Some d) e same_decision is_some = same
    go true false d f e same_decision is_d = absurd cc
    go false true d f e same_decision is_d = absurd cc
    go false false d f e same_decision is_d = same

abort_turns : (m : ℕ) (id : TxId) → IsTypedId id → (w : Work) (x : machine.Work) → IsShownWork w x
    → Turns false (rules.answered m id false w) x (machine.decided_as false (machine.is_denied m (number id)) x) (machine.is_denied m (number id) x)
abort_turns m id typed w x is =
    go (is_same w.id id) (x.id == number id) w.decision x.decision (rules.is_among m w.participants) (is_in m x.nodes) (named_is w x id typed is) is.decision
    (sym (ap (is_in m) is.nodes ∙ member_is m w.participants)) refl
  where
    same : (b : Bool) → b ≡ false → Turns false (rules.stays w) x (cond b (record x { decision = Some false }) x) b
    same b not_ = stays_turns false b w x is not_

    go : (a b : Bool) (d f : Option Bool) (i j : Bool) → a ≡ b → f ≡ d → i ≡ j → w.decision ≡ d
        → Turns false (cond (a && is_none d) (cond i (rules.decided false w) (rules.stays w)) (rules.stays w)) x
        (cond (b && (is_none f && j)) (record x { decision = Some false }) x) (b && (is_none f && j))
    go true true None None true true e g h none = record {
      shown = decided_shows false w x is.typed is.id is.nodes (is.early none);
      posts = λ o posted. (refl, told_shows (notice.Decide w.id false) w.participants o posted ∙ ap (λ t. Some (decide false t)) (sym is.id));
    }
    go true true None None false false e g h none = same false refl
    go true true None None true false e g h none = absurd cc
    go true true None None false true e g h none = absurd cc
    go true true None (Some c) i j e g h none = absurd cc
    go true true (Some c) None i j e g h some = absurd cc
    go true true (Some c) (Some d) i j e g h some = same false refl
    go true false d f i j e g h is_d = absurd cc
    go false true d f i j e g h is_d = absurd cc
    go false false d f i j e g h is_d = same false refl

-- ---- all of them

keeps_noted : (m t : ℕ) (x : machine.Work) → (machine.ok_noted m t x).id ≡ x.id
keeps_noted m t x = go ((x.id == t) && is_none x.decision)
  where
    go : (b : Bool) → (cond b (record x { oks = m ∷ x.oks }) x).id ≡ x.id
    go true = refl
    go false = refl

keeps_decided : (commit : Bool) (test : machine.Work → Bool) (x : machine.Work) → (machine.decided_as commit test x).id ≡ x.id
keeps_decided commit test x = go (test x)
  where
    go : (b : Bool) → (cond b (record x { decision = Some commit }) x).id ≡ x.id
    go true = refl
    go false = refl

map_map : {A B C : Type 0} (f : B → C) (g : A → B) (xs : List A) → map (λ x. f (g x)) xs ≡ map f (map g xs)
map_map f g [] = refl
map_map f g (x ∷ xs) = ap (λ ys. f (g x) ∷ ys) (map_map f g xs)

agree : (works : List Work) (xs : List machine.Work) (m : ℕ) (id : TxId) → ShowsWorks works xs → IsTypedId id
    → IsShownStep (rules.on_answer works m id true) (machine.learn_ok xs m (number id))
agree works xs m id are typed =
    record {
      shows = subst (λ (ys : List machine.Work). AreShownWorks (map f works) ys) order
          (map_shown f (λ x. decided_as_one (noted x)) (λ w x is. (ok_turns m id typed w x is).shown) works (machine.ascending xs) are);
      posts = λ o h tells. shown o (post_of h_ works (machine.ascending xs) are o h);
    }
  where
    f : Work → Work
    f w = (rules.answered m id true w).now

    h_ : Work → List Outgoing
    h_ w = (rules.answered m id true w).posts

    noted : machine.Work → machine.Work
    noted x = machine.ok_noted m (number id) x

    decided_as_one : machine.Work → machine.Work
    decided_as_one x = machine.decided_as true machine.is_agreed x

    order : map (λ x. decided_as_one (noted x)) (machine.ascending xs) ≡ machine.ascending (map decided_as_one (map noted xs))
    order =
        ascending_map (λ x. decided_as_one (noted x)) (λ x. keeps_decided true machine.is_agreed (noted x) ∙ keeps_noted m (number id) x) xs
        ∙ ap machine.ascending (map_map decided_as_one noted xs)

    shown : (o : Outgoing) → IsPostOf h_ (machine.ascending xs) o
        → (p : Message) × In p (map (λ (x : machine.Work). DecideCommit x.id) (filter machine.is_agreed (map noted xs))) × (shown_post o.message ≡ Some p)
    shown o it =
        let turns = (ok_turns m id typed it.work it.shown it.is).posts o it.posted in (
          DecideCommit (noted it.shown).id,
          in_map (λ (x : machine.Work). DecideCommit x.id) (noted it.shown) (filter machine.is_agreed (map noted xs))
              (in_filter machine.is_agreed (noted it.shown) (map noted xs) turns.0 (in_map noted it.shown xs (in_ascending it.shown xs it.among))),
          turns.1,
        )

deny : (works : List Work) (xs : List machine.Work) (m : ℕ) (id : TxId) → ShowsWorks works xs → IsTypedId id
    → IsShownStep (rules.on_answer works m id false) (machine.learn_abort xs m (number id))
deny works xs m id are typed =
    record {
      shows = subst (λ (ys : List machine.Work). AreShownWorks (map f works) ys) (ascending_map g (λ x. keeps_decided false (machine.is_denied m (number id)) x) xs)
          (map_shown f g (λ w x is. (abort_turns m id typed w x is).shown) works (machine.ascending xs) are);
      posts = λ o h tells. shown o (post_of h_ works (machine.ascending xs) are o h);
    }
  where
    f : Work → Work
    f w = (rules.answered m id false w).now

    h_ : Work → List Outgoing
    h_ w = (rules.answered m id false w).posts

    denied : machine.Work → Bool
    denied x = machine.is_denied m (number id) x

    g : machine.Work → machine.Work
    g x = machine.decided_as false (machine.is_denied m (number id)) x

    shown : (o : Outgoing) → IsPostOf h_ (machine.ascending xs) o
        → (p : Message) × In p (map (λ (x : machine.Work). DecideAbort x.id) (filter denied xs)) × (shown_post o.message ≡ Some p)
    shown o it =
        let turns = (abort_turns m id typed it.work it.shown it.is).posts o it.posted in (
          DecideAbort it.shown.id,
          in_map (λ (x : machine.Work). DecideAbort x.id) it.shown (filter denied xs) (in_filter denied it.shown xs turns.0 (in_ascending it.shown xs it.among)),
          turns.1,
        )

pub answers_are_the_managers : AnswersAreTheManagers
answers_are_the_managers works xs m id are typed = (agree works xs m id are typed, deny works xs m id are typed)
