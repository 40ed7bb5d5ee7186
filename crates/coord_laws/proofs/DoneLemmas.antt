-- `done` is noted, and decisions are posted again, alike.
use Rattle.std.proofs.Common.{◌≡◌, ℕ, ◌==◌, ◌||◌, Bool, true, false, not, cond, List, [], ◌∷◌, map, filter, length, Option, Some, None, inl, inr, refl, sym, ap, subst, ◌∙◌}
use Rattle.std.specs.List.{flat_map}
use Rattle.mini_tx.specs.declared.tx_id.TxId.{TxId}
use Rattle.mini_tx.specs.Laws.{IsTypedId}
use Rattle.mini_tx.specs.Order.{is_same}
use Rattle.tx_coord.specs.declared.finishing.Finishing.{Finishing}
use Rattle.tx_coord.specs.declared.outgoing.Outgoing.{Outgoing}
use Rattle.tx_coord.specs.State.{Phase, Free, Runs, Ended}
use Rattle.tx_coord.specs.Rules as rules
use Rattle.tx_rules.specs.Lists.{is_in, all_in}
use Rattle.tx_rules.specs.Mini.{Setting, nodes_of}
use Rattle.tx_rules.specs.World.{Message, Prepare, Forgotten}
use Rattle.tx_rules.proofs.FaithfulLemmas.{in_front, in_back, in_either}
use Rattle.tx_actors.specs.Coordinator as machine
use Rattle.mem_laws.specs.Cells.{number}
use Rattle.mem_laws.proofs.CellLemmas.{sameness_is}
use Rattle.coord_laws.specs.Shown.{ShowsPhase, IsShownFinishing, AreShownFinishing, AreShownPosts}
use Rattle.coord_laws.specs.Laws.{DoneIsTheMachines, ResendsAreTheMachines}
use Rattle.coord_laws.proofs.ListLemmas.{none_missing}
use Rattle.coord_laws.proofs.ShownLemmas.{all_show}

-- ---- done

-- one more that does not wait
less : (m : ℕ) (done ps : List ℕ) → filter (λ n. not (n == m)) (filter (λ n. not (is_in n done)) ps) ≡ filter (λ n. not (is_in n (m ∷ done))) ps
less m done [] = refl
less m done (p ∷ ps) = go (is_in p done) (p == m) refl refl (less m done ps)
  where
    go : (a b : Bool) → is_in p done ≡ a → (p == m) ≡ b
        → filter (λ n. not (n == m)) (filter (λ n. not (is_in n done)) ps) ≡ filter (λ n. not (is_in n (m ∷ done))) ps
        → filter (λ n. not (n == m)) (cond (not a) (p ∷ filter (λ n. not (is_in n done)) ps) (filter (λ n. not (is_in n done)) ps))
        ≡ cond (not (b || a)) (p ∷ filter (λ n. not (is_in n (m ∷ done))) ps) (filter (λ n. not (is_in n (m ∷ done))) ps)
    go true true here this rest = rest
    go true false here this rest = rest
    go false true here this rest =
        ap (λ b. cond (not b) (p ∷ filter (λ n. not (n == m)) (filter (λ n. not (is_in n done)) ps)) (filter (λ n. not (n == m)) (filter (λ n. not (is_in n done)) ps))) this ∙ rest
    go false false here this rest =
        ap (λ b. cond (not b) (p ∷ filter (λ n. not (n == m)) (filter (λ n. not (is_in n done)) ps)) (filter (λ n. not (n == m)) (filter (λ n. not (is_in n done)) ps))) this
        ∙ ap (λ (xs : List ℕ). p ∷ xs) rest

noted_shown : (s : Setting) (m : ℕ) (id : TxId) → IsTypedId id → (f : Finishing) (x : machine.Finishing) → IsShownFinishing s f x
    → IsShownFinishing s (rules.noted m id f) (machine.noted m (number id) x)
noted_shown s m id typed f x is = go (x.id == number id) (sym (sym (sameness_is f.id id is.known.typed typed) ∙ ap (λ n. n == number id) (sym is.id)))
  where
    noted_f : Bool → Finishing
    noted_f b = cond b (record f { waits = filter (λ n. not (n == m)) f.waits }) f

    go : (b : Bool) → b ≡ is_same f.id id → IsShownFinishing s (rules.noted m id f) (cond b (record x { done = m ∷ x.done }) x)
    go true same = subst (λ (b : Bool). IsShownFinishing s (noted_f b) (record x { done = m ∷ x.done })) same (record {
      known = is.known;
      id = is.id;
      commits = is.commits;
      waits = ap (λ (ns : List ℕ). filter (λ n. not (n == m)) ns) is.waits ∙ less m x.done f.participants;
    })
    go false same = subst (λ (b : Bool). IsShownFinishing s (noted_f b) x) same is

all_noted : (s : Setting) (m : ℕ) (id : TxId) → IsTypedId id → (fs : List Finishing) (xs : List machine.Finishing) → AreShownFinishing s fs xs
    → AreShownFinishing s (map (rules.noted m id) fs) (map (machine.noted m (number id)) xs)
all_noted s m id typed [] [] are = tt
all_noted s m id typed [] (x ∷ xs) are = absurd are
all_noted s m id typed (f ∷ fs) [] are = absurd are
all_noted s m id typed (f ∷ fs) (x ∷ xs) are = (noted_shown s m id typed f x are.0, all_noted s m id typed fs xs are.1)

through_is : (s : Setting) (f : Finishing) (x : machine.Finishing) → IsShownFinishing s f x → machine.is_done s x ≡ rules.is_through f
through_is s f x is =
    ap (λ t. all_in (nodes_of s t) x.done) is.id ∙ ap (λ ps. all_in ps x.done) is.known.nodes
    ∙ none_missing (λ n. is_in n x.done) x.done (λ n. refl) f.participants
    ∙ ap (λ (ns : List ℕ). length ns == 0) (sym is.waits)

left_shown : (s : Setting) (fs : List Finishing) (xs : List machine.Finishing) → AreShownFinishing s fs xs
    → AreShownFinishing s (filter (λ f. not (rules.is_through f)) fs) (filter (λ x. not (machine.is_done s x)) xs)
left_shown s [] [] are = tt
left_shown s [] (x ∷ xs) are = absurd are
left_shown s (f ∷ fs) [] are = absurd are
left_shown s (f ∷ fs) (x ∷ xs) are = go (machine.is_done s x) (through_is s f x are.0) (left_shown s fs xs are.1)
  where
    rest_f : List Finishing
    rest_f = filter (λ g. not (rules.is_through g)) fs

    rest_x : List machine.Finishing
    rest_x = filter (λ y. not (machine.is_done s y)) xs

    go : (b : Bool) → b ≡ rules.is_through f → AreShownFinishing s rest_f rest_x
        → AreShownFinishing s (filter (λ g. not (rules.is_through g)) (f ∷ fs)) (cond (not b) (x ∷ rest_x) rest_x)
    go true is rest = subst (λ (b : Bool). AreShownFinishing s (cond (not b) (f ∷ rest_f) rest_f) rest_x) is rest
    go false is rest = subst (λ (b : Bool). AreShownFinishing s (cond (not b) (f ∷ rest_f) rest_f) (x ∷ rest_x)) is (are.0, rest)

forgets_show : (s : Setting) (fs : List Finishing) (xs : List machine.Finishing) → AreShownFinishing s fs xs
    → AreShownPosts (flat_map rules.forget (filter rules.is_through fs)) (map (λ (x : machine.Finishing). Forgotten x.id) (filter (machine.is_done s) xs))
forgets_show s [] [] are o h = absurd h
forgets_show s [] (x ∷ xs) are o h = absurd are
forgets_show s (f ∷ fs) [] are o h = absurd are
forgets_show s (f ∷ fs) (x ∷ xs) are o h = go (machine.is_done s x) (through_is s f x are.0) (λ p k. forgets_show s fs xs are.1 p k) o h
  where
    rest_f : List Finishing
    rest_f = filter rules.is_through fs

    rest_x : List machine.Finishing
    rest_x = filter (machine.is_done s) xs

    named : List machine.Finishing → List Message
    named ys = map (λ (y : machine.Finishing). Forgotten y.id) ys

    go : (b : Bool) → b ≡ rules.is_through f → AreShownPosts (flat_map rules.forget rest_f) (named rest_x)
        → AreShownPosts (flat_map rules.forget (filter rules.is_through (f ∷ fs))) (named (cond b (x ∷ rest_x) rest_x))
    go true is rest = subst (λ (b : Bool). AreShownPosts (flat_map rules.forget (cond b (f ∷ rest_f) rest_f)) (named (x ∷ rest_x))) is (λ (o : Outgoing) h.
        elim (in_either o (rules.forget f) (flat_map rules.forget rest_f) h) [
          | inl here ↦ (Forgotten x.id, inl refl, all_show (rules.forget_at f.id) (Forgotten (number f.id)) (λ m. refl) f.participants o here ∙ ap (λ t. Some (Forgotten t)) (sym are.0.id))
          | inr later ↦ let it = rest o later in (it.0, inr it.1, it.2)
        ])
    go false is rest = subst (λ (b : Bool). AreShownPosts (flat_map rules.forget (cond b (f ∷ rest_f) rest_f)) (named rest_x)) is rest

pub done_is_the_machines : DoneIsTheMachines
done_is_the_machines s c x m id shows typed =
    let noted = all_noted s m id typed c.finishing x.finishing shows.finishing in
    record {
      shows = record {
        next = shows.next;
        phase = shows.phase;
        finishing = left_shown s (map (rules.noted m id) c.finishing) (map (machine.noted m (number id)) x.finishing) noted;
      };
      posts = forgets_show s (map (rules.noted m id) c.finishing) (map (machine.noted m (number id)) x.finishing) noted;
    }

-- ---- resend

prepares_show : (s : Setting) (p : Phase) (o : Option machine.Running) → ShowsPhase s p o → AreShownPosts (rules.prepares p) (machine.prepares o)
prepares_show s Free None is o h = absurd h
prepares_show s Free (Some x) is o h = absurd h
prepares_show s (Runs r) None is o h = absurd is
prepares_show s (Runs r) (Some x) is o h =
    (Prepare x.id, inl refl, all_show (rules.prepare r.id r.mini) (Prepare (number r.id)) (λ m. refl) (rules.missing r) o h ∙ ap (λ t. Some (Prepare t)) (sym is.id))
prepares_show s (Ended e) None is o h = absurd h
prepares_show s (Ended e) (Some x) is o h = absurd h

decides_show : (s : Setting) (fs : List Finishing) (xs : List machine.Finishing) → AreShownFinishing s fs xs
    → AreShownPosts (flat_map rules.decides fs) (map (λ (x : machine.Finishing). machine.decide x.commits x.id) xs)
decides_show s [] [] are o h = absurd h
decides_show s [] (x ∷ xs) are o h = absurd are
decides_show s (f ∷ fs) [] are o h = absurd are
decides_show s (f ∷ fs) (x ∷ xs) are o h = elim (in_either o (rules.decides f) (flat_map rules.decides fs) h) [
  | inl here ↦ (
    machine.decide x.commits x.id,
    inl refl,
    all_show (rules.decide f.id f.commit) (machine.decide f.commit (number f.id)) (λ m. refl) f.waits o here
        ∙ ap (λ b. Some (machine.decide b (number f.id))) (sym are.0.commits) ∙ ap (λ t. Some (machine.decide x.commits t)) (sym are.0.id),
  )
  | inr later ↦ let it = decides_show s fs xs are.1 o later in (it.0, inr it.1, it.2)
]

pub resends_are_the_machines : ResendsAreTheMachines
resends_are_the_machines s c x shows o h = elim (in_either o (rules.prepares c.phase) (flat_map rules.decides c.finishing) h) [
  | inl first ↦
      let it = prepares_show s c.phase x.running shows.phase o first in
      (it.0, in_front it.0 (machine.prepares x.running) (map (λ (f : machine.Finishing). machine.decide f.commits f.id) x.finishing) it.1, it.2)
  | inr later ↦
      let it = decides_show s c.finishing x.finishing shows.finishing o later in
      (it.0, in_back it.0 (machine.prepares x.running) (map (λ (f : machine.Finishing). machine.decide f.commits f.id) x.finishing) it.1, it.2)
]
