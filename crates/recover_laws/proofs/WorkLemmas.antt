-- What is at work, in both vocabularies.
use Rattle.std.proofs.Common.{◌≡◌, ℕ, suc, ◌==◌, ◌&&◌, ◌||◌, nat_lt, Bool, true, false, not, cond, List, [], ◌∷◌, map, filter, length, Option, Some, None, is_none, inl, inr, refl, sym, ap, ◌∙◌, arith}
use Rattle.std.specs.List.{flat_map}
use Rattle.std.proofs.lemmas.Bool.{eqb-true, eqb-false, eq-eqb, ne_eqb}
use Rattle.mini_tx.specs.declared.tx_id.TxId.{TxId}
use Rattle.mini_tx.specs.Laws.{IsTypedId}
use Rattle.mini_tx.specs.Order.{is_same, precedes}
use Rattle.tx_coord.specs.declared.outgoing.Outgoing.{Outgoing}
use Rattle.tx_recover.specs.declared.notice.Notice.{Notice}
use Rattle.tx_recover.specs.declared.work.Work.{Work}
use Rattle.tx_recover.specs.Rules as rules
use Rattle.tx_rules.specs.Lists.{is_in, all_in}
use Rattle.tx_rules.specs.Mini.{In}
use Rattle.tx_rules.proofs.FaithfulLemmas.{in_either}
use Rattle.tx_actors.specs.Manager as machine
use Rattle.mem_laws.specs.Cells.{number}
use Rattle.mem_laws.proofs.CellLemmas.{order_is, sameness_is}
use Rattle.recover_laws.specs.Shown.{IsShownWork, AreShownWorks, heard_in, shown_post}
use Rattle.recover_laws.proofs.OrderLemmas.{number_of}

pub swapped : (n m : ℕ) → (n == m) ≡ (m == n)
swapped n m = go (m == n) refl
  where
    go : (b : Bool) → (m == n) ≡ b → (n == m) ≡ b
    go true is = eq-eqb n m (sym (eqb-true m n is))
    go false is = ne_eqb n m (λ e. eqb-false m n is (sym e))

pub named_is : (w : Work) (x : machine.Work) (id : TxId) → IsTypedId id → IsShownWork w x → is_same w.id id ≡ (x.id == number id)
named_is w x id typed is = sym (sameness_is w.id id is.typed typed) ∙ ap (λ n. n == number id) (sym is.id)

pub same_length : (works : List Work) (xs : List machine.Work) → AreShownWorks works xs → length works ≡ length xs
same_length [] [] are = refl
same_length [] (x ∷ xs) are = absurd are
same_length (w ∷ works) [] are = absurd are
same_length (w ∷ works) (x ∷ xs) are = ap suc (same_length works xs are.1)

pub at_work_is : (id : TxId) → IsTypedId id → (works : List Work) (xs : List machine.Work) → AreShownWorks works xs
    → rules.is_at_work id works ≡ is_in (number id) (map number_of xs)
at_work_is id typed [] [] are = refl
at_work_is id typed [] (x ∷ xs) are = absurd are
at_work_is id typed (w ∷ works) [] are = absurd are
at_work_is id typed (w ∷ works) (x ∷ xs) are =
    ap (λ b. b || rules.is_at_work id works) (named_is w x id typed are.0 ∙ swapped x.id (number id))
    ∙ ap (λ b. (number id == x.id) || b) (at_work_is id typed works xs are.1)

pub placed_shown : (w : Work) (x : machine.Work) → IsShownWork w x → (works : List Work) (xs : List machine.Work) → AreShownWorks works xs
    → AreShownWorks (rules.placed_in w works) (machine.placed_in x xs)
placed_shown w x is [] [] are = (is, tt)
placed_shown w x is [] (y ∷ xs) are = absurd are
placed_shown w x is (o ∷ works) [] are = absurd are
placed_shown w x is (o ∷ works) (y ∷ xs) are = go (precedes o.id w.id) (nat_lt y.id x.id) same (placed_shown w x is works xs are.1)
  where
    same : precedes o.id w.id ≡ nat_lt y.id x.id
    same = sym (order_is o.id w.id are.0.typed is.typed) ∙ ap (λ n. nat_lt n (number w.id)) (sym are.0.id) ∙ ap (nat_lt y.id) (sym is.id)

    go : (a b : Bool) → a ≡ b → AreShownWorks (rules.placed_in w works) (machine.placed_in x xs)
        → AreShownWorks (cond a (o ∷ rules.placed_in w works) (w ∷ o ∷ works)) (cond b (y ∷ machine.placed_in x xs) (x ∷ y ∷ xs))
    go true true e rest = (are.0, rest)
    go true false e rest = absurd cc
    go false true e rest = absurd cc
    go false false e rest = (is, are)

pub map_shown : (f : Work → Work) (g : machine.Work → machine.Work) → ((w : Work) (x : machine.Work) → IsShownWork w x → IsShownWork (f w) (g x))
    → (works : List Work) (xs : List machine.Work) → AreShownWorks works xs → AreShownWorks (map f works) (map g xs)
map_shown f g each [] [] are = tt
map_shown f g each [] (x ∷ xs) are = absurd are
map_shown f g each (w ∷ works) [] are = absurd are
map_shown f g each (w ∷ works) (x ∷ xs) are = (each w x are.0, map_shown f g each works xs are.1)

pub filter_shown : (p : Work → Bool) (q : machine.Work → Bool) → ((w : Work) (x : machine.Work) → IsShownWork w x → p w ≡ q x)
    → (works : List Work) (xs : List machine.Work) → AreShownWorks works xs → AreShownWorks (filter p works) (filter q xs)
filter_shown p q each [] [] are = tt
filter_shown p q each [] (x ∷ xs) are = absurd are
filter_shown p q each (w ∷ works) [] are = absurd are
filter_shown p q each (w ∷ works) (x ∷ xs) are = go (p w) (q x) (each w x are.0) (filter_shown p q each works xs are.1)
  where
    go : (a b : Bool) → a ≡ b → AreShownWorks (filter p works) (filter q xs)
        → AreShownWorks (cond a (w ∷ filter p works) (filter p works)) (cond b (x ∷ filter q xs) (filter q xs))
    go true true e rest = (are.0, rest)
    go true false e rest = absurd cc
    go false true e rest = absurd cc
    go false false e rest = rest

-- ---- messages

-- what one of them posts
pub record IsPostOf (h : Work → List Outgoing) (xs : List machine.Work) (o : Outgoing) : Type 0 where
  pub work : Work
  pub shown : machine.Work
  pub among : In shown xs
  pub is : IsShownWork work shown
  pub posted : In o (h work)

pub post_of : (h : Work → List Outgoing) (works : List Work) (xs : List machine.Work) → AreShownWorks works xs → (o : Outgoing) → In o (flat_map h works) → IsPostOf h xs o
post_of h [] [] are o here = absurd here
post_of h [] (x ∷ xs) are o here = absurd are
post_of h (w ∷ works) [] are o here = absurd are
post_of h (w ∷ works) (x ∷ xs) are o here = elim (in_either o (h w) (flat_map h works) here) [
  | inl first ↦ record { work = w; shown = x; among = inl refl; is = are.0; posted = first }
  | inr later ↦
      let it = post_of h works xs are.1 o later in
      record { work = it.work; shown = it.shown; among = inr it.among; is = it.is; posted = it.posted }
]

pub told_shows : (n : Notice) (ms : List ℕ) (o : Outgoing) → In o (map (rules.told n) ms) → shown_post o.message ≡ shown_post (rules.message_of n)
told_shows n [] o h = absurd h
told_shows n (m ∷ ms) o h = elim h [ inl e ↦ ap (λ (x : Outgoing). shown_post x.message) e | inr later ↦ told_shows n ms o later ]

-- ---- those that are waited for

pub all_wait : (ps : List ℕ) → ps ≡ filter (λ m. not (is_in m [])) ps
all_wait [] = refl
all_wait (p ∷ ps) = ap (λ (xs : List ℕ). p ∷ xs) (all_wait ps)

-- one more that was heard
pub less : (m : ℕ) (heard ps : List ℕ) → rules.without m (filter (λ n. not (is_in n heard)) ps) ≡ filter (λ n. not (is_in n (m ∷ heard))) ps
less m heard [] = refl
less m heard (p ∷ ps) = go (is_in p heard) (p == m) refl refl (less m heard ps)
  where
    go : (a b : Bool) → is_in p heard ≡ a → (p == m) ≡ b
        → rules.without m (filter (λ n. not (is_in n heard)) ps) ≡ filter (λ n. not (is_in n (m ∷ heard))) ps
        → rules.without m (cond (not a) (p ∷ filter (λ n. not (is_in n heard)) ps) (filter (λ n. not (is_in n heard)) ps))
        ≡ cond (not (b || a)) (p ∷ filter (λ n. not (is_in n (m ∷ heard))) ps) (filter (λ n. not (is_in n (m ∷ heard))) ps)
    go true true here this rest = rest
    go true false here this rest = rest
    go false true here this rest =
        ap (λ b. cond (not b) (p ∷ rules.without m (filter (λ n. not (is_in n heard)) ps)) (rules.without m (filter (λ n. not (is_in n heard)) ps))) this ∙ rest
    go false false here this rest =
        ap (λ b. cond (not b) (p ∷ rules.without m (filter (λ n. not (is_in n heard)) ps)) (rules.without m (filter (λ n. not (is_in n heard)) ps))) this
        ∙ ap (λ (xs : List ℕ). p ∷ xs) rest

-- all were heard exactly where none is waited for
pub none_missing : (heard ps : List ℕ) → all_in ps heard ≡ (length (filter (λ n. not (is_in n heard)) ps) == 0)
none_missing heard [] = refl
none_missing heard (p ∷ ps) = go (is_in p heard) (none_missing heard ps)
  where
    go : (b : Bool) → all_in ps heard ≡ (length (filter (λ n. not (is_in n heard)) ps) == 0)
        → (b && all_in ps heard) ≡ (length (cond (not b) (p ∷ filter (λ n. not (is_in n heard)) ps) (filter (λ n. not (is_in n heard)) ps)) == 0)
    go true rest = rest
    go false rest = sym (ne_eqb (suc (length (filter (λ n. not (is_in n heard)) ps))) 0 (λ e. omega (arith, e)))

pub member_is : (m : ℕ) (ms : List ℕ) → is_in m ms ≡ rules.is_among m ms
member_is m [] = refl
member_is m (n ∷ ms) = ap (λ b. b || is_in m ms) (swapped m n) ∙ ap (λ b. (n == m) || b) (member_is m ms)

-- nothing is agreed that is not decided yet
pub not_agreed : (w : Work) (x : machine.Work) → IsShownWork w x → machine.is_agreed x ≡ false
not_agreed w x is = go w.decision refl
  where
    go : (d : Option Bool) → w.decision ≡ d → machine.is_agreed x ≡ false
    go (Some c) e = ap (λ o. is_none o && all_in x.nodes x.oks) (is.decision ∙ e)
    go None e =
        ap (λ o. is_none o && all_in x.nodes x.oks) (is.decision ∙ e)
        ∙ ap (λ ps. all_in ps x.oks) is.nodes ∙ none_missing x.oks w.participants
        ∙ ap (λ (ms : List ℕ). length ms == 0) (sym (is.waits ∙ ap (λ o. filter (λ m. not (is_in m (heard_in x o))) w.participants) e))
        ∙ is.missing e
