-- The same is taken up.
use Rattle.std.proofs.Common.{◌≡◌, ℕ, suc, arith, ◌==◌, ◌&&◌, nat_lt, Bool, true, false, not, cond, List, [], ◌∷◌, ◌++◌, map, length, Option, Some, None, inl, inr, ◌⊎◌, refl, sym, ap, subst, ◌∙◌}
use Rattle.std.proofs.lemmas.Bool.{ne_eqb}
use Rattle.mini_tx.specs.declared.cut_id.CutId.{CutId}
use Rattle.mini_tx.specs.declared.kept_id.KeptId.{KeptId}
use Rattle.mini_tx.specs.declared.message.Message.TheVariants as sent
use Rattle.mini_tx.specs.declared.tx_id.TxId.{TxId}
use Rattle.mini_tx.specs.Laws.{IsTypedId}
use Rattle.tx_coord.specs.declared.outgoing.Outgoing.{Outgoing}
use Rattle.tx_recover.specs.declared.notice.Notice.TheVariants as notice
use Rattle.tx_recover.specs.declared.work.Work.{Work}
use Rattle.tx_recover.specs.Rules as rules
use Rattle.tx_rules.specs.Lists.{is_in}
use Rattle.tx_rules.specs.Mini.{In}
use Rattle.tx_rules.specs.World.{Message, Ask}
use Rattle.tx_rules.proofs.FaithfulLemmas.{in_either}
use Rattle.tx_actors.specs.Manager as machine
use Rattle.mem_laws.specs.Cells.{number}
use Rattle.mem_laws.specs.Cuts.{shown_kept}
use Rattle.recover_laws.specs.Shown.{IsShownWork, AreShownWorks, ShowsWorks, is_drop, shown_post}
use Rattle.recover_laws.specs.Laws.{IsNamed, KeptIsTheManagers}
use Rattle.recover_laws.proofs.OrderLemmas.{number_of, ascending_more, is_in_ascending, length_ascending}
use Rattle.recover_laws.proofs.WorkLemmas.{same_length, at_work_is, placed_shown, told_shows, all_wait}

begun_shown : (k : KeptId) → IsNamed k → IsShownWork (rules.taken_up k) (machine.begun_work (shown_kept k))
begun_shown k named =
    record {
      typed = named.0;
      id = refl;
      nodes = refl;
      decision = refl;
      waits = all_wait k.participants;
      missing = λ none. some k.participants named.1;
      early = λ none. refl;
    }
  where
    some : (ps : List ℕ) → (ps ≡ [] → ⊥) → (length ps == 0) ≡ false
    some [] not_ = absurd (not_ refl)
    some (p ∷ ps) not_ = ne_eqb (suc (length ps)) 0 (λ e. omega (arith, e))

takes_is : (works : List Work) (xs : List machine.Work) (id : TxId) → ShowsWorks works xs → IsTypedId id → rules.takes_up works id ≡ machine.takes_up xs (number id)
takes_is works xs id are typed =
    ap (λ b. not b && nat_lt (length works) 64) (at_work_is id typed works (machine.ascending xs) are ∙ is_in_ascending (number id) xs)
    ∙ ap (λ n. not (is_in (number id) (map number_of xs)) && nat_lt n 64) (same_length works (machine.ascending xs) are ∙ length_ascending xs)

-- what was posted before, or what shows
abbrev pub IsOld : List Outgoing → List Message → Outgoing → Type 0
IsOld old posts o = In o old ⊎ ((p : Message) × In p posts × (shown_post o.message ≡ Some p))

record Takes (s step : rules.Step) (deed : machine.Deed) : Type 0 where
  shows : ShowsWorks step.now deed.now
  posts : (o : Outgoing) → In o step.posts → IsOld s.posts deed.posts o

not_false : (a b : Bool) → (not a && b) ≡ true → a ≡ false
not_false true b h = let e : false ≡ true = h in absurd cc
not_false false b h = refl

take_all : (s : rules.Step) (xs : List machine.Work) (ids : List KeptId) → ShowsWorks s.now xs → ((k : KeptId) → In k ids → IsNamed k)
    → Takes s (rules.with_all s ids) (machine.learn_kept xs (map shown_kept ids))
take_all s xs [] are named = record { shows = are; posts = λ o h. inl h }
take_all s xs (k ∷ ids) are named =
    go (rules.takes_up s.now k.id) (machine.takes_up xs (number k.id)) (takes_is s.now xs k.id are (named k (inl refl)).0) refl
    (λ t ys shows. take_all t ys ids shows (λ l h. named l (inr h)))
  where
    own : machine.Work
    own = machine.begun_work (shown_kept k)

    taken : rules.Step
    taken = record { now = rules.placed_in (rules.taken_up k) s.now; posts = s.posts ++ map (rules.told (notice.Ask k.id)) k.participants }

    more : machine.Deed
    more = machine.learn_kept (xs ++ own ∷ []) (map shown_kept ids)

    Rest : Type 0
    Rest = (t : rules.Step) (ys : List machine.Work) → ShowsWorks t.now ys → Takes t (rules.with_all t ids) (machine.learn_kept ys (map shown_kept ids))

    go : (a b : Bool) → a ≡ b → machine.takes_up xs (number k.id) ≡ b → Rest
        → Takes s (rules.with_all (cond a taken s) ids) (cond b (record { now = more.now; posts = Ask (number k.id) ∷ more.posts }) (machine.learn_kept xs (map shown_kept ids)))
    go true false e takes rest = absurd cc
    go false true e takes rest = absurd cc
    go false false e takes rest = rest s xs are
    go true true e takes rest =
        let none = not_false (is_in (number k.id) (map number_of xs)) (nat_lt (length xs) 64) takes in
        let placed = placed_shown (rules.taken_up k) own (begun_shown k (named k (inl refl))) s.now (machine.ascending xs) are in
        let it = rest taken (xs ++ own ∷ []) (subst (λ (ys : List machine.Work). AreShownWorks taken.now ys) (sym (ascending_more own xs none)) placed) in
        record { shows = it.shows; posts = λ o h. sorted o (it.posts o h) }
      where
        sorted : (o : Outgoing) → IsOld taken.posts more.posts o → IsOld s.posts (Ask (number k.id) ∷ more.posts) o
        sorted o (inr shown) = inr (shown.0, inr shown.1, shown.2)
        sorted o (inl old) = elim (in_either o s.posts (map (rules.told (notice.Ask k.id)) k.participants) old) [
          | inl before ↦ inl before
          | inr asked ↦ inr (Ask (number k.id), inl refl, told_shows (notice.Ask k.id) k.participants o asked)
        ]

only_drops : (m : ℕ) (cut running : Option CutId) (o : Outgoing) → In o (rules.drops m cut running) → is_drop o.message ≡ true
only_drops m None running o h = absurd h
only_drops m (Some cut) running o h = go (rules.is_running cut running) h
  where
    go : (b : Bool) → In o (cond b [] (record { memory = m; message = sent.Drop cut } ∷ [])) → is_drop o.message ≡ true
    go true h = absurd h
    go false h = elim h [ inl e ↦ ap (λ (x : Outgoing). is_drop x.message) e | inr none ↦ absurd none ]

pub kept_is_the_managers : KeptIsTheManagers
kept_is_the_managers works xs m ids cut running are named =
    let it = take_all (rules.quiet works) xs ids are named in
    record {
      shows = it.shows;
      posts = λ o h tells. elim (in_either o (rules.with_all (rules.quiet works) ids).posts (rules.drops m cut running) h) [
        | inl asked ↦ (elim (it.posts o asked) [ inl none ↦ absurd none | inr shown ↦ shown ])
        | inr dropped ↦ (let e : true ≡ false = sym (only_drops m cut running o dropped) ∙ tells in absurd cc)
      ];
    }
