-- The laws of cuts and openings.
use Rattle.std.proofs.Common.{◌≡◌, ℕ, List, [], ◌∷◌, ◌++◌, ◌⊎◌, inl, inr, refl, ap, ◌∙◌, subst, append_assoc}
use Rattle.tx_rules.specs.Mini.{In, Setting, IsLive}
use Rattle.tx_rules.specs.Decision.{Held, At, Record, Grant, Refuse, Commit, Abort, Forget, named_in, IsPassed, IsRefused}
use Rattle.tx_rules.specs.World.{Refused, World, opened, Stands, Event, Refuses, Posts, after, after_all}
use Rattle.tx_rules.specs.Opening.{IsPending}
use Rattle.tx_rules.proofs.FaithfulLemmas.{point_committed}
use Rattle.tx_rules.proofs.FaithfulLemmas.{live_found, known_begun}
use Rattle.tx_rules.proofs.LawLemmas.{posted_by, refused_by}
use Rattle.tx_rules.proofs.SoundLemmas.{always_sound}
use Rattle.tx_cuts.specs.Cut.{Cuts, CutEvent, MayCut, IsCutRun, opened_cuts, after_cuts, Does, Holds, Raises, Releases, Loses, Makes, Sends, after_cut}
use Rattle.tx_cuts.specs.Laws.{WasHeld, HeldVotesWereHeld, CutRunsAreRuns, CopiesAreFlat, CutPromisesAreKept, CutsAreMadeOnce, HoldsAreStill, next_setting, OpensAgain}
use Rattle.tx_cuts.proofs.CutLemmas.{cut_sound_all, cut_sound_opening}

-- ---- cuts

pub cut_runs_are_runs : CutRunsAreRuns
cut_runs_are_runs s ms k [] run = (tt, refl)
cut_runs_are_runs s ms k (Does e ∷ events) run = let rest = cut_runs_are_runs s ms (after_cut s k (Does e)) events run.1 in ((run.0.0, rest.0), rest.1)
cut_runs_are_runs s ms k (Holds m c ∷ events) run = cut_runs_are_runs s ms (after_cut s k (Holds m c)) events run.1
cut_runs_are_runs s ms k (Raises m c ∷ events) run = cut_runs_are_runs s ms (after_cut s k (Raises m c)) events run.1
cut_runs_are_runs s ms k (Releases m copy ∷ events) run = cut_runs_are_runs s ms (after_cut s k (Releases m copy)) events run.1
cut_runs_are_runs s ms k (Loses m ∷ events) run = cut_runs_are_runs s ms (after_cut s k (Loses m)) events run.1
cut_runs_are_runs s ms k (Makes c ∷ events) run = cut_runs_are_runs s ms (after_cut s k (Makes c)) events run.1
cut_runs_are_runs s ms k (Sends p ∷ events) run = cut_runs_are_runs s ms (after_cut s k (Sends p)) events run.1

pub copies_are_flat : CopiesAreFlat
copies_are_flat s ms log image floors o events run m copy points is made =
    let h = cut_sound_all s ms (opened_cuts s log image floors) events run (cut_sound_opening s ms log image floors o) in
    (h.copies m copy is).flat_at points made

pub cut_promises_are_kept : CutPromisesAreKept
cut_promises_are_kept s ms log image floors o events run =
    (cut_sound_all s ms (opened_cuts s log image floors) events run (cut_sound_opening s ms log image floors o)).promises

pub cuts_are_made_once : CutsAreMadeOnce
cuts_are_made_once s ms log image floors o events run c p q made =
    let h = cut_sound_all s ms (opened_cuts s log image floors) events run (cut_sound_opening s ms log image floors o) in
    (h.points c p made, h.once c p q made)

pub holds_are_still : HoldsAreStill
holds_are_still s ms log image floors o events run m copy is held =
    let h = cut_sound_all s ms (opened_cuts s log image floors) events run (cut_sound_opening s ms log image floors o) in
    ((h.copies m copy is).closed held, (h.copies m copy is).same held)

-- ---- votes that are Held

-- the first events of a run with cuts are one, and the next one may happen there
cut_first : (s : Setting) (ms : List ℕ) (k : Cuts) (first : List CutEvent) (e : CutEvent) (rest : List CutEvent) → IsCutRun s ms k (first ++ e ∷ rest)
    → IsCutRun s ms k first × MayCut s ms (after_cuts s k first) e
cut_first s ms k [] e rest run = (tt, run.0)
cut_first s ms k (x ∷ first) e rest run = let it = cut_first s ms (after_cut s k x) first e rest run.1 in ((run.0, it.0), it.1)

-- where a part of what the world has is new after events, one of them added it
abbrev Added : List CutEvent → Event → Type 0
Added events e = (first : List CutEvent) × (rest : List CutEvent) × (events ≡ first ++ Does e ∷ rest)

added_later : (x : CutEvent) (events : List CutEvent) (e : Event) → Added events e → Added (x ∷ events) e
added_later x events e it = (x ∷ it.0, it.1, ap (λ (ys : List CutEvent). x ∷ ys) it.2)

module _ (s : Setting) (has : World → Type 0) (e : Event) (by : (w : World) (x : Event) → has (after s w x) → has w ⊎ (x ≡ e)) where
  added_when : (k : Cuts) (events : List CutEvent) → has (after_cuts s k events).world → has k.world ⊎ Added events e
  added_when k [] h = inl h
  added_when k (Does x ∷ events) h = elim (added_when (after_cut s k (Does x)) events h) [
    | inl there ↦ elim (by k.world x there) [
      | inl before ↦ inl before
      | inr now ↦ inr ([], events, ap (λ (y : Event). Does y ∷ events) now)
    ]
    | inr it ↦ inr (added_later (Does x) events e it)
  ]
  added_when k (Holds m c ∷ events) h = elim (added_when (after_cut s k (Holds m c)) events h) [ inl there ↦ inl there | inr it ↦ inr (added_later (Holds m c) events e it) ]
  added_when k (Raises m c ∷ events) h = elim (added_when (after_cut s k (Raises m c)) events h) [ inl there ↦ inl there | inr it ↦ inr (added_later (Raises m c) events e it) ]
  added_when k (Releases m copy ∷ events) h =
      elim (added_when (after_cut s k (Releases m copy)) events h) [ inl there ↦ inl there | inr it ↦ inr (added_later (Releases m copy) events e it) ]
  added_when k (Loses m ∷ events) h = elim (added_when (after_cut s k (Loses m)) events h) [ inl there ↦ inl there | inr it ↦ inr (added_later (Loses m) events e it) ]
  added_when k (Makes c ∷ events) h = elim (added_when (after_cut s k (Makes c)) events h) [ inl there ↦ inl there | inr it ↦ inr (added_later (Makes c) events e it) ]
  added_when k (Sends p ∷ events) h = elim (added_when (after_cut s k (Sends p)) events h) [ inl there ↦ inl there | inr it ↦ inr (added_later (Sends p) events e it) ]

-- the events of a part of a run, in the run
longer : (events first : List CutEvent) (e : CutEvent) (rest more : List CutEvent) (f : CutEvent) (after : List CutEvent)
    → events ≡ first ++ f ∷ after → first ≡ more ++ e ∷ rest → events ≡ more ++ e ∷ (rest ++ f ∷ after)
longer events first e rest more f after split part =
    split ∙ ap (λ (x : List CutEvent). x ++ f ∷ after) part ∙ append_assoc more (e ∷ rest) (f ∷ after)

pub held_votes_were_held : HeldVotesWereHeld
held_votes_were_held s ms log image floors o events run m t cut posted =
    elim (added_when s (λ w. In (Refused m t (Held cut)) w.posted) (Posts (Refused m t (Held cut))) (λ w x h. posted_by s w x (Refused m t (Held cut)) h) opens events posted) [
      | inl none ↦ absurd none
      | inr it ↦ at_post it.0 it.1 it.2 (cut_first s ms opens it.0 (Does (Posts (Refused m t (Held cut)))) it.1 (subst (IsCutRun s ms opens) it.2 run))
    ]
  where
    opens : Cuts
    opens = opened_cuts s log image floors

    at_post : (first rest : List CutEvent) → events ≡ first ++ Does (Posts (Refused m t (Held cut))) ∷ rest
        → IsCutRun s ms opens first × MayCut s ms (after_cuts s opens first) (Does (Posts (Refused m t (Held cut)))) → WasHeld s opens events m t cut
    at_post first rest split part = elim part.1.1 [
      | inl entry ↦ elim (added_when s (λ w. In (At m (Refuse t (Held cut))) w.log) (Refuses m t (Held cut)) (λ w x h. refused_by s w x m t (Held cut) h) opens first entry) [
        | inl found ↦
            let fresh = part.1.0.0.1 in
            absurd (fresh.1 (live_found s log image o t (known_begun s log image o m (Refuse t (Held cut)) found) fresh.0))
        | inr at ↦
            let before = cut_first s ms opens at.0 (Does (Refuses m t (Held cut))) at.1 (subst (IsCutRun s ms opens) at.2 part.0) in
            record {
              first = at.0;
              cast = Refuses m t (Held cut);
              rest = at.1 ++ Does (Posts (Refused m t (Held cut))) ∷ rest;
              split = longer events first (Does (Refuses m t (Held cut))) at.1 at.0 (Does (Posts (Refused m t (Held cut)))) rest split at.2;
              kind = inl refl;
              held = before.1.1;
            }
      ]
      | inr now ↦ record { first = first; cast = Posts (Refused m t (Held cut)); rest = rest; split = split; kind = inr refl; held = now }
    ]

-- ---- opening again

-- what is said of logs is the same in another setting with the same coordinators and minitransactions
module _ (s : Setting) (old found early : List ℕ) (w : World) where
  passed_again : (m t : ℕ) → IsPassed s w.log m t → IsPassed (next_setting s w old found early) w.log m t
  passed_again m t p = record { by = p.by; cast = p.cast; same = p.same; above = p.above }

  refused_again : (m t : ℕ) → IsRefused s w.log m t → IsRefused (next_setting s w old found early) w.log m t
  refused_again m t r = record { passed = passed_again m t r.passed; never = r.never }

  stands_again : (m : ℕ) (r : Record) → Stands s w m r → Stands (next_setting s w old found early) (opened (next_setting s w old found early) w.log w.image) m r
  stands_again m (Grant t) h = h
  stands_again m (Refuse t why) h = tt
  stands_again m (Commit t) h = h
  stands_again m (Abort t) h = (h.0, record { node = h.1.node; participant = h.1.participant; refused = refused_again h.1.node t h.1.refused })
  stands_again m (Forget t) h = (h.0, λ n is. elim (h.1 n is) [ inl d ↦ inl d | inr r ↦ inr (refused_again n t r) ])

pub opens_again : OpensAgain
opens_again s log image o events run old found early sorted =
    let w = after_all s (opened s log image) events in
    let next = next_setting s w old found early in
    let sound = always_sound s log image o events run in
    let f = sound.faithful in
    let live_before : (t : ℕ) → In t found → IsLive s t = (λ t h old_before. f.closed (sorted.undecided t h).1.0 t old_before (sorted.undecided t h).1.1) in
    -- what is pending now is pending then, and the other way round
    let then_pending : (m a t v : ℕ) → IsPending s w.log w.points m a t v → IsPending next w.log [] m a t v = (λ m a t v p.
    elim (sorted.known t (f.known m (Grant t) p.record_open.granted)) [
      | inl h ↦ record { point = inr ((sorted.committed t).1 (h, (point_committed s w f t p.point).1)); record_open = p.record_open; writes = p.writes }
      | inr h ↦ absurd (sorted.closed m t h p.record_open)
    ]) in
    let now_pending : (m a t v : ℕ) → IsPending next w.log [] m a t v → IsPending s w.log w.points m a t v = (λ m a t v p.
    elim p.point [
      | inl none ↦ absurd none
      | inr e ↦
          let it = (sorted.committed t).0 e in
          record { point = f.committed t (sorted.undecided t it.0).0 (live_before t it.0) it.1; record_open = p.record_open; writes = p.writes }
    ]) in
    record {
      known = λ m r h. sorted.known (named_in r) (f.known m r h);
      live = λ t h stale. sorted.closed (sorted.undecided t h).1.0 t stale (sorted.undecided t h).1.1;
      closed = sorted.closed;
      minis = λ t h. f.minis t (sorted.undecided t h).0 (live_before t h);
      stands = λ m r h is. stands_again s old found early w m r (f.stands m r h (live_before (named_in r) is));
      early = λ t h. (sorted.committed t).0 h;
      committed = λ t h c. (sorted.committed t).1 (h, c);
      pending = λ m a t v p. sound.stored.pending m a t v (now_pending m a t v p);
      settled = λ m a none. sound.stored.settled m a (λ t v p. none t v (then_pending m a t v p));
    }
