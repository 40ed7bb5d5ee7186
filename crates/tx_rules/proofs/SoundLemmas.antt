-- What holds between any two events holds at every moment of every run.
use Rattle.std.proofs.Common.{◌≡◌, ℕ, List, [], ◌∷◌, inl, inr, refl, subst, sym, ◌∙◌}
use Rattle.tx_rules.specs.Mini.{In, Memory, Setting, IsFresh}
use Rattle.tx_rules.specs.Decision.{Entry, At, Grant, IsGranted}
use Rattle.tx_rules.specs.World.{World, opened, Event, Begins, Grants, Completes, Refuses, Commits, Aborts, Forgets, Posts, May, after, IsRun, after_all}
use Rattle.tx_rules.specs.Opening.{IsOpening, IsFormatted}
use Rattle.tx_rules.proofs.GrowthLemmas.{Grows, passed_grows, one_record, one_grant, grows}
use Rattle.tx_rules.proofs.FaithfulLemmas.{IsFaithful, faithful_after, faithful_opening}
use Rattle.tx_rules.proofs.StoredLemmas.{IsStored, stored_after, stored_opening}

pub record IsSound (s : Setting) (w : World) : Type 0 where
  pub faithful : IsFaithful s w
  pub stored : IsStored s w.log w.points w.image w.seen

pub sound_after : (s : Setting) (w : World) (e : Event) → May s w e → IsSound s w → IsSound s (after s w e)
sound_after s w e may h = record { faithful = faithful_after s w h.faithful e may; stored = stored_after s w h.faithful h.stored e may }

pub sound_after_all : (s : Setting) (w : World) (events : List Event) → IsRun s w events → IsSound s w → IsSound s (after_all s w events)
sound_after_all s w [] run h = h
sound_after_all s w (e ∷ events) run h = sound_after_all s (after s w e) events run.1 (sound_after s w e run.0 h)

pub sound_opening : (s : Setting) (log : List Entry) (image : Memory) → IsOpening s log image → IsSound s (opened s log image)
sound_opening s log image o = record { faithful = faithful_opening s log image o; stored = stored_opening s log image o }

pub always_sound : (s : Setting) (log : List Entry) (image : Memory) → IsOpening s log image → (events : List Event)
    → IsRun s (opened s log image) events → IsSound s (after_all s (opened s log image) events)
always_sound s log image o events run = sound_after_all s (opened s log image) events run (sound_opening s log image o)

-- ---- a run grows

grows_refl : (s : Setting) (w : World) → Grows s w w
grows_refl s w = record { begun = λ t h. h; log = λ e h. h; kept = λ m t p h. h; seen = λ m t h. refl }

pub grows_trans : (s : Setting) (u v w : World) → Grows s u v → Grows s v w → Grows s u w
grows_trans s u v w g h = record {
  begun = λ t x. h.begun t (g.begun t x);
  log = λ e x. h.log e (g.log e x);
  kept = λ m t p x. g.kept m t p (h.kept m t (passed_grows s u v g m t p) x);
  seen = λ m t x. h.seen m t (g.log (At m (Grant t)) x) ∙ g.seen m t x;
}

pub grows_all : (s : Setting) (w : World) (events : List Event) → IsRun s w events → Grows s w (after_all s w events)
grows_all s w [] run = grows_refl s w
grows_all s w (e ∷ events) run =
    grows_trans s w (after s w e) (after_all s (after s w e) events) (grows s w e run.0) (grows_all s (after s w e) events run.1)

-- ---- what is not fresh is never granted

not_fresh_after : (s : Setting) (w : World) (e : Event) → May s w e → (m t : ℕ) → ¬ IsFresh s t → IsGranted (after s w e).log m t → IsGranted w.log m t
not_fresh_after s w (Begins u) may m t stale h = h
not_fresh_after s w (Posts p) may m t stale h = h
not_fresh_after s w (Grants n u) may m t stale h =
    elim h [ inl is ↦ absurd (stale (subst (IsFresh s) (sym (one_grant t u (one_record m n (Grant t) (Grant u) is))) may.0.fresh)) | inr before ↦ before ]
not_fresh_after s w (Completes n u) may m t stale h =
    elim h [ inl is ↦ absurd (stale (subst (IsFresh s) (sym (one_grant t u (one_record m n (Grant t) (Grant u) is))) may.0.fresh)) | inr before ↦ before ]
not_fresh_after s w (Refuses n u why) may m t stale h = elim h [ inl is ↦ absurd (let e = one_record m n (Grant t) _ is in cc) | inr before ↦ before ]
not_fresh_after s w (Commits n u) may m t stale h = elim h [ inl is ↦ absurd (let e = one_record m n (Grant t) _ is in cc) | inr before ↦ before ]
not_fresh_after s w (Aborts n u) may m t stale h = elim h [ inl is ↦ absurd (let e = one_record m n (Grant t) _ is in cc) | inr before ↦ before ]
not_fresh_after s w (Forgets n u) may m t stale h = elim h [ inl is ↦ absurd (let e = one_record m n (Grant t) _ is in cc) | inr before ↦ before ]

pub not_fresh_all : (s : Setting) (w : World) (events : List Event) → IsRun s w events → (m t : ℕ) → ¬ IsFresh s t
    → IsGranted (after_all s w events).log m t → IsGranted w.log m t
not_fresh_all s w [] run m t stale h = h
not_fresh_all s w (e ∷ events) run m t stale h =
    not_fresh_after s w e run.0 m t stale (not_fresh_all s (after s w e) events run.1 m t stale h)

-- ---- a formatted cluster

none_in : (t : ℕ) (ts : List ℕ) → ts ≡ [] → ¬ In t ts
none_in t ts empty h = subst (In t) empty h

pub formatted_opens : (s : Setting) → IsFormatted s → IsOpening s [] s.start
formatted_opens s f = record {
  known = λ m r h. absurd h;
  live = λ t h. absurd (none_in t s.found f.found h);
  closed = λ m t h o. o.granted;
  minis = λ t h. absurd (none_in t s.found f.found h);
  stands = λ m r h. absurd h;
  early = λ t h. absurd (none_in t s.early f.early h);
  committed = λ t h. absurd (none_in t s.found f.found h);
  pending = λ m a t v p. absurd p.record_open.granted;
  settled = λ m a none. refl;
}
