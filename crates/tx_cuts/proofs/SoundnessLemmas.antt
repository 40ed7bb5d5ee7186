-- What is sound opens, and what a run leaves is sound.
use Rattle.std.proofs.Common.{ℕ, ◌++◌, inl, inr, subst}
use Rattle.tx_rules.specs.Mini.{In, Setting, IsLive, flat}
use Rattle.tx_rules.specs.Decision.{Record, Grant, Refuse, Commit, Abort, Forget, named_in, At, IsGranted}
use Rattle.tx_rules.specs.World.{World, Stands, opened, after_all}
use Rattle.tx_rules.specs.Opening.{IsPending}
use Rattle.tx_rules.proofs.FaithfulLemmas.{point_committed}
use Rattle.tx_rules.proofs.SoundLemmas.{IsSound, always_sound}
use Rattle.tx_actors.proofs.NodeLemmas.{run_append, after_append}
use Rattle.tx_cuts.specs.Sound.{IsKeptAt, IsUndecided, IsSoundOf, IsToCome, IsSoundFor, SoundOpens, RunsAreSound, CrashImagesAreSound}
use Rattle.tx_cuts.specs.Laws.{appending_all}
use Rattle.tx_rules.proofs.LawLemmas.{runs_only_add}
use Rattle.tx_cuts.proofs.CrashLemmas.{crash_images_are_reached}

pub sound_opens : SoundOpens
sound_opens s log image told sound = record {
  known = told.known;
  live = λ t h stale. told.old t stale (told.found t h);
  closed = λ m t h o. told.old t h (record { node = m; undecided = o });
  minis = told.minis;
  stands = λ m r h is. stands m r h (sound.identifiers (named_in r) (told.found (named_in r) is));
  early = λ t h. let it = (told.early t).0 h in (it.0, λ m is. (it.1 m is).granted);
  committed = λ t h c. (told.early t).1 (h, λ m is. (sound.identifiers t (told.found t h)).kept m (c m is));
  pending = λ m a t v p. elim p.point [
    | inl none ↦ absurd none
    | inr e ↦ sound.written m a t v (record { undecided = p.record_open; all = ((told.early t).0 e).1; writes = p.writes })
  ];
  settled = λ m a none. sound.settled m a (λ t v c. elim (told.known m (Grant t) c.undecided.granted) [
    | inl h ↦ none t v (record { point = inr ((told.early t).1 (h, c.all)); record_open = c.undecided; writes = c.writes })
    | inr h ↦ told.old t h (record { node = m; undecided = c.undecided })
  ]);
}
  where
    stands : (m : ℕ) (r : Record) → In (At m r) log → IsSoundOf s log (named_in r) → Stands s (opened s log image) m r
    stands m (Grant t) h of_t = of_t.participants m (of_t.kept m h)
    stands m (Refuse t why) h of_t = tt
    stands m (Commit t) h of_t = (of_t.whole m (inl (inl h)), λ n is. (of_t.commit m h n is).granted)
    stands m (Abort t) h of_t =
        let it = of_t.abort m h in
        (of_t.whole m (inl (inr h)), record { node = it.0; participant = it.1; refused = record { passed = it.3; never = λ g. it.2 (of_t.kept it.0 g) } })
    stands m (Forget t) h of_t = absurd ((of_t.kept m (of_t.whole m (inr h))).remembered h)

-- ---- what a run leaves

module _ (s : Setting) (w : World) (sound : IsSound s w) where
  -- an undecided record is of a live identifier that was begun, at a participant
  undecided_live : (t : ℕ) → IsUndecided w.log t → IsLive s t
  undecided_live t u h = sound.faithful.closed u.node t h u.undecided

  undecided_begun : (t : ℕ) → IsUndecided w.log t → In t w.begun
  undecided_begun t u = sound.faithful.known u.node (Grant t) u.undecided.granted

  -- where some record is undecided, none is forgotten
  granted_kept : (t : ℕ) → IsUndecided w.log t → (m : ℕ) → IsGranted w.log m t → IsKeptAt w.log m t
  granted_kept t u m g = record {
    granted = g;
    remembered = λ h.
        let live = undecided_live t u in
        let there = (sound.faithful.stands u.node (Grant t) u.undecided.granted live).0 in
        elim ((sound.faithful.stands m (Forget t) h live).1 u.node there) [
          | inl d ↦ u.undecided.undecided d
          | inr r ↦ r.never u.undecided.granted
        ];
  }

  sound_of : (t : ℕ) → IsUndecided w.log t → IsSoundOf s w.log t
  sound_of t u =
      let live = undecided_live t u in
      let f = sound.faithful in
      record {
        whole = λ m h. elim h [
          | inl (inl c) ↦ (f.stands m (Commit t) c live).0
          | inl (inr a) ↦ (f.stands m (Abort t) a live).0
          | inr x ↦ elim (f.stands m (Forget t) x live).0 [ inl c ↦ (f.stands m (Commit t) c live).0 | inr a ↦ (f.stands m (Abort t) a live).0 ]
        ];
        participants = λ m k. f.stands m (Grant t) k.granted live;
        kept = granted_kept t u;
        commit = λ m h n is. granted_kept t u n ((f.stands m (Commit t) h live).1 n is);
        abort = λ m h. let a = (f.stands m (Abort t) h live).1 in (a.node, a.participant, λ k. a.refused.never k.granted, a.refused.passed);
      }

  now_to_come : (m a t v : ℕ) → IsPending s w.log w.points m a t v → IsToCome s w.log m a t v
  now_to_come m a t v p =
      let u : IsUndecided w.log t = record { node = m; undecided = p.record_open } in
      record { undecided = p.record_open; all = λ n is. granted_kept t u n ((point_committed s w sound.faithful t p.point).1 n is); writes = p.writes }

  to_come_now : (m a t v : ℕ) → IsToCome s w.log m a t v → IsPending s w.log w.points m a t v
  to_come_now m a t v c =
      let u : IsUndecided w.log t = record { node = m; undecided = c.undecided } in
      record {
        point = sound.faithful.committed t (undecided_begun t u) (undecided_live t u) (λ n is. (c.all n is).granted);
        record_open = c.undecided;
        writes = c.writes;
      }

pub runs_are_sound : RunsAreSound
runs_are_sound s log image o events run =
    let w = after_all s (opened s log image) events in
    let sound = always_sound s log image o events run in
    record {
      identifiers = sound_of s w sound;
      written = λ m a t v c. sound.stored.pending m a t v (to_come_now s w sound m a t v c);
      settled = λ m a none. sound.stored.settled m a (λ t v p. none t v (now_to_come s w sound m a t v p));
    }

pub crash_images_are_sound : CrashImagesAreSound
crash_images_are_sound s log image o events run durable distinct all =
    let w = after_all s (opened s log image) events in
    let more = appending_all s w durable in
    let both = run_append s (opened s log image) events more run (crash_images_are_reached s w durable distinct all) in (
      subst (λ (v : World). IsSoundFor s v.log v.image (flat s v.points)) (after_append s (opened s log image) events more)
          (runs_are_sound s log image o (events ++ more) both),
      (runs_only_add s w more).points,
    )
