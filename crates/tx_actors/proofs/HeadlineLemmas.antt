-- The theorem in one piece.
use Rattle.std.proofs.Common.{◌≡◌, ℕ, List, [], inl, inr, sym, subst}
use Rattle.tx_rules.specs.Mini.{In, IsLive, IsFresh}
use Rattle.tx_rules.specs.World.{opened, after_all}
use Rattle.tx_rules.proofs.FaithfulLemmas.{in_either}
use Rattle.tx_rules.proofs.SoundLemmas.{formatted_opens}
use Rattle.tx_rules.proofs.LawLemmas.{decisions_exclude, logged_decisions_agree, forgotten_is_over, points_are_the_committed, points_are_matched, unlocked_is_flat}
use Rattle.tx_actors.specs.Machine.{events_of, opened_at, IsAboveKnown}
use Rattle.tx_actors.specs.Headline.{IsSerial, FormattedClustersAreSerial}
use Rattle.tx_actors.proofs.LawLemmas.{states_are_runs}

none_of : (t : ℕ) (ts : List ℕ) → ts ≡ [] → ¬ In t ts
none_of t ts empty h = subst (In t) empty h

pub formatted_clusters_are_serial : FormattedClustersAreSerial
formatted_clusters_are_serial s next inputs f fitting =
    let o = formatted_opens s f in
    let above : IsAboveKnown s next = (λ t h. elim (in_either t s.found s.old h) [ inl a ↦ absurd (none_of t s.found f.found a) | inr b ↦ absurd (none_of t s.old f.old b) ]) in
    let events = events_of s (opened_at s [] s.start next) inputs in
    let r = states_are_runs s [] s.start next o above inputs fitting in
    let live : (t : ℕ) → IsLive s t = (λ t h. none_of t s.old f.old h) in
    let fresh : (t : ℕ) → IsFresh s t = (λ t. (live t, λ h. none_of t s.found f.found h)) in
    let points = points_are_the_committed s [] s.start o events r.0 in
    subst (IsSerial s) (sym r.1) (record {
      commits = λ m t. (logged_decisions_agree s [] s.start o events r.0 m t (live t)).0;
      aborts = λ m t. (logged_decisions_agree s [] s.start o events r.0 m t (live t)).1;
      one_way = λ t. decisions_exclude s (after_all s (opened s [] s.start) events).log t;
      forgotten = λ m t. forgotten_is_over s [] s.start o events r.0 m t (live t);
      points = (
        points.0,
        λ t. (
          λ h. let p = (points.1 t).0 h in (p.begun, p.committed),
          λ h. (points.1 t).1 (record { begun = h.0; fresh = fresh t; committed = h.1 }),
        ),
      );
      matches = points_are_matched s [] s.start o events r.0;
      images = unlocked_is_flat s [] s.start o events r.0;
    })
