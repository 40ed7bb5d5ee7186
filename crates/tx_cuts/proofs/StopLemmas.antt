-- Memory nodes that crash together leave a state of the actors.
use Rattle.std.proofs.Common.{◌≡◌, ℕ, true, List, [], ◌∷◌, ◌++◌, map, Option, Some, None, inl, inr, refl, sym, ap, ◌∙◌, subst, append_assoc}
use Rattle.tx_rules.specs.Mini.{In, Setting, flat}
use Rattle.tx_rules.specs.Decision.{Record}
use Rattle.tx_rules.specs.World.{Message, World, after, after_all}
use Rattle.tx_rules.proofs.LawLemmas.{runs_only_add}
use Rattle.tx_actors.specs.Node.{View, view, after_records, handle}
use Rattle.tx_actors.specs.Machine.{event_of, appending, State, numbered, to_node, step, steps, events_of, opened_at}
use Rattle.tx_actors.specs.Laws.{IsFitting}
use Rattle.tx_actors.proofs.AlikeLemmas.{alike_same, alike_self, alike_after_all, all_elsewhere}
use Rattle.tx_actors.proofs.LawLemmas.{states_are_runs, steps_join}
use Rattle.tx_actors.proofs.NodeLemmas.{after_append}
use Rattle.tx_cuts.specs.Sound.{IsSoundFor, StatesAreSound, Stop, stopping, AreApartStops, stopped_with, CrashedStatesAreSound}
use Rattle.tx_cuts.proofs.CrashLemmas.{record_begun, record_posted, appending_elsewhere}
use Rattle.tx_cuts.proofs.SoundnessLemmas.{runs_are_sound}

pub states_are_sound : StatesAreSound
states_are_sound s log image next o above inputs fitting =
    let r = states_are_runs s log image next o above inputs fitting in
    subst (λ (w : World). IsSoundFor s w.log w.image (flat s w.points)) (sym r.1) (runs_are_sound s log image o (events_of s (opened_at s log image next) inputs) r.0)

-- ---- records that are appended

appending_begun : (s : Setting) (w : World) (m : ℕ) (rs : List Record) → (after_all s w (appending s w m rs)).begun ≡ w.begun
appending_begun s w m [] = refl
appending_begun s w m (r ∷ rs) = appending_begun s (after s w (event_of s w m r)) m rs ∙ record_begun s w m r

appending_posted : (s : Setting) (w : World) (m : ℕ) (rs : List Record) → (after_all s w (appending s w m rs)).posted ≡ w.posted
appending_posted s w m [] = refl
appending_posted s w m (r ∷ rs) = appending_posted s (after s w (event_of s w m r)) m rs ∙ record_posted s w m r

-- ---- one memory node stops

module _ (s : Setting) (st : State) (x : Stop) where
  records : Option Message → List Record
  records None = []
  records (Some p) = (handle s x.node x.held (view st.world x.node) p).appends

  abbrev then_ : World
  then_ = (step s st (stopping x)).world

  world_is : then_ ≡ after_all s st.world (appending s st.world x.node (records (numbered st.world.posted x.message)))
  unfolding records
  world_is = go (numbered st.world.posted x.message)
    where
      go : (o : Option Message) → after_all s st.world (to_node s st x.node x.held true o).events ≡ after_all s st.world (appending s st.world x.node (records o))
      go None = refl
      go (Some p) = after_append s st.world (appending s st.world x.node (handle s x.node x.held (view st.world x.node) p).appends) []

  stop_begun : then_.begun ≡ st.world.begun
  stop_begun = ap (λ (w : World). w.begun) world_is ∙ appending_begun s st.world x.node (records (numbered st.world.posted x.message))

  stop_posted : then_.posted ≡ st.world.posted
  stop_posted = ap (λ (w : World). w.posted) world_is ∙ appending_posted s st.world x.node (records (numbered st.world.posted x.message))

  stop_here : view then_ x.node ≡ stopped_with s x (view st.world x.node) (numbered st.world.posted x.message)
  unfolding records
  stop_here =
      ap (λ (w : World). view w x.node) world_is
      ∙ sym (alike_same _ _ (alike_after_all s x.node (view st.world x.node) st.world (records (numbered st.world.posted x.message)) (alike_self s x.node (view st.world x.node))))
      ∙ go (numbered st.world.posted x.message)
    where
      go : (o : Option Message) → after_records s x.node (view st.world x.node) (records o) ≡ stopped_with s x (view st.world x.node) o
      go None = refl
      go (Some p) = refl

  stop_elsewhere : (m : ℕ) → ¬ (x.node ≡ m) → view then_ m ≡ view st.world m
  stop_elsewhere m other =
      ap (λ (w : World). view w m) world_is
      ∙ sym (alike_same _ _ (all_elsewhere s m st.world (appending s st.world x.node (records (numbered st.world.posted x.message)))
      (appending_elsewhere s st.world m x.node (records (numbered st.world.posted x.message)) other)))

  stop_points : (new : List ℕ) × (then_.points ≡ new ++ st.world.points)
  stop_points =
      let it = (runs_only_add s st.world (appending s st.world x.node (records (numbered st.world.posted x.message)))).points in
      (it.0, ap (λ (w : World). w.points) world_is ∙ it.1)

-- ---- several stop

-- what they leave, but for that it is sound
pub record IsLeft (s : Setting) (st : State) (stops : List Stop) (crashed : State) : Type 0 where
  pub stopped : (x : Stop) → In x stops → view crashed.world x.node ≡ stopped_with s x (view st.world x.node) (numbered st.world.posted x.message)
  pub others : (m : ℕ) → ((x : Stop) → In x stops → ¬ (x.node ≡ m)) → view crashed.world m ≡ view st.world m
  pub points : (new : List ℕ) × (crashed.world.points ≡ new ++ st.world.points)
  pub begun : crashed.world.begun ≡ st.world.begun
  pub posted : crashed.world.posted ≡ st.world.posted

stops_leave : (s : Setting) (st : State) (stops : List Stop) → AreApartStops stops → IsLeft s st stops (steps s st (map stopping stops))
stops_leave s st [] apart = record { stopped = λ x h. absurd h; others = λ m h. refl; points = ([], refl); begun = refl; posted = refl }
stops_leave s st (x ∷ stops) apart =
    let rest = stops_leave s (step s st (stopping x)) stops apart.1 in
    let first = stop_points s st x in
    record {
      stopped = λ y h. elim h [
        | inl e ↦ subst (λ (z : Stop). view (steps s st (map stopping (x ∷ stops))).world z.node ≡ stopped_with s z (view st.world z.node) (numbered st.world.posted z.message)) (sym e)
            (rest.others x.node apart.0 ∙ stop_here s st x)
        | inr later ↦
            rest.stopped y later
            ∙ ap (λ (v : View). stopped_with s y v (numbered (step s st (stopping x)).world.posted y.message)) (stop_elsewhere s st x y.node (λ e. apart.0 y later (sym e)))
            ∙ ap (λ (ps : List Message). stopped_with s y (view st.world y.node) (numbered ps y.message)) (stop_posted s st x)
      ];
      others = λ m none. rest.others m (λ y h. none y (inr h)) ∙ stop_elsewhere s st x m (none x (inl refl));
      points = (rest.points.0 ++ first.0, rest.points.1 ∙ ap (λ (ps : List ℕ). rest.points.0 ++ ps) first.1 ∙ sym (append_assoc rest.points.0 first.0 st.world.points));
      begun = rest.begun ∙ stop_begun s st x;
      posted = rest.posted ∙ stop_posted s st x;
    }

pub crashed_states_are_sound : CrashedStatesAreSound
crashed_states_are_sound s log image next o above inputs fitting stops apart =
    let st0 = opened_at s log image next in
    let st = steps s st0 inputs in
    let left = stops_leave s st stops apart in
    let join = steps_join s st0 inputs (map stopping stops) in
    let fits : IsFitting s (steps s st0 (inputs ++ map stopping stops)).world =
    subst (λ (x : State). IsFitting s x.world) (sym join) (λ t begun live. fitting t (subst (In t) left.begun begun) live) in
    record {
      sound = subst (λ (x : State). IsSoundFor s x.world.log x.world.image (flat s x.world.points)) join
          (states_are_sound s log image next o above (inputs ++ map stopping stops) fits);
      points = left.points;
      stopped = left.stopped;
      others = left.others;
      begun = left.begun;
      posted = left.posted;
    }
