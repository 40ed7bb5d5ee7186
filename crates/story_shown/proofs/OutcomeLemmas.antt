-- The outcomes of a story's coordinators are those of the flat memory at a place of the history.
use Rattle.std.proofs.Common.{◌≡◌, ◌⊎◌, inl, inr, ◌≤◌, ℕ, ◌==◌, Bool, true, false, cond, ◌||◌, List, [], ◌∷◌, ◌++◌, length, map, reverse, take, Option, Some, All, refl, sym, ap, subst, ◌∙◌, append_assoc, slice_get, if◌then◌else◌}
use Rattle.std.specs.List.{AllByRecursion}
use Rattle.std.proofs.Math.Path.{fun_ext}
use Rattle.std.proofs.lemmas.Bool.{cases_eq, eq-eqb, eqb-true, eqb-false}
use Rattle.std.proofs.lemmas.List.{reverse-append, reverse-reverse, length-reverse}
use Rattle.std.proofs.lemmas.List.Elements.{All-from_recursion, filter-append}
use Rattle.lock_table.proofs.OrderLemmas.{is_one}
use Rattle.mini_tx.specs.declared.item.Item.{Item}
use Rattle.mini_tx.specs.declared.placed_item.PlacedItem.{PlacedItem}
use Rattle.mini_tx.specs.FlatMemory.{IsWithin, Matches, reads}
use Rattle.mini_tx.specs.Minitransactions.{memory_of}
use Rattle.mini_tx.specs.Order.{is_same}
use Rattle.tx_coord.specs.declared.outcome.Outcome.TheVariants as outcome
use Rattle.tx_coord.specs.Rules.{gathered, participants_of}
use Rattle.tx_coord.specs.Rules as rules
use Rattle.tx_coord.specs.State as coord
use Rattle.tx_coord.specs.Votes.{Granted}
use Rattle.tx_rules.specs.Decision as log
use Rattle.tx_rules.specs.Laws.{AllMatch, history}
use Rattle.tx_rules.specs.Mini as table
use Rattle.tx_rules.specs.Mini.{In, Mini, IsMini, Setting, nodes_of, has_several, is_logged, IsReader, reads_of, flat}
use Rattle.tx_rules.specs.World.{Looked, World, Event, Posts, opened, after_all}
use Rattle.tx_rules.proofs.LawLemmas.{runs_only_add}
use Rattle.tx_actors.specs.Coordinator as machine
use Rattle.tx_actors.specs.Laws.{OutcomeStands}
use Rattle.tx_actors.specs.Machine.{Input, steps, events_of, opened_at}
use Rattle.tx_actors.proofs.LawLemmas.{states_are_runs, outcomes_stand, committed_reads_are_flat, looks_of_outcomes_are_flat}
use Rattle.tx_actors.proofs.NodeLemmas.{after_append}
use Rattle.tx_actors.proofs.TestLemmas.{map-In, sorted-In, not_two}
use Rattle.mem_laws.specs.Cells.{number}
use Rattle.mem_laws.specs.Minis.{placed_for, cells_of_bytes}
use Rattle.mem_laws.proofs.CellLemmas.{sameness_is}
use Rattle.mem_laws.proofs.MiniLemmas.{minis_read_alike}
use Rattle.coord_laws.specs.Shown.{shown_vote, shown_votes}
use Rattle.story_rules.specs.Story.{Begun, Story}
use Rattle.story_rules.specs.Steps.{has_write}
use Rattle.story_rules.specs.Steps as story_steps
use Rattle.coord_laws.proofs.ListLemmas.{participants_are}
use Rattle.mem_laws.proofs.VoteLemmas.{several_is}
use Rattle.story_laws.specs.Acts.{Holds}
use Rattle.story_laws.specs.Beginnings.{WasBegun}
use Rattle.story_shown.specs.History.{held_at_opening, flat_at, IsOutcome, OutcomesAreFlat, IsLastCast}
use Rattle.story_laws.proofs.BeginningLemmas.{in_map}
use Rattle.story_shown.proofs.ShownLemmas.{HasEnded, IsShownActor, IsShownSeat, IsShown, IsFit}
use Rattle.story_shown.proofs.FlatLemmas.{vote_reads, items_in, prefix_is, prefix_fits, next_is, behind_is, in_reverse, reverse_in, in_splits, gathered_are, vote_is, no_items}
use Rattle.story_shown.proofs.LawLemmas.{match_behind, get_in, fitting, opening, above, serial, changes_flat, items_begun, mini_is, within_at, flat_is, matches_is, typed_id}
use Rattle.story_shown.proofs.LawLemmas as law

-- the first vote of a memory node that has one
first_vote : (m : ℕ) (grants : List Granted) (g : Granted) → In g grants → g.memory ≡ m → (d : Granted) × In d grants × (d.memory ≡ m) × (vote_reads m grants ≡ d.reads)
first_vote m [] g is same = absurd is
first_vote m (x ∷ grants) g is same = go (x.memory == m) refl (λ there. first_vote m grants g there same) is
  where
    go : (b : Bool) → (x.memory == m) ≡ b → (In g grants → (d : Granted) × In d grants × (d.memory ≡ m) × (vote_reads m grants ≡ d.reads)) → (g ≡ x) ⊎ In g grants
        → (d : Granted) × In d (x ∷ grants) × (d.memory ≡ m) × ((if b then x.reads else vote_reads m grants) ≡ d.reads)
    go true here rest is_ = (x, inl refl, eqb-true x.memory m here, refl)
    go false other rest (inl one) = absurd (eqb-false x.memory m other (ap (λ (y : Granted). y.memory) (sym one) ∙ same))
    go false other rest (inr there) = let it = rest there in (it.0, inr it.1, it.2, it.3)

no_vote : (m : ℕ) (grants : List Granted) → ((g : Granted) → In g grants → ¬ (g.memory ≡ m)) → vote_reads m grants ≡ []
no_vote m [] none = refl
no_vote m (g ∷ grants) none = go (g.memory == m) refl (no_vote m grants (λ h is. none h (inr is)))
  where
    go : (b : Bool) → (g.memory == m) ≡ b → vote_reads m grants ≡ [] → (if b then g.reads else vote_reads m grants) ≡ []
    go true here rest = absurd (none g (inl refl) (eqb-true g.memory m here))
    go false other rest = rest

one_of : (nodes : List ℕ) (a b : ℕ) → has_several nodes ≡ false → In a nodes → In b nodes → a ≡ b
one_of [] a b h x y = absurd x
one_of (n ∷ []) a b h x y = elim x [ inl e ↦ elim y [ inl d ↦ e ∙ sym d | inr none ↦ absurd none ] | inr none ↦ absurd none ]
one_of (n ∷ k ∷ nodes) a b h x y = absurd cc

not_several : (a b : Bool) → (a || b) ≡ false → a ≡ false
not_several true b is = absurd cc
not_several false b is = refl

no_write : (a b : Bool) → (a || b) ≡ false → b ≡ false
no_write true b is = absurd cc
no_write false b is = is

module _ (s : Setting) (size : ℕ) (story : Story) (fit : IsFit s size story) (holds : Holds story) (inputs : List Input)
    (all : IsShown s size story (steps s (opened_at s [] s.start (λ c. 0)) inputs)) (sized : All (λ (image : List ℕ). length image ≡ size) (held_at_opening story)) where
  abbrev w : World
  w = (steps s (opened_at s [] s.start (λ c. 0)) inputs).world

  -- ---- a place of the history

  -- of what stands behind later points
  module _ (later before : List ℕ) (split : w.points ≡ later ++ before) where
    abbrev pub place_of : ℕ
    place_of = length (reverse (history s before))

    changes : reverse (history s before) ++ reverse (history s later) ≡ map number story.committed
    changes =
        behind_is number (history s later) (history s before) story.committed
        (sym (filter-append (λ t. (s.mini t).has_write) later before) ∙ ap (history s) (sym split) ∙ all.history)

    pub at_fits : place_of ≤ length story.committed
    at_fits = prefix_fits number (reverse (history s before)) (reverse (history s later)) story.committed changes

    behind : history s before ≡ reverse (map number (take place_of story.committed))
    behind =
        sym (reverse-reverse (history s before))
        ∙ ap reverse (prefix_is number (reverse (history s before)) (reverse (history s later)) story.committed changes)

    -- the machine's flat memory there is the story's
    pub flat_there : (m a : ℕ) → flat s before m a ≡ cells_of_bytes (flat_at story place_of) m a
    flat_there m a =
        sym ((changes_flat s size story fit holds inputs all sized).0 later before split m a) ∙ ap (λ (l : List ℕ). flat s l m a) behind
        ∙ flat_is s size story fit holds inputs all sized place_of m a

  -- a change that has its point there stands at this place
  own_place : (b : Begun) → In b story.begun → (later before : List ℕ) → w.points ≡ later ++ number b.id ∷ before → has_write b.items ≡ true
      → slice_get story.committed (length (reverse (history s before))) ≡ Some b.id
  own_place b there later before split writes =
      let t = number b.id in
      let has : (s.mini t).has_write ≡ true = ap (λ (x : Mini). x.has_write) (fit.fits.minis b there) ∙ writes in
      let changed : history s later ++ t ∷ history s before ≡ reverse (map number story.committed) =
      ap (λ (x : Bool). history s later ++ cond x (t ∷ history s before) (history s before)) (sym has)
      ∙ sym (filter-append (λ u. (s.mini u).has_write) later (t ∷ before)) ∙ ap (history s) (sym split) ∙ all.history in
      let turned : reverse (history s before) ++ t ∷ reverse (history s later) ≡ map number story.committed =
      sym (append_assoc (reverse (history s before)) (t ∷ []) (reverse (history s later)))
      ∙ ap (λ (l : List ℕ). l ++ reverse (history s later)) (sym (reverse-append (t ∷ []) (history s before)))
      ∙ behind_is number (history s later) (t ∷ history s before) story.committed changed in
      let it = next_is number (reverse (history s before)) t (reverse (history s later)) story.committed turned in
      let was = law.change_was s size story fit holds inputs all sized it.0 (get_in story.committed (length (reverse (history s before))) it.0 it.1) in
      let same : is_same b.id it.0 ≡ true =
      sym (sameness_is b.id it.0 (fit.typed b there) (typed_id s size story fit holds inputs all sized it.0 was)) ∙ eq-eqb t (number it.0) it.2 in
      it.1 ∙ ap Some (sym (is_one b.id it.0 same))

  -- ---- an outcome

  module _ (b : Begun) (there : In b story.begun) (grants : List Granted)
      (ended : In (machine.Committed (number b.id) (shown_votes grants)) (steps s (opened_at s [] s.start (λ c. 0)) inputs).outcomes) where
    abbrev t : ℕ
    t = number b.id

    abbrev was : WasBegun story.begun b.id
    was = (b, there, refl)

    stands : OutcomeStands s w (machine.Committed t (shown_votes grants))
    stands =
        outcomes_stand s [] s.start (λ c. 0) (opening s size story fit holds inputs all sized) (above s size story fit holds inputs all sized) inputs
        (fitting s size story fit holds inputs all sized) (machine.Committed t (shown_votes grants)) ended

    -- a vote was counted
    vote_in : (g : Granted) → In g grants → In (shown_vote g) (shown_votes grants)
    vote_in g is = in_reverse (shown_vote g) (map shown_vote grants) (map-In shown_vote g grants is)

    vote_from : (m : ℕ) → In m (nodes_of s t) → (g : Granted) × In g grants × (g.memory ≡ m)
    vote_from m is =
        let first = in_map (λ (v : ℕ × List (List ℕ)). v.0) m (shown_votes grants) (stands.4 m is) in
        let second = in_map shown_vote first.0 grants (reverse_in first.0 (map shown_vote grants) first.1) in
        (second.0, second.1, ap (λ (v : ℕ × List (List ℕ)). v.0) (sym second.2) ∙ sym first.2)

    item_part : (i : Item) → In i b.items → In (memory_of i) (nodes_of s t)
    item_part i is =
        subst (λ (x : Mini). In (memory_of i) x.nodes) (sym (fit.fits.minis b there)) (sorted-In (memory_of i) (map memory_of b.items) (map-In memory_of i b.items is))

    none_there : (m : ℕ) → ((g : Granted) → In g grants → ¬ (g.memory ≡ m)) → placed_for b.items m ≡ []
    none_there m none = no_items 0 m b.items (λ i is same.
        let it = vote_from m (subst (λ (k : ℕ). In k (nodes_of s t)) same (item_part i is)) in none it.0 it.1 it.2)

    -- the reads of a memory node in the flat memory of a place
    abbrev reads_at : ℕ → ℕ → List (List ℕ)
    reads_at at m = reads (items_in (placed_for b.items m)) (flat_at story at)

    read_there : (at : ℕ) (f : ℕ → ℕ → ℕ) → ((m a : ℕ) → f m a ≡ cells_of_bytes (flat_at story at) m a) → (m : ℕ) → reads_of s t m (f m) ≡ reads_at at m
    read_there at f same m =
        ap (reads_of s t m) (fun_ext (same m))
        ∙ minis_read_alike s t b.items (flat_at story at) (fit.fits.minis b there)
        (All-from_recursion (IsWithin (flat_at story at)) b.items
        (subst (λ (items : List Item). AllByRecursion (IsWithin (flat_at story at)) items) (items_begun s size story fit holds inputs all sized b.id was)
        (within_at s size story fit holds inputs all sized at b.id))) m

    matched : (at : ℕ) (f : ℕ → ℕ → ℕ) → ((m a : ℕ) → f m a ≡ cells_of_bytes (flat_at story at) m a) → ((m : ℕ) → In m (nodes_of s t) → table.Matches s t m (f m)) → Matches b.items (flat_at story at)
    matched at f same match =
        subst (λ (items : List Item). Matches items (flat_at story at)) (items_begun s size story fit holds inputs all sized b.id was)
        (matches_is s size story fit holds inputs all sized b.id was at f same match)

    gathered_at : (at : ℕ) → ((m : ℕ) → vote_reads m grants ≡ reads_at at m) → gathered grants b.items ≡ reads b.items (flat_at story at)
    gathered_at at each = gathered_are (flat_at story at) 0 b.items grants each

    -- with an entry: at its point
    module _ (logged : is_logged (s.mini t) ≡ true) where
      commits : log.IsCommitted s w.log t
      commits = elim stands.2 [ inl c ↦ c | inr reader ↦ absurd (not_two (is_logged (s.mini t)) logged reader) ]

      point : (first : List ℕ) × (rest : List ℕ) × (w.points ≡ first ++ t ∷ rest)
      point = in_splits t w.points (((serial s size story fit holds inputs all sized).points.1 t).1 (stands.0, commits))

      module _ (later before : List ℕ) (split : w.points ≡ later ++ t ∷ before) where
        split_one : w.points ≡ (later ++ t ∷ []) ++ before
        split_one = split ∙ sym (append_assoc later (t ∷ []) before)

        abbrev place : ℕ
        place = place_of (later ++ t ∷ []) before split_one

        same : (m a : ℕ) → flat s before m a ≡ cells_of_bytes (flat_at story place) m a
        same = flat_there (later ++ t ∷ []) before split_one

        each_read : (g : Granted) → In g grants → g.reads ≡ reads_at place g.memory
        each_read g is =
            committed_reads_are_flat s [] s.start (λ c. 0) (opening s size story fit holds inputs all sized) (above s size story fit holds inputs all sized) inputs
            (fitting s size story fit holds inputs all sized) t (shown_votes grants) ended logged later before split (shown_vote g) (vote_in g is)
            ∙ read_there place (flat s before) same g.memory

        each : (m : ℕ) → vote_reads m grants ≡ reads_at place m
        each m = elim (vote_is (reads_at place) m grants each_read) [
          | inl here ↦ here
          | inr none ↦ none.0 ∙ sym (ap (λ (items : List PlacedItem). reads (items_in items) (flat_at story place)) (none_there m none.1))
        ]

        logged_at : IsOutcome story b (gathered grants b.items)
        logged_at = record {
          at = place;
          within = at_fits (later ++ t ∷ []) before split_one;
          cast = λ is. subst (λ (k : ℕ). IsLastCast story.casts b.id k) (sym (length-reverse (history s before))) (all.moments b.id (fit.typed b there) later before split);
          own = own_place b there later before split;
          matches = matched place (flat s before) same
              (match_behind s later (t ∷ before) (subst (λ (l : List ℕ). AllMatch s l) split (serial s size story fit holds inputs all sized).matches)).0;
          reads_are = gathered_at place each;
        }

      logged_outcome : IsOutcome story b (gathered grants b.items)
      logged_outcome = logged_at point.0 point.1 point.2

    -- without one: at the moment of its only vote
    module _ (reader : IsReader s t) where
      some : (m : ℕ) × In m (nodes_of s t)
      some = (fitting s size story fit holds inputs all sized t (all.begun b there) stands.1).participant

      one : (m : ℕ) → In m (nodes_of s t) → m ≡ some.0
      one m is = one_of (nodes_of s t) m some.0 (not_several (has_several (nodes_of s t)) ((s.mini t).has_write) reader) is some.1

      -- nor has it an entry in the story
      not_logged : story_steps.is_logged b.items ≡ false
      not_logged =
          let nodes = nodes_of s t in
          let same : participants_of b.items ≡ nodes = participants_are b.items ∙ sym (ap (λ (x : Mini). x.nodes) (fit.fits.minis b there)) in
          ap (λ (l : List ℕ). rules.has_several l || has_write b.items) same
          ∙ ap (λ (x : Bool). x || has_write b.items) (sym (several_is nodes) ∙ not_several (has_several nodes) ((s.mini t).has_write) reader)
          ∙ sym (ap (λ (x : Mini). x.has_write) (fit.fits.minis b there)) ∙ no_write (has_several nodes) ((s.mini t).has_write) reader

      vote : (d : Granted) × In d grants × (d.memory ≡ some.0) × (vote_reads some.0 grants ≡ d.reads)
      vote = let it = vote_from some.0 some.1 in first_vote some.0 grants it.0 it.1 it.2

      abbrev start : World
      start = opened s [] s.start

      module _ (first rest : List Event) (is : events_of s (opened_at s [] s.start (λ c. 0)) inputs ≡ first ++ rest) where
        abbrev before : List ℕ
        before = (after_all s start first).points

        later : (new : List ℕ) × (w.points ≡ new ++ before)
        later =
            let r = states_are_runs s [] s.start (λ c. 0) (opening s size story fit holds inputs all sized) (above s size story fit holds inputs all sized) inputs
            (fitting s size story fit holds inputs all sized) in
            let adds = (runs_only_add s (after_all s start first) rest).points in (
              adds.0,
              ap (λ (v : World). v.points) (r.1 ∙ ap (after_all s start) is ∙ after_append s start first rest) ∙ adds.1,
            )

        abbrev moment : ℕ
        moment = place_of later.0 before later.1

        same_then : (m a : ℕ) → flat s before m a ≡ cells_of_bytes (flat_at story moment) m a
        same_then = flat_there later.0 before later.1

        reader_at : vote.0.reads ≡ reads_of s t vote.0.memory (flat s before vote.0.memory) → table.Matches s t vote.0.memory (flat s before vote.0.memory)
            → IsOutcome story b (gathered grants b.items)
        reader_at read match = record {
          at = moment;
          within = at_fits later.0 before later.1;
          cast = λ logged. absurd (not_two (story_steps.is_logged b.items) logged not_logged);
          own = λ writes. absurd (not_two ((s.mini t).has_write) (ap (λ (x : Mini). x.has_write) (fit.fits.minis b there) ∙ writes) (no_write (has_several (nodes_of s t)) ((s.mini t).has_write) reader));
          matches = matched moment (flat s before) same_then (λ m is_. subst (λ (k : ℕ). table.Matches s t k (flat s before k)) (vote.2 ∙ sym (one m is_)) match);
          reads_are = gathered_at moment (λ m. each_reader m (cases_eq m some.0));
        }
          where
            each_reader : (m : ℕ) → (m ≡ some.0) ⊎ (¬ (m ≡ some.0)) → vote_reads m grants ≡ reads_at moment m
            each_reader m (inl here) =
                subst (λ (k : ℕ). vote_reads k grants ≡ reads_at moment k) (sym here)
                (vote.3 ∙ read ∙ read_there moment (flat s before) same_then vote.0.memory ∙ ap (reads_at moment) vote.2)
            each_reader m (inr other) =
                let none : (g : Granted) → In g grants → ¬ (g.memory ≡ m) = λ g h same. other (sym same ∙ one g.memory (stands.3 (shown_vote g) (vote_in g h)).0) in
                no_vote m grants none ∙ sym (ap (λ (items : List PlacedItem). reads (items_in items) (flat_at story moment)) (none_there m none))

      reader_outcome : IsOutcome story b (gathered grants b.items)
      reader_outcome =
          let look = looks_of_outcomes_are_flat s [] s.start (λ c. 0) (opening s size story fit holds inputs all sized) (above s size story fit holds inputs all sized) inputs
          (fitting s size story fit holds inputs all sized) t (shown_votes grants) ended reader (shown_vote vote.0) (vote_in vote.0 vote.1) in
          reader_at look.0 (Posts (Looked vote.0.memory t vote.0.reads) ∷ look.1) look.2 look.3 look.4

    pub outcome_is : IsOutcome story b (gathered grants b.items)
    outcome_is = go (is_logged (s.mini t)) refl
      where
        go : (x : Bool) → is_logged (s.mini t) ≡ x → IsOutcome story b (gathered grants b.items)
        go true is = logged_outcome is
        go false is = reader_outcome is

  pub outcomes_are_flat : OutcomesAreFlat story
  outcomes_are_flat n seat c bytes there runs ended =
      let st = steps s (opened_at s [] s.start (λ c. 0)) inputs in
      let actor : IsShownActor s story.begun c (st.coordinator n) st.outcomes =
      subst (λ (a : Option coord.State). IsShownSeat s story.begun n seat.boot a (st.coordinator n) st.outcomes) runs (all.seats n seat there) in
      let has : HasEnded story.begun c (coord.Ended (outcome.Committed bytes)) st.outcomes = subst (λ (ph : coord.Phase). HasEnded story.begun c ph st.outcomes) ended actor.ended in (
        has.0,
        has.1,
        has.2,
        subst (λ (l : List (List ℕ)). IsOutcome story has.0 l) (sym has.5) (outcome_is has.0 has.1 has.3 has.4),
      )
