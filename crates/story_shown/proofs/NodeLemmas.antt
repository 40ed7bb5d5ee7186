-- A step of a memory node keeps how a story shows in the machine.
use Rattle.std.proofs.Common.{◌≡◌, ◌⊎◌, inl, inr, ◌<◌, ◌+◌, ℕ, ◌==◌, Bool, true, false, cond, ◌&&◌, ◌||◌, List, [], ◌∷◌, ◌++◌, length, map, reverse, Option, Some, None, refl, sym, ap, subst, ◌∙◌, slice_get, slice_set, slice_index_or, arith, if◌then◌else◌}
use Rattle.std.specs.Prelude.{⊤}
use Rattle.std.proofs.lemmas.Bool.{cases_eq, eq-eqb, ne_eqb}
use Rattle.std.proofs.lemmas.List.{reverse-append, map-append, length-map, length-reverse}
use Rattle.std.proofs.lemmas.Option.{slice_get_within}
use Rattle.lock_table.proofs.OrderLemmas.{is_one, same_self}
use Rattle.mini_tx.specs.declared.actor.Actor.{Actor}
use Rattle.mini_tx.specs.declared.entry.Entry.{Entry}
use Rattle.mini_tx.specs.declared.entry.Entry.TheVariants as entry
use Rattle.mini_tx.specs.declared.message.Message as sent
use Rattle.mini_tx.specs.declared.posted.Posted.{Posted}
use Rattle.mini_tx.specs.declared.tx_id.TxId.{TxId}
use Rattle.mini_tx.specs.declared.vote.Vote.{Vote}
use Rattle.mini_tx.specs.declared.vote.Vote.TheVariants as vote
use Rattle.mini_tx.specs.EntryGrammar.{is_granted}
use Rattle.mini_tx.specs.Laws.{IsTypedId}
use Rattle.mem_rules.specs.State.{State}
use Rattle.tx_coord.specs.Rules.{participants_of}
use Rattle.tx_rules.specs.Decision.{Record, Grant, Refuse, Commit, Abort, Forget, At}
use Rattle.tx_rules.specs.Laws.{history}
use Rattle.tx_rules.specs.Mini.{In, Mini, Setting, nodes_of}
use Rattle.tx_rules.specs.World.{World, Message, Event, Grants, Completes, Posts, after, after_all}
use Rattle.tx_rules.proofs.FaithfulLemmas.{in_front, in_back, in_either}
use Rattle.tx_rules.proofs.LawLemmas.{runs_only_add}
use Rattle.tx_actors.specs.Machine as whole
use Rattle.tx_actors.specs.Machine.{appending}
use Rattle.tx_actors.specs.Node.{View, view, own, has_grant, after_record, after_records}
use Rattle.tx_actors.proofs.AlikeLemmas.{appending_makes, others_change_nothing}
use Rattle.tx_actors.proofs.FitLemmas.{begun_all, posts_begin, appending_begins}
use Rattle.tx_cuts.proofs.CrashLemmas.{appending_elsewhere}
use Rattle.mem_laws.specs.Cells.{number}
use Rattle.mem_laws.specs.Minis.{mini_of}
use Rattle.mem_laws.specs.Shown.{Shows, decision_on, records_of}
use Rattle.mem_laws.proofs.CellLemmas.{sameness_is}
use Rattle.coord_laws.proofs.ListLemmas.{participants_are}
use Rattle.story_rules.specs.Story.{Begun, Seat, Site, Cast, Entered, Sent, Story}
use Rattle.story_rules.specs.Steps as steps
use Rattle.story_rules.specs.Steps.{log_of, has_granted, is_of, grant_in, grant_of, with_entry, with_grant, with_answer, items_of, has_write}
use Rattle.story_laws.specs.Beginnings.{WasBegun, WasBegunIf, entry_of}
use Rattle.story_laws.specs.Identifiers.{AreDistinct}
use Rattle.story_laws.specs.Sites.{node_at}
use Rattle.story_laws.proofs.BeginningLemmas.{EntryWas, some_is}
use Rattle.story_laws.specs.Casts.{AreCast}
use Rattle.story_laws.proofs.CompleteLemmas.{not_both}
use Rattle.story_laws.proofs.CastLemmas.{new_casts, grant_casts, set_length, set_here}
use Rattle.story_laws.proofs.IdentifierLemmas.{HaveSame, get_same, get_other, counted_same}
use Rattle.story_laws.proofs.OutcomeLemmas.{own_items}
use Rattle.story_laws.proofs.SiteLemmas.{TakesEntry, with_one, counted_takes}
use Rattle.story_laws.proofs.VoteLemmas.{RightIf, counted_posted, entry_there}
use Rattle.story_shown.specs.History.{IsLastCast}
use Rattle.story_shown.specs.Fits.{AreTyped}
use Rattle.story_shown.proofs.ShownLemmas.{IsShownPost, IsShownSite, IsShownSeat, Handles, IsShown, IsFit, post_more, handles_more}

-- ---- what is posted

pub posts_view : (s : Setting) (w : World) (ps : List Message) (k : ℕ) → view w k ≡ view (after_all s w (map Posts ps)) k
posts_view s w [] k = refl
posts_view s w (p ∷ ps) k = posts_view s (after s w (Posts p)) ps k

pub posts_points : (s : Setting) (w : World) (ps : List Message) → (after_all s w (map Posts ps)).points ≡ w.points
posts_points s w [] = refl
posts_points s w (p ∷ ps) = posts_points s (after s w (Posts p)) ps

pub posted_stays : (s : Setting) (w : World) (events : List Event) (y : Message) → In y w.posted → In y (after_all s w events).posted
posted_stays s w events y is = let it = (runs_only_add s w events).posted in subst (λ (l : List Message). In y l) (sym it.1) (in_back y it.0 w.posted is)

pub posts_here : (s : Setting) (w : World) (ps : List Message) (y : Message) → In y ps → In y (after_all s w (map Posts ps)).posted
posts_here s w [] y is = absurd is
posts_here s w (p ∷ ps) y is = elim is [
  | inl one ↦ posted_stays s (after s w (Posts p)) (map Posts ps) y (inl one)
  | inr rest ↦ posts_here s (after s w (Posts p)) ps y rest
]

-- ---- what is logged

-- the identifier of an entry is typed
abbrev pub IsTypedIf : Option TxId → Type 0
IsTypedIf None = ⊤
IsTypedIf (Some id) = IsTypedId id

abbrev pub AreNamesTyped : Option Entry → Type 0
AreNamesTyped None = ⊤
AreNamesTyped (Some e) = IsTypedIf (entry_of e)

was_typed : (begun : List Begun) (id : Option TxId) → AreTyped begun → WasBegunIf begun id → IsTypedIf id
was_typed begun None typed was = tt
was_typed begun (Some id) typed was = subst (λ (t : TxId). IsTypedId t) was.2 (typed was.0 was.1)

pub names_typed : (begun : List Begun) (e : Option Entry) → AreTyped begun → EntryWas begun e → AreNamesTyped e
names_typed begun None typed was = tt
names_typed begun (Some e) typed was = was_typed begun (entry_of e) typed was

module _ (s : Setting) (m : ℕ) (v : View) (id : TxId) (own_id : IsTypedId id) where
  by_grant : (x : TxId) (w : Vote) → is_granted w ≡ true → IsTypedId x
      → ((number x == number id) || has_grant v.records (number id)) ≡ (is_of id (if is_granted w then Some x else None) || has_grant v.records (number id))
  by_grant x w right typed =
      ap (λ (b : Bool). b || has_grant v.records (number id)) (sameness_is x id typed own_id)
      ∙ ap (λ (b : Bool). is_of id (if b then Some x else None) || has_grant v.records (number id)) (sym right)

  -- the machine has the grants of the entry
  record_grants : (e : Option Entry) → RightIf e → AreNamesTyped e
      → has_grant (after_records s m v (records_of e)).records (number id) ≡ (is_of id (grant_of e) || has_grant v.records (number id))
  record_grants None right typed = refl
  record_grants (Some (entry.Single x w writes)) right typed = by_grant x w right typed
  record_grants (Some (entry.Prepared x participants w ranges writes)) right typed = by_grant x w right typed
  record_grants (Some (entry.Refused x (vote.Granted reads))) right typed = absurd cc
  record_grants (Some (entry.Refused x (vote.Mismatch place kept))) right typed = refl
  record_grants (Some (entry.Refused x (vote.Locked holder))) right typed = refl
  record_grants (Some (entry.Refused x (vote.Forced floor))) right typed = refl
  record_grants (Some (entry.Refused x (vote.Held cut))) right typed = refl
  record_grants (Some (entry.Decided x true)) right typed = refl
  record_grants (Some (entry.Decided x false)) right typed = refl
  record_grants (Some (entry.Forgotten x)) right typed = refl
  record_grants (Some (entry.Cut cut)) right typed = refl
  record_grants (Some (entry.Floor x w)) right typed = absurd right

record_stays : (s : Setting) (m : ℕ) (v : View) (rs : List Record) (r : Record) → In r v.records → In r (after_records s m v rs).records
record_stays s m v [] r is = is
record_stays s m v (Grant t ∷ rs) r is = record_stays s m (after_record s m v (Grant t)) rs r (inr is)
record_stays s m v (Refuse t why ∷ rs) r is = record_stays s m (after_record s m v (Refuse t why)) rs r (inr is)
record_stays s m v (Commit t ∷ rs) r is = record_stays s m (after_record s m v (Commit t)) rs r (inr is)
record_stays s m v (Abort t ∷ rs) r is = record_stays s m (after_record s m v (Abort t)) rs r (inr is)
record_stays s m v (Forget t ∷ rs) r is = record_stays s m (after_record s m v (Forget t)) rs r (inr is)

-- and its decision
record_decides : (s : Setting) (m : ℕ) (v : View) (id : TxId) (commit : Bool) → In (decision_on (number id) commit) (after_records s m v (records_of (Some (entry.Decided id commit)))).records
record_decides s m v id true = inl refl
record_decides s m v id false = inl refl

-- ---- the log of the story

or_swapped : (a b c : Bool) → (a || (b || c)) ≡ (b || (a || c))
or_swapped true true c = refl
or_swapped true false c = refl
or_swapped false b c = refl

granted_more : (id : TxId) (log : List Entry) (e : Entry) → has_granted id (log ++ e ∷ []) ≡ (is_of id (grant_in e) || has_granted id log)
granted_more id [] e = refl
granted_more id (x ∷ log) e =
    ap (λ (b : Bool). is_of id (grant_in x) || b) (granted_more id log e) ∙ or_swapped (is_of id (grant_in x)) (is_of id (grant_in e)) (has_granted id log)

one_granted : (logs : List (List Entry)) (m : ℕ) (e : Option Entry) (id : TxId) → m < length logs
    → has_granted id (slice_index_or (with_one logs m e) m []) ≡ (is_of id (grant_of e) || has_granted id (slice_index_or logs m []))
one_granted logs m None id within = refl
one_granted logs m (Some e) id within =
    ap (has_granted id) (set_here logs m (slice_index_or logs m [] ++ e ∷ []) within) ∙ granted_more id (slice_index_or logs m []) e

-- an entry of the log afterwards was there, or is the new one
one_either : (logs : List (List Entry)) (m : ℕ) (e : Option Entry) (x : Entry) → m < length logs → In x (slice_index_or (with_one logs m e) m [])
    → In x (slice_index_or logs m []) ⊎ (e ≡ Some x)
one_either logs m None x within is = inl is
one_either logs m (Some e) x within is =
    elim (in_either x (slice_index_or logs m []) (e ∷ []) (subst (λ (l : List Entry). In x l) (set_here logs m (slice_index_or logs m [] ++ e ∷ []) within) is)) [
      | inl old ↦ inl old
      | inr new ↦ elim new [ inl one ↦ inr (ap Some (sym one)) | inr none ↦ absurd none ]
    ]

-- ---- the history

-- all have granted it in the machine where they have in the story
both_same : (a b c d : Bool) → a ≡ b → c ≡ d → (a && c) ≡ (b && d)
both_same a b c d one other = ap (λ (x : Bool). x && c) one ∙ ap (λ (x : Bool). b && x) other

all_same : (story : Story) (log : List _) (id : TxId) (ms : List ℕ) → ((k : ℕ) → has_grant (own k log) (number id) ≡ has_granted id (log_of story k))
    → whole.all_granted log (number id) ms ≡ steps.all_granted story id ms
all_same story log id [] same = refl
all_same story log id (k ∷ ms) same =
    both_same (has_grant (own k log) (number id)) (has_granted id (log_of story k)) (whole.all_granted log (number id) ms) (steps.all_granted story id ms)
    (same k) (all_same story log id ms same)

reversed_more : (ids : List TxId) (id : TxId) → reverse (map number (ids ++ id ∷ [])) ≡ number id ∷ reverse (map number ids)
reversed_more ids id = ap reverse (map-append number ids (id ∷ [])) ∙ reverse-append (map number ids) (number id ∷ [])

-- the point is made where the history grows
history_more : (s : Setting) (points : List ℕ) (ids : List TxId) (id : TxId) (all hw : Bool) → (s.mini (number id)).has_write ≡ hw → history s points ≡ reverse (map number ids)
    → history s (cond all (number id ∷ points) points) ≡ reverse (map number (if hw && all then ids ++ id ∷ [] else ids))
history_more s points ids id false true writes same = same
history_more s points ids id false false writes same = same
history_more s points ids id true true writes same =
    ap (λ (b : Bool). cond b (number id ∷ history s points) (history s points)) writes ∙ ap (λ (l : List ℕ). number id ∷ l) same ∙ sym (reversed_more ids id)
history_more s points ids id true false writes same =
    ap (λ (b : Bool). cond b (number id ∷ history s points) (history s points)) writes ∙ same

-- the event of a grant makes the point where all have granted
grant_points : (s : Setting) (w : World) (m t : ℕ) (all : Bool) → (after s w (cond all (Completes m t) (Grants m t))).points ≡ cond all (t ∷ w.points) w.points
grant_points s w m t true = refl
grant_points s w m t false = refl

module _ (s : Setting) (size : ℕ) (story : Story) (st : whole.State) (m : ℕ) (old : Site) (all : IsShown s size story st) (fit : IsFit s size story)
    (distinct : AreDistinct story.begun) (sized : length story.logs ≡ length story.sites) (there : slice_get story.sites m ≡ Some old) where
  within : m < length story.logs
  within = let bound : m < length story.sites = slice_get_within story.sites m old there in omega (arith, bound, sized)

  -- where the entry grants, the machine's points are the story's
  module _ (e : Entry) (id : TxId) (is : grant_in e ≡ Some id) (was : WasBegun story.begun id) where
    typed : IsTypedId id
    typed = subst (λ (t : TxId). IsTypedId t) was.2 (fit.typed was.0 was.1)

    items_begun : items_of story.begun id ≡ was.0.items
    items_begun = ap (items_of story.begun) (sym was.2) ∙ own_items story.begun was.0 distinct was.1

    mini_is : s.mini (number id) ≡ mini_of was.0.items
    mini_is = ap (λ (t : TxId). s.mini (number t)) (sym was.2) ∙ fit.fits.minis was.0 was.1

    nodes_are : nodes_of s (number id) ≡ participants_of (items_of story.begun id)
    nodes_are = ap (λ (x : Mini). x.nodes) mini_is ∙ sym (participants_are was.0.items) ∙ ap participants_of (sym items_begun)

    writes_are : (s.mini (number id)).has_write ≡ has_write (items_of story.begun id)
    writes_are = ap (λ (x : Mini). x.has_write) mini_is ∙ ap has_write (sym items_begun)

    abbrev now : Story
    now = with_entry story m (Some e)

    grants_here : has_grant (own m (At m (Grant (number id)) ∷ st.world.log)) (number id) ≡ has_granted id (log_of now m)
    grants_here =
        ap (λ (b : Bool). has_grant (cond b (Grant (number id) ∷ own m st.world.log) (own m st.world.log)) (number id)) (eq-eqb m m refl)
        ∙ ap (λ (b : Bool). b || has_grant (own m st.world.log) (number id)) (eq-eqb (number id) (number id) refl)
        ∙ sym (one_granted story.logs m (Some e) id within ∙ ap (λ (g : Option TxId). is_of id g || has_granted id (log_of story m)) is
        ∙ ap (λ (b : Bool). b || has_granted id (log_of story m)) (same_self id))

    grants_there : (k : ℕ) → ¬ (k ≡ m) → has_grant (own k (At m (Grant (number id)) ∷ st.world.log)) (number id) ≡ has_granted id (log_of now k)
    grants_there k other =
        ap (λ (b : Bool). has_grant (cond b (Grant (number id) ∷ own k st.world.log) (own k st.world.log)) (number id)) (ne_eqb m k (λ e_. other (sym e_)))
        ∙ all.grants k id typed ∙ ap (has_granted id) (entry_there story.logs m k (Some e) other)

    grants_are : (k : ℕ) → has_grant (own k (At m (Grant (number id)) ∷ st.world.log)) (number id) ≡ has_granted id (log_of now k)
    grants_are k = elim (cases_eq k m) [
      | inl same ↦ subst (λ (j : ℕ). has_grant (own j (At m (Grant (number id)) ∷ st.world.log)) (number id) ≡ has_granted id (log_of now j)) (sym same) grants_here
      | inr other ↦ grants_there k other
    ]

    point_is : history s (after s st.world (whole.event_of s st.world m (Grant (number id)))).points ≡ reverse (map number (steps.granted now m id).committed)
    point_is =
        let log = At m (Grant (number id)) ∷ st.world.log in
        let here = whole.all_granted log (number id) (nodes_of s (number id)) in
        let same : here ≡ steps.all_granted now id (participants_of (items_of story.begun id)) =
        ap (whole.all_granted log (number id)) nodes_are ∙ all_same now log id (participants_of (items_of story.begun id)) grants_are in
        ap (history s) (grant_points s st.world m (number id) here ∙ ap (λ (b : Bool). cond b (number id ∷ st.world.points) st.world.points) same)
        ∙ history_more s st.world.points story.committed id (steps.all_granted now id (participants_of (items_of story.begun id))) (has_write (items_of story.begun id)) writes_are all.history

  granted_history : (e : Entry) (x : TxId) (v : Vote) → is_granted v ≡ true → grant_in e ≡ (if is_granted v then Some x else None) → WasBegun story.begun x
      → history s (after s st.world (whole.event_of s st.world m (Grant (number x)))).points ≡ reverse (map number (with_grant (with_entry story m (Some e)) m (grant_in e)).committed)
  granted_history e x v right same was =
      let is : grant_in e ≡ Some x = same ∙ ap (λ (b : Bool). if b then Some x else None) right in
      point_is e x is was ∙ ap (λ (g : Option TxId). reverse (map number (with_grant (with_entry story m (Some e)) m g).committed)) (sym is)

  -- whatever the entry
  history_is : (e : Option Entry) → RightIf e → EntryWas story.begun e
      → history s (after_all s st.world (appending s st.world m (records_of e))).points ≡ reverse (map number (with_grant (with_entry story m e) m (grant_of e)).committed)
  history_is None right was = all.history
  history_is (Some (entry.Single x v writes)) right was = granted_history (entry.Single x v writes) x v right refl was
  history_is (Some (entry.Prepared x participants v ranges writes)) right was = granted_history (entry.Prepared x participants v ranges writes) x v right refl was
  history_is (Some (entry.Refused x (vote.Granted reads))) right was = absurd cc
  history_is (Some (entry.Refused x (vote.Mismatch place kept))) right was = all.history
  history_is (Some (entry.Refused x (vote.Locked holder))) right was = all.history
  history_is (Some (entry.Refused x (vote.Forced floor))) right was = all.history
  history_is (Some (entry.Refused x (vote.Held cut))) right was = all.history
  history_is (Some (entry.Decided x true)) right was = all.history
  history_is (Some (entry.Decided x false)) right was = all.history
  history_is (Some (entry.Forgotten x)) right was = all.history
  history_is (Some (entry.Cut cut)) right was = all.history
  history_is (Some (entry.Floor x v)) right was = absurd right

-- ---- when votes were cast

-- the last cast stays the last where others are cast on other identifiers
last_more : (id : TxId) (at : ℕ) (before now : List Cast) → ((c : Cast) → In c before → In c now) → ((m k : ℕ) → In (Entered id m k) now → In (Entered id m k) before)
    → IsLastCast before id at → IsLastCast now id at
last_more id at before now stays back was = record { memory = was.memory; there = stays (Entered id was.memory at) was.there; last = λ m k is. was.last m k (back m k is) }

entry_casts : (story : Story) (m : ℕ) (e : Option Entry) → (with_entry story m e).casts ≡ story.casts
entry_casts story m None = refl
entry_casts story m (Some e) = refl

entry_committed : (story : Story) (m : ℕ) (e : Option Entry) → (with_entry story m e).committed ≡ story.committed
entry_committed story m None = refl
entry_committed story m (Some e) = refl

module _ (story : Story) (m : ℕ) (sender : Actor) (e : Option Entry) where
  granted_casts : (with_grant (with_entry story m e) m (grant_of e)).casts ≡ story.casts ++ new_casts m (length story.committed) (grant_of e)
  granted_casts =
      grant_casts (with_entry story m e) m (grant_of e)
      ∙ ap (λ (cs : List Cast). cs ++ new_casts m (length (with_entry story m e).committed) (grant_of e)) (entry_casts story m e)
      ∙ ap (λ (ids : List TxId). story.casts ++ new_casts m (length ids) (grant_of e)) (entry_committed story m e)

  -- an answer casts no vote with an entry
  answer_stays : (answer : Option sent.Message) (c : Cast) → In c (with_grant (with_entry story m e) m (grant_of e)).casts → In c (steps.counted story m sender e answer).casts
  answer_stays None c is = is
  answer_stays (Some x) c is = go (steps.is_look (with_grant (with_entry story m e) m (grant_of e)).begun x)
    where
      go : (b : Bool) → In c (if b then (with_grant (with_entry story m e) m (grant_of e)).casts ++ Sent (length (with_grant (with_entry story m e) m (grant_of e)).posted + 1) (length (with_grant (with_entry story m e) m (grant_of e)).committed) ∷ [] else (with_grant (with_entry story m e) m (grant_of e)).casts)
      go true = in_front c (with_grant (with_entry story m e) m (grant_of e)).casts _ is
      go false = is

  answer_back : (answer : Option sent.Message) (id : TxId) (k at : ℕ) → In (Entered id k at) (steps.counted story m sender e answer).casts
      → In (Entered id k at) (with_grant (with_entry story m e) m (grant_of e)).casts
  answer_back None id k at is = is
  answer_back (Some x) id k at is_ = go (steps.is_look (with_grant (with_entry story m e) m (grant_of e)).begun x) is_
    where
      go : (b : Bool) → In (Entered id k at) (if b then (with_grant (with_entry story m e) m (grant_of e)).casts ++ Sent (length (with_grant (with_entry story m e) m (grant_of e)).posted + 1) (length (with_grant (with_entry story m e) m (grant_of e)).committed) ∷ [] else (with_grant (with_entry story m e) m (grant_of e)).casts)
          → In (Entered id k at) (with_grant (with_entry story m e) m (grant_of e)).casts
      go true is = elim (in_either (Entered id k at) (with_grant (with_entry story m e) m (grant_of e)).casts _ is) [
        | inl old ↦ old
        | inr last ↦ elim last [ inl one ↦ absurd (not_sent one) | inr none_ ↦ absurd none_ ]
      ]
        where
          not_sent : {x_ y_ : ℕ} → Entered id k at ≡ Sent x_ y_ → ⊥
          not_sent one = cc
      go false is = is

  cast_stays : (answer : Option sent.Message) (c : Cast) → In c story.casts → In c (steps.counted story m sender e answer).casts
  cast_stays answer c is =
      answer_stays answer c (subst (λ (cs : List Cast). In c cs) (sym granted_casts) (in_front c story.casts (new_casts m (length story.committed) (grant_of e)) is))

  new_is : (g : Option TxId) (id : TxId) (k at : ℕ) → In (Entered id k at) (new_casts m (length story.committed) g) → (g ≡ Some id) × (at ≡ length story.committed)
  new_is None id k at is = absurd is
  new_is (Some g) id k at is = elim is [ inl one ↦ (ap Some (same_id one), same_at one) | inr none_ ↦ absurd none_ ]
    where
      same_id : Entered id k at ≡ Entered g m (length story.committed) → g ≡ id
      same_id one = cc

      same_at : Entered id k at ≡ Entered g m (length story.committed) → at ≡ length story.committed
      same_at one = cc

  cast_back : (answer : Option sent.Message) (id : TxId) (k at : ℕ) → In (Entered id k at) (steps.counted story m sender e answer).casts
      → In (Entered id k at) story.casts ⊎ ((grant_of e ≡ Some id) × (at ≡ length story.committed))
  cast_back answer id k at is = elim (in_either (Entered id k at) story.casts (new_casts m (length story.committed) (grant_of e)) (subst (λ (cs : List Cast). In (Entered id k at) cs) granted_casts (answer_back answer id k at is))) [
    | inl old ↦ inl old
    | inr new ↦ inr (new_is (grant_of e) id k at new)
  ]

-- ---- the step

counted_refused : (story : Story) (m : ℕ) (sender : Actor) (e : Option Entry) (answer : Option sent.Message) → (steps.counted story m sender e answer).refused ≡ story.refused
counted_refused story m sender e answer = by_answer answer ∙ by_grant (with_entry story m e) (grant_of e) ∙ by_entry e
  where
    by_entry : (x : Option Entry) → (with_entry story m x).refused ≡ story.refused
    by_entry None = refl
    by_entry (Some x) = refl

    by_grant : (one : Story) (g : Option TxId) → (with_grant one m g).refused ≡ one.refused
    by_grant one None = refl
    by_grant one (Some id) = refl

    by_answer : (a : Option sent.Message) → (steps.counted story m sender e a).refused ≡ (with_grant (with_entry story m e) m (grant_of e)).refused
    by_answer None = refl
    by_answer (Some x) = refl

module _ (s : Setting) (size : ℕ) (story : Story) (st : whole.State) (m : ℕ) (sender : Actor) (e : Option Entry) (answer : Option sent.Message) (old site : Site) (ps : List Message) where
  abbrev pub logged : World
  logged = after_all s st.world (appending s st.world m (records_of e))

  abbrev pub reached : whole.State
  reached = record st { world = after_all s logged (map Posts ps) }

  abbrev pub told : Story
  told = steps.with_site (steps.counted story m sender e answer) m site

  pub record IsNodeChange : Type 0 where
    pub distinct : AreDistinct story.begun
    pub sized : length story.logs ≡ length story.sites
    pub there : slice_get story.sites m ≡ Some old
    pub right : RightIf e
    pub was : EntryWas story.begun e
    pub shows : IsShownSite s size (length story.nodes) m (node_at site).state logged
    pub handles : Handles told m site
    pub cast : AreCast story
    pub pointed : (t : ℕ) → In t st.world.points → In m (nodes_of s t) → has_grant (own m st.world.log) t ≡ true
    pub grants_new : (g : TxId) → grant_of e ≡ Some g → (has_grant (own m st.world.log) (number g) ≡ false) × In m (nodes_of s (number g))
    pub answered : (p : Posted) → In p (steps.answered m sender answer) → IsShownPost s reached.world p.from p.to p.message

  module _ (all : IsShown s size story st) (fit : IsFit s size story) (change : IsNodeChange) where
    here_view : view reached.world m ≡ after_records s m (view st.world m) (records_of e)
    here_view = sym (posts_view s logged ps m) ∙ appending_makes s m st.world (records_of e)

    there_view : (k : ℕ) → ¬ (k ≡ m) → view st.world k ≡ view reached.world k
    there_view k other =
        sym (others_change_nothing s k st.world (appending s st.world m (records_of e)) (appending_elsewhere s st.world k m (records_of e) (λ same. other (sym same))))
        ∙ posts_view s logged ps k

    inside : m < length story.logs
    inside = let bound : m < length story.sites = slice_get_within story.sites m old change.there in let same = change.sized in omega (arith, bound, same)

    log_is : (k : ℕ) → slice_index_or (with_one story.logs m e) k [] ≡ log_of told k
    log_is k = ap (λ (ls : List (List Entry)). slice_index_or ls k []) (sym (counted_takes story m sender e answer).logs)

    site_at : (k : ℕ) (x : Site) → slice_get (slice_set story.sites m site) k ≡ Some x → (k ≡ m) ⊎ (¬ (k ≡ m)) → IsShownSite s size (length story.nodes) k (node_at x).state reached.world
    site_at k x is (inl same) =
        let one : x ≡ site = some_is site x (sym (get_same story.sites m old site change.there) ∙ subst (λ (j : ℕ). slice_get (slice_set story.sites m site) j ≡ Some x) same is) in
        subst (λ (y : Site). IsShownSite s size (length story.nodes) k (node_at y).state reached.world) (sym one)
        (subst (λ (j : ℕ). IsShownSite s size (length story.nodes) j (node_at site).state reached.world) (sym same) (record {
          shows = subst (λ (v : View). Shows s m (node_at site).state v) (posts_view s logged ps m) change.shows.shows;
          sized = change.shows.sized;
          floors = change.shows.floors;
        }))
    site_at k x is (inr other) =
        let was = all.sites k x (sym (get_other story.sites m k site other) ∙ is) in
        record {
          shows = subst (λ (v : View). Shows s k (node_at x).state v) (there_view k other) was.shows;
          sized = was.sized;
          floors = was.floors;
        }

    handles_at : (k : ℕ) (x : Site) → slice_get (slice_set story.sites m site) k ≡ Some x → (k ≡ m) ⊎ (¬ (k ≡ m)) → Handles told k x
    handles_at k x is (inl same) =
        let one : x ≡ site = some_is site x (sym (get_same story.sites m old site change.there) ∙ subst (λ (j : ℕ). slice_get (slice_set story.sites m site) j ≡ Some x) same is) in
        subst (λ (j : ℕ). Handles told j x) (sym same) (subst (λ (y : Site). Handles told m y) (sym one) change.handles)
    handles_at k x is (inr other) =
        handles_more story told k x (steps.answered m sender answer, counted_posted story m sender e answer) (all.handling k x (sym (get_other story.sites m k site other) ∙ is))

    grants_at : (k : ℕ) (id : TxId) → IsTypedId id → (k ≡ m) ⊎ (¬ (k ≡ m)) → has_grant (own k reached.world.log) (number id) ≡ has_granted id (log_of told k)
    grants_at k id typed (inl same) =
        subst (λ (j : ℕ). has_grant (own j reached.world.log) (number id) ≡ has_granted id (log_of told j)) (sym same)
        (ap (λ (v : View). has_grant v.records (number id)) here_view
        ∙ record_grants s m (view st.world m) id typed e change.right (names_typed story.begun e fit.typed change.was)
        ∙ ap (λ (b : Bool). is_of id (grant_of e) || b) (all.grants m id typed)
        ∙ sym (one_granted story.logs m e id inside) ∙ ap (has_granted id) (log_is m))
    grants_at k id typed (inr other) =
        ap (λ (v : View). has_grant v.records (number id)) (sym (there_view k other)) ∙ all.grants k id typed
        ∙ ap (has_granted id) (entry_there story.logs m k e other ∙ log_is k)

    decided_new : (id : TxId) (commit : Bool) → e ≡ Some (entry.Decided id commit) → In (decision_on (number id) commit) (after_records s m (view st.world m) (records_of e)).records
    decided_new id commit is =
        subst (λ (x : Option Entry). In (decision_on (number id) commit) (after_records s m (view st.world m) (records_of x)).records) (sym is)
        (record_decides s m (view st.world m) id commit)

    decided_at : (k : ℕ) (id : TxId) (commit : Bool) → In (entry.Decided id commit) (slice_index_or (with_one story.logs m e) k []) → (k ≡ m) ⊎ (¬ (k ≡ m))
        → In (decision_on (number id) commit) (own k reached.world.log)
    decided_at k id commit is (inl same) =
        subst (λ (j : ℕ). In (decision_on (number id) commit) (own j reached.world.log)) (sym same)
        (subst (λ (v : View). In (decision_on (number id) commit) v.records) (sym here_view)
        (elim (one_either story.logs m e (entry.Decided id commit) inside (subst (λ (j : ℕ). In (entry.Decided id commit) (slice_index_or (with_one story.logs m e) j [])) same is)) [
          | inl was ↦ record_stays s m (view st.world m) (records_of e) (decision_on (number id) commit) (all.decided m id commit was)
          | inr new ↦ decided_new id commit new
        ]))
    decided_at k id commit is (inr other) =
        subst (λ (v : View). In (decision_on (number id) commit) v.records) (there_view k other)
        (all.decided k id commit (subst (λ (l : List Entry). In (entry.Decided id commit) l) (sym (entry_there story.logs m k e other)) is))

    stays : (y : Message) → In y st.world.posted → In y reached.world.posted
    stays y is = posted_stays s logged (map Posts ps) y (posted_stays s st.world (appending s st.world m (records_of e)) y is)

    granted_points : (d : Entry) (x : TxId) (v : Vote) → is_granted v ≡ true → grant_in d ≡ (if is_granted v then Some x else None) → WasBegun story.begun x
        → ((after s st.world (whole.event_of s st.world m (Grant (number x)))).points ≡ st.world.points)
        ⊎ ((g : TxId) × (grant_in d ≡ Some g) × WasBegun story.begun g × ((after s st.world (whole.event_of s st.world m (Grant (number x)))).points ≡ number g ∷ st.world.points))
    granted_points d x v right same was = go (whole.all_granted (At m (Grant (number x)) ∷ st.world.log) (number x) (nodes_of s (number x)))
      where
        go : (b : Bool) → ((after s st.world (cond b (Completes m (number x)) (Grants m (number x)))).points ≡ st.world.points)
            ⊎ ((g : TxId) × (grant_in d ≡ Some g) × WasBegun story.begun g × ((after s st.world (cond b (Completes m (number x)) (Grants m (number x)))).points ≡ number g ∷ st.world.points))
        go true = inr (x, same ∙ ap (λ (t : Bool). if t then Some x else None) right, was, refl)
        go false = inl refl

    -- the points are as before, or this entry makes one
    points_are : (x : Option Entry) → RightIf x → EntryWas story.begun x
        → ((after_all s st.world (appending s st.world m (records_of x))).points ≡ st.world.points)
        ⊎ ((g : TxId) × (grant_of x ≡ Some g) × WasBegun story.begun g × ((after_all s st.world (appending s st.world m (records_of x))).points ≡ number g ∷ st.world.points))
    points_are None right was = inl refl
    points_are (Some (entry.Single x v writes)) right was = granted_points (entry.Single x v writes) x v right refl was
    points_are (Some (entry.Prepared x participants v ranges writes)) right was = granted_points (entry.Prepared x participants v ranges writes) x v right refl was
    points_are (Some (entry.Refused x (vote.Granted reads))) right was = absurd cc
    points_are (Some (entry.Refused x (vote.Mismatch place kept))) right was = inl refl
    points_are (Some (entry.Refused x (vote.Locked holder))) right was = inl refl
    points_are (Some (entry.Refused x (vote.Forced floor))) right was = inl refl
    points_are (Some (entry.Refused x (vote.Held cut))) right was = inl refl
    points_are (Some (entry.Decided x true)) right was = inl refl
    points_are (Some (entry.Decided x false)) right was = inl refl
    points_are (Some (entry.Forgotten x)) right was = inl refl
    points_are (Some (entry.Cut cut)) right was = inl refl
    points_are (Some (entry.Floor x v)) right was = absurd right

    -- nothing is cast anew on what has its point
    not_again : (id : TxId) → IsTypedId id → (later before : List ℕ) → st.world.points ≡ later ++ number id ∷ before → grant_of e ≡ Some id → ⊥
    not_again id typed later before split is =
        let new = change.grants_new id is in
        let there = change.pointed (number id) (subst (λ (l : List ℕ). In (number id) l) (sym split) (in_back (number id) later (number id ∷ before) (inl refl))) new.1 in
        not_both (has_grant (own m st.world.log) (number id)) there new.0

    old_moment : (id : TxId) → IsTypedId id → (later before : List ℕ) → st.world.points ≡ later ++ number id ∷ before → IsLastCast told.casts id (length (history s before))
    old_moment id typed later before split =
        last_more id (length (history s before)) story.casts told.casts (cast_stays story m sender e answer)
        (λ k at is. elim (cast_back story m sender e answer id k at is) [ inl old ↦ old | inr new ↦ absurd (not_again id typed later before split new.0) ])
        (all.moments id typed later before split)

    new_moment : (id g : TxId) → IsTypedId id → IsTypedId g → grant_of e ≡ Some g → number g ≡ number id → IsLastCast told.casts id (length (history s st.world.points))
    new_moment id g typed typed_g is same =
        let one : g ≡ id = is_one g id (sym (sameness_is g id typed_g typed) ∙ eq-eqb (number g) (number id) same) in
        let place : length story.committed ≡ length (history s st.world.points) =
        sym (ap (length {A = ℕ}) all.history ∙ length-reverse (map number story.committed) ∙ length-map story.committed number) in
        let here : In (Entered g m (length story.committed)) told.casts =
        answer_stays story m sender e answer (Entered g m (length story.committed))
        (subst (λ (cs : List Cast). In (Entered g m (length story.committed)) cs) (sym (granted_casts story m sender e))
        (in_back (Entered g m (length story.committed)) story.casts (new_casts m (length story.committed) (grant_of e))
        (subst (λ (o : Option TxId). In (Entered g m (length story.committed)) (new_casts m (length story.committed) o)) (sym is) (inl refl)))) in
        record {
          memory = m;
          there = subst (λ (at : ℕ). In (Entered id m at) told.casts) place (subst (λ (t : TxId). In (Entered t m (length story.committed)) told.casts) one here);
          last = λ k at there_. elim (cast_back story m sender e answer id k at there_) [
            | inl old ↦ let few = change.cast.moments (Entered id k at) old in omega (arith, few, place)
            | inr new ↦ let now_ = new.1 in omega (arith, now_, place)
          ];
        }

    moment_is : (id : TxId) → IsTypedId id → (later before : List ℕ) → logged.points ≡ later ++ number id ∷ before → IsLastCast told.casts id (length (history s before))
    moment_is id typed later before split = elim (points_are e change.right change.was) [
      | inl same ↦ old_moment id typed later before (sym same ∙ split)
      | inr made ↦ at_front later made.0 (sym made.3 ∙ split) made.1 made.2
    ]
      where
        at_front : (l : List ℕ) (g : TxId) → number g ∷ st.world.points ≡ l ++ number id ∷ before → grant_of e ≡ Some g → WasBegun story.begun g
            → IsLastCast told.casts id (length (history s before))
        at_front [] g is granted was =
            let rest : st.world.points ≡ before = cc in
            let front : number g ≡ number id = cc in
            subst (λ (ts : List ℕ). IsLastCast told.casts id (length (history s ts))) rest
            (new_moment id g typed (subst (λ (t : TxId). IsTypedId t) was.2 (fit.typed was.0 was.1)) granted front)
        at_front (t ∷ l) g is granted was = old_moment id typed l before cc

    pub node_shown : IsShown s size told reached
    node_shown = record {
      places = set_length (steps.counted story m sender e answer).sites m site ∙ ap (length {A = Site}) takes.sites ∙ all.places ∙ sym (ap (length {A = State}) takes.opening);
      sites = λ k x is. subst (λ (n : ℕ). IsShownSite s size n k (node_at x).state reached.world) (ap (length {A = Seat}) (sym same.nodes))
          (site_at k x (subst (λ (ss : List Site). slice_get (slice_set ss m site) k ≡ Some x) takes.sites is) (cases_eq k m));
      handling = λ k x is. handles_at k x (subst (λ (ss : List Site). slice_get (slice_set ss m site) k ≡ Some x) takes.sites is) (cases_eq k m);
      grants = λ k id typed. grants_at k id typed (cases_eq k m);
      decided = λ k id commit is. decided_at k id commit (subst (λ (l : List Entry). In (entry.Decided id commit) l) (sym (log_is k)) is) (cases_eq k m);
      seats = λ n seat is. subst (λ (bs : List Begun). IsShownSeat s bs n seat.boot seat.actor (st.coordinator n) st.outcomes) (sym same.begun)
          (all.seats n seat (subst (λ (xs : List Seat). slice_get xs n ≡ Some seat) same.nodes is));
      posted = λ p is. elim (in_either p story.posted (steps.answered m sender answer) (subst (λ (xs : List Posted). In p xs) (counted_posted story m sender e answer) is)) [
        | inl was ↦ post_more s st.world reached.world stays p.from p.to p.message (all.posted p was)
        | inr new ↦ change.answered p new
      ];
      begun = λ b is. begun_all s logged (map Posts ps) (number b.id) (begun_all s st.world (appending s st.world m (records_of e)) (number b.id)
          (all.begun b (subst (λ (bs : List Begun). In b bs) same.begun is)));
      known = λ t is.
          let it = all.known t (appending_begins s st.world m (records_of e) t (posts_begin s logged ps t is)) in
          (it.0, subst (λ (bs : List Begun). In it.0 bs) (sym same.begun) it.1, it.2);
      history = ap (history s) (posts_points s logged ps)
          ∙ history_is s size story st m old all fit change.distinct change.sized change.there e change.right change.was
          ∙ ap (λ (ids : List TxId). reverse (map number ids)) (answer_committed answer);
      refused = λ id is. all.refused id (subst (λ (ids : List TxId). In id ids) (counted_refused story m sender e answer) is);
      moments = λ id typed later before split. moment_is id typed later before (sym (posts_points s logged ps) ∙ split);
    }
      where
        takes : TakesEntry story m e (steps.counted story m sender e answer)
        takes = counted_takes story m sender e answer

        same : HaveSame story (steps.counted story m sender e answer)
        same = counted_same story m sender e answer

        answer_committed : (a : Option sent.Message) → (with_grant (with_entry story m e) m (grant_of e)).committed ≡ (steps.counted story m sender e a).committed
        answer_committed None = refl
        answer_committed (Some x) = refl
