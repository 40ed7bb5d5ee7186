-- That a delivery to a memory node is that of the story.
use Rattle.std.proofs.Common.{◌≡◌, ◌⊎◌, ◌<◌, inl, inr, ℕ, zero, suc, Bool, true, false, List, [], ◌∷◌, ◌++◌, length, get_or, Option, Some, None, Result, refl, sym, ap, subst, ◌∙◌, arith, slice_set, if◌then◌else◌}
use Rattle.std.specs.List.{slice_get}
use Rattle.std.specs.Result.{IfOk}
use Rattle.std.proofs.Math.Path.{fun_ext}
use Rattle.std.proofs.lemmas.List.{append-nil}
use Rattle.std.proofs.lemmas.Result.{IfOk-weaker}
use Rattle.disk_model.specs.Crash.{History}
use Rattle.disk_model.specs.declared.disk.Disk.{Ghosts}
use Rattle.disk_model.specs.Health.{Health}
use Rattle.link_model.specs.Links.{numbered}
use Rattle.mini_tx.specs.declared.actor.Actor.{Actor}
use Rattle.mini_tx.specs.declared.actor.Actor.TheVariants.{Memory}
use Rattle.mini_tx.specs.declared.geometry.Geometry4.{Geometry4}
use Rattle.mini_tx.specs.declared.message.Message.{Message}
use Rattle.mini_tx.specs.declared.posted.Posted.{Posted}
use Rattle.mini_tx.specs.declared.tx_id.TxId.{TxId}
use Rattle.tx_coord.specs.State.{Machine}
use Rattle.story_rules.specs.MemoryNodes.{MemoryNode, reaction}
use Rattle.story_rules.specs.Story.{Begun, Seat, Site, Story, Up, Down}
use Rattle.story_rules.specs.Steps as steps
use Rattle.story_rules.specs.Steps.{How, answered, grant_of, message_at, with_entry, with_grant, counted, with_site, delivered, given, to_receiver, to_memory}
use Rattle.story_laws.specs.Acts.{IsTold}
use Rattle.story_laws.proofs.IdentifierLemmas.{counted_same}
use Rattle.story_laws.proofs.SiteLemmas.{counted_takes}
use Rattle.story_laws.proofs.VoteLemmas.{counted_posted}
use Rattle.cluster_laws.specs.Doubts.{Waits, AreInDoubt, points_of, waits_after, LeavesDoubts}
use Rattle.cluster_laws.specs.Reactions.{grants, may_grant}
use Rattle.cluster_laws.proofs.DoubtLemmas.{counts_keep_doubts, doubts_are_alike, refused_are_not_in_doubt}
use Rattle.cluster_laws.proofs.ReactionLemmas.{answers_tell_grants}
use Rattle.cluster_parts.specs.Books.{IsBook, doubts_of, history_of}
use Rattle.cluster_parts.specs.Slots.{Answers, IsAt, is_down_in, site_after, state_at}
use Rattle.cluster_parts.specs.declared.book.Book.{Book}
use Rattle.cluster_parts.specs.declared.delivered.Delivered.{Delivered}
use Rattle.cluster_parts.specs.declared.delivered.Delivered.TheVariants.{Lost, Handled, WentDown}
use Rattle.cluster_parts.specs.declared.delivered.DownCause.{DownCause}
use Rattle.cluster_parts.specs.declared.delivered.DownCause.TheVariants.{Stop, Fault, Full}
use Rattle.cluster_parts.specs.declared.delivered.Handled as fate
use Rattle.cluster_parts.specs.declared.delivered.Handled.TheVariants.{Answered, Fell}
use Rattle.cluster_parts.specs.declared.memory_slot.MemorySlot.{MemorySlot}
use Rattle.cluster_memories.specs.Memories.{AreAt, AreRested, setup_for}
use Rattle.cluster_memories.proofs.MemoryLemmas.{got}
use Rattle.cluster_memories.proofs.RestLemmas.{rested_more}
use Rattle.cluster_steps.specs.Live.{AreSeated, Goes, IsLive, Settles, how_of, vote_from, vote_number}
use Rattle.cluster_steps.specs.declared.went.Went.{Went}

not_both : (b : Bool) → b ≡ true → b ≡ false → ⊥
not_both true is other = absurd cc
not_both false is other = absurd cc

one_some : {A : Type 0} (x y : A) → ◌≡◌ {A = Option A} (Some x) (Some y) → x ≡ y
one_some x y is = cc

some_at : {A : Type 0} (xs : List A) (n : ℕ) → n < length xs → (x : A) × (slice_get xs n ≡ Some x)
some_at [] n below = absurd (omega (arith, below))
some_at (x ∷ xs) zero below = (x, refl)
some_at (x ∷ xs) (suc n) below = some_at xs n (omega (arith, below))

-- a book with the same history and doubts
book_moved : (story now : Story) (old book : Book) → IsBook old story → now.committed ≡ story.committed → AreInDoubt now (doubts_of old) → history_of book ≡ history_of old
    → ((id : TxId) → doubts_of book id ≡ doubts_of old id) → IsBook book now
book_moved story now old book is same doubts history alike = record {
  committed = history ∙ is.committed ∙ sym same;
  doubts = doubts_are_alike now (doubts_of old) (doubts_of book) doubts alike;
}

-- a site changes what is in doubt in nothing
site_doubts : (story : Story) (m : ℕ) (site : Site) (waits : Waits) → AreInDoubt story waits → AreInDoubt (with_site story m site) waits
site_doubts story m site waits doubts =
    refused_are_not_in_doubt story (with_site story m site) [] waits (record { begun = refl; logs = refl; committed = refl; refused = sym (append-nil story.refused) }) doubts

module _ {D : Type 0} {G : Ghosts D} (size : ℕ) (g : Geometry4) (old new : List (MemorySlot D G)) (nodes : List Machine) (before now : List Posted → Type 0) (was mid book : Book)
    (m : ℕ) (from : Actor) (x : Message) (story : Story) (k : ℕ) (p : Posted) (told : IsTold size story) (posted : message_at story k ≡ Some p)
    (is_p : p ≡ record { from = from; to = Memory m; message = x }) (live : IsLive g old nodes before was story) where
  to_m : p.to ≡ Memory m
  to_m = ap (λ (q : Posted). q.to) is_p

  is_x : p.message ≡ x
  is_x = ap (λ (q : Posted). q.message) is_p

  is_from : p.from ≡ from
  is_from = ap (λ (q : Posted). q.from) is_p

  delivery : (how : How) (o : Option Site) → slice_get story.sites m ≡ o → delivered story k how ≡ to_memory story m k p how o
  delivery how o site = ap (given story k how) posted ∙ ap (to_receiver story k how p) to_m ∙ ap (to_memory story m k p how) site

  -- ---- it is down

  lost : (slot : MemorySlot D G) → slice_get old m ≡ Some slot → is_down_in slot ≡ true → (site : Site) → slice_get story.sites m ≡ Some site → delivered story k steps.Lost ≡ story
  lost slot at down (Up n) there = absurd (not_both (is_down_in slot) down (live.memories.each m slot (Up n) at there).0)
  lost slot at down (Down n handling) there = delivery steps.Lost (Some (Down n handling)) there

  -- ---- it runs

  up_site : (slot : MemorySlot D G) → slice_get old m ≡ Some slot → is_down_in slot ≡ false → (site : Site) → slice_get story.sites m ≡ Some site
      → (n : MemoryNode) × (slice_get story.sites m ≡ Some (Up n)) × (state_at slot ≡ n.state)
  up_site slot at up (Up n) there = (n, there, ap (λ (k : MemoryNode). k.state) (live.memories.each m slot (Up n) at there).2)
  up_site slot at up (Down n handling) there = absurd (not_both (is_down_in slot) (live.memories.each m slot (Down n handling) at there).0 up)

  module _ (n : MemoryNode) (site : slice_get story.sites m ≡ Some (Up n)) (may : Option TxId) (may_is : may ≡ may_grant n.state x) (history : history_of mid ≡ history_of was)
      (doubts : (id : TxId) → doubts_of mid id ≡ doubts_of was id) where
    same_doubts : doubts_of mid ≡ doubts_of was
    same_doubts = fun_ext doubts

    -- ---- it went down

    fell_live : (how : How) (down : Site) → delivered story k how ≡ with_site story m down → AreAt g new (slice_set story.sites m down) → book ≡ mid
        → ((ps : List Posted) → before ps → now ps) → IsLive g new nodes now book (delivered story k how)
    fell_live how down is at same stands = subst (IsLive g new nodes now book) (sym is) (record {
      memories = at;
      seats = live.seats;
      posted = stands story.posted live.posted;
      counts = book_moved story (with_site story m down) was book live.counts refl (site_doubts story m down (doubts_of was) live.counts.doubts) (ap history_of same ∙ history)
          (λ id. ap (λ (b : Book). doubts_of b id) same ∙ doubts id);
    })

    -- ---- it answered

    abbrev after : Story
    after = with_site (counted story m p.from (reaction n p.message).entry (reaction n p.message).answer) m (Up (reaction n p.message).now)

    is_after : delivered story k steps.Handled ≡ after
    is_after = delivery steps.Handled (Some (Up n)) site

    granted_is : (answer : Option Message) → answer ≡ (reaction n x).answer → grants may answer ≡ grant_of (reaction n p.message).entry
    granted_is answer is =
        ap (λ (t : Option TxId). grants t answer) may_is ∙ ap (grants (may_grant n.state x)) is ∙ sym (answers_tell_grants n x)
        ∙ ap (λ (y : Message). grant_of (reaction n y).entry) (sym is_x)

    answered_live : (answer : Option Message) → answer ≡ (reaction n x).answer → AreAt g new (slice_set story.sites m (Up (reaction n x).now))
        → history_of book ≡ history_of mid ++ points_of (doubts_of mid) (grants may answer) m
        → ((id : TxId) → doubts_of book id ≡ waits_after (doubts_of mid) (grants may answer) m id)
        → ((ps : List Posted) → before ps → now (ps ++ answered m from answer)) → IsLive g new nodes now book (delivered story k steps.Handled)
    answered_live answer is at counted_ waits stands = record {
      memories = subst (λ (s : Story). AreAt g new s.sites) (sym is_after)
          (subst (λ (ss : List Site). AreAt g new (slice_set ss m (Up (reaction n p.message).now)))
          (sym (counted_takes story m p.from (reaction n p.message).entry (reaction n p.message).answer).sites)
          (subst (λ (y : Message). AreAt g new (slice_set story.sites m (Up (reaction n y).now))) (sym is_x) at));
      seats = subst (λ (s : Story). AreSeated nodes s.nodes) (sym is_after)
          (subst (λ (ss : List Seat). AreSeated nodes ss) (sym (counted_same story m p.from (reaction n p.message).entry (reaction n p.message).answer).nodes) live.seats);
      posted = subst (λ (s : Story). now s.posted) (sym is_after)
          (subst now (sym (counted_posted story m p.from (reaction n p.message).entry (reaction n p.message).answer))
          (subst (λ (q : Posted). now (story.posted ++ answered m q.from (reaction n q.message).answer)) (sym is_p)
          (subst (λ (a : Option Message). now (story.posted ++ answered m from a)) is (stands story.posted live.posted))));
      counts = record {
        committed = counted_
            ∙ ap (λ (w : Waits). history_of mid ++ points_of w (grants may answer) m) same_doubts
            ∙ ap (λ (t : Option TxId). history_of mid ++ points_of (doubts_of was) t m) (granted_is answer is)
            ∙ ap (λ (h : List TxId). h ++ points_of (doubts_of was) (grant_of (reaction n p.message).entry) m) (history ∙ live.counts.committed)
            ∙ sym kept.1;
        doubts = doubts_are_alike (delivered story k steps.Handled) (waits_after (doubts_of was) (grant_of (reaction n p.message).entry) m) (doubts_of book) kept.0
            (λ id. waits id ∙ ap (λ (w : Waits). waits_after w (grants may answer) m id) same_doubts
            ∙ ap (λ (t : Option TxId). waits_after (doubts_of was) t m id) (granted_is answer is));
      };
    }
      where
        kept : AreInDoubt (delivered story k steps.Handled) (waits_after (doubts_of was) (grant_of (reaction n p.message).entry) m)
            × ((delivered story k steps.Handled).committed ≡ story.committed ++ points_of (doubts_of was) (grant_of (reaction n p.message).entry) m)
        kept = counts_keep_doubts size story k m p n (doubts_of was) told posted to_m site live.counts.doubts

    -- ---- each of these

    module _ (tells : D → Type 0) (history_ : D → History) (health : D → Health) where
      abbrev GoesOn : Went → Type 0
      GoesOn went = Goes tells history_ health g old new nodes now book story k m x went

      abbrev Rested : List Posted → List (MemorySlot D G) → List Site → Type 0
      Rested ps slots sites = AreRested tells history_ health g ps slots sites

      voted : (went : Went) (how : How) (vote : Option ℕ) → how_of went.delivered ≡ how → went.vote ≡ vote → vote_from (length story.posted) x (Some (Up n)) how ≡ vote
          → went.vote ≡ vote_from (length story.posted) x (slice_get story.sites m) (how_of went.delivered)
      voted went how vote how_is is from_ =
          is ∙ sym from_ ∙ ap (vote_from (length story.posted) x (Some (Up n))) (sym how_is)
          ∙ ap (λ (o : Option Site). vote_from (length story.posted) x o (how_of went.delivered)) (sym site)

      fell_goes : (went : Went) (how : How) (down : Site) → how_of went.delivered ≡ how → delivered story k how ≡ with_site story m down
          → vote_from (length story.posted) x (Some (Up n)) how ≡ None → AreAt g new (slice_set story.sites m down)
          → (Rested story.posted old story.sites → Rested story.posted new (slice_set story.sites m down)) → book ≡ mid → ((ps : List Posted) → before ps → now ps) → went.vote ≡ None → GoesOn went
      fell_goes went how down how_is is none at rests same stands vote = record {
        live = subst (λ (h : How). IsLive g new nodes now book (delivered story k h)) (sym how_is) (fell_live how down is at same stands);
        rests = λ rested. subst (λ (h : How). Rested (delivered story k h).posted new (delivered story k h).sites) (sym how_is)
            (subst (λ (s : Story). Rested s.posted new s.sites) (sym is) (rests rested));
        vote = voted went how None how_is vote none;
      }

      answered_rests : (Rested story.posted old story.sites → Rested story.posted new (slice_set story.sites m (Up (reaction n x).now))) → Rested story.posted old story.sites
          → Rested (delivered story k steps.Handled).posted new (delivered story k steps.Handled).sites
      answered_rests rests rested =
          subst (λ (s : Story). Rested s.posted new s.sites) (sym is_after)
          (subst (λ (ps : List Posted). Rested ps new after.sites) (sym (counted_posted story m p.from (reaction n p.message).entry (reaction n p.message).answer))
          (subst (λ (ss : List Site). Rested (story.posted ++ answered m p.from (reaction n p.message).answer) new (slice_set ss m (Up (reaction n p.message).now)))
          (sym (counted_takes story m p.from (reaction n p.message).entry (reaction n p.message).answer).sites)
          (subst (λ (y : Message). Rested (story.posted ++ answered m p.from (reaction n p.message).answer) new (slice_set story.sites m (Up (reaction n y).now))) (sym is_x)
          (rested_more tells history_ health g story.posted (answered m p.from (reaction n p.message).answer) new (slice_set story.sites m (Up (reaction n x).now)) (rests rested)))))

      settled : (handled : fate.Handled) (went : Went) → AreAt g new (slice_set story.sites m (site_after k n x handled)) → Answers n x handled
          → (Rested story.posted old story.sites → Rested story.posted new (slice_set story.sites m (site_after k n x handled)))
          → Settles before now mid book m from may handled went → GoesOn went
      settled (Answered answer) went at answers rests settles = record {
        live = subst (λ (d : Delivered). IsLive g new nodes now book (delivered story k (how_of d))) (sym settles.0) (answered_live answer answers at settles.1 settles.2 settles.3);
        rests = λ rested. subst (λ (d : Delivered). Rested (delivered story k (how_of d)).posted new (delivered story k (how_of d)).sites) (sym settles.0) (answered_rests rests rested);
        vote = voted went steps.Handled (vote_number (length story.posted) answer) (ap how_of settles.0) (settles.4 story.posted live.posted)
            (ap (vote_number (length story.posted)) (sym answers));
      }
      settled (Fell Stop) went at answers rests settles =
          fell_goes went steps.WentDown (Down n (Some k)) (ap how_of settles.0) (delivery steps.WentDown (Some (Up n)) site) refl at rests settles.1 settles.2 settles.3
      settled (Fell Fault) went at answers rests settles =
          fell_goes went steps.WentDown (Down n (Some k)) (ap how_of settles.0) (delivery steps.WentDown (Some (Up n)) site) refl at rests settles.1 settles.2 settles.3
      settled (Fell Full) went at answers rests settles =
          fell_goes went steps.WasFull (Down n None) (ap how_of settles.0) (delivery steps.WasFull (Some (Up n)) site) refl at rests settles.1 settles.2 settles.3

-- ---- as the code has it

-- message k of a story is message k of what was posted
numbered_is : (story : Story) (k : ℕ) → numbered story.posted k ≡ message_at story k
numbered_is story zero = refl
numbered_is story (suc k) = refl

module _ {D : Type 0} {G : Ghosts D} (tells : D → Type 0) (history_ : D → History) (health : D → Health) (old new : List (MemorySlot D G)) (before now : List Posted → Type 0)
    (was mid book : Book) (m : ℕ) (from : Actor) (x : Message) (there : m < length old) where
  -- what becomes of each story
  abbrev pub Lives : Went → Type 0
  Lives went = (size : ℕ) (g : Geometry4) (nodes : List Machine) (story : Story) (k : ℕ) (p : Posted) → IsTold size story → message_at story k ≡ Some p
      → p ≡ record { from = from; to = Memory m; message = x } → IsLive g old nodes before was story → Goes tells history_ health g old new nodes now book story k m x went

  slot_at : (slot : MemorySlot D G) × (slice_get old m ≡ Some slot)
  slot_at = some_at old m there

  pub settled_lives : (E : Type 0) (r : Result Went E) (may : Option TxId) (handled : fate.Handled)
      → ((slot : MemorySlot D G) → slice_get old m ≡ Some slot → false ≡ is_down_in slot)
      → ((slot : MemorySlot D G) → slice_get old m ≡ Some slot → may ≡ may_grant (state_at slot) x)
      → history_of mid ≡ history_of was → ((id : TxId) → doubts_of mid id ≡ doubts_of was id)
      → ((g : Geometry4) (sites : List Site) (n : MemoryNode) (k : ℕ) → AreAt g old sites → slice_get sites m ≡ Some (Up n) → AreAt g new (slice_set sites m (site_after k n x handled)))
      → ((g : Geometry4) (sites : List Site) (n : MemoryNode) → AreAt g old sites → slice_get sites m ≡ Some (Up n) → Answers n x handled)
      → ((g : Geometry4) (sites : List Site) (n : MemoryNode) (k : ℕ) (posted : List Posted) (p : Posted) → AreAt g old sites → slice_get sites m ≡ Some (Up n) → numbered posted k ≡ Some p
      → p.message ≡ x → AreRested tells history_ health g posted old sites → AreRested tells history_ health g posted new (slice_set sites m (site_after k n x handled)))
      → IfOk r (Settles before now mid book m from may handled) → IfOk r Lives
  settled_lives E r may handled up may_is history doubts at answers rests = IfOk-weaker r (Settles before now mid book m from may handled) Lives
      (λ went settles size g nodes story k p told posted is_p live.
      let within : m < length story.sites = let many : length old ≡ length story.sites = live.memories.many in omega (arith, there, many) in
      let site = some_at story.sites m within in
      let one = up_site size g old new nodes before now was mid book m from x story k p told posted is_p live slot_at.0 slot_at.1 (sym (up slot_at.0 slot_at.1)) site.0 site.1 in
      settled size g old new nodes before now was mid book m from x story k p told posted is_p live one.0 one.1
      may (may_is slot_at.0 slot_at.1 ∙ ap (λ (s : _). may_grant s x) one.2) history doubts tells history_ health handled went
      (at g story.sites one.0 k live.memories one.1) (answers g story.sites one.0 live.memories one.1)
      (rests g story.sites one.0 k story.posted p live.memories one.1 (numbered_is story k ∙ posted) (ap (λ (q : Posted). q.message) is_p)) settles)

-- one that is down leaves all as it is
pub lost_lives : {D : Type 0} {G : Ghosts D} (tells : D → Type 0) (history_ : D → History) (health : D → Health) (old : List (MemorySlot D G)) (before : List Posted → Type 0) (was : Book) (m : ℕ)
    (from : Actor) (x : Message) (there : m < length old) (went : Went) → ((slot : MemorySlot D G) → slice_get old m ≡ Some slot → true ≡ is_down_in slot)
    → went ≡ record { delivered = Lost; vote = None } → Lives tells history_ health old old before before was was was m from x there went
lost_lives {D = D} {G = G} tells history_ health old before was m from x there went down is size g nodes story k p told posted is_p live =
    subst (λ (w : Went). Goes tells history_ health g old old nodes before was story k m x w) (sym is) (record {
      live = subst (IsLive g old nodes before was) (sym same) live;
      rests = λ rested. subst (λ (s : Story). AreRested tells history_ health g s.posted old s.sites) (sym same) rested;
      vote = none (slice_get story.sites m);
    })
  where
    slot : (slot : MemorySlot D G) × (slice_get old m ≡ Some slot)
    slot = some_at old m there

    site : (site : Site) × (slice_get story.sites m ≡ Some site)
    site = some_at story.sites m (let many : length old ≡ length story.sites = live.memories.many in omega (arith, there, many))

    same : delivered story k steps.Lost ≡ story
    same = lost size g old old nodes before before was was was m from x story k p told posted is_p live slot.0 slot.1 (sym (down slot.0 slot.1)) site.0 site.1

    none : (o : Option Site) → None ≡ vote_from (length story.posted) x o steps.Lost
    none None = refl
    none (Some (Up n)) = refl
    none (Some (Down n handling)) = refl
