-- Lines that begin an event, and the last line.
use Rattle.std.proofs.Common.{inl, inr, ◌≡◌, ℕ, zero, suc, ◌+◌, ◌-◌, ◌<◌, ◌≤◌, true, false, cond, not, List, [], ◌∷◌, ◌++◌, length, drop, Option, Some, None, refl, sym, ap, ◌∙◌, subst, arith}
use Rattle.std.specs.Prelude.{Bool, ◌&&◌, ◌==◌, if◌then◌else◌, slice_get, ◌⊎◌, ◌≢◌}
use Rattle.std.proofs.lemmas.Bool.{and_parts, and_from}
use Rattle.fs_rules.specs.declared.geometry.Geometry.{Geometry}
use Rattle.fs_rules.specs.declared.plain_tree.PlainTree.{PlainTree}
use Rattle.mini_tx.specs.declared.actor.Actor.{Actor}
use Rattle.mini_tx.specs.declared.actor.Actor.TheVariants.{Node, Memory, Manager}
use Rattle.event_text.specs.declared.event.Event.{Event}
use Rattle.event_text.specs.declared.event.Event.TheVariants as event
use Rattle.line_text.specs.declared.line.Line.TheVariants as line
use Rattle.transcript_rules.specs.declared.arrival.Arrival.{Arrival}
use Rattle.transcript_rules.specs.declared.post.Post.{Post}
use Rattle.transcript_rules.specs.Opening.{Opening, Schedule}
use Rattle.transcript_rules.specs.Book.{Book, numbered, with_numbered, points_of}
use Rattle.transcript_rules.specs.Next.{Next, next, next_in, noted, told, begun, with_next, handed_among, left_out}
use Rattle.transcript_rules.specs.Truth.{OwesNone}
use Rattle.transcript_rules.specs.Place.{IsOver, BeginsArrival, BeginsEvent, Ends, Refuses}
use Rattle.transcript_rules.specs.Legal.{IsAllowed}
use Rattle.transcript_facts.specs.declared.facts.Facts.{Facts}
use Rattle.transcript_facts.specs.Facts.{AreFacts, book_of}
use Rattle.transcript_facts.specs.Now.{now_of}
use Rattle.transcript_judges.specs.Tests.{is_none}
use Rattle.transcript_judges.specs.Rules.{Decides}
use Rattle.transcript_judges.proofs.Deciding.{both, as_of, as_test, same_numbers, is_nothing}
use Rattle.transcript_next.specs.declared.next.Next.{Next as Found}
use Rattle.transcript_next.specs.Nexts.{IsNext, next_by, scheduled, coming_of}
use Rattle.transcript_next.specs.Overs.{is_over_by}
use Rattle.transcript_next.specs.Same.{is_event}
use Rattle.transcript_next.proofs.NextLemmas.{next_is}
use Rattle.transcript_next.proofs.OverLemmas.{over_is}
use Rattle.transcript_next.proofs.SameLemmas.{same_event}
use Rattle.transcript_telling.specs.Tellings.{begun_by, opened_by}
use Rattle.transcript_telling.proofs.TellingLemmas.{begun_facts}
use Rattle.transcript_trees.specs.Kept.{AreReplies, AreCuts}
use Rattle.transcript_trees.proofs.PlaceLemmas.{own_place, other_place, place_one_more}
use Rattle.transcript_trees.proofs.KeptLemmas.{is_or_not, replies_like, replies_came, cuts_alike, cuts_begun}
use Rattle.transcript_checker.specs.declared.checker.Checker.{Checker}
use Rattle.transcript_checker.specs.Standing.{Stands, Reaches, ArePosted}
use Rattle.transcript_checker.specs.Beginning.{Begins, is_arrival, is_coming, is_end_of, arriving, replies_by, cuts_by}
use Rattle.transcript_checker.proofs.PlainLemmas.{closed_is}
use Rattle.transcript_checker.proofs.StandLemmas.{same_some, like_without, cut_without, placed_before, reaches_like, under_of, taken_of, trees_of}

-- ---- what an event does

record Grows (book after : Book) (oldest : ℕ) (replies : List (Option (List ℕ))) (cuts : List (Option PlainTree)) : Type 0 where
  pub trees : after.trees ≡ book.trees
  pub under : after.under ≡ book.under
  pub taken : after.taken ≡ book.taken
  pub posts : ArePosted after.posts after.under
  pub reach : Reaches after.arrivals oldest
  pub kept_replies : AreReplies after.trees after.arrivals replies
  pub kept_cuts : AreCuts after.trees after.backups cuts

posted_with : (posts : List Post) (under k : ℕ) (f : Post → Post) → ((p : Post) → (f p).under ≡ p.under) → ArePosted posts under → ArePosted (with_numbered posts k f) under
posted_with posts under k f same are j p at = by (is_or_not (suc j) k) where
  own : numbered (with_numbered posts k f) k ≡ Some p → p.under ≤ under
  own at =
      let before = placed_before posts k f p at in
      let is : p ≡ f before.0 = same_some (numbered (with_numbered posts k f) k) p (f before.0) at (own_place posts k f before.0 before.1) in
      let same_under : p.under ≡ before.0.under = ap (λ (q : Post). q.under) is ∙ same before.0 in
      let low = low_of k before.0 before.1 in
      omega (arith, same_under, low)
    where
      low_of : (m : ℕ) (q : Post) → numbered posts m ≡ Some q → q.under ≤ under
      low_of zero q there = absurd (cc there)
      low_of (suc m) q there = are m q there

  by : (suc j ≡ k) ⊎ (suc j ≡ k → ⊥) → p.under ≤ under
  by (inl is) = own (subst (λ (m : ℕ). numbered (with_numbered posts k f) m ≡ Some p) is at)
  by (inr other) = are j p (sym (other_place posts k (suc j) f other) ∙ at)

came_reach : (xs : List Arrival) (a : Arrival) (oldest : ℕ) → oldest ≤ a.points → Reaches xs oldest → Reaches (xs ++ a ∷ []) oldest
came_reach xs a oldest low reach k b at runs none = by (place_one_more xs a k b at) where
  by : (numbered xs k ≡ Some b) ⊎ ((k ≡ length xs + 1) × (b ≡ a)) → oldest ≤ b.points
  by (inl there) = reach k b there runs none
  by (inr last) = let same = ap (λ (y : Arrival). y.points) last.1 in omega (arith, same, low)

module _ (b : Book) (oldest : ℕ) (replies : List (Option (List ℕ))) (cuts : List (Option PlainTree)) (posts : ArePosted b.posts b.under) (reach : Reaches b.arrivals oldest) (low : oldest ≤ points_of b)
    (kept_replies : AreReplies b.trees b.arrivals replies) (kept_cuts : AreCuts b.trees b.backups cuts) where
  grows : (e : Event) → Grows b (begun b e) oldest (replies_by e replies) (cuts_by e cuts)
  unfolding begun
  grows (event.Arrive node sec usec bytes) = record {
    trees = refl;
    under = refl;
    taken = refl;
    posts = posts;
    reach = came_reach b.arrivals _ oldest low reach;
    kept_replies = replies_came b.trees b.arrivals replies _ refl kept_replies;
    kept_cuts = kept_cuts;
  }
  grows (event.Deliver k stop) = record {
    trees = refl;
    under = refl;
    taken = refl;
    posts = posted_with b.posts b.under k (handed_among b.down b.under) (λ p. refl) posts;
    reach = reach;
    kept_replies = kept_replies;
    kept_cuts = kept_cuts;
  }
  grows (event.Lose k) = record {
    trees = refl;
    under = refl;
    taken = refl;
    posts = posted_with b.posts b.under k left_out (λ p. refl) posts;
    reach = reach;
    kept_replies = kept_replies;
    kept_cuts = kept_cuts;
  }
  grows (event.Crash who) = record {
    trees = refl;
    under = refl;
    taken = refl;
    posts = posts;
    reach = reaches_like b.arrivals _ oldest (like_without who b.arrivals) reach;
    kept_replies = replies_like b.trees b.arrivals _ replies (like_without who b.arrivals) kept_replies;
    kept_cuts = cuts_alike b.trees b.backups _ cuts (cut_without who b.backups) kept_cuts;
  }
  grows event.Backup = record {
    trees = refl;
    under = refl;
    taken = refl;
    posts = posts;
    reach = reach;
    kept_replies = kept_replies;
    kept_cuts = cuts_begun b.trees b.backups cuts _ refl kept_cuts;
  }
  grows (event.Start who choice) = record { trees = refl; under = refl; taken = refl; posts = posts; reach = reach; kept_replies = kept_replies; kept_cuts = kept_cuts }
  grows (event.Cluster nodes memories blocks inodes) = record { trees = refl; under = refl; taken = refl; posts = posts; reach = reach; kept_replies = kept_replies; kept_cuts = kept_cuts }
  grows (event.Drain count) = record { trees = refl; under = refl; taken = refl; posts = posts; reach = reach; kept_replies = kept_replies; kept_cuts = kept_cuts }
  grows (event.GiveUp who) = record { trees = refl; under = refl; taken = refl; posts = posts; reach = reach; kept_replies = kept_replies; kept_cuts = kept_cuts }
  grows (event.Resend who) = record { trees = refl; under = refl; taken = refl; posts = posts; reach = reach; kept_replies = kept_replies; kept_cuts = kept_cuts }
  grows (event.Sweep memory) = record { trees = refl; under = refl; taken = refl; posts = posts; reach = reach; kept_replies = kept_replies; kept_cuts = kept_cuts }
  grows (event.Checkpoint memory) = record { trees = refl; under = refl; taken = refl; posts = posts; reach = reach; kept_replies = kept_replies; kept_cuts = kept_cuts }
  grows (event.Show number) = record { trees = refl; under = refl; taken = refl; posts = posts; reach = reach; kept_replies = kept_replies; kept_cuts = kept_cuts }
  grows event.End = record { trees = refl; under = refl; taken = refl; posts = posts; reach = reach; kept_replies = kept_replies; kept_cuts = kept_cuts }

-- the book where the next event begins, before it does anything
abbrev pub coming_to : Book → Next → Event → Book
coming_to book x e = record book { taken = x.taken; drained = x.drained; now = Some e; under = book.under + 1; said = [] }

with_next_is : (book : Book) (x : Next) (e : Event) → x.comes ≡ Some e → with_next book x ≡ begun (coming_to book x e) e
with_next_is book x e comes = by x.comes comes where
  by : (c : Option Event) → c ≡ Some e → with_next book (record { taken = x.taken; drained = x.drained; comes = c }) ≡ begun (coming_to book x e) e
  by c is = ap (λ (d : Option Event). with_next book (record { taken = x.taken; drained = x.drained; comes = d })) is

later_posted : (posts : List Post) (under : ℕ) → ArePosted posts under → ArePosted posts (under + 1)
later_posted posts under are k p at = let low = are k p at in omega (arith, low)

pub begun_stands : (o : Opening) (schedule : Schedule) (n : ℕ) (book : Book) (c d : Checker) (x : Next) (e : Event) (taken drained : ℕ) → Stands o schedule n book c → Begins c taken drained e d
    → x.comes ≡ Some e → x.taken ≡ taken → x.drained ≡ drained → taken ≤ length schedule → Stands o schedule (n + 1) (with_next book x) d
begun_stands o schedule n book c d x e taken drained stands begins comes took drained_is within =
    let facts = begun_facts book c.facts x e begins.said stands.facts comes begins.none in
    let facts_is : d.facts ≡ begun_by (opened_by c.facts x.taken x.drained (now_of (Some e)) begins.said) e =
    begins.facts ∙ ap (λ t. begun_by (opened_by c.facts t drained (now_of (Some e)) begins.said) e) (sym took)
    ∙ ap (λ t. begun_by (opened_by c.facts x.taken t (now_of (Some e)) begins.said) e) (sym drained_is) in
    let are : AreFacts (with_next book x) d.facts = rw facts_is facts in
    let is = with_next_is book x e comes in
    let low : c.trees.oldest ≤ points_of book = (let last = stands.kept.last in omega (arith, last)) in
    let g = grows (coming_to book x e) c.trees.oldest c.replies c.cuts.trees.items (later_posted book.posts book.under stands.posts) stands.reach low stands.replies stands.cuts e in
    let u0 = under_of book c.facts stands.facts in
    let u1 = under_of (with_next book x) d.facts are in
    let u2 : (with_next book x).under ≡ book.under + 1 = ap (λ (b : Book). b.under) is ∙ g.under in
    let t1 = taken_of (with_next book x) d.facts are in
    let t2 : (with_next book x).taken ≡ x.taken = ap (λ (b : Book). b.taken) is ∙ g.taken in
    let p0 = trees_of book c.facts stands.facts in
    let p1 = trees_of (with_next book x) d.facts are in
    let same_trees : (with_next book x).trees ≡ book.trees = ap (λ (b : Book). b.trees) is ∙ g.trees in
    let p2 : length (with_next book x).trees ≡ length book.trees = ap length same_trees in
    let e1 = stands.events in
    let c1 = stands.changes in record {
      cluster = stands.cluster ∙ sym begins.geometry;
      facts = are;
      events = omega (arith, u0, u1, u2, e1);
      changes = omega (arith, p0, p1, p2, c1);
      taken = omega (arith, t1, t2, took, within);
      posts = rw is g.posts;
      kept = rw same_trees (rw begins.trees stands.kept);
      reach = rw is (rw begins.trees g.reach);
      replies = rw is (rw begins.replies g.kept_replies);
      cuts = rw is (rw begins.cuts g.kept_cuts);
    }

-- ---- what comes

module _ (o : Opening) (events : List Event) (book : Book) (f : Facts) (are : AreFacts book f) where
  -- what was found by facts is what comes by the book
  pub found_is : (g : Geometry) (found : Found) → o.geometry ≡ g → IsNext (next_by g f f.taken f.drained (drop f.taken (scheduled events))) found → IsNext (next o (scheduled events) book) found
  found_is g found cluster is =
      subst (λ (x : Next). IsNext x found)
      (sym (ap (λ (b : Book). next o (scheduled events) b) are.is ∙ next_is o.geometry f are.e are.said are.trees (drop f.taken (scheduled events)) f.taken f.drained
      ∙ ap (λ (k : Geometry). next_by k f f.taken f.drained (drop f.taken (scheduled events))) cluster)) is

  -- the event that runs is over
  pub over_of : book.closed ≡ false → Decides (is_over_by o.geometry f) (IsOver o book)
  over_of goes =
      subst (λ (b : Book). Decides (is_over_by o.geometry f) (IsOver o b)) (sym are.is) (over_is o f are.e are.said are.trees are.running are.are (closed_is book f are goes))

  pub ready_is : (number : ℕ) → book.closed ≡ false → Decides (is_over_by o.geometry f && (number == length f.arrivals + 1)) (IsOver o book × (number ≡ length book.arrivals + 1))
  ready_is number goes =
      both (over_of goes)
      (as_test (ap (λ (m : ℕ). number == m + 1) (sym (ap (λ (b : Book). length b.arrivals) are.is))) (same_numbers number (length book.arrivals + 1)))

arrival_is : (e : Event) (node : ℕ) → is_arrival e node ≡ true → (sec : ℕ) × (usec : ℕ) × (bytes : List ℕ) × (e ≡ event.Arrive node sec usec bytes)
arrival_is (event.Arrive other sec usec bytes) node is = (sec, usec, bytes, ap (λ (m : ℕ). event.Arrive m sec usec bytes) ((same_numbers other node).to is))
arrival_is (event.Cluster nodes memories blocks inodes) node is = absurd (cc is)
arrival_is (event.Deliver k stop) node is = absurd (cc is)
arrival_is (event.Drain count) node is = absurd (cc is)
arrival_is (event.Lose k) node is = absurd (cc is)
arrival_is (event.GiveUp who) node is = absurd (cc is)
arrival_is (event.Resend who) node is = absurd (cc is)
arrival_is (event.Crash who) node is = absurd (cc is)
arrival_is (event.Start who choice) node is = absurd (cc is)
arrival_is (event.Sweep memory) node is = absurd (cc is)
arrival_is (event.Checkpoint memory) node is = absurd (cc is)
arrival_is event.Backup node is = absurd (cc is)
arrival_is (event.Show number) node is = absurd (cc is)
arrival_is event.End node is = absurd (cc is)

-- the arrival that comes
pub arriving_is : (node : ℕ) (x : Option Event) (e : Event) → arriving node x ≡ Some e → (x ≡ Some e) × ((sec : ℕ) × (usec : ℕ) × (bytes : List ℕ) × (e ≡ event.Arrive node sec usec bytes))
arriving_is node None e is = absurd (cc is)
arriving_is node (Some c) e is = by (is_arrival c node) refl is where
  by : (b : Bool) → is_arrival c node ≡ b → (if b then Some c else None) ≡ Some e → (Some c ≡ Some e) × ((sec : ℕ) × (usec : ℕ) × (bytes : List ℕ) × (e ≡ event.Arrive node sec usec bytes))
  by true test same =
      let there : c ≡ e = cc same in
      let t = arrival_is c node test in (same, (t.0, t.1, t.2, sym there ∙ t.3))
  by false test same = absurd (cc same)

pub not_arriving : (node : ℕ) (x : Option Event) (sec usec : ℕ) (bytes : List ℕ) → arriving node x ≡ None → x ≡ Some (event.Arrive node sec usec bytes) → ⊥
not_arriving node x sec usec bytes none is =
    let there : arriving node (Some (event.Arrive node sec usec bytes)) ≡ Some (event.Arrive node sec usec bytes) =
    ap (λ (b : Bool). if b then Some (event.Arrive node sec usec bytes) else None) ((same_numbers node node).from refl) in
    let moved : arriving node (Some (event.Arrive node sec usec bytes)) ≡ None = ap (arriving node) (sym is) ∙ none in
    cc (there, moved)

-- this event comes
pub coming_is : (e : Event) (x : Option Event) → Decides (is_coming e x) (x ≡ Some e)
coming_is e None = record { to = λ t. absurd (cc t); from = λ t. absurd (cc t) }
coming_is e (Some c) = as_of (λ t. ap Some t) (λ t. cc t) (same_event c e)

not_end : (e : Event) → Decides (not (is_end_of e)) (e ≢ event.End)
not_end event.End = record { to = λ t. absurd (cc t); from = λ t. absurd (t refl) }
not_end (event.Arrive node sec usec bytes) = record { to = λ t u. cc u; from = λ t. refl }
not_end (event.Cluster nodes memories blocks inodes) = record { to = λ t u. cc u; from = λ t. refl }
not_end (event.Deliver k stop) = record { to = λ t u. cc u; from = λ t. refl }
not_end (event.Drain count) = record { to = λ t u. cc u; from = λ t. refl }
not_end (event.Lose k) = record { to = λ t u. cc u; from = λ t. refl }
not_end (event.GiveUp who) = record { to = λ t u. cc u; from = λ t. refl }
not_end (event.Resend who) = record { to = λ t u. cc u; from = λ t. refl }
not_end (event.Crash who) = record { to = λ t u. cc u; from = λ t. refl }
not_end (event.Start who choice) = record { to = λ t u. cc u; from = λ t. refl }
not_end (event.Sweep memory) = record { to = λ t u. cc u; from = λ t. refl }
not_end (event.Checkpoint memory) = record { to = λ t u. cc u; from = λ t. refl }
not_end event.Backup = record { to = λ t u. cc u; from = λ t. refl }
not_end (event.Show number) = record { to = λ t u. cc u; from = λ t. refl }

pub begins_is : (e : Event) (x : Option Event) → Decides (not (is_end_of e) && is_coming e x) ((e ≢ event.End) × (x ≡ Some e))
begins_is e x = both (not_end e) (coming_is e x)

pub refused_is : (x : Option Event) (taken number : ℕ) → Decides (is_none x && (number == taken + 1)) ((x ≡ None) × (number ≡ taken + 1))
refused_is x taken number = both (is_nothing x) (same_numbers number (taken + 1))
