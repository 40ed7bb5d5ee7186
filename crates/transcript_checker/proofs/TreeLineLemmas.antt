-- Changes, replies, cuts and listings.
use Rattle.std.proofs.Common.{inl, inr, ◌≡◌, ℕ, zero, suc, ◌+◌, ◌-◌, ◌<◌, ◌≤◌, true, false, cond, not, List, [], ◌∷◌, ◌++◌, length, drop, Option, Some, None, refl, sym, ap, ◌∙◌, subst, arith}
use Rattle.std.specs.Prelude.{Bool, ◌&&◌, ◌==◌, if◌then◌else◌, slice_get, ◌⊎◌, ◌≢◌, option_and_then, is_some}
use Rattle.std.specs.Option.{option_map_or}
use Rattle.std.proofs.lemmas.Option.{slice_get_past}
use Rattle.fs_rules.specs.declared.plain_tree.PlainTree.{PlainTree}
use Rattle.fs_listing.specs.Listing.{listing}
use Rattle.nfs_service.specs.Reply.{heard, Effect, effect}
use Rattle.line_text.specs.declared.line.Line.{Line}
use Rattle.line_text.specs.declared.line.Line.TheVariants as line
use Rattle.transcript_rules.specs.declared.arrival.Arrival.{Arrival}
use Rattle.transcript_rules.specs.declared.backup.Backup.{Backup}
use Rattle.transcript_rules.specs.Opening.{Opening, Schedule}
use Rattle.transcript_rules.specs.Book.{Book, numbered, with_numbered, points_of, tree_at, response}
use Rattle.transcript_rules.specs.Next.{noted, told, changed, listing_of, with_point}
use Rattle.transcript_rules.specs.Truth.{OwesNone, EndsInOrder, HoldsAt, IsTruePoint, IsTrueReply, IsOpen, IsTrueCut, IsMounting, IsTrueListing}
use Rattle.transcript_rules.specs.Carried.{IsCarriedPoint, IsCarriedReply, IsPrepared, IsStarted}
use Rattle.transcript_rules.specs.Place.{IsUnder}
use Rattle.transcript_rules.specs.Legal.{IsAllowed}
use Rattle.transcript_facts.specs.declared.facts.Facts.{Facts}
use Rattle.transcript_facts.specs.Facts.{AreFacts, book_of}
use Rattle.transcript_judges.specs.Tests
use Rattle.transcript_judges.specs.Tests.{holds_of}
use Rattle.transcript_judges.specs.Rules.{Decides, Names, MayReply, MayPoint}
use Rattle.transcript_judges.specs.Tests.{is_none}
use Rattle.transcript_judges.proofs.Deciding.{both, as_of, as_test, found, same_numbers, is_nothing}
use Rattle.std.proofs.lemmas.Bool.{and_parts, and_from}
use Rattle.std.proofs.lemmas.Slice.Eq.{bytes_eq-Decides}
use Rattle.fs_tree.specs.declared.response.Change.{Change}
use Rattle.nfs_service.specs.declared.request.Request.{Request}
use Rattle.arrival_outcome.specs.declared.outcome.Outcome.{Outcome}
use Rattle.arrival_outcome.specs.Outcome.{ComesTo, Replaces}
use Rattle.transcript_trees.specs.declared.trees.Trees.{Trees}
use Rattle.transcript_judges.proofs.TestLemmas.{under_is, points_is, replies_is, cuts_is, mounts_is}
use Rattle.transcript_telling.proofs.TellingLemmas.{pointed, owing}
use Rattle.transcript_trees.specs.Trees.{AreKept, Answers, Changes}
use Rattle.transcript_trees.specs.Kept.{AreReplies, AreCuts, IsCutAt, IsMade, is_reply, is_given, lines_of, lines_of_cut, with_reply, with_tree}
use Rattle.transcript_trees.proofs.PlaceLemmas.{own_place, other_place}
use Rattle.transcript_trees.proofs.KeptLemmas.{is_or_not, replies_made, cuts_more, cuts_made}
use Rattle.transcript_checker.specs.declared.checker.Checker.{Checker}
use Rattle.transcript_checker.specs.Standing.{Stands, Reaches, ArePosted}
use Rattle.transcript_checker.specs.Plain.{has_place}
use Rattle.transcript_checker.specs.Answers.{MakesChange, Changed, ReachesBeside, IsReplyOf, HasBytes, HoldsBy, is_answer, is_file, reply_by, reply_of}
use Rattle.transcript_checker.proofs.PlainLemmas.{both_if, placed}
use Rattle.transcript_checker.proofs.StandLemmas.{same_some, placed_before, like_same, under_of, taken_of, trees_of}

-- the facts of a book decide of the book
over_book : (book : Book) (f : Facts) (b : Bool) (P : Book → Type 0) → AreFacts book f → ((are : AreFacts book f) → Decides b (P (book_of f are.e are.said are.trees))) → Decides b (P book)
over_book book f b P are decides = subst (λ (k : Book). Decides b (P k)) (sym are.is) (decides are)

module _ (o : Opening) (schedule : Schedule) (book : Book) (f : Facts) (are : AreFacts book f) where
  same_arrivals : f.arrivals ≡ book.arrivals
  same_arrivals = sym (ap (λ (b : Book). b.arrivals) are.is)

  pub place_is : (l : Line) → Decides (has_place f l) (OwesNone book × IsUnder book l)
  place_is l = over_book book f (has_place f l) (λ b. OwesNone b × IsUnder b l) are (λ r. placed o schedule f r.e r.said r.trees r.running r.are r.points l)

  pub under_alone : (l : Line) → Decides (Tests.is_under f l) (IsUnder book l)
  under_alone l = over_book book f (Tests.is_under f l) (λ b. IsUnder b l) are (λ r. under_is o f r.e r.said r.trees r.running r.are r.points l)

  -- ---- a change

  pub may_point_is : (l : Line) (point number : ℕ) → Decides (has_place f l && holds_of (Tests.points_well f point) (numbered f.arrivals number))
      ((OwesNone book × IsUnder book l) × ((a : Arrival) × (numbered book.arrivals number ≡ Some a) × MayPoint book point a))
  may_point_is l point number =
      both (place_is l) (over_book book f (holds_of (Tests.points_well f point) (numbered f.arrivals number)) (λ b. (a : Arrival) × (numbered b.arrivals number ≡ Some a) × MayPoint b point a) are
      (λ r. found (Tests.points_well f point) (MayPoint (book_of f r.e r.said r.trees) point) (numbered f.arrivals number) (points_is o f r.e r.said r.trees r.running r.are r.points point)))

  pub allows_point : (point number : ℕ) (made : Option (ℕ × ℕ)) (a : Arrival) (tree : PlainTree) (e : Effect) → book.closed ≡ false
      → OwesNone book → IsUnder book (line.Point point number made) → numbered book.arrivals number ≡ Some a → MayPoint book point a → MakesChange book.trees a number made tree e
      → IsAllowed o schedule book (line.Point point number made)
  allows_point point number made a tree e goes owes under came may makes = record {
    ongoing = goes;
    true_line = (
      owes,
      record {
        number = may.number;
        a = a;
        came = came;
        first = may.first;
        may = may.may;
        tree = tree;
        last = makes.last;
        e = e;
        answered = makes.answered;
        differs = makes.differs;
        made_is = makes.made_is;
      },
    );
    carried = record { a = a; came = came; under = may.under };
    cause = tt;
    place = under;
  }

  pub point_allowed : (point number : ℕ) (made : Option (ℕ × ℕ)) → IsAllowed o schedule book (line.Point point number made)
      → (OwesNone book × IsUnder book (line.Point point number made)) × ((a : Arrival) × (numbered book.arrivals number ≡ Some a) × MayPoint book point a)
  point_allowed point number made r =
      let t = r.true_line.1 in
      let ca = r.carried in
      let same : ca.a ≡ t.a = same_some (numbered book.arrivals number) ca.a t.a ca.came t.came in (
        (r.true_line.0, r.place),
        (
          t.a,
          t.came,
          record {
            number = t.number;
            first = t.first;
            may = t.may;
            under = subst (λ (x : Arrival). IsPrepared book x ⊎ IsStarted book) same ca.under;
          },
        ),
      )

  pub point_makes : (point number : ℕ) (made : Option (ℕ × ℕ)) (a : Arrival) → numbered book.arrivals number ≡ Some a → IsAllowed o schedule book (line.Point point number made)
      → (tree : PlainTree) × (e : Effect) × MakesChange book.trees a number made tree e
  point_makes point number made a came r =
      let t = r.true_line.1 in
      let same : t.a ≡ a = same_some (numbered book.arrivals number) t.a a t.came came in
      (t.tree, t.e, record { last = t.last; answered = subst (λ (x : Arrival). response x number t.tree ≡ Some t.e) same t.answered; differs = t.differs; made_is = t.made_is })

changed_is : (book : Book) (point number : ℕ) (a : Arrival) (tree : PlainTree) (e : Effect) → numbered book.arrivals number ≡ Some a → tree_at book (points_of book) ≡ Some tree → response a number tree ≡ Some e
    → changed book point number ≡ record book { trees = book.trees ++ e.tree ∷ []; arrivals = with_numbered book.arrivals number (with_point point) }
changed_is book point number a tree e came last answered =
    ap (λ (x : Option Arrival). option_map_or (grown book point number) (option_and_then (λ y. option_and_then (response y number) (tree_at book (points_of book))) x) book) came
    ∙ ap (λ (x : Option PlainTree). option_map_or (grown book point number) (option_and_then (response a number) x) book) last
    ∙ ap (λ (x : Option Effect). option_map_or (grown book point number) x book) answered
  where
    grown : Book → ℕ → ℕ → Effect → Book
    grown b p n x = record b { trees = b.trees ++ x.tree ∷ []; arrivals = with_numbered b.arrivals n (with_point p) }

pub noted_point : (o : Opening) (schedule : Schedule) (book : Book) (point number : ℕ) (made : Option (ℕ × ℕ)) (a : Arrival) (tree : PlainTree) (e : Effect)
    → numbered book.arrivals number ≡ Some a → MakesChange book.trees a number made tree e
    → noted o schedule book (line.Point point number made) ≡ pointed book point number (line.Point point number made) e.tree
unfolding noted told
noted_point o schedule book point number made a tree e came makes =
    ap (λ (b : Book). record b { said = b.said ++ line.Point point number made ∷ [] }) (changed_is book point number a tree e came makes.last makes.answered)

pointed_reach : (xs : List Arrival) (number point before after : ℕ) → Reaches xs before → ReachesBeside xs number before after → Reaches (with_numbered xs number (with_point point)) after
pointed_reach xs number point before after reach beside k a at runs none = by (is_or_not k number) where
  by : (k ≡ number) ⊎ (k ≡ number → ⊥) → after ≤ a.points
  by (inl same) =
      let own = subst (λ (m : ℕ). numbered (with_numbered xs number (with_point point)) m ≡ Some a) same at in
      let old = placed_before xs number (with_point point) a own in
      let is : with_point point old.0 ≡ a = same_some (numbered (with_numbered xs number (with_point point)) number) (with_point point old.0) a (own_place xs number (with_point point) old.0 old.1) own in
      let made = ap (λ (x : Arrival). x.point) is in absurd (cc (made, none))
  by (inr other) =
      let there = sym (other_place xs number k (with_point point) other) ∙ at in
      beside k a there runs other (reach k a there runs none)

pub pointed_stands : (o : Opening) (schedule : Schedule) (n : ℕ) (book : Book) (c d : Checker) (point number : ℕ) (l : Line) (a : Arrival) (tree : PlainTree) (e : Effect) (made : Option (ℕ × ℕ))
    → Stands o schedule n book c → numbered book.arrivals number ≡ Some a → point ≡ points_of book + 1 → MakesChange book.trees a number made tree e
    → AreFacts (pointed book point number l e.tree) d.facts → d.geometry ≡ c.geometry → d.cuts ≡ c.cuts → d.replies ≡ with_numbered c.replies number (with_reply e.reply)
    → AreKept (book.trees ++ e.tree ∷ []) d.trees → ReachesBeside book.arrivals number c.trees.oldest d.trees.oldest
    → Stands o schedule (n + 1) (pointed book point number l e.tree) d
pointed_stands o schedule n book c d point number l a tree e made stands came next makes are g cu r kept beside =
    let some = stands.kept.last in
    let is : point ≡ length book.trees = omega (arith, next, some) in
    let u0 = under_of book c.facts stands.facts in
    let u1 = under_of (pointed book point number l e.tree) d.facts are in
    let t0 = taken_of book c.facts stands.facts in
    let t1 = taken_of (pointed book point number l e.tree) d.facts are in
    let p0 = trees_of book c.facts stands.facts in
    let p1 = trees_of (pointed book point number l e.tree) d.facts are in
    let many : length (book.trees ++ e.tree ∷ []) ≡ length book.trees + 1 = one_longer book.trees e.tree in
    let e1 = stands.events in
    let c1 = stands.changes in
    let x1 = stands.taken in record {
      cluster = stands.cluster ∙ sym g;
      facts = are;
      events = omega (arith, u0, u1, e1);
      changes = omega (arith, p0, p1, many, c1);
      taken = omega (arith, t0, t1, x1);
      posts = stands.posts;
      kept = kept;
      reach = pointed_reach book.arrivals number point c.trees.oldest d.trees.oldest stands.reach beside;
      replies = rw r (replies_made book.trees book.arrivals c.replies number a tree e point (e.tree ∷ []) stands.replies came makes.last makes.answered is);
      cuts = rw cu (cuts_more book.trees (e.tree ∷ []) book.backups c.cuts.trees.items stands.cuts);
    }
  where
    one_longer : (xs : List PlainTree) (x : PlainTree) → length (xs ++ x ∷ []) ≡ length xs + 1
    one_longer [] x = refl
    one_longer (y ∷ xs) x = let rest = one_longer xs x in omega (arith, rest)

-- ---- a reply

holds_there : (book : Book) (a : Arrival) (at : ℕ) (p : Option ℕ) (t : PlainTree) (e : Effect) → Names (points_of book) at a.points p → HoldsBy book.trees at p t e → HoldsAt book a e at t p
holds_there book a at None t e names holds = (names.0, names.1, holds.0, holds.1)
holds_there book a at (Some point) t e names holds = (names, holds)

names_of : (book : Book) (a : Arrival) (at : ℕ) (p : Option ℕ) (t : PlainTree) (e : Effect) → HoldsAt book a e at t p → Names (points_of book) at a.points p × HoldsBy book.trees at p t e
names_of book a at None t e holds = ((holds.0, holds.1), (holds.2, holds.3))
names_of book a at (Some point) t e holds = holds

module _ (o : Opening) (schedule : Schedule) (book : Book) (f : Facts) (are : AreFacts book f) where
  pub may_reply_is : (l : Line) (number at : ℕ)
      → Decides (if has_place f l then holds_of (λ (a : Arrival). Tests.replies_well o.geometry f number at a (heard a.bytes)) (numbered f.arrivals number) else false)
      ((OwesNone book × IsUnder book l) × ((a : Arrival) × (numbered book.arrivals number ≡ Some a) × MayReply o book number at a))
  may_reply_is l number at =
      both_if (place_is o schedule book f are l)
      (over_book book f (holds_of (λ (a : Arrival). Tests.replies_well o.geometry f number at a (heard a.bytes)) (numbered f.arrivals number))
      (λ b. (a : Arrival) × (numbered b.arrivals number ≡ Some a) × MayReply o b number at a) are
      (λ r. found (λ (a : Arrival). Tests.replies_well o.geometry f number at a (heard a.bytes)) (MayReply o (book_of f r.e r.said r.trees) number at) (numbered f.arrivals number)
      (replies_is o f r.e r.said r.trees r.running r.are r.points number at)))

  pub allows_reply : (number at : ℕ) (bytes : List ℕ) (a : Arrival) → book.closed ≡ false → OwesNone book → IsUnder book (line.Reply number at bytes)
      → numbered book.arrivals number ≡ Some a → MayReply o book number at a → IsReplyOf book.trees a number at bytes → IsAllowed o schedule book (line.Reply number at bytes)
  allows_reply number at bytes a goes owes under came may is = record {
    ongoing = goes;
    true_line = (
      owes,
      record {
        a = a;
        runs = record { came = came; runs = may.runs };
        order = may.order;
        tree = is.tree;
        e = is.e;
        answered = is.answered;
        holds = holds_there book a at a.point is.tree is.e may.names is.holds;
        is = is.is;
      },
    );
    carried = record { a = a; came = came; at_once = may.at_once; later = may.later; whole = may.whole };
    cause = tt;
    place = under;
  }

  pub reply_allowed : (number at : ℕ) (bytes : List ℕ) → IsAllowed o schedule book (line.Reply number at bytes)
      → (OwesNone book × IsUnder book (line.Reply number at bytes)) × ((a : Arrival) × (numbered book.arrivals number ≡ Some a) × MayReply o book number at a)
  reply_allowed number at bytes r =
      let t = r.true_line.1 in
      let ca = r.carried in
      let same : t.a ≡ ca.a = same_some (numbered book.arrivals number) t.a ca.a t.runs.came ca.came in
      let of_true = subst (λ (x : Arrival). (x.ended ≡ None) × IsOrdered x × Names (points_of book) at x.points x.point) same
      (t.runs.runs, t.order, (names_of book t.a at t.a.point t.tree t.e t.holds).0) in (
        (r.true_line.0, r.place),
        (
          ca.a,
          ca.came,
          record {
            runs = of_true.0;
            order = of_true.1;
            names = of_true.2;
            at_once = ca.at_once;
            later = ca.later;
            whole = ca.whole;
          },
        ),
      )
    where
      IsOrdered : Arrival → Type 0
      IsOrdered x = EndsInOrder book number x

  pub reply_is_of : (number at : ℕ) (bytes : List ℕ) (a : Arrival) → numbered book.arrivals number ≡ Some a → IsAllowed o schedule book (line.Reply number at bytes) → IsReplyOf book.trees a number at bytes
  reply_is_of number at bytes a came r =
      let t = r.true_line.1 in
      let same : t.a ≡ a = same_some (numbered book.arrivals number) t.a a t.runs.came came in
      subst (λ (x : Arrival). IsReplyOf book.trees x number at bytes) same
      (record { tree = t.tree; e = t.e; answered = t.answered; holds = (names_of book t.a at t.a.point t.tree t.e t.holds).1; is = t.is })

  -- ---- cuts and listings

  pub may_cut_is : (l : Line) (number at : ℕ) → Decides (has_place f l && Tests.cuts_well f number at) ((OwesNone book × IsUnder book l) × IsTrueCut book number at)
  may_cut_is l number at =
      both (place_is o schedule book f are l) (over_book book f (Tests.cuts_well f number at) (λ b. IsTrueCut b number at) are (λ r. cuts_is o f r.e r.said r.trees r.running r.are r.points number at))

  pub cut_is : (number at : ℕ) → book.closed ≡ false → Decides (has_place f (line.Cut number at) && Tests.cuts_well f number at) (IsAllowed o schedule book (line.Cut number at))
  cut_is number at goes =
      as_of (λ t. record { ongoing = goes; true_line = (t.0.0, t.1); carried = tt; cause = tt; place = t.0.1 }) (λ r. ((r.true_line.0, r.place), r.true_line.1)) (may_cut_is (line.Cut number at) number at)

  pub may_mount_is : (l : Line) (number : ℕ) → Decides (has_place f l && Tests.mounts_well f number) ((OwesNone book × IsUnder book l) × IsMounting book number)
  may_mount_is l number =
      both (place_is o schedule book f are l) (over_book book f (Tests.mounts_well f number) (λ b. IsMounting b number) are (λ r. mounts_is o f r.e r.said r.trees r.running r.are r.points number))

none_kept : (xs : List Backup) (cuts : List (Option PlainTree)) (k : ℕ) → length cuts ≡ length xs → numbered xs k ≡ None → numbered cuts k ≡ None
none_kept xs cuts zero many none = refl
none_kept [] [] (suc k) many none = refl
none_kept [] (c ∷ cuts) (suc k) many none = absurd (omega (arith, many))
none_kept (x ∷ xs) [] (suc k) many none = absurd (omega (arith, many))
none_kept (x ∷ xs) (c ∷ cuts) (suc zero) many none = absurd (cc none)
none_kept (x ∷ xs) (c ∷ cuts) (suc (suc k)) many none = none_kept xs cuts (suc k) (omega (arith, many)) none

-- the lines of a listing are those of the tree that is kept
pub listing_is : (book : Book) (cuts : List (Option PlainTree)) (number : ℕ) → AreCuts book.trees book.backups cuts → listing_of book number ≡ lines_of (numbered cuts number)
listing_is book cuts number are = by (numbered book.backups number) refl where
  of_cut : (c : Option ℕ) (kept : Option (Option PlainTree)) → IsCutAt book.trees c kept → option_map_or listing (option_and_then (tree_at book) c) [] ≡ lines_of kept
  of_cut None kept is = sym (ap lines_of is)
  of_cut (Some at) kept is = ap (λ (t : Option PlainTree). option_map_or listing t []) is.2 ∙ sym (ap lines_of is.1)

  by : (b : Option Backup) → numbered book.backups number ≡ b → option_map_or listing (option_and_then (tree_at book) (option_and_then (λ (x : Backup). x.cut) b)) [] ≡ lines_of (numbered cuts number)
  by None is = sym (ap lines_of (none_kept book.backups cuts number are.many is))
  by (Some b) is = of_cut b.cut (numbered cuts number) (are.each number b is)

-- ---- what is found in a tree

file_is : (made other : Option (ℕ × ℕ)) → is_file made other ≡ true → other ≡ made
file_is None None is = refl
file_is (Some a) (Some b) is =
    let parts = and_parts (a.0 == b.0) (a.1 == b.1) is in
    let first = (same_numbers a.0 b.0).to parts.0 in
    let second = (same_numbers a.1 b.1).to parts.1 in
    sym (pair_is a.0 b.0 a.1 b.1 first second)
  where
    pair_is : (n m g h : ℕ) → n ≡ m → g ≡ h → ◌≡◌ {A = Option (ℕ × ℕ)} (Some (n, g)) (Some (m, h))
    pair_is n m g h one two = ap (λ (k : ℕ). Some (k, g)) one ∙ ap (λ (k : ℕ). Some (m, k)) two
file_is None (Some b) is = absurd (cc is)
file_is (Some a) None is = absurd (cc is)

same_file : (made : Option (ℕ × ℕ)) → is_file made made ≡ true
same_file None = refl
same_file (Some a) = and_from (a.0 == a.0) (a.1 == a.1) ((same_numbers a.0 a.0).from refl) ((same_numbers a.1 a.1).from refl)

-- an outcome of the last tree, by what it comes to
pub changed_as : (ts : List PlainTree) (a : Arrival) (number : ℕ) (made : Option (ℕ × ℕ)) (request : Request) (before after : Trees) (o : Outcome) → request ≡ heard a.bytes
    → Changes ts request number a.moment after o → Changed ts a number made after (reply_of o made)
changed_as ts a number made request before after o is changes = by_effect (effect changes.tree request number a.moment) refl changes.comes where
  answered_by : (x : Option Effect) → effect changes.tree request number a.moment ≡ x → response a number changes.tree ≡ x
  answered_by x e = ap (λ (r : Request). effect changes.tree r number a.moment) (sym is) ∙ e

  by_made : (e : Effect) (change : Change) (reply : Option (List ℕ)) → response a number changes.tree ≡ Some e → reply ≡ Some e.reply → changes.new ≡ e.tree → (changes.new ≢ changes.tree) × (change.made ≡ e.made)
      → (b : Bool) → is_file change.made made ≡ b → Changed ts a number made after (if b then reply else None)
  by_made e change reply answered reply_is new_is told true file =
      let made_is : made ≡ e.made = file_is change.made made file ∙ told.1 in
      rw reply_is (
        changes.tree,
        e,
        record { last = changes.there; answered = answered; differs = λ same. told.0 (new_is ∙ same); made_is = made_is },
        refl,
        subst (λ (t : PlainTree). AreKept (ts ++ t ∷ []) after) new_is changes.kept,
      )
  by_made e change reply answered reply_is new_is told false file = λ tree f makes.
      let t_is : tree ≡ changes.tree = same_some (slice_get ts (length ts - 1)) tree changes.tree makes.last changes.there in
      let f_is : f ≡ e = same_some (response a number changes.tree) f e (subst (λ (t : PlainTree). response a number t ≡ Some f) t_is makes.answered) answered in
      let same_made : change.made ≡ made = told.1 ∙ ap (λ (x : Effect). x.made) (sym f_is) ∙ sym makes.made_is in
      let there = ap (λ (m : Option (ℕ × ℕ)). is_file change.made m) (sym same_made) ∙ same_file change.made in
      cc (there, file)

  by_change : (e : Effect) (c : Option Change) (reply : Option (List ℕ)) → response a number changes.tree ≡ Some e → reply ≡ Some e.reply → changes.new ≡ e.tree → Replaces changes.tree changes.new c e.made
      → Changed ts a number made after (reply_by reply c made)
  by_change e None reply answered reply_is new_is replaces = λ tree f makes.
      let t_is : tree ≡ changes.tree = same_some (slice_get ts (length ts - 1)) tree changes.tree makes.last changes.there in
      let f_is : f ≡ e = same_some (response a number changes.tree) f e (subst (λ (t : PlainTree). response a number t ≡ Some f) t_is makes.answered) answered in
      makes.differs (ap (λ (x : Effect). x.tree) f_is ∙ sym new_is ∙ replaces.unchanged ∙ sym t_is)
  by_change e (Some change) reply answered reply_is new_is replaces = by_made e change reply answered reply_is new_is replaces.changed (is_file change.made made) refl

  by_effect : (x : Option Effect) → effect changes.tree request number a.moment ≡ x → ComesTo changes.tree changes.new o x → Changed ts a number made after (reply_of o made)
  by_effect None e comes = rw (ap (λ (c : Option Change). reply_by o.reply c made) comes.1) (λ tree f makes.
      let t_is : tree ≡ changes.tree = same_some (slice_get ts (length ts - 1)) tree changes.tree makes.last changes.there in
      let none = answered_by None e in
      let some = subst (λ (t : PlainTree). response a number t ≡ Some f) t_is makes.answered in
      cc (none, some))
  by_effect (Some f) e comes = by_change f o.change o.reply (answered_by (Some f) e) comes.0 comes.1 comes.2

-- no tree, no reply
pub none_changed : (ts : List PlainTree) (number : ℕ) (arrivals : List Arrival) (a : Arrival) → numbered arrivals number ≡ None → numbered arrivals number ≡ Some a → ⊥
none_changed ts number arrivals a none some = cc (none, some)

pub reply_decides : (bytes : List ℕ) (reply : Option (List ℕ)) → Decides (is_reply bytes reply) (reply ≡ Some bytes)
reply_decides bytes None = record { to = λ e. absurd (cc e); from = λ e. absurd (cc e) }
reply_decides bytes (Some r) = record { to = λ e. ap Some ((bytes_eq-Decides r bytes).0 e); from = λ e. (bytes_eq-Decides r bytes).1 (cc e) }

-- the reply that was made with a change
pub made_bytes : (ts : List PlainTree) (a : Arrival) (number at point : ℕ) (bytes : List ℕ) (after : Trees) (reply : Option (Option (List ℕ))) → a.point ≡ Some point → IsMade ts number a point reply → AreKept ts after
    → HasBytes ts a number at bytes after (is_given bytes reply)
made_bytes ts a number at point bytes after reply is made kept = rw made.is (record {
  decides = as_of there back (reply_decides bytes (Some made.e.reply));
  kept = λ e. kept;
}) where
  there : Some made.e.reply ≡ Some bytes → IsReplyOf ts a number at bytes
  there same = record {
    tree = made.tree;
    e = made.e;
    answered = made.answered;
    holds = subst (λ (p : Option ℕ). HoldsBy ts at p made.tree made.e) (sym is) made.there;
    is = cc same;
  }

  back : IsReplyOf ts a number at bytes → Some made.e.reply ≡ Some bytes
  back r =
      let holds : slice_get ts (point - 1) ≡ Some r.tree = subst (λ (p : Option ℕ). HoldsBy ts at p r.tree r.e) is r.holds in
      let t_is : r.tree ≡ made.tree = same_some (slice_get ts (point - 1)) r.tree made.tree holds made.there in
      let e_is : r.e ≡ made.e = same_some (response a number made.tree) r.e made.e (subst (λ (t : PlainTree). response a number t ≡ Some r.e) t_is r.answered) made.answered in
      ap (λ (x : Effect). Some x.reply) (sym e_is) ∙ ap Some (sym r.is)

-- the reply of an arrival without a change
pub answered_bytes : (ts : List PlainTree) (a : Arrival) (number at oldest : ℕ) (bytes : List ℕ) (request : Request) (after : Trees) (o : Option Outcome) → a.point ≡ None → request ≡ heard a.bytes
    → oldest ≤ at → at < length ts → Answers ts oldest at request number a.moment after o → HasBytes ts a number at bytes after (is_answer bytes o)
answered_bytes ts a number at oldest bytes request after None none is low high answers = absurd (answers low high)
answered_bytes ts a number at oldest bytes request after (Some o) none is low high answers = by_effect (effect answers.tree request number a.moment) refl answers.comes where
  answered_by : (x : Option Effect) → effect answers.tree request number a.moment ≡ x → response a number answers.tree ≡ x
  answered_by x e = ap (λ (r : Request). effect answers.tree r number a.moment) (sym is) ∙ e

  of_tree : (r : IsReplyOf ts a number at bytes) → (r.tree ≡ answers.tree) × (r.e.tree ≡ r.tree)
  of_tree r =
      let holds : (slice_get ts at ≡ Some r.tree) × (r.e.tree ≡ r.tree) = subst (λ (p : Option ℕ). HoldsBy ts at p r.tree r.e) none r.holds in
      (same_some (slice_get ts at) r.tree answers.tree holds.0 answers.there, holds.1)

  of_effect : (e : Effect) → response a number answers.tree ≡ Some e → (r : IsReplyOf ts a number at bytes) → (r.e ≡ e)
  of_effect e answered r =
      same_some (response a number answers.tree) r.e e (subst (λ (t : PlainTree). response a number t ≡ Some r.e) (of_tree r).0 r.answered) answered

  unchanged_none : (c : Option Change) (e : Effect) → Replaces answers.tree answers.new c e.made → answers.new ≡ e.tree → Decides (is_none c) (e.tree ≡ answers.tree)
  unchanged_none None e replaces new_is = record { to = λ x. sym new_is ∙ replaces.unchanged; from = λ x. refl }
  unchanged_none (Some c) e replaces new_is = record { to = λ x. absurd (cc x); from = λ x. absurd (replaces.changed.0 (new_is ∙ x)) }

  by_effect : (x : Option Effect) → effect answers.tree request number a.moment ≡ x → ComesTo answers.tree answers.new o x → HasBytes ts a number at bytes after (is_none o.change && is_reply bytes o.reply)
  by_effect None e comes = record {
    decides = record {
      to = λ t. absurd (let r = (reply_decides bytes o.reply).to (and_parts (is_none o.change) (is_reply bytes o.reply) t).1 in let fails = comes.0 in cc (r, fails));
      from = λ r. absurd (
          let some = subst (λ (t : PlainTree). response a number t ≡ Some r.e) (of_tree r).0 r.answered in
          let fails = answered_by None e in cc (some, fails));
    };
    kept = λ t. answers.same ((is_nothing o.change).to (and_parts (is_none o.change) (is_reply bytes o.reply) t).0);
  }
  by_effect (Some f) e comes = record {
    decides = as_of there back (both (unchanged_none o.change f comes.2 comes.1) (reply_decides bytes o.reply));
    kept = λ t. answers.same ((is_nothing o.change).to (and_parts (is_none o.change) (is_reply bytes o.reply) t).0);
  } where
    there : (f.tree ≡ answers.tree) × (o.reply ≡ Some bytes) → IsReplyOf ts a number at bytes
    there t = record {
      tree = answers.tree;
      e = f;
      answered = answered_by (Some f) e;
      holds = subst (λ (p : Option ℕ). HoldsBy ts at p answers.tree f) (sym none) (answers.there, t.0);
      is = (let x = t.1 in let y = comes.0 in cc (x, y));
    }

    back : IsReplyOf ts a number at bytes → (f.tree ≡ answers.tree) × (o.reply ≡ Some bytes)
    back r =
        let e_is = of_effect f (answered_by (Some f) e) r in
        let two = of_tree r in
        (ap (λ (x : Effect). x.tree) (sym e_is) ∙ two.1 ∙ two.0, comes.0 ∙ ap (λ (x : Effect). Some x.reply) (sym e_is) ∙ ap Some (sym r.is))

pub some_point : (a : Arrival) → is_some a.point ≡ true → (point : ℕ) × (a.point ≡ Some point)
some_point a is = by a.point is where
  by : (p : Option ℕ) → is_some p ≡ true → (point : ℕ) × (p ≡ Some point)
  by (Some point) test = (point, refl)
  by None test = absurd (cc test)

pub no_point_of : (a : Arrival) → is_some a.point ≡ false → a.point ≡ None
no_point_of a is = by a.point is where
  by : (p : Option ℕ) → is_some p ≡ false → p ≡ None
  by (Some point) test = absurd (cc test)
  by None test = refl
