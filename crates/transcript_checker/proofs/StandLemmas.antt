-- What a line keeps of what a checker stands on.
use Rattle.std.proofs.Common.{inl, inr, ◌≡◌, ℕ, zero, suc, ◌+◌, ◌-◌, ◌<◌, ◌≤◌, true, false, cond, List, [], ◌∷◌, ◌++◌, length, map, Option, Some, None, refl, sym, ap, ◌∙◌, subst, arith, ◌^◌, get_or, length-drop}
use Rattle.std.specs.Prelude.{Bool, ◌&&◌, if◌then◌else◌, slice_get, option_map, ◌⊎◌, Result, Ok, Err, OnOk}
use Rattle.std.specs.Option.{option_map_or}
use Rattle.std.specs.List.{All}
use Rattle.std.proofs.lemmas.List.{length-map}
use Rattle.std.proofs.lemmas.Option.{slice_get-get_or}
use Rattle.mini_tx.specs.declared.actor.Actor.{Actor}
use Rattle.mini_tx.specs.declared.actor.Actor.TheVariants.{Node, Memory, Manager}
use Rattle.line_text.specs.declared.line.Line.{Line}
use Rattle.line_text.specs.declared.line.Line.TheVariants as line
use Rattle.transcript_rules.specs.declared.arrival.Arrival.{Arrival}
use Rattle.transcript_rules.specs.declared.backup.Backup.{Backup}
use Rattle.transcript_rules.specs.declared.ended.Ended.{Ended}
use Rattle.transcript_rules.specs.declared.ended.Ended.TheVariants.{Lost}
use Rattle.transcript_rules.specs.declared.post.Post.{Post}
use Rattle.transcript_rules.specs.Opening.{Opening, Schedule}
use Rattle.transcript_rules.specs.Book.{Book, numbered, with_numbered, is_open}
use Rattle.transcript_rules.specs.Next.{noted, told, fallen, lost_at, arrivals_without, backups_without, with_end}
use Rattle.transcript_book.proofs.PostLemmas.{as_many}
use Rattle.transcript_facts.specs.declared.facts.Facts.{Facts}
use Rattle.transcript_facts.specs.Facts.{AreFacts}
use Rattle.transcript_trees.proofs.PlaceLemmas.{own_place, other_place, get_one_more}
use Rattle.transcript_trees.proofs.KeptLemmas.{IsLike, AreLike, AreCutAlike, is_or_not, replies_like, cuts_alike}
use Rattle.transcript_trees.specs.Trees.{AreKept}
use Rattle.transcript_trees.specs.Kept.{AreReplies, AreCuts}
use Rattle.transcript_checker.specs.declared.checker.Checker.{Checker}
use Rattle.transcript_checker.specs.Standing.{Stands, Reaches, ArePosted, HasRoom, is_elsewhere}

pub same_some : {X : Type 0} → (o : Option X) (x y : X) → o ≡ Some x → o ≡ Some y → x ≡ y
same_some o x y a b = cc (a, b)

-- ---- arrivals, but for how they ended

like_itself : (a : Arrival) → IsLike a a
like_itself a = record { node = refl; moment = refl; bytes = refl; points = refl; under = refl; point = refl; ended = λ e. e }

pub like_same : (xs : List Arrival) → AreLike xs xs
like_same xs = record { many = refl; each = λ k b at. (b, at, like_itself b) }

pub like_ended : (how : Ended) (a : Arrival) → IsLike a (with_end how a)
like_ended how a = record { node = refl; moment = refl; bytes = refl; points = refl; under = refl; point = refl; ended = λ e. absurd (cc e) }

pub placed_before : {X : Type 0} → (xs : List X) (n : ℕ) (f : X → X) (y : X) → numbered (with_numbered xs n f) n ≡ Some y → (x : X) × (numbered xs n ≡ Some x)
unfolding with_numbered
placed_before xs zero f y at = absurd (cc at)
placed_before [] (suc n) f y at = absurd (cc at)
placed_before (x ∷ xs) (suc zero) f y at = (x, refl)
placed_before (x ∷ xs) (suc (suc n)) f y at = placed_before xs (suc n) f y at

pub like_with : (xs : List Arrival) (n : ℕ) (f : Arrival → Arrival) → ((a : Arrival) → IsLike a (f a)) → AreLike xs (with_numbered xs n f)
like_with xs n f like = record { many = as_many xs n f; each = λ k b at. by k b at (is_or_not k n) } where
  own : (b : Arrival) → numbered (with_numbered xs n f) n ≡ Some b → (a : Arrival) × (numbered xs n ≡ Some a) × IsLike a b
  own b at =
      let before = placed_before xs n f b at in
      let is : f before.0 ≡ b = same_some (numbered (with_numbered xs n f) n) (f before.0) b (own_place xs n f before.0 before.1) at in
      (before.0, before.1, subst (λ (y : Arrival). IsLike before.0 y) is (like before.0))

  by : (k : ℕ) (b : Arrival) → numbered (with_numbered xs n f) k ≡ Some b → (k ≡ n) ⊎ (k ≡ n → ⊥) → (a : Arrival) × (numbered xs k ≡ Some a) × IsLike a b
  by k b at (inl same) =
      subst (λ (m : ℕ). (a : Arrival) × (numbered xs m ≡ Some a) × IsLike a b) (sym same) (own b (subst (λ (m : ℕ). numbered (with_numbered xs n f) m ≡ Some b) same at))
  by k b at (inr other) = (b, sym (other_place xs n k f other) ∙ at, like_itself b)

pub like_lost : (n : ℕ) (a : Arrival) → IsLike a (lost_at n a)
like_lost n a = by (is_open n a) where
  by : (b : Bool) → IsLike a (cond b (record a { ended = Some Lost }) a)
  by true = record { node = refl; moment = refl; bytes = refl; points = refl; under = refl; point = refl; ended = λ e. absurd (cc e) }
  by false = like_itself a

mapped_before : (f : Arrival → Arrival) (xs : List Arrival) (k : ℕ) (b : Arrival) → numbered (map f xs) k ≡ Some b → (a : Arrival) × (numbered xs k ≡ Some a) × (f a ≡ b)
mapped_before f xs zero b at = absurd (cc at)
mapped_before f [] (suc k) b at = absurd (cc at)
mapped_before f (x ∷ xs) (suc zero) b at = (x, refl, cc at)
mapped_before f (x ∷ xs) (suc (suc k)) b at = mapped_before f xs (suc k) b at

like_map : (f : Arrival → Arrival) (xs : List Arrival) → ((a : Arrival) → IsLike a (f a)) → AreLike xs (map f xs)
like_map f xs like = record {
  many = length-map xs f;
  each = λ k b at. let t = mapped_before f xs k b at in (t.0, t.1, subst (λ (y : Arrival). IsLike t.0 y) t.2 (like t.0));
}

pub like_without : (who : Actor) (xs : List Arrival) → AreLike xs (arrivals_without who xs)
like_without (Node n) xs = like_map (lost_at n) xs (like_lost n)
like_without (Memory m) xs = like_same xs
like_without Manager xs = like_same xs

-- ---- backups, but for what became of them

pub cut_same : (xs : List Backup) → AreCutAlike xs xs
cut_same xs = (refl, λ k b at. (b, at, refl))

pub cut_with : (xs : List Backup) (n : ℕ) (f : Backup → Backup) → ((b : Backup) → (f b).cut ≡ b.cut) → AreCutAlike xs (with_numbered xs n f)
cut_with xs n f same_cut = (as_many xs n f, λ k b at. by k b at (is_or_not k n)) where
  own : (b : Backup) → numbered (with_numbered xs n f) n ≡ Some b → (a : Backup) × (numbered xs n ≡ Some a) × (b.cut ≡ a.cut)
  own b at =
      let before = placed_before xs n f b at in
      let is : b ≡ f before.0 = same_some (numbered (with_numbered xs n f) n) b (f before.0) at (own_place xs n f before.0 before.1) in
      (before.0, before.1, ap (λ (y : Backup). y.cut) is ∙ same_cut before.0)

  by : (k : ℕ) (b : Backup) → numbered (with_numbered xs n f) k ≡ Some b → (k ≡ n) ⊎ (k ≡ n → ⊥) → (a : Backup) × (numbered xs k ≡ Some a) × (b.cut ≡ a.cut)
  by k b at (inl same) =
      subst (λ (m : ℕ). (a : Backup) × (numbered xs m ≡ Some a) × (b.cut ≡ a.cut)) (sym same) (own b (subst (λ (m : ℕ). numbered (with_numbered xs n f) m ≡ Some b) same at))
  by k b at (inr other) = (b, sym (other_place xs n k f other) ∙ at, refl)

pub cut_without : (who : Actor) (xs : List Backup) → AreCutAlike xs (backups_without who xs)
cut_without (Node n) xs = cut_same xs
cut_without (Memory m) xs = cut_same xs
cut_without Manager xs = cut_with xs (length xs) (λ b. record b { over = true }) (λ b. refl)

-- ---- what a line keeps

pub record Keeps (book after : Book) : Type 0 where
  pub trees : after.trees ≡ book.trees
  pub arrivals : AreLike book.arrivals after.arrivals
  pub backups : AreCutAlike book.backups after.backups
  pub posts : ArePosted book.posts book.under → ArePosted after.posts after.under
  pub under : after.under ≡ book.under
  pub taken : after.taken ≡ book.taken

one_posted : (posts : List Post) (p : Post) (under : ℕ) → p.under ≡ under → ArePosted posts under → ArePosted (posts ++ p ∷ []) under
one_posted posts p under is are k q at = by (get_one_more posts p k q at) where
  by : (slice_get posts k ≡ Some q) ⊎ ((k ≡ length posts) × (q ≡ p)) → q.under ≤ under
  by (inl there) = are k q there
  by (inr last) = let same = ap (λ (x : Post). x.under) last.1 in omega (arith, same, is)

-- what is neither told of trees, nor begins an event, nor cuts a backup
abbrev pub is_keeping : Line → Bool
is_keeping (line.DoArrive arrival node) = false
is_keeping (line.DoEvent e) = false
is_keeping (line.Point point arrival made) = false
is_keeping (line.Cut number at) = false
is_keeping other = true

pub keeps_line : (o : Opening) (schedule : Schedule) (book : Book) (l : Line) → is_keeping l ≡ true → Keeps book (noted o schedule book l)
unfolding noted told
keeps_line o schedule book (line.DoArrive arrival node) keeping = absurd (cc keeping)
keeps_line o schedule book (line.DoEvent e) keeping = absurd (cc keeping)
keeps_line o schedule book (line.Point point arrival made) keeping = absurd (cc keeping)
keeps_line o schedule book (line.Cut number at) keeping = absurd (cc keeping)
keeps_line o schedule book (line.Down who why) keeping =
    record { trees = refl; arrivals = like_without who book.arrivals; backups = cut_without who book.backups; posts = λ p. p; under = refl; taken = refl }
keeps_line o schedule book (line.Sent k from to words) keeping =
    record { trees = refl; arrivals = like_same book.arrivals; backups = cut_same book.backups; posts = λ p. one_posted book.posts _ book.under refl p; under = refl; taken = refl }
keeps_line o schedule book (line.Reply arrival at bytes) keeping =
    record { trees = refl; arrivals = like_with book.arrivals arrival (with_end _) (like_ended _); backups = cut_same book.backups; posts = λ p. p; under = refl; taken = refl }
keeps_line o schedule book (line.Retry arrival why) keeping =
    record { trees = refl; arrivals = like_with book.arrivals arrival (with_end _) (like_ended _); backups = cut_same book.backups; posts = λ p. p; under = refl; taken = refl }
keeps_line o schedule book (line.Dropped arrival why) keeping =
    record { trees = refl; arrivals = like_with book.arrivals arrival (with_end _) (like_ended _); backups = cut_same book.backups; posts = λ p. p; under = refl; taken = refl }
keeps_line o schedule book (line.BackupDone number) keeping =
    record { trees = refl; arrivals = like_same book.arrivals; backups = cut_with book.backups number (λ b. record b { done = true; over = true }) (λ b. refl); posts = λ p. p; under = refl; taken = refl }
keeps_line o schedule book (line.RetryBackup number why) keeping =
    record { trees = refl; arrivals = like_same book.arrivals; backups = cut_with book.backups number (λ b. record b { over = true }) (λ b. refl); posts = λ p. p; under = refl; taken = refl }
keeps_line o schedule book (line.Lost k) keeping = record { trees = refl; arrivals = like_same book.arrivals; backups = cut_same book.backups; posts = λ p. p; under = refl; taken = refl }
keeps_line o schedule book (line.Mounted number lines) keeping = record { trees = refl; arrivals = like_same book.arrivals; backups = cut_same book.backups; posts = λ p. p; under = refl; taken = refl }
keeps_line o schedule book (line.Listed text) keeping = record { trees = refl; arrivals = like_same book.arrivals; backups = cut_same book.backups; posts = λ p. p; under = refl; taken = refl }
keeps_line o schedule book (line.MountFailed number) keeping = record { trees = refl; arrivals = like_same book.arrivals; backups = cut_same book.backups; posts = λ p. p; under = refl; taken = refl }
keeps_line o schedule book (line.MountBad number) keeping = record { trees = refl; arrivals = like_same book.arrivals; backups = cut_same book.backups; posts = λ p. p; under = refl; taken = refl }
keeps_line o schedule book (line.Refused number) keeping = record { trees = refl; arrivals = like_same book.arrivals; backups = cut_same book.backups; posts = λ p. p; under = refl; taken = refl }
keeps_line o schedule book line.End keeping = record { trees = refl; arrivals = like_same book.arrivals; backups = cut_same book.backups; posts = λ p. p; under = refl; taken = refl }

pub reaches_like : (xs ys : List Arrival) (oldest : ℕ) → AreLike xs ys → Reaches xs oldest → Reaches ys oldest
reaches_like xs ys oldest like reach k b at runs none =
    let t = like.each k b at in
    let low = reach k t.0 t.1 (t.2.ended runs) (sym t.2.point ∙ none) in
    let same = t.2.points in
    omega (arith, low, same)

-- facts count what the book has
pub under_of : (book : Book) (f : Facts) → AreFacts book f → book.under ≡ f.under
under_of book f are = ap (λ (b : Book). b.under) are.is

pub taken_of : (book : Book) (f : Facts) → AreFacts book f → book.taken ≡ f.taken
taken_of book f are = ap (λ (b : Book). b.taken) are.is

pub trees_of : (book : Book) (f : Facts) → AreFacts book f → length book.trees ≡ f.points + 1
trees_of book f are = ap (λ (b : Book). length b.trees) are.is ∙ are.points

-- the checker, where only the facts are others, and the trees as many as they were
pub stands_kept : (o : Opening) (schedule : Schedule) (n : ℕ) (book after : Book) (c d : Checker) → Stands o schedule n book c → Keeps book after → AreFacts after d.facts
    → d.geometry ≡ c.geometry → d.replies ≡ c.replies → d.cuts ≡ c.cuts → AreKept book.trees d.trees → d.trees.oldest ≡ c.trees.oldest → Stands o schedule (n + 1) after d
stands_kept o schedule n book after c d stands keeps are g r cu kept oldest =
    let b1 = under_of book c.facts stands.facts in
    let b2 = under_of after d.facts are in
    let t1 = taken_of book c.facts stands.facts in
    let t2 = taken_of after d.facts are in
    let p1 = trees_of book c.facts stands.facts in
    let p2 = trees_of after d.facts are in
    let same_trees = keeps.trees in
    let as_many_trees : length after.trees ≡ length book.trees = ap length same_trees in
    let e1 = stands.events in
    let e2 = keeps.under in
    let c1 = stands.changes in
    let x1 = stands.taken in
    let x2 = keeps.taken in record {
      cluster = stands.cluster ∙ sym g;
      facts = are;
      events = omega (arith, b1, b2, e1, e2);
      changes = omega (arith, p1, p2, as_many_trees, c1);
      taken = omega (arith, t1, t2, x1, x2);
      posts = keeps.posts stands.posts;
      kept = rw same_trees kept;
      reach = rw oldest (reaches_like book.arrivals after.arrivals c.trees.oldest keeps.arrivals stands.reach);
      replies = rw same_trees (rw r (replies_like book.trees book.arrivals after.arrivals c.replies keeps.arrivals stands.replies));
      cuts = rw same_trees (rw cu (cuts_alike book.trees book.backups after.backups c.cuts.trees.items keeps.backups stands.cuts));
    }

-- a checker that stands has room for a line more
pub has_room : (o : Opening) (schedule : Schedule) (n : ℕ) (book : Book) (c : Checker) → Stands o schedule n book c → n + 1 < 2 ^ 64 → HasRoom c
has_room o schedule n book c stands small =
    let last = stands.kept.last in
    let many : length c.trees.kept.items ≡ length book.trees - c.trees.oldest = ap length stands.kept.kept ∙ length-drop c.trees.oldest book.trees in
    let p = trees_of book c.facts stands.facts in
    let changes = stands.changes in
    let events = stands.events in
    let u = under_of book c.facts stands.facts in
    let mail : book.posts ≡ c.facts.mail = ap (λ (b : Book). b.posts) stands.facts.is in record {
      trees = record { there = omega (arith, many, last); small = omega (arith, many, last, p, changes, small) };
      under = omega (arith, events, small);
      points = omega (arith, changes, small);
      posts = all_posted c.facts.mail c.facts.under (subst (λ (posts : List Post). ArePosted posts c.facts.under) mail (subst (λ (under : ℕ). ArePosted book.posts under) u stands.posts));
    }
  where
    all_posted : (posts : List Post) (under : ℕ) → ArePosted posts under → All (λ (p : Post). p.under ≤ under) posts
    all_posted posts under are k d below = are k (get_or posts k d) (slice_get-get_or posts k d below)

-- what follows where a call succeeded
pub then_ok : {X E P Q : Type 0} → (r : Result X E) → OnOk r P → (P → Q) → OnOk r Q
then_ok (Ok x) p f = f p
then_ok (Err e) p f = p
