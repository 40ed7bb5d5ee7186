-- What one event of a schedule makes of the book and of the world.
use Rattle.std.proofs.Common.{◌≡◌, ℕ, zero, suc, ◌+◌, ◌-◌, ◌^◌, ◌<◌, ◌≤◌, Bool, true, false, cond, ◌&&◌, eqb, ltb, List, [], ◌∷◌, ◌++◌, length, get_or, Option, Some, None, refl, sym, ap, subst, ◌∙◌, arith}
use Rattle.std.specs.Prelude.{slice_get, position, option_map, option_and_then, is_some, All, IfSome, IfNone, ◌≢◌}
use Rattle.std.specs.List.{position_or_len}
use Rattle.std.proofs.lemmas.Bool.{le-ltb, eqb-true}
use Rattle.std.proofs.lemmas.Bool.Decides.{Decides-ltb, Decides-eqb}
use Rattle.std.proofs.lemmas.List.{length_push, get_or_append_left, get_or-append_right}
use Rattle.std.proofs.lemmas.List.Elements.{All-contains, All-push, All-weaker}
use Rattle.std.proofs.lemmas.List.Sums.{position_or_len_is}
use Rattle.fs_rules.specs.declared.geometry.Geometry.{Geometry}
use Rattle.nfs_proto.specs.declared.stamp.Stamp.{Stamp}
use Rattle.fs_rules.specs.declared.plain_tree.PlainTree.{PlainTree}
use Rattle.line_text.specs.declared.drop_why.DropWhy.TheVariants as why
use Rattle.event_text.specs.declared.event.Event.{Event}
use Rattle.event_text.specs.declared.event.Event.TheVariants as event
use Rattle.line_words.specs.declared.limits.TheConstants.{MAX_LINES}
use Rattle.line_text.specs.declared.line.Line.{Line}
use Rattle.line_text.specs.declared.line.Line.TheVariants as line
use Rattle.sfs.specs.declared.world.World.{World}
use Rattle.sfs.specs.Schedule.{Schedule}
use Rattle.nfs_service.specs.declared.request.Request.{Request}
use Rattle.nfs_service.specs.declared.request.Request.TheVariants as request
use Rattle.fs_tree.specs.declared.response.Change.{Change}
use Rattle.arrival_outcome.specs.declared.outcome.Outcome.{Outcome}
use Rattle.nfs_service.specs.Reply.{heard, Effect, effect}
use Rattle.arrival_outcome.specs.Outcome.{ComesTo, points_after}
use Rattle.sfs.specs.Book.{Book, Arrival, numbered, point_of, may_come, come_from, next_event, response, with_arrival, with_point, noted, book_after}
use Rattle.sfs.specs.Legal.{IsRunning, Arrives, Changes, Replies, Drops, HoldsAt, IsAllowed, IsLegalFrom}
use Rattle.sfs.specs.World.{Stands, GoesOn, closing, change_lines, arrival_lines}

-- ---- the next event

-- the next event is the one of the next line, if it may come
pub next_is : (schedule : Schedule) (book : Book) (w : World) (e : Event) → Stands schedule book w → book.lines < MAX_LINES → slice_get schedule book.lines ≡ Some (Some e)
    → next_event schedule book ≡ come_from w.tree.geometry book (Some e)
unfolding next_event
next_is schedule book w e stands within there =
    let within_is : ltb book.lines MAX_LINES ≡ true = (Decides-ltb book.lines MAX_LINES).1 within in
    ap (option_and_then (λ g. cond (ltb book.lines MAX_LINES) (option_and_then (come_from g book) (slice_get schedule book.lines)) None)) stands.cluster
    ∙ ap (λ b. cond b (option_and_then (come_from w.tree.geometry book) (slice_get schedule book.lines)) None) within_is
    ∙ ap (option_and_then (come_from w.tree.geometry book)) there

-- one that may not come is none
pub not_come : (schedule : Schedule) (book : Book) (w : World) (e : Event) → Stands schedule book w → book.lines < MAX_LINES → slice_get schedule book.lines ≡ Some (Some e)
    → may_come w.tree.geometry book e ≡ false → next_event schedule book ≡ None
not_come schedule book w e stands within there refused =
    next_is schedule book w e stands within there ∙ ap (λ b. cond b (Some e) None) refused

-- one that may come is the next
pub does_come : (schedule : Schedule) (book : Book) (w : World) (e : Event) → Stands schedule book w → book.lines < MAX_LINES → slice_get schedule book.lines ≡ Some (Some e)
    → may_come w.tree.geometry book e ≡ true → next_event schedule book ≡ Some e
does_come schedule book w e stands within there allowed =
    next_is schedule book w e stands within there ∙ ap (λ b. cond b (Some e) None) allowed

-- an arrival may not come at a node that is not there, or after the greatest number of arrivals
pub no_node : (g : Geometry) (book : Book) (node sec usec : ℕ) (bytes : List ℕ) → g.nodes ≤ node → may_come g book (event.Arrive node sec usec bytes) ≡ false
no_node g book node sec usec bytes past = ap (λ b. b && ltb (length book.arrivals) (2 ^ 32 - 1)) (le-ltb node g.nodes past)

too_many : (a : Bool) → (a && false) ≡ false
too_many true = refl
too_many false = refl

pub no_number : (g : Geometry) (book : Book) (node sec usec : ℕ) (bytes : List ℕ) → 2 ^ 32 - 1 ≤ length book.arrivals → may_come g book (event.Arrive node sec usec bytes) ≡ false
no_number g book node sec usec bytes many =
    ap (λ b. ltb node g.nodes && b) (le-ltb (length book.arrivals) (2 ^ 32 - 1) many) ∙ too_many (ltb node g.nodes)

-- and else it may
pub may_arrive : (g : Geometry) (book : Book) (node sec usec : ℕ) (bytes : List ℕ) → node < g.nodes → length book.arrivals < 2 ^ 32 - 1
    → may_come g book (event.Arrive node sec usec bytes) ≡ true
may_arrive g book node sec usec bytes there few =
    ap (λ b. b && ltb (length book.arrivals) (2 ^ 32 - 1)) ((Decides-ltb node g.nodes).1 there) ∙ (Decides-ltb (length book.arrivals) (2 ^ 32 - 1)).1 few

-- ---- an arrival and its reply

-- the element behind others
numbered-push : {X : Type 0} (xs : List X) (x : X) (k : ℕ) → k ≡ length xs → slice_get (xs ++ x ∷ []) k ≡ Some x
numbered-push [] x k is = ap (slice_get (x ∷ [])) is
numbered-push (y ∷ xs) x zero is = absurd (omega arith)
numbered-push (y ∷ xs) x (suc k) is = numbered-push xs x k (omega arith)

get_front : {X : Type 0} (xs ys : List X) (k : ℕ) (x : X) → slice_get xs k ≡ Some x → slice_get (xs ++ ys) k ≡ Some x
get_front [] ys k x is = absurd cc
get_front (y ∷ xs) ys zero x is = is
get_front (y ∷ xs) ys (suc k) x is = get_front xs ys k x is

numbered_last : {X : Type 0} (xs : List X) (x : X) (n : ℕ) → n ≡ length xs + 1 → numbered (xs ++ x ∷ []) n ≡ Some x
numbered_last xs x zero is = absurd (omega arith)
numbered_last xs x (suc k) is = numbered-push xs x k (omega arith)

-- a number above all others stands at no place
no_place : (xs : List ℕ) (n most : ℕ) → All (λ a. a ≤ most) xs → most < n → position (λ a. eqb a n) xs ≡ None
no_place xs n most each above =
    let at_end : position_or_len (λ a. eqb a n) xs ≡ length xs =
    position_or_len_is (λ a. eqb a n) xs (length xs) 0 (omega arith) (λ k below. differs (get_or xs k 0) (each k 0 below)) (λ below. absurd (omega arith)) in
    ap (λ (p : ℕ). cond (ltb p (length xs)) (Some p) None) at_end ∙ ap (λ b. cond b (Some (length xs)) None) (le-ltb (length xs) (length xs) (omega arith))
  where
    is_false : (b : Bool) → (b ≡ true → ⊥) → b ≡ false
    is_false true h = absurd (h refl)
    is_false false h = refl

    differs : (a : ℕ) → a ≤ most → eqb a n ≡ false
    differs a low = is_false (eqb a n) (λ same. let e = eqb-true a n same in absurd (omega arith))

-- an arrival that was taken: what it came to, and the world behind it
pub record Answered (w after : World) (node : ℕ) (moment : Stamp) (bytes : List ℕ) (o : Outcome) : Type 0 where
  pub there : node < w.tree.geometry.nodes
  pub few : w.arrivals < 2 ^ 32 - 1
  pub comes : ComesTo w.tree after.tree o (effect w.tree (heard bytes) (w.arrivals + 1) moment)
  pub cluster : after.tree.geometry ≡ w.tree.geometry
  pub arrivals : after.arrivals ≡ w.arrivals + 1
  pub points : after.points ≡ points_after w.points o.change

-- the world after an arrival: it was counted, and its change, if it made one, and this is the tree
pub record Counted (w : World) (tree : PlainTree) (change : Option Change) (after : World) : Type 0 where
  pub tree_is : after.tree ≡ tree
  pub arrivals : after.arrivals ≡ w.arrivals + 1
  pub points : after.points ≡ points_after w.points change

-- one more change, or none
pub counted_one : (points : ℕ) (change : Option Change) → is_some change ≡ true → points + 1 ≡ points_after points change
counted_one points None some = absurd cc
counted_one points (Some change) some = refl

pub counted_none : (points : ℕ) (change : Option Change) → is_some change ≡ false → points ≡ points_after points change
counted_none points None some = refl
counted_none points (Some change) some = absurd cc

-- what gets no reply is silence
no_reply : (t : PlainTree) (r : Request) (arrival : ℕ) (moment : Stamp) → effect t r arrival moment ≡ None → r ≡ request.Silent
no_reply t (request.Told reply) arrival moment e = absurd cc
no_reply t request.Silent arrival moment e = refl
no_reply t (request.Asked xid call cred) arrival moment e = absurd cc

-- the line that ends an arrival ends it in the book
noted_closing : (schedule : Schedule) (book : Book) (arrival at : ℕ) (o : Option (List ℕ))
    → noted schedule book (closing arrival at o) ≡ record book { ended = book.ended ++ arrival ∷ [] }
unfolding noted
noted_closing schedule book arrival at (Some bytes) = refl
noted_closing schedule book arrival at None = refl

-- the place of a number that is behind others, which are all less
its_place : (xs : List ℕ) (n most : ℕ) → All (λ a. a ≤ most) xs → most < n → position (λ a. eqb a n) (xs ++ n ∷ []) ≡ Some (length xs)
its_place xs n most each above =
    let at : position_or_len (λ a. eqb a n) (xs ++ n ∷ []) ≡ length xs =
    position_or_len_is (λ a. eqb a n) (xs ++ n ∷ []) (length xs) 0 (omega (arith, length_push xs n))
    (λ k below. differs k below) (λ below. same) in
    ap (λ (p : ℕ). cond (ltb p (length (xs ++ n ∷ []))) (Some p) None) at
    ∙ ap (λ b. cond b (Some (length xs)) None) ((Decides-ltb (length xs) (length (xs ++ n ∷ []))).1 (omega (arith, length_push xs n)))
  where
    is_false : (b : Bool) → (b ≡ true → ⊥) → b ≡ false
    is_false true h = absurd (h refl)
    is_false false h = refl

    differs : (k : ℕ) → k < length xs → eqb (get_or (xs ++ n ∷ []) k 0) n ≡ false
    differs k below =
        let front : get_or (xs ++ n ∷ []) k 0 ≡ get_or xs k 0 = get_or_append_left xs (n ∷ []) 0 k below in
        let low : get_or xs k 0 ≤ most = each k 0 below in
        is_false (eqb (get_or (xs ++ n ∷ []) k 0) n) (λ is. let e = eqb-true (get_or (xs ++ n ∷ []) k 0) n is in absurd (omega arith))

    none_left : (k : ℕ) → k - k ≡ 0
    none_left k = omega arith

    same : eqb (get_or (xs ++ n ∷ []) (length xs) 0) n ≡ true
    same = ap (λ (a : ℕ). eqb a n) (get_or-append_right xs (n ∷ []) (length xs) (length xs) 0 refl (omega arith) ∙ ap (λ (k : ℕ). get_or (n ∷ []) k 0) (none_left (length xs))) ∙ (Decides-eqb n n).1 refl

module _ (schedule : Schedule) (book : Book) (w after : World) (node : ℕ) (moment : Stamp) (bytes : List ℕ) (o : Outcome) (stands : Stands schedule book w) (within : book.lines < MAX_LINES) (next : slice_get schedule book.lines ≡ Some (Some (event.Arrive node moment.sec moment.usec bytes))) (answered : Answered w after node moment bytes o) where
  number : ℕ
  number = w.arrivals + 1

  here : Arrival
  here = record { node = node; moment = moment; bytes = bytes; points = length book.points }

  -- the book behind the first line
  came : Book
  came = record book { lines = book.lines + 1; arrivals = book.arrivals ++ here ∷ [] }

  it_comes : next_event schedule book ≡ Some (event.Arrive node moment.sec moment.usec bytes)
  it_comes =
      does_come schedule book w (event.Arrive node moment.sec moment.usec bytes) stands within next
      (may_arrive w.tree.geometry book node moment.sec moment.usec bytes answered.there (omega (arith, answered.few, stands.arrivals)))

  noted_first : noted schedule book (line.DoArrive number node) ≡ came
  unfolding noted number here came
  noted_first = ap (with_arrival book) it_comes

  arrives : Arrives schedule book number node
  unfolding number
  arrives = record {
    rest = stands.rest;
    number = ap (λ (n : ℕ). n + 1) stands.arrivals;
    sec = moment.sec;
    usec = moment.usec;
    bytes = bytes;
    event = it_comes;
  }

  it_runs : IsRunning came number here
  unfolding number here came
  it_runs = record {
    ongoing = stands.rest.ongoing;
    came = numbered_last book.arrivals here number (ap (λ (n : ℕ). n + 1) stands.arrivals);
    runs = λ there. let low : number ≤ length book.arrivals = All-contains (λ a. a ≤ length book.arrivals) book.ended number stands.ended there in omega (arith, stands.arrivals);
  }

  no_point : point_of came number ≡ None
  unfolding number here came
  no_point = ap (option_map (λ k. k + 1)) (no_place book.points number (length book.arrivals) stands.changed (omega (arith, stands.arrivals)))

  -- what it is answered where this many changes were made
  responds : response came number w.tree ≡ effect w.tree (heard bytes) number moment
  unfolding number here came
  responds =
      ap (option_and_then (λ (a : Arrival). effect w.tree (heard a.bytes) number a.moment)) (numbered_last book.arrivals here number (ap (λ (n : ℕ). n + 1) stands.arrivals))

  -- ---- where it leaves the tree as it is

  module _ (none : o.change ≡ None) (same : after.tree ≡ w.tree) where
    last : Line
    last = closing number w.points o.reply

    still : Book
    still = record came { ended = book.ended ++ number ∷ [] }

    still_is : book_after schedule book (line.DoArrive number node ∷ last ∷ []) ≡ still
    unfolding book_after last still came
    still_is = noted_closing schedule (noted schedule book (line.DoArrive number node)) number w.points o.reply ∙ ap (λ (b : Book). record b { ended = b.ended ++ number ∷ [] }) noted_first

    replies : (e : Effect) → effect w.tree (heard bytes) number moment ≡ Some e → e.tree ≡ w.tree → Replies came number w.points e.reply
    unfolding number here came
    replies e is unchanged = record {
      a = here;
      running = it_runs;
      tree = w.tree;
      e = e;
      answered = is;
      holds = subst (HoldsAt came here e w.points w.tree) (sym no_point)
          (omega (arith, stands.points), omega (arith, stands.points), ap (slice_get book.trees) stands.points ∙ stands.last, unchanged);
      is = refl;
    }

    drops : effect w.tree (heard bytes) number moment ≡ None → Drops came number why.Silent
    unfolding number here came
    drops silent = record {
      a = here;
      running = it_runs;
      heard_as = no_reply w.tree (heard bytes) number moment silent;
      is = refl;
    }

    -- the line that ends it may come
    allowed : (e : Option Effect) → effect w.tree (heard bytes) number moment ≡ e → ComesTo w.tree after.tree o e → IsAllowed schedule came last
    unfolding last
    allowed (Some e) is comes = subst (λ (r : Option (List ℕ)). IsAllowed schedule came (closing number w.points r)) (sym comes.0) (replies e is (sym comes.1 ∙ same))
    allowed None is comes = subst (λ (r : Option (List ℕ)). IsAllowed schedule came (closing number w.points r)) (sym comes.0) (drops is)

    legal : IsLegalFrom schedule book (line.DoArrive number node ∷ last ∷ [])
    unfolding IsLegalFrom number
    legal = (arrives, (subst (λ (b : Book). IsAllowed schedule b last) (sym noted_first) (allowed (effect w.tree (heard bytes) number moment) refl answered.comes), tt))

    stands_still : Stands schedule still after
    unfolding number here came still
    stands_still = record {
      cluster = stands.cluster ∙ ap Some (sym answered.cluster);
      rest = record { ongoing = stands.rest.ongoing; ended = omega (arith, stands.rest.ended, length_push book.ended number, length_push book.arrivals here) };
      arrivals = omega (arith, answered.arrivals, stands.arrivals, length_push book.arrivals here);
      points = answered.points ∙ ap (points_after w.points) none ∙ stands.points;
      trees = stands.trees;
      last = stands.last ∙ ap Some (sym same);
      changed = All-weaker (λ a. a ≤ length book.arrivals) (λ a. a ≤ length (book.arrivals ++ here ∷ [])) (λ a low. omega (arith, length_push book.arrivals here)) book.points stands.changed;
      ended = All-push (λ a. a ≤ length (book.arrivals ++ here ∷ [])) book.ended number
          (All-weaker (λ a. a ≤ length book.arrivals) (λ a. a ≤ length (book.arrivals ++ here ∷ [])) (λ a low. omega (arith, length_push book.arrivals here)) book.ended stands.ended)
          (omega (arith, stands.arrivals, length_push book.arrivals here));
    }

    goes_still : GoesOn schedule book after (line.DoArrive number node ∷ last ∷ [])
    unfolding came still
    goes_still = record {
      legal = legal;
      stands = subst (λ (b : Book). Stands schedule b after) (sym still_is) stands_still;
      used = ap (λ (b : Book). b.lines) still_is;
    }

  -- ---- where it changes the tree

  module _ (e : Effect) (change : Change) (is : effect w.tree (heard bytes) number moment ≡ Some e) (left : after.tree ≡ e.tree) (one : o.change ≡ Some change) (differs : after.tree ≢ w.tree) (made : change.made ≡ e.made) (sent : o.reply ≡ Some e.reply) where
    point : ℕ
    point = w.points + 1

    -- the book behind the line of the change, and behind all
    pointed : Book
    pointed = record came { points = book.points ++ number ∷ []; trees = book.trees ++ e.tree ∷ [] }

    done : Book
    done = record pointed { ended = book.ended ++ number ∷ [] }

    noted_point : noted schedule came (line.Point point number change.made) ≡ pointed
    unfolding noted number here came pointed
    noted_point = ap (λ (t : Option PlainTree). with_point came number (option_and_then (response came number) t)) stands.last ∙ ap (with_point came number) (responds ∙ is)

    noted_second : noted schedule (noted schedule book (line.DoArrive number node)) (line.Point point number change.made) ≡ pointed
    noted_second = ap (λ (b : Book). noted schedule b (line.Point point number change.made)) noted_first ∙ noted_point

    ending : Line
    ending = closing number point o.reply

    done_is : book_after schedule book (line.DoArrive number node ∷ line.Point point number change.made ∷ ending ∷ []) ≡ done
    unfolding book_after ending done pointed came
    done_is =
        noted_closing schedule (noted schedule (noted schedule book (line.DoArrive number node)) (line.Point point number change.made)) number point o.reply
        ∙ ap (λ (b : Book). record b { ended = b.ended ++ number ∷ [] }) noted_second

    changes : Changes came point number change.made
    unfolding number here came point
    changes = record {
      a = here;
      running = it_runs;
      number = ap (λ (n : ℕ). n + 1) stands.points;
      first = no_point;
      tree = w.tree;
      last = stands.last;
      e = e;
      answered = responds ∙ is;
      differs = λ same. differs (left ∙ same);
      made_is = made;
    }

    its_point : point_of pointed number ≡ Some point
    unfolding number here came pointed point
    its_point =
        ap (option_map (λ k. k + 1)) (its_place book.points number (length book.arrivals) stands.changed (omega (arith, stands.arrivals)))
        ∙ ap (λ (n : ℕ). Some (n + 1)) (sym stands.points)

    tree_before : slice_get pointed.trees (point - 1) ≡ Some w.tree
    unfolding came pointed point
    tree_before =
        ap (slice_get (book.trees ++ e.tree ∷ [])) (omega (arith, stands.points))
        ∙ get_front book.trees (e.tree ∷ []) (length book.points) w.tree stands.last

    still_runs : IsRunning pointed number here
    unfolding number here came pointed
    still_runs = record { ongoing = it_runs.ongoing; came = it_runs.came; runs = it_runs.runs }

    answers : Replies pointed number point e.reply
    unfolding number here came pointed
    answers = record {
      a = here;
      running = still_runs;
      tree = w.tree;
      e = e;
      answered = is;
      holds = subst (HoldsAt pointed here e point w.tree) (sym its_point) (refl, tree_before);
      is = refl;
    }

    ending_allowed : IsAllowed schedule pointed ending
    unfolding ending
    ending_allowed = subst (λ (r : Option (List ℕ)). IsAllowed schedule pointed (closing number point r)) (sym sent) answers

    legal_change : IsLegalFrom schedule book (line.DoArrive number node ∷ line.Point point number change.made ∷ ending ∷ [])
    unfolding IsLegalFrom number
    legal_change = (
      arrives,
      (
        subst (λ (b : Book). Changes b point number change.made) (sym noted_first) changes,
        (subst (λ (b : Book). IsAllowed schedule b ending) (sym noted_second) ending_allowed, tt),
      ),
    )

    stands_done : Stands schedule done after
    unfolding number here came pointed done
    stands_done = record {
      cluster = stands.cluster ∙ ap Some (sym answered.cluster);
      rest = record { ongoing = stands.rest.ongoing; ended = omega (arith, stands.rest.ended, length_push book.ended number, length_push book.arrivals here) };
      arrivals = omega (arith, answered.arrivals, stands.arrivals, length_push book.arrivals here);
      points = answered.points ∙ ap (points_after w.points) one ∙ omega (arith, stands.points, length_push book.points number);
      trees = omega (arith, stands.trees, length_push book.trees e.tree, length_push book.points number);
      last = numbered-push book.trees e.tree (length (book.points ++ number ∷ [])) (omega (arith, stands.trees, length_push book.points number)) ∙ ap Some (sym left);
      changed = All-push (λ a. a ≤ length (book.arrivals ++ here ∷ [])) book.points number
          (All-weaker (λ a. a ≤ length book.arrivals) (λ a. a ≤ length (book.arrivals ++ here ∷ [])) (λ a low. omega (arith, length_push book.arrivals here)) book.points stands.changed)
          (omega (arith, stands.arrivals, length_push book.arrivals here));
      ended = All-push (λ a. a ≤ length (book.arrivals ++ here ∷ [])) book.ended number
          (All-weaker (λ a. a ≤ length book.arrivals) (λ a. a ≤ length (book.arrivals ++ here ∷ [])) (λ a low. omega (arith, length_push book.arrivals here)) book.ended stands.ended)
          (omega (arith, stands.arrivals, length_push book.arrivals here));
    }

    goes_changed : GoesOn schedule book after (line.DoArrive number node ∷ line.Point point number change.made ∷ ending ∷ [])
    unfolding came pointed done
    goes_changed = record {
      legal = legal_change;
      stands = subst (λ (b : Book). Stands schedule b after) (sym done_is) stands_done;
      used = ap (λ (b : Book). b.lines) done_is;
    }

  -- ---- both

  -- its lines are legal, and the world is where they leave it
  by_change : (e : Option Effect) (c : Option Change) → effect w.tree (heard bytes) number moment ≡ e → o.change ≡ c → ComesTo w.tree after.tree o e
      → GoesOn schedule book after (line.DoArrive number node ∷ (change_lines number (points_after w.points c) c ++ closing number (points_after w.points c) o.reply ∷ []))
  unfolding last point ending
  by_change None None is one comes = goes_still one comes.2
  by_change None (Some change) is one comes = let both : Some change ≡ None = sym one ∙ comes.1 in absurd (cc both)
  by_change (Some e) None is one comes = goes_still one (subst (λ (c : Option Change). IfNone c (after.tree ≡ w.tree)) one comes.2.unchanged)
  by_change (Some e) (Some change) is one comes =
      let changed = subst (λ (c : Option Change). IfSome c (λ k. (after.tree ≢ w.tree) × (k.made ≡ e.made))) one comes.2.changed in
      goes_changed e change is comes.1 one changed.0 changed.1 comes.0

  pub goes_on : GoesOn schedule book after (arrival_lines (w.arrivals + 1) node after.points o)
  unfolding number
  goes_on =
      subst (λ (p : ℕ). GoesOn schedule book after (arrival_lines (w.arrivals + 1) node p o)) (sym answered.points)
      (by_change (effect w.tree (heard bytes) (w.arrivals + 1) moment) o.change refl refl answered.comes)
