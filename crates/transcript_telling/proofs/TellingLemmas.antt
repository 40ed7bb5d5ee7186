-- Facts after a line more are those of the book with this line.
use Rattle.std.proofs.Common.{◌≡◌, ℕ, ◌+◌, ◌-◌, true, false, List, [], ◌∷◌, ◌++◌, length, Option, None, Some, refl, sym, ap, ◌∙◌, arith, length-append}
use Rattle.std.specs.Prelude.{Bool, Result, Ok, Err, OnOk}
use Rattle.fs_rules.specs.declared.plain_tree.PlainTree.{PlainTree}
use Rattle.mini_tx.specs.declared.actor.Actor.{Actor}
use Rattle.mini_tx.specs.declared.actor.Actor.TheVariants.{Node, Memory, Manager}
use Rattle.event_text.specs.declared.event.Event.{Event}
use Rattle.event_text.specs.declared.event.Event.TheVariants as event
use Rattle.line_text.specs.declared.line.Line.{Line}
use Rattle.line_text.specs.declared.line.Line.TheVariants as line
use Rattle.transcript_rules.specs.Opening.{Opening, Schedule}
use Rattle.transcript_rules.specs.Book.{Book, with_numbered}
use Rattle.transcript_rules.specs.Next.{Next, noted, told, begun, with_next, is_resend, fallen, with_point}
use Rattle.transcript_book.specs.declared.said.Said.{Said}
use Rattle.transcript_book.specs.Sayings.{AreSaid}
use Rattle.transcript_facts.specs.declared.facts.Facts.{Facts}
use Rattle.transcript_facts.specs.declared.now.Now.{Now}
use Rattle.transcript_facts.specs.Now.{now_of}
use Rattle.transcript_facts.specs.Facts.{book_of, AreFacts}
use Rattle.transcript_telling.specs.Tellings.{Notes, resends, fallen_by, told_by, with_said, begun_by, opened_by}

-- what follows where a call succeeded
pub then_ok : {X E P Q : Type 0} → (r : Result X E) → OnOk r P → (P → Q) → OnOk r Q
then_ok (Ok x) p f = f p
then_ok (Err e) p f = p

-- a line that changes no tree and owes no line of a listing
abbrev pub is_plain : Line → Bool
is_plain (line.DoArrive arrival node) = false
is_plain (line.DoEvent e) = false
is_plain (line.Point point arrival made) = false
is_plain (line.Mounted number lines) = false
is_plain (line.Listed text) = false
is_plain other = true

resends_is : (e : Option Event) → is_resend e ≡ resends (now_of e)
resends_is None = refl
resends_is (Some (event.Start (Node n) choice)) = refl
resends_is (Some (event.Start (Memory m) choice)) = refl
resends_is (Some (event.Start Manager choice)) = refl
resends_is (Some x) = refl

fallen_is : (f : Facts) (e : Option Event) (said : List Line) (trees : List PlainTree) (who : Actor) → fallen (book_of f e said trees) who ≡ book_of (fallen_by f who) e said trees
fallen_is f e said trees (Node n) = refl
fallen_is f e said trees (Memory m) = refl
fallen_is f e said trees Manager = refl

module _ (o : Opening) (schedule : Schedule) (f : Facts) (e : Option Event) (said : List Line) (trees : List PlainTree) (s : Said) where
  noted_is : (l : Line) → is_plain l ≡ true → f.event ≡ now_of e → noted o schedule (book_of f e said trees) l ≡ book_of (told_by (with_said f s) l) e (said ++ l ∷ []) trees
  unfolding noted told
  noted_is (line.DoArrive arrival node) plain now = absurd (cc plain)
  noted_is (line.DoEvent x) plain now = absurd (cc plain)
  noted_is (line.Point point arrival made) plain now = absurd (cc plain)
  noted_is (line.Mounted number lines) plain now = absurd (cc plain)
  noted_is (line.Listed text) plain now = absurd (cc plain)
  noted_is (line.Down (Node n) why) plain now = refl
  noted_is (line.Down (Memory m) why) plain now = refl
  noted_is (line.Down Manager why) plain now = refl
  noted_is (line.Sent k from to words) plain now =
      ap (λ (again : Bool). record (book_of f e (said ++ line.Sent k from to words ∷ []) trees) {
        posts = f.mail ++ (record { from = from; to = to; words = words; under = f.under; again = again; waits = true; heard = 0 }) ∷ [];
      }) (resends_is e ∙ ap resends (sym now))
  noted_is (line.Lost k) plain now = refl
  noted_is (line.Reply arrival at bytes) plain now = refl
  noted_is (line.Retry arrival why) plain now = refl
  noted_is (line.Dropped arrival why) plain now = refl
  noted_is (line.Cut number at) plain now = refl
  noted_is (line.BackupDone number) plain now = refl
  noted_is (line.RetryBackup number why) plain now = refl
  noted_is (line.MountFailed number) plain now = refl
  noted_is (line.MountBad number) plain now = refl
  noted_is (line.Refused number) plain now = refl
  noted_is line.End plain now = refl

points_kept : (f : Facts) (l : Line) (s : Said) → is_plain l ≡ true → (told_by (with_said f s) l).points ≡ f.points
points_kept f (line.Point point arrival made) s plain = absurd (cc plain)
points_kept f (line.Down (Node n) why) s plain = refl
points_kept f (line.Down (Memory m) why) s plain = refl
points_kept f (line.Down Manager why) s plain = refl
points_kept f l s plain = refl

now_kept : (f : Facts) (l : Line) (s : Said) → (told_by (with_said f s) l).event ≡ f.event
now_kept f (line.Down (Node n) why) s = refl
now_kept f (line.Down (Memory m) why) s = refl
now_kept f (line.Down Manager why) s = refl
now_kept f l s = refl

said_kept : (f : Facts) (l : Line) (s : Said) → (told_by (with_said f s) l).said ≡ s
said_kept f (line.Down (Node n) why) s = refl
said_kept f (line.Down (Memory m) why) s = refl
said_kept f (line.Down Manager why) s = refl
said_kept f l s = refl

-- a line that changes no tree
pub noted_facts : (o : Opening) (schedule : Schedule) (book : Book) (f f' : Facts) (l : Line) → AreFacts book f → is_plain l ≡ true → Notes f l f'
    → AreFacts (noted o schedule book l) f'
noted_facts o schedule book f f' l are plain notes = rw notes.is (record {
  e = are.e;
  said = are.said ++ l ∷ [];
  trees = are.trees;
  is = ap (λ (b : Book). noted o schedule b l) are.is ∙ noted_is o schedule f are.e are.said are.trees notes.said l plain are.running;
  running = now_kept f l notes.said ∙ are.running;
  are = rw (said_kept f l notes.said) (notes.says are.said are.are);
  points = are.points ∙ ap (λ n. n + 1) (sym (points_kept f l notes.said plain));
})

-- the book where a change made this tree
abbrev pub pointed : Book → ℕ → ℕ → Line → PlainTree → Book
pointed book point arrival l tree =
    record book { trees = book.trees ++ tree ∷ []; arrivals = with_numbered book.arrivals arrival (with_point point); said = book.said ++ l ∷ [] }

pub pointed_facts : (book : Book) (f f' : Facts) (point arrival : ℕ) (made : Option (ℕ × ℕ)) (tree : PlainTree) → AreFacts book f → Notes f (line.Point point arrival made) f'
    → AreFacts (pointed book point arrival (line.Point point arrival made) tree) f'
pointed_facts book f f' point arrival made tree are notes = rw notes.is (record {
  e = are.e;
  said = are.said ++ line.Point point arrival made ∷ [];
  trees = are.trees ++ tree ∷ [];
  is = ap (λ (b : Book). pointed b point arrival (line.Point point arrival made) tree) are.is;
  running = are.running;
  are = notes.says are.said are.are;
  points = length-append are.trees (tree ∷ []) ∙ ap (λ n. n + 1) are.points;
})

-- the book where these lines of a listing are owed
abbrev pub owing : Book → Line → List (List ℕ) → Book
owing book l lines = record book { owed = lines; said = book.said ++ l ∷ [] }

abbrev pub with_owed : Facts → List (List ℕ) → Facts
with_owed f lines = record f { owed = lines }

pub owing_facts : (book : Book) (f f' : Facts) (l : Line) (lines : List (List ℕ)) → ((g : Facts) → told_by g l ≡ g) → AreFacts book f → Notes f l f'
    → AreFacts (owing book l lines) (with_owed f' lines)
owing_facts book f f' l lines none are notes =
    let is : f' ≡ with_said f notes.said = notes.is ∙ none (with_said f notes.said) in
    rw is (record {
      e = are.e;
      said = are.said ++ l ∷ [];
      trees = are.trees;
      is = ap (λ (b : Book). owing b l lines) are.is;
      running = are.running;
      are = notes.says are.said are.are;
      points = are.points;
    })

-- ---- an event begins

module _ (f : Facts) (e0 : Option Event) (said : List Line) (trees : List PlainTree) (taken drained : ℕ) (s : Said) where
  begun_is : (e : Event) → length trees ≡ f.points + 1 → with_next (book_of f e0 said trees) (record { taken = taken; drained = drained; comes = Some e })
      ≡ book_of (begun_by (opened_by f taken drained (now_of (Some e)) s) e) (Some e) [] trees
  unfolding begun
  begun_is (event.Arrive node sec usec bytes) many =
      ap (λ (n : ℕ). record (book_of (opened_by f taken drained (now_of (Some (event.Arrive node sec usec bytes))) s) (Some (event.Arrive node sec usec bytes)) [] trees) {
        arrivals = f.arrivals ++ (record { node = node; moment = record { sec = sec; usec = usec }; bytes = bytes; points = n; under = f.under + 1; point = None; ended = None }) ∷ [];
      }) (points_are many)
    where
      points_are : length trees ≡ f.points + 1 → length trees - 1 ≡ f.points
      points_are e = omega (arith, e)
  begun_is (event.Crash (Node n)) many = refl
  begun_is (event.Crash (Memory m)) many = refl
  begun_is (event.Crash Manager) many = refl
  begun_is (event.Cluster nodes memories blocks inodes) many = refl
  begun_is (event.Deliver k stop) many = refl
  begun_is (event.Drain count) many = refl
  begun_is (event.Lose k) many = refl
  begun_is (event.GiveUp who) many = refl
  begun_is (event.Resend who) many = refl
  begun_is (event.Start who choice) many = refl
  begun_is (event.Sweep memory) many = refl
  begun_is (event.Checkpoint memory) many = refl
  begun_is event.Backup many = refl
  begun_is (event.Show number) many = refl
  begun_is event.End many = refl

  now_begun : (e : Event) → (begun_by (opened_by f taken drained (now_of (Some e)) s) e).event ≡ now_of (Some e)
  now_begun (event.Crash (Node n)) = refl
  now_begun (event.Crash (Memory m)) = refl
  now_begun (event.Crash Manager) = refl
  now_begun (event.Start (Node n) choice) = refl
  now_begun (event.Start (Memory m) choice) = refl
  now_begun (event.Start Manager choice) = refl
  now_begun e = refl

  said_begun : (e : Event) (n : Now) → (begun_by (opened_by f taken drained n s) e).said ≡ s
  said_begun (event.Crash (Node n)) m = refl
  said_begun (event.Crash (Memory n)) m = refl
  said_begun (event.Crash Manager) m = refl
  said_begun e m = refl

  points_begun : (e : Event) (n : Now) → (begun_by (opened_by f taken drained n s) e).points ≡ f.points
  points_begun (event.Crash (Node n)) m = refl
  points_begun (event.Crash (Memory n)) m = refl
  points_begun (event.Crash Manager) m = refl
  points_begun e m = refl

-- the facts where the next event begins and does what it does
pub begun_facts : (book : Book) (f : Facts) (n : Next) (e : Event) (s : Said) → AreFacts book f → n.comes ≡ Some e → AreSaid [] s
    → AreFacts (with_next book n) (begun_by (opened_by f n.taken n.drained (now_of (Some e)) s) e)
begun_facts book f n e s are comes none = record {
  e = Some e;
  said = [];
  trees = are.trees;
  is = ap (λ (b : Book). with_next b n) are.is ∙ ap (λ (c : Option Event). with_next (book_of f are.e are.said are.trees) (record { taken = n.taken; drained = n.drained; comes = c })) comes
      ∙ begun_is f are.e are.said are.trees n.taken n.drained s e are.points;
  running = now_begun f are.e are.said are.trees n.taken n.drained s e;
  are = rw (said_begun f are.e are.said are.trees n.taken n.drained s e (now_of (Some e))) none;
  points = are.points ∙ ap (λ m. m + 1) (sym (points_begun f are.e are.said are.trees n.taken n.drained s e (now_of (Some e))));
}
