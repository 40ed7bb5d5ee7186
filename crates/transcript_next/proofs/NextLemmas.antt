-- The next event by facts is that of the book.
use Rattle.std.proofs.Common.{◌≡◌, ℕ, suc, ◌+◌, ◌<◌, ◌≤◌, subst, true, false, cond, not, List, [], ◌∷◌, map, drop, length, get_or, Option, None, Some, refl, sym, ap, ◌∙◌, arith}
use Rattle.std.specs.Prelude.{Bool, ◌&&◌, nat_lt, if◌then◌else◌, is_some, option_and_then}
use Rattle.std.specs.Option.{option_map_or}
use Rattle.std.specs.List.{list_any}
use Rattle.fs_rules.specs.declared.geometry.Geometry.{Geometry}
use Rattle.fs_rules.specs.declared.plain_tree.PlainTree.{PlainTree}
use Rattle.mini_tx.specs.declared.actor.Actor.{Actor}
use Rattle.mini_tx.specs.declared.actor.Actor.TheVariants.{Node, Memory, Manager}
use Rattle.event_text.specs.declared.event.Event.{Event}
use Rattle.event_text.specs.declared.event.Event.TheVariants as event
use Rattle.line_text.specs.declared.line.Line.{Line}
use Rattle.transcript_rules.specs.declared.backup.Backup.{Backup}
use Rattle.transcript_rules.specs.declared.post.Post.{Post}
use Rattle.transcript_rules.specs.Opening.{Schedule}
use Rattle.transcript_rules.specs.Book.{Book, numbered, is_actor, first_open}
use Rattle.transcript_rules.specs.Next.{Next, is_memory, is_there, is_million, may_come, may_give_up, next_in, least_from, drain_or}
use Rattle.transcript_facts.specs.declared.facts.Facts.{Facts}
use Rattle.transcript_facts.specs.Facts.{book_of, running_in}
use Rattle.transcript_judges.specs.Tests.{is_none}
use Rattle.transcript_judges.proofs.TestLemmas.{running_is}
use Rattle.transcript_next.specs.Coming.{is_to_memory, is_done, is_upright, gives_up_by, comes_by}
use Rattle.transcript_next.specs.declared.next.Next.{Next as Found}
use Rattle.transcript_next.specs.Nexts.{next_by, next_at, drain_of, refused_at, scheduled, IsNext, IsNextAt}

is_posted_by : (o : Option Post) → option_map_or (λ p. true) o false ≡ is_some o
is_posted_by None = refl
is_posted_by (Some p) = refl

to_memory_by : (o : Option Post) → option_map_or (λ p. is_memory p.to) o false ≡ is_to_memory o
to_memory_by None = refl
to_memory_by (Some p) = refl

done_by : (o : Option Backup) → option_map_or (λ x. x.done) o false ≡ is_done o
done_by None = refl
done_by (Some b) = refl

none_by : {X : Type 0} → (o : Option X) → not (is_some o) ≡ is_none o
none_by None = refl
none_by (Some x) = refl

twice_not : (b : Bool) → not (not b) ≡ b
twice_not true = refl
twice_not false = refl

module _ (g : Geometry) (f : Facts) (x : Option Event) (said : List Line) (trees : List PlainTree) where
  gives_up_is : (who : Actor) → may_give_up g (book_of f x said trees) who ≡ gives_up_by g f who
  gives_up_is (Node n) = refl
  gives_up_is (Memory m) = refl
  gives_up_is Manager = ap (λ o. is_upright f Manager && is_some o) (sym (running_is f.backups))

  pub comes_is : (e : Event) → may_come g (book_of f x said trees) e ≡ comes_by g f e
  unfolding may_come
  comes_is (event.Cluster nodes memories blocks inodes) = refl
  comes_is (event.Arrive node sec usec bytes) = refl
  comes_is (event.Deliver k None) = is_posted_by (numbered f.mail k)
  comes_is (event.Deliver k (Some calls)) = ap (λ b. b && is_million calls) (to_memory_by (numbered f.mail k))
  comes_is (event.Drain count) = refl
  comes_is (event.Lose k) = is_posted_by (numbered f.mail k)
  comes_is (event.GiveUp who) = gives_up_is who
  comes_is (event.Resend who) = refl
  comes_is (event.Crash who) = refl
  comes_is (event.Start who choice) = ap (λ b. is_there g who && b) (twice_not (list_any (is_actor who) f.down))
  comes_is (event.Sweep memory) = refl
  comes_is (event.Checkpoint memory) = refl
  comes_is event.Backup = ap (λ b. is_upright f Manager && b) (ap (λ o. not (is_some o)) (sym (running_is f.backups)) ∙ none_by (running_in f.backups))
  comes_is (event.Show number) = done_by (numbered f.backups number)
  comes_is event.End = refl

  pub next_is : (lines : Schedule) (taken drained : ℕ) → next_in g (book_of f x said trees) taken drained lines ≡ next_by g f taken drained lines
  unfolding next_in next_by
  next_is [] taken drained = refl
  next_is (None ∷ lines) taken drained = refl
  next_is (Some (event.Drain count) ∷ lines) taken drained =
      ap (λ n. if is_million count then (if nat_lt drained count then drain_or taken drained (least_from 1 f.mail) n else n) else refused_at taken) (next_is lines (taken + 1) 0)
  next_is (Some e ∷ lines) taken drained = ap (λ b. if b then record { taken = taken + 1; drained = 0; comes = Some e } else refused_at taken) (comes_is e)

-- the schedule from an event on
pub from_event : (events : List Event) (i : ℕ) (d : Event) → i < length events → drop i (scheduled events) ≡ Some (get_or events i d) ∷ drop (i + 1) (scheduled events)
from_event [] i d below = absurd (omega (arith, below))
from_event (e ∷ events) ℕ.zero d below = refl
from_event (e ∷ events) (suc i) d below = from_event events i d (omega (arith, below)) ∙ ap (λ n. Some (get_or events i d) ∷ drop n (map Some (e ∷ events))) (sym (one_on i)) where
  one_on : (k : ℕ) → suc k + 1 ≡ suc (k + 1)
  one_on k = omega arith

from_end : (events : List Event) (i : ℕ) → length events ≤ i → drop i (scheduled events) ≡ []
from_end [] ℕ.zero past = refl
from_end [] (suc i) past = refl
from_end (e ∷ events) ℕ.zero past = absurd (omega (arith, past))
from_end (e ∷ events) (suc i) past = from_end events i (omega (arith, past))

-- what comes at a line
next_here : (g : Geometry) (f : Facts) (events : List Event) (taken drained : ℕ) (e : Event) → taken < length events → e ≡ get_or events taken e
    → next_by g f taken drained (drop taken (scheduled events)) ≡ next_at g f taken drained e (drain_of e) (next_by g f (taken + 1) 0 (drop (taken + 1) (scheduled events)))
unfolding next_by
next_here g f events taken drained e below is =
    ap (next_by g f taken drained) (from_event events taken e below ∙ ap (λ (x : Event). Some x ∷ drop (taken + 1) (scheduled events)) (sym is))

pub came_here : (g : Geometry) (f : Facts) (events : List Event) (taken drained : ℕ) (e : Event) (found : Found) (next : Next) → taken < length events → e ≡ get_or events taken e
    → next_by g f taken drained (drop taken (scheduled events)) ≡ next → IsNextAt (next_at g f taken drained e (drain_of e)) (Some found) → IsNext next found
came_here g f events taken drained e found next below is same at =
    subst (λ (x : Next). IsNext x found) (sym (next_here g f events taken drained e below is) ∙ same) (at (next_by g f (taken + 1) 0 (drop (taken + 1) (scheduled events))))

pub passed_here : (g : Geometry) (f : Facts) (events : List Event) (taken drained : ℕ) (e : Event) (next : Next) → taken < length events → e ≡ get_or events taken e
    → next_by g f taken drained (drop taken (scheduled events)) ≡ next → IsNextAt (next_at g f taken drained e (drain_of e)) None → next_by g f (taken + 1) 0 (drop (taken + 1) (scheduled events)) ≡ next
passed_here g f events taken drained e next below is same at =
    sym (at (next_by g f (taken + 1) 0 (drop (taken + 1) (scheduled events)))) ∙ sym (next_here g f events taken drained e below is) ∙ same

pub none_here : (g : Geometry) (f : Facts) (events : List Event) (taken drained : ℕ) (found : Found) (next : Next) → length events ≤ taken
    → next_by g f taken drained (drop taken (scheduled events)) ≡ next → IsNext (refused_at taken) found → IsNext next found
unfolding next_by
none_here g f events taken drained found next past same is =
    subst (λ (x : Next). IsNext x found) (sym (ap (next_by g f taken drained) (from_end events taken past)) ∙ same) is
