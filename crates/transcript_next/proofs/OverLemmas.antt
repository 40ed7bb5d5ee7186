-- That an event is over, by facts and by the book.
use Rattle.std.proofs.Common.{◌≡◌, ℕ, true, false, cond, not, List, [], ◌∷◌, length, Option, None, Some, refl, sym, ap, ◌∙◌}
use Rattle.std.specs.Prelude.{Bool, ◌&&◌, ◌||◌, nat_lt, if◌then◌else◌, count_by}
use Rattle.std.specs.Option.{option_map_or}
use Rattle.std.specs.List.{list_any}
use Rattle.fs_rules.specs.declared.plain_tree.PlainTree.{PlainTree}
use Rattle.mini_tx.specs.declared.actor.Actor.{Actor}
use Rattle.mini_tx.specs.declared.actor.Actor.TheVariants.{Node, Memory, Manager}
use Rattle.nfs_service.specs.Needs.{needs_files}
use Rattle.nfs_service.specs.Reply.{heard}
use Rattle.event_text.specs.declared.event.Event.{Event}
use Rattle.event_text.specs.declared.event.Event.TheVariants as event
use Rattle.line_text.specs.declared.line.Line.{Line}
use Rattle.transcript_rules.specs.declared.arrival.Arrival.{Arrival}
use Rattle.transcript_rules.specs.declared.post.Post.{Post}
use Rattle.transcript_rules.specs.Opening.{Opening}
use Rattle.transcript_rules.specs.Book.{Book, numbered, is_actor, is_up}
use Rattle.transcript_rules.specs.Cause.{is_open_before}
use Rattle.transcript_rules.specs.Place.{has_all, is_told, ends_at_once, last_ended, is_down_at, is_down_line_of, is_lost_line, is_retry_line, IsOver}
use Rattle.transcript_rules.specs.Truth.{is_mounting_line}
use Rattle.transcript_book.specs.Sayings.{AreSaid}
use Rattle.transcript_facts.specs.declared.facts.Facts.{Facts}
use Rattle.transcript_facts.specs.Now.{now_of}
use Rattle.transcript_facts.specs.Facts.{book_of, is_nil}
use Rattle.transcript_judges.specs.Rules.{Decides}
use Rattle.transcript_judges.proofs.Deciding.{both, as_of, as_test, it_is}
use Rattle.transcript_judges.proofs.KindLemmas.{nil_is}
use Rattle.transcript_next.specs.Overs.{is_downed, has_lost, ends_at_once_by, has_answered, has_all_by, has_all_of, is_over_by}

twice_not : (b : Bool) → not (not b) ≡ b
twice_not true = refl
twice_not false = refl

module _ (o : Opening) (f : Facts) (x : Option Event) (said : List Line) (trees : List PlainTree) (now : f.event ≡ now_of x) (are : AreSaid said f.said) where
  downed : (who : Actor) → is_down_at (book_of f x said trees) who ≡ (list_any (is_actor who) f.down && not (list_any (is_actor who) f.said.downs.items))
  downed who =
      ap (λ b. b && not (list_any (is_down_line_of who) said)) (twice_not (list_any (is_actor who) f.down))
      ∙ ap (λ b. list_any (is_actor who) f.down && not b) (sym (are.downs who))

  lost : (p : Option Post) → cond (option_map_or (λ (q : Post). is_down_at (book_of f x said trees) q.to) p false) (list_any is_lost_line said) true ≡ has_lost f p
  lost None = refl
  lost (Some p) = ap (λ b. cond b (list_any is_lost_line said) true) (downed p.to) ∙ ap (λ b. cond (is_downed f p) b true) (sym are.lost)

  at_once : (a : Arrival) (up needs : Bool) → list_any (is_actor (Node a.node)) f.down ≡ up → needs_files o.geometry (heard a.bytes) ≡ needs
      → cond (not up) (cond needs (nat_lt 32 (count_by (is_open_before a.node f.under) f.arrivals)) true) true
      ≡ cond (up || not needs) true (nat_lt 32 (count_by (is_open_before a.node f.under) f.arrivals))
  at_once a true true p q = refl
  at_once a true false p q = refl
  at_once a false true p q = refl
  at_once a false false p q = refl

  ended_of : (b t : Bool) → cond b t true ≡ (not b || t)
  ended_of true t = refl
  ended_of false t = refl

  answered : (a : Option Arrival)
      → cond (option_map_or (λ (y : Arrival). if is_up (book_of f x said trees) (Node y.node) then (if needs_files o.geometry (heard y.bytes) then nat_lt 32 (count_by (is_open_before y.node f.under) f.arrivals) else true) else true) a false)
      (option_map_or (λ (y : Arrival). is_told y.ended) a true) true
      ≡ has_answered o.geometry f a
  answered None = refl
  answered (Some a) =
      ap (λ b. cond b (is_told a.ended) true) (at_once a (list_any (is_actor (Node a.node)) f.down) (needs_files o.geometry (heard a.bytes)) refl refl)
      ∙ ended_of (ends_at_once_by o.geometry f a.node (heard a.bytes)) (is_told a.ended)

  all_of : (y : Option Event) → has_all o (book_of f x said trees) y ≡ has_all_of o.geometry f (now_of y)
  all_of None = refl
  all_of (Some (event.Arrive node sec usec bytes)) = answered (numbered f.arrivals (length f.arrivals))
  all_of (Some (event.Deliver k stop)) = lost (numbered f.mail k)
  all_of (Some (event.GiveUp who)) = sym are.retry
  all_of (Some (event.Show number)) = sym are.mounting
  all_of (Some (event.Start (Node n) choice)) = refl
  all_of (Some (event.Start (Memory m) choice)) = refl
  all_of (Some (event.Start Manager choice)) = refl
  all_of (Some y) = refl

  if_both : (a b : Bool) → (if a then b else false) ≡ (a && b)
  if_both true b = refl
  if_both false b = refl

  -- the event is over, where the transcript has not ended
  pub over_is : f.closed ≡ false → Decides (is_over_by o.geometry f) (IsOver o (book_of f x said trees))
  over_is goes =
      as_of (λ t. record { ongoing = goes; told = t.0; due = t.1 }) (λ r. (r.told, r.due))
      (as_test (if_both (is_nil f.owed) (has_all_by o.geometry f))
      (both (nil_is f.owed) (as_test (ap (has_all_of o.geometry f) now ∙ sym (all_of x)) (it_is (has_all o (book_of f x said trees) x)))))
