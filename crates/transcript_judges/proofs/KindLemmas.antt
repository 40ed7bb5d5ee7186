-- What the tests of one value decide.
use Rattle.std.proofs.Common.{inl, inr, ◌≡◌, ℕ, true, false, Option, Some, None, List, [], ◌∷◌, refl, ap}
use Rattle.std.specs.Prelude.{is_some, option_and_then, ◌⊎◌}
use Rattle.mini_tx.specs.declared.actor.Actor.{Actor}
use Rattle.mini_tx.specs.declared.actor.Actor.TheVariants.{Node, Memory, Manager}
use Rattle.nfs_service.specs.declared.request.Request.{Request}
use Rattle.nfs_service.specs.declared.request.Request.TheVariants as request
use Rattle.event_text.specs.declared.event.Event.{Event}
use Rattle.event_text.specs.declared.event.Event.TheVariants as event
use Rattle.line_text.specs.declared.line.Line.{Line}
use Rattle.line_text.specs.declared.sent_kind.SentKind.{SentKind}
use Rattle.line_text.specs.declared.sent_kind.SentKind.TheVariants as sent
use Rattle.transcript_rules.specs.declared.post.Post.{Post}
use Rattle.transcript_rules.specs.Book.{numbered, is_actor, delivered_now}
use Rattle.transcript_rules.specs.Next.{is_memory}
use Rattle.transcript_rules.specs.Carried.{is_prepare, is_granted, starts_memory}
use Rattle.transcript_book.specs.Sayings.{are_none}
use Rattle.transcript_facts.specs.Now.{now_of, delivered_in}
use Rattle.transcript_facts.specs.Facts.{is_nil}
use Rattle.transcript_judges.specs.Tests.{runs, gives_up, starts_one, shows, post_of, is_mismatch, is_locked, is_vote_held, is_forced, is_held_locked, is_lost, is_whole, is_silent}
use Rattle.transcript_judges.specs.Rules.{Decides}
use Rattle.transcript_judges.proofs.Deciding.{as_of, same_numbers}

yes_refl : {X : Type 0} → (x : X) → Decides true (x ≡ x)
yes_refl x = record { to = λ e. refl; from = λ e. refl }

never : {P : Type 0} → (P → ⊥) → Decides false P
never no_way = record { to = λ e. absurd (cc e); from = λ p. absurd (no_way p) }

pub same_actor : (who other : Actor) → Decides (is_actor who other) (who ≡ other)
same_actor (Node a) (Node b) = as_of (λ e. ap Node e) (λ e. cc e) (same_numbers a b)
same_actor (Memory a) (Memory b) = as_of (λ e. ap Memory e) (λ e. cc e) (same_numbers a b)
same_actor Manager Manager = yes_refl Manager
same_actor who other = never (λ e. cc e)

pub of_memory : (who : Actor) → Decides (is_memory who) ((m : ℕ) × (who ≡ Memory m))
of_memory (Memory m) = record { to = λ e. (m, refl); from = λ e. refl }
of_memory other = never (λ t. cc (t.1))

pub prepares : (w : SentKind) → Decides (is_prepare w) (w ≡ sent.Prepare)
prepares sent.Prepare = yes_refl sent.Prepare
prepares w = never (λ e. cc e)

pub grants : (w : SentKind) → Decides (is_granted w) (w ≡ sent.VoteOk)
grants sent.VoteOk = yes_refl sent.VoteOk
grants w = never (λ e. cc e)

pub mismatches : (w : SentKind) → Decides (is_mismatch w) (w ≡ sent.VoteMismatch)
mismatches sent.VoteMismatch = yes_refl sent.VoteMismatch
mismatches w = never (λ e. cc e)

pub locks : (w : SentKind) → Decides (is_locked w) (w ≡ sent.VoteLocked)
locks sent.VoteLocked = yes_refl sent.VoteLocked
locks w = never (λ e. cc e)

pub votes_held : (w : SentKind) → Decides (is_vote_held w) (w ≡ sent.VoteHeld)
votes_held sent.VoteHeld = yes_refl sent.VoteHeld
votes_held w = never (λ e. cc e)

pub forces : (w : SentKind) → Decides (is_forced w) (w ≡ sent.VoteForced)
forces sent.VoteForced = yes_refl sent.VoteForced
forces w = never (λ e. cc e)

pub holds_locked : (w : SentKind) → Decides (is_held_locked w) (w ≡ sent.HeldLocked)
holds_locked sent.HeldLocked = yes_refl sent.HeldLocked
holds_locked w = never (λ e. cc e)

one_of : {X : Type 0} → (x a b : X) → (x ≡ a → ⊥) → (x ≡ b → ⊥) → (x ≡ a) ⊎ (x ≡ b) → ⊥
one_of x a b p q (inl e) = p e
one_of x a b p q (inr e) = q e

pub loses_cut : (w : SentKind) → Decides (is_lost w) ((w ≡ sent.HeldPast) ⊎ (w ≡ sent.PieceNone))
loses_cut sent.HeldPast = record { to = λ e. inl refl; from = λ e. refl }
loses_cut sent.PieceNone = record { to = λ e. inr refl; from = λ e. refl }
loses_cut w = never (one_of w sent.HeldPast sent.PieceNone (λ e. cc e) (λ e. cc e))

pub is_of_cut : (w : SentKind) → Decides (is_whole w) ((w ≡ sent.HeldOk) ⊎ (w ≡ sent.Piece))
is_of_cut sent.HeldOk = record { to = λ e. inl refl; from = λ e. refl }
is_of_cut sent.Piece = record { to = λ e. inr refl; from = λ e. refl }
is_of_cut w = never (one_of w sent.HeldOk sent.Piece (λ e. cc e) (λ e. cc e))

pub silences : (r : Request) → Decides (is_silent r) (r ≡ request.Silent)
silences (request.Told reply) = never (λ e. cc e)
silences request.Silent = yes_refl request.Silent
silences (request.Asked xid call cred) = never (λ e. cc e)

pub nil_is : {X : Type 0} → (xs : List X) → Decides (is_nil xs) (xs ≡ [])
nil_is [] = yes_refl []
nil_is (x ∷ xs) = never (λ e. cc e)

pub none_is : (ls : List Line) → Decides (are_none ls) (ls ≡ [])
none_is [] = yes_refl []
none_is (x ∷ xs) = never (λ e. cc e)

pub some_is : {X : Type 0} → (o : Option X) → Decides (is_some o) ((x : X) × (o ≡ Some x))
some_is None = never (λ t. cc (t.1))
some_is (Some x) = record { to = λ e. (x, refl); from = λ e. refl }

-- ---- the event that runs

pub some_event : (e : Option Event) → Decides (runs (now_of e)) ((x : Event) × (e ≡ Some x))
some_event None = never (λ t. cc (t.1))
some_event (Some (event.Start (Node n) choice)) = record { to = λ e. (event.Start (Node n) choice, refl); from = λ e. refl }
some_event (Some (event.Start (Memory m) choice)) = record { to = λ e. (event.Start (Memory m) choice, refl); from = λ e. refl }
some_event (Some (event.Start Manager choice)) = record { to = λ e. (event.Start Manager choice, refl); from = λ e. refl }
some_event (Some x) = record { to = λ e. (x, refl); from = λ e. refl }

pub handed_by : (posts : List Post) (e : Option Event) → post_of posts (delivered_in (now_of e)) ≡ option_and_then (numbered posts) (delivered_now e)
handed_by posts None = refl
handed_by posts (Some (event.Start (Node n) choice)) = refl
handed_by posts (Some (event.Start (Memory m) choice)) = refl
handed_by posts (Some (event.Start Manager choice)) = refl
handed_by posts (Some x) = refl

pub delivered_by : (e : Option Event) → delivered_in (now_of e) ≡ delivered_now e
delivered_by None = refl
delivered_by (Some (event.Start (Node n) choice)) = refl
delivered_by (Some (event.Start (Memory m) choice)) = refl
delivered_by (Some (event.Start Manager choice)) = refl
delivered_by (Some x) = refl

pub tells_up : (e : Option Event) (who : Actor) → Decides (gives_up (now_of e) who) (e ≡ Some (event.GiveUp who))
tells_up None who = never (λ e. cc e)
tells_up (Some (event.GiveUp w)) who = as_of (λ e. ap (λ (x : Actor). Some (event.GiveUp x)) e) (λ e. cc e) (same_actor w who)
tells_up (Some (event.Start (Node n) choice)) who = never (λ e. cc e)
tells_up (Some (event.Start (Memory m) choice)) who = never (λ e. cc e)
tells_up (Some (event.Start Manager choice)) who = never (λ e. cc e)
tells_up (Some x) who = never (λ e. cc e)

pub shows_one : (e : Option Event) (number : ℕ) → Decides (shows (now_of e) number) (e ≡ Some (event.Show number))
shows_one None number = never (λ e. cc e)
shows_one (Some (event.Show b)) number = as_of (λ e. ap (λ (x : ℕ). Some (event.Show x)) e) (λ e. cc e) (same_numbers b number)
shows_one (Some (event.Start (Node n) choice)) number = never (λ e. cc e)
shows_one (Some (event.Start (Memory m) choice)) number = never (λ e. cc e)
shows_one (Some (event.Start Manager choice)) number = never (λ e. cc e)
shows_one (Some x) number = never (λ e. cc e)

pub memory_starts : (e : Option Event) → Decides (starts_one (now_of e)) ((m : ℕ) × (starts_memory e ≡ Some m))
memory_starts None = never (λ t. cc (t.1))
memory_starts (Some (event.Start (Node n) choice)) = never (λ t. cc (t.1))
memory_starts (Some (event.Start (Memory m) choice)) = record { to = λ e. (m, refl); from = λ e. refl }
memory_starts (Some (event.Start Manager choice)) = never (λ t. cc (t.1))
memory_starts (Some x) = never (λ t. cc (t.1))
