-- The test decides whether one event is another.
use Rattle.std.proofs.Common.{◌≡◌, ℕ, List, true, false, Option, None, Some, refl, sym, ap, ◌∙◌, arith}
use Rattle.std.specs.Prelude.{Bool, ◌&&◌, ◌==◌}
use Rattle.std.specs.Str.{bytes_eq}
use Rattle.std.proofs.lemmas.Slice.Eq.{bytes_eq-Decides}
use Rattle.mini_tx.specs.declared.actor.Actor.{Actor}
use Rattle.event_text.specs.declared.event.Event.{Event}
use Rattle.event_text.specs.declared.event.Event.TheVariants as event
use Rattle.event_text.specs.declared.start_choice.StartChoice.{StartChoice}
use Rattle.event_text.specs.declared.start_choice.StartChoice.TheVariants as choice
use Rattle.transcript_judges.specs.Rules.{Decides}
use Rattle.transcript_judges.proofs.Deciding.{both, as_of, same_numbers}
use Rattle.transcript_judges.proofs.KindLemmas.{same_actor}
use Rattle.transcript_next.specs.Same.{is_stop, is_choice, is_event}

yes_refl : {X : Type 0} → (x : X) → Decides true (x ≡ x)
yes_refl x = record { to = λ e. refl; from = λ e. refl }

never : {P : Type 0} → (P → ⊥) → Decides false P
never no_way = record { to = λ e. absurd (cc e); from = λ p. absurd (no_way p) }

same_stop : (a b : Option ℕ) → Decides (is_stop a b) (a ≡ b)
same_stop None None = yes_refl None
same_stop (Some a) (Some b) = as_of (λ e. ap Some e) (λ e. cc e) (same_numbers a b)
same_stop a b = never (λ e. cc e)

same_choice : (a b : StartChoice) → Decides (is_choice a b) (a ≡ b)
same_choice choice.Old choice.Old = yes_refl choice.Old
same_choice choice.New choice.New = yes_refl choice.New
same_choice (choice.Fill a) (choice.Fill b) = as_of (λ e. ap choice.Fill e) (λ e. cc e) (same_numbers a b)
same_choice a b = never (λ e. cc e)

same_bytes : (a b : List ℕ) → Decides (bytes_eq a b) (a ≡ b)
same_bytes a b = record { to = (bytes_eq-Decides a b).0; from = (bytes_eq-Decides a b).1 }

pub same_event : (a b : Event) → Decides (is_event a b) (a ≡ b)
same_event (event.Cluster n m b i) (event.Cluster n' m' b' i') =
    as_of (λ t. let one = t.0.0.0 in let two = t.0.0.1 in let three = t.0.1 in let four = t.1 in cc (one, two, three, four)) (λ e. (((cc e, cc e), cc e), cc e))
    (both (both (both (same_numbers n n') (same_numbers m m')) (same_numbers b b')) (same_numbers i i'))
same_event (event.Arrive n s u b) (event.Arrive n' s' u' b') =
    as_of (λ t. let one = t.0.0.0 in let two = t.0.0.1 in let three = t.0.1 in let four = t.1 in cc (one, two, three, four)) (λ e. (((cc e, cc e), cc e), cc e))
    (both (both (both (same_numbers n n') (same_numbers s s')) (same_numbers u u')) (same_bytes b b'))
same_event (event.Deliver k s) (event.Deliver k' s') = as_of (λ t. let one = t.0 in let two = t.1 in cc (one, two)) (λ e. (cc e, cc e)) (both (same_numbers k k') (same_stop s s'))
same_event (event.Drain k) (event.Drain k') = as_of (λ e. ap event.Drain e) (λ e. cc e) (same_numbers k k')
same_event (event.Lose k) (event.Lose k') = as_of (λ e. ap event.Lose e) (λ e. cc e) (same_numbers k k')
same_event (event.GiveUp k) (event.GiveUp k') = as_of (λ e. ap event.GiveUp e) (λ e. cc e) (same_actor k k')
same_event (event.Resend k) (event.Resend k') = as_of (λ e. ap event.Resend e) (λ e. cc e) (same_actor k k')
same_event (event.Crash k) (event.Crash k') = as_of (λ e. ap event.Crash e) (λ e. cc e) (same_actor k k')
same_event (event.Start w c) (event.Start w' c') = as_of (λ t. let one = t.0 in let two = t.1 in cc (one, two)) (λ e. (cc e, cc e)) (both (same_actor w w') (same_choice c c'))
same_event (event.Sweep k) (event.Sweep k') = as_of (λ e. ap event.Sweep e) (λ e. cc e) (same_numbers k k')
same_event (event.Checkpoint k) (event.Checkpoint k') = as_of (λ e. ap event.Checkpoint e) (λ e. cc e) (same_numbers k k')
same_event event.Backup event.Backup = yes_refl event.Backup
same_event (event.Show k) (event.Show k') = as_of (λ e. ap event.Show e) (λ e. cc e) (same_numbers k k')
same_event event.End event.End = yes_refl event.End
same_event a b = never (λ e. cc e)
