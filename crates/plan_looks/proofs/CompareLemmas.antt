-- What is compared, look by look.
use Rattle.std.proofs.Common.{◌≡◌, ℕ, ◌+◌, ◌<◌, ◌≤◌, true, false, cond, Bool, List, [], ◌∷◌, ◌++◌, length, get_or, drop, Result, Ok, Err, OnOk, refl, sym, ap, ◌∙◌, append_assoc}
use Rattle.std.specs.Prelude.{◌||◌, map, flat_map}
use Rattle.std.specs.List.{list_any}
use Rattle.std.proofs.lemmas.List.{append-nil, drop_all, drop_more, map-append}
use Rattle.mini_tx.specs.declared.item.Item.{Item}
use Rattle.node_cache.specs.declared.held.Held.{Held}
use Rattle.plan_rules.specs.declared.look.Look.{Look}
use Rattle.plan_rules.specs.declared.look.Subject.{Subject}
use Rattle.plan_rules.specs.Compared.{firsts, is_same, items_of, subject_of}
use Rattle.plan_looks.specs.Firsts.{AddsFirst}

-- what holds of a call that succeeded gives something else
pub on_ok : {X E P Q : Type 0} → (r : Result X E) → OnOk r P → (P → Q) → OnOk r Q
on_ok (Ok x) is go = go is
on_ok (Err e) is go = tt

pub any_map : {X Y : Type 0} (p : Y → Bool) (f : X → Y) (xs : List X) → list_any (λ x. p (f x)) xs ≡ list_any p (map f xs)
any_map p f [] = refl
any_map p f (x ∷ xs) = ap (λ b. p (f x) || b) (any_map p f xs)

module _ (f : Subject → List Item) (seen rest : List Subject) (s : Subject) where
  -- a subject that was seen before adds nothing, and another one what is said of it
  pub seen_before : list_any (is_same s) seen ≡ true → firsts seen (s ∷ rest) ≡ firsts seen rest
  unfolding firsts
  seen_before is = ap (λ b. cond b (firsts seen rest) (s ∷ firsts (seen ++ s ∷ []) rest)) is

  pub seen_first : list_any (is_same s) seen ≡ false → flat_map f (firsts seen (s ∷ rest)) ≡ f s ++ flat_map f (firsts (seen ++ s ∷ []) rest)
  unfolding firsts
  seen_first is = ap (λ b. flat_map f (cond b (firsts seen rest) (s ∷ firsts (seen ++ s ∷ []) rest))) is

pub none_left : (f : Subject → List Item) (seen : List Subject) (items : List Item) → items ++ flat_map f (firsts seen []) ≡ items
unfolding firsts
none_left f seen items = append-nil items

with_seen : (firsts_seen : List Look) (l : Look) → map subject_of (firsts_seen ++ l ∷ []) ≡ map subject_of firsts_seen ++ subject_of l ∷ []
with_seen firsts_seen l = map-append subject_of firsts_seen (l ∷ [])

module _ (held : Held) (looks seen : List Look) (l : Look) (items : List Item) where
  abbrev f : Subject → List Item
  f = items_of held looks

  pub adds_none : list_any (is_same (subject_of l)) (map subject_of seen) ≡ true → AddsFirst held looks l items items seen seen
  adds_none is rest = ap (λ ss. items ++ flat_map f ss) (seen_before f (map subject_of seen) rest (subject_of l) is)

  pub adds_first : (more : List Item) (new : List Look) → list_any (is_same (subject_of l)) (map subject_of seen) ≡ false → more ≡ items ++ f (subject_of l)
      → new ≡ seen ++ l ∷ [] → AddsFirst held looks l items more seen new
  adds_first more new is added noted rest =
      ap (λ xs. items ++ xs) (seen_first f (map subject_of seen) rest (subject_of l) is)
      ∙ sym (append_assoc items (f (subject_of l)) (flat_map f (firsts (map subject_of seen ++ subject_of l ∷ []) rest)))
      ∙ ap (λ xs. xs ++ flat_map f (firsts (map subject_of seen ++ subject_of l ∷ []) rest)) (sym added)
      ∙ ap (λ ss. more ++ flat_map f (firsts ss rest)) (sym (ap (map subject_of) noted ∙ with_seen seen l))

-- one look more
pub look_added : (held : Held) (looks seen new : List Look) (i : ℕ) (d : Look) (whole items more : List Item) → i < length looks
    → AddsFirst held looks (get_or looks i d) items more seen new
    → whole ≡ items ++ flat_map (items_of held looks) (firsts (map subject_of seen) (map subject_of (drop i looks)))
    → whole ≡ more ++ flat_map (items_of held looks) (firsts (map subject_of new) (map subject_of (drop (i + 1) looks)))
look_added held looks seen new i d whole items more within adds so_far =
    so_far ∙ ap (λ ls. items ++ flat_map (items_of held looks) (firsts (map subject_of seen) (map subject_of ls))) (drop_more looks i d within)
    ∙ adds (map subject_of (drop (i + 1) looks))

pub looks_done : (held : Held) (looks seen : List Look) (i : ℕ) (whole items : List Item) → length looks ≤ i
    → whole ≡ items ++ flat_map (items_of held looks) (firsts (map subject_of seen) (map subject_of (drop i looks))) → items ≡ whole
looks_done held looks seen i whole items past so_far =
    sym (so_far ∙ ap (λ ls. items ++ flat_map (items_of held looks) (firsts (map subject_of seen) (map subject_of ls))) (drop_all i looks past)
    ∙ none_left (items_of held looks) (map subject_of seen) items)
