-- The slots of a directory, whose lines are written one after another.
use Rattle.std.proofs.Common.{◌≡◌, ℕ, ◌+◌, ◌<◌, ◌≤◌, List, [], ◌∷◌, ◌++◌, length, drop, get_or, Option, Some, None, sym, refl, ap, ◌∙◌, append_assoc}
use Rattle.std.proofs.lemmas.List.{at_drop_more, at_drop_all, append-nil}
use Rattle.fs_rules.specs.declared.entry.Entry.{Entry}
use Rattle.fs_listing.specs.Listing.{name_line, name_lines}

-- of the slots that are left the first is this one
left_at : (directory i : ℕ) (slots : List (Option Entry)) (slot : Option Entry) → i < length slots → slot ≡ get_or slots i slot
    → name_lines directory i (drop i slots) ≡ name_lines directory i (slot ∷ drop (i + 1) slots)
left_at directory i slots slot within read =
    at_drop_more (name_lines directory i) slots i slot within
    ∙ ap (λ (s : Option Entry). name_lines directory i (s ∷ drop (i + 1) slots)) (sym read)

-- after a slot in use, and its line
pub more_names : (lines now all : List (List ℕ)) (directory i : ℕ) (slots : List (Option Entry)) (slot : Option Entry) (e : Entry)
    → i < length slots → slot ≡ get_or slots i slot → slot ≡ Some e → now ≡ lines ++ name_line directory i e ∷ []
    → lines ++ name_lines directory i (drop i slots) ≡ all → now ++ name_lines directory (i + 1) (drop (i + 1) slots) ≡ all
unfolding name_lines
more_names lines now all directory i slots slot e within read is written so_far =
    let rest = name_lines directory (i + 1) (drop (i + 1) slots) in
    let left : name_lines directory i (drop i slots) ≡ name_line directory i e ∷ rest = left_at directory i slots slot within read ∙ ap (λ (s : Option Entry). name_lines directory i (s ∷ drop (i + 1) slots)) is in
    rw written (append_assoc lines (name_line directory i e ∷ []) rest)
    ∙ ap (λ (text : List (List ℕ)). lines ++ text) (sym left)
    ∙ so_far

-- after an empty slot
pub no_name : (lines all : List (List ℕ)) (directory i : ℕ) (slots : List (Option Entry)) (slot : Option Entry)
    → i < length slots → slot ≡ get_or slots i slot → ((e : Entry) → slot ≡ Some e → ⊥)
    → lines ++ name_lines directory i (drop i slots) ≡ all → lines ++ name_lines directory (i + 1) (drop (i + 1) slots) ≡ all
unfolding name_lines
no_name lines all directory i slots None within read empty so_far =
    ap (λ (text : List (List ℕ)). lines ++ text) (sym (left_at directory i slots None within read)) ∙ so_far
no_name lines all directory i slots (Some e) within read empty so_far = absurd (empty e refl)

-- at the end
pub all_names : (lines all : List (List ℕ)) (directory i : ℕ) (slots : List (Option Entry)) → length slots ≤ i
    → lines ++ name_lines directory i (drop i slots) ≡ all → lines ≡ all
unfolding name_lines
all_names lines all directory i slots past so_far =
    sym (append-nil lines) ∙ ap (λ (text : List (List ℕ)). lines ++ text) (sym (at_drop_all (name_lines directory i) slots i past)) ∙ so_far
