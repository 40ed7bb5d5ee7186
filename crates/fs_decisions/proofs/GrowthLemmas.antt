-- The limits of edits of which one alone grows.
use Rattle.std.proofs.Common.{◌≡◌, ℕ, ◌-◌, Bool, true, false, cond, ltb, List, [], ◌∷◌, ◌++◌, length, Some, None, refl, ap, ◌∙◌, arith}
use Rattle.std.specs.Prelude.{sum_by, ◌||◌, ◌&&◌, is_none}
use Rattle.std.specs.List.{list_any, AllByRecursion}
use Rattle.std.proofs.lemmas.List.Sums.{sum_by-cons}
use Rattle.fs_rules.specs.declared.file.File.{File}
use Rattle.fs_rules.specs.declared.plain_tree.PlainTree.{PlainTree}
use Rattle.fs_rules.specs.File.{used, slots_of}
use Rattle.fs_rules.specs.Numbers.{free_blocks, first_free}
use Rattle.fs_rules.specs.Statuses.{first_failure, fbig, nospc}
use Rattle.fs_rules.specs.Edits.{Edit, Changed, limits, rise, used_at, is_spent, is_linked_too_often, has_too_many_slots, is_made}
use Rattle.fs_decisions.proofs.TakeLemmas.{IsLight}

abbrev pub AreLight : PlainTree → List Edit → Type 0
AreLight t es = AllByRecursion (IsLight t) es

pub or_none : (a : Bool) → (a || false) ≡ a
or_none true = refl
or_none false = refl

-- a test that no other edit of a list passes
any_none : (f : Edit → Bool) (es : List Edit) → AllByRecursion (λ e. f e ≡ false) es → list_any f es ≡ false
any_none f [] h = refl
any_none f (e ∷ es) h = ap (λ b. b || list_any f es) h.0 ∙ any_none f es h.1

any_one : (f : Edit → Bool) (pre post : List Edit) (x : Edit) → AllByRecursion (λ e. f e ≡ false) pre → AllByRecursion (λ e. f e ≡ false) post → list_any f (pre ++ x ∷ post) ≡ f x
any_one f [] post x h k = ap (λ b. f x || b) (any_none f post k) ∙ or_none (f x)
any_one f (e ∷ pre) post x h k = ap (λ b. b || list_any f (pre ++ x ∷ post)) h.0 ∙ any_one f pre post x h.1 k

-- what all light edits have
each : {P Q : Edit → Type 0} → ((e : Edit) → P e → Q e) → (es : List Edit) → AllByRecursion P es → AllByRecursion Q es
each step [] h = tt
each step (e ∷ es) h = (step e h.0, each step es h.1)

rise_none : (t : PlainTree) (es : List Edit) → AreLight t es → sum_by (rise t) es ≡ 0
rise_none t [] h = refl
rise_none t (e ∷ es) h = let first = sum_by-cons (rise t) e es in let rest = rise_none t es h.1 in let own = h.0.rise in omega (arith, first, rest, own)

rise_one : (t : PlainTree) (pre post : List Edit) (x : Edit) → AreLight t pre → AreLight t post → sum_by (rise t) (pre ++ x ∷ post) ≡ rise t x
rise_one t [] post x h k = let first = sum_by-cons (rise t) x post in let rest = rise_none t post k in omega (arith, first, rest)
rise_one t (e ∷ pre) post x h k =
    let first = sum_by-cons (rise t) e (pre ++ x ∷ post) in
    let rest = rise_one t pre post x h.1 k in
    let own = h.0.rise in
    omega (arith, first, rest, own)

by_tests : (spent linked slotted made numbers full : Bool) → made ≡ false
    → first_failure (cond spent (Some fbig) None ∷ cond linked (Some nospc) None ∷ cond slotted (Some nospc) None ∷ cond (made && numbers) (Some nospc) None ∷ cond full (Some nospc) None ∷ [])
    ≡ cond spent (Some fbig) (cond (linked || (slotted || full)) (Some nospc) None)
unfolding first_failure
by_tests true linked slotted made numbers full a = refl
by_tests false true slotted made numbers full a = refl
by_tests false false true made numbers full a = refl
by_tests false false false true numbers full a = absurd cc
by_tests false false false false numbers true a = refl
by_tests false false false false numbers false a = refl

-- the limits of edits of which all but that of the file n are light
pub limits_grown : (t : PlainTree) (start : ℕ) (pre post : List Edit) (n : ℕ) (g : File) → AreLight t pre → AreLight t post
    → first_failure (limits t start (pre ++ Changed n g ∷ post))
    ≡ cond (list_any is_spent (pre ++ Changed n g ∷ post)) (Some fbig)
    (cond (ltb 32000 g.links || (ltb 7650 (length (slots_of g.content)) || ltb (free_blocks t) (used g.content - used_at t n))) (Some nospc) None)
unfolding limits
limits_grown t start pre post n g h k =
    let es = pre ++ Changed n g ∷ post in
    let links : list_any is_linked_too_often es ≡ ltb 32000 g.links =
    any_one is_linked_too_often pre post (Changed n g) (each (λ e l. l.links) pre h) (each (λ e l. l.links) post k) in
    let slots : list_any has_too_many_slots es ≡ ltb 7650 (length (slots_of g.content)) =
    any_one has_too_many_slots pre post (Changed n g) (each (λ e l. l.slots) pre h) (each (λ e l. l.slots) post k) in
    let made : list_any is_made es ≡ false = any_one is_made pre post (Changed n g) (each (λ e l. l.made) pre h) (each (λ e l. l.made) post k) in
    let grown : sum_by (rise t) es ≡ used g.content - used_at t n = rise_one t pre post (Changed n g) h k in
    by_tests (list_any is_spent es) (list_any is_linked_too_often es) (list_any has_too_many_slots es) (list_any is_made es) (is_none (first_free t start)) (ltb (free_blocks t) (sum_by (rise t) es)) made
    ∙ ap (λ b. cond (list_any is_spent es) (Some fbig) (cond (b || (list_any has_too_many_slots es || ltb (free_blocks t) (sum_by (rise t) es))) (Some nospc) None)) links
    ∙ ap (λ b. cond (list_any is_spent es) (Some fbig) (cond (ltb 32000 g.links || (b || ltb (free_blocks t) (sum_by (rise t) es))) (Some nospc) None)) slots
    ∙ ap (λ (r : ℕ). cond (list_any is_spent es) (Some fbig) (cond (ltb 32000 g.links || (ltb 7650 (length (slots_of g.content)) || ltb (free_blocks t) r)) (Some nospc) None)) grown
