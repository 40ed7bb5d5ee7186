-- A directory to which a name is added.
use Rattle.std.proofs.Common.{◌≡◌, ℕ, zero, suc, ◌+◌, ◌<◌, ◌≤◌, Bool, true, false, cond, List, [], ◌∷◌, ◌++◌, length, replicate, set, Option, Some, None, inl, inr, refl, sym, ap, ◌∙◌, arith, length-append}
use Rattle.std.specs.Prelude.{is_none, not, find, position, option_and_then, option_map}
use Rattle.std.specs.Option.{option_or}
use Rattle.std.specs.FinMap.{get}
use Rattle.std.proofs.lemmas.Option.{slice_get_within}
use Rattle.rpc_msg.specs.declared.cred.Cred.{Cred}
use Rattle.fs_rules.specs.declared.content.Content.{Content}
use Rattle.fs_rules.specs.declared.content.Content.TheVariants.{Regular, Link, Directory}
use Rattle.fs_rules.specs.declared.entry.Entry.{Entry}
use Rattle.fs_rules.specs.declared.file.File.{File}
use Rattle.fs_rules.specs.declared.plain_tree.PlainTree.{PlainTree}
use Rattle.fs_rules.specs.File.{used, is_directory, slots_of}
use Rattle.fs_rules.specs.Good.{IsGood}
use Rattle.fs_rules.specs.Slots.{has_name, slot_of, file_named, put_name}
use Rattle.fs_rules.specs.Statuses.{Check, first_failure, notdir, acces}
use Rattle.fs_rules.specs.Arguments.{Named, file_of, name_check}
use Rattle.fs_rules.specs.Access.{may}
use Rattle.fs_rules.specs.Making.{with_slots}
use Rattle.fs_laws.proofs.SlotLemmas.{first_of, absent_from_file, name_has}
use Rattle.fs_laws.proofs.WholeLemmas.{whole_from_good, some_of}
use Rattle.fs_laws.proofs.DirLemmas.{dir_content, dir_list}
use Rattle.fs_laws.proofs.LinkLemmas.{named_file_of}
use Rattle.fs_content.proofs.SlotLemmas.{put_there, put_added}
use Rattle.fs_decisions.specs.Steps.{named_row}
use Rattle.fs_checks.specs.Rows.{directory_row}
use Rattle.fs_decisions.specs.Limits.{used_by}
use Rattle.fs_decisions.proofs.DirectoryLemmas.{named_there}

-- ---- the name that was put

find_set : {X : Type 0} (p : X → Bool) (xs : List X) (i : ℕ) (y : X) → find p xs ≡ None → p y ≡ true → i < length xs → find p (set xs i y) ≡ Some y
find_set p [] i y none passes lt = absurd (omega arith)
find_set p (x ∷ xs) zero y none passes lt = ap (λ b. cond b (Some y) (find p xs)) passes
find_set p (x ∷ xs) (suc i) y none passes lt = go (p x) none (find_set p xs i y) where
  go : (b : Bool) → cond b (Some x) (find p xs) ≡ None → (find p xs ≡ None → p y ≡ true → i < length xs → find p (set xs i y) ≡ Some y) → cond b (Some x) (find p (set xs i y)) ≡ Some y
  go true h later = absurd cc
  go false h later = later h passes (omega arith)

find_more : {X : Type 0} (p : X → Bool) (xs : List X) (n : ℕ) (y : X) → find p xs ≡ None → p y ≡ false → find p (xs ++ replicate n y) ≡ None
find_more p [] zero y none fails = refl
find_more p [] (suc n) y none fails = ap (λ b. cond b (Some y) (find p (replicate n y))) fails ∙ find_more p [] n y none fails
find_more p (x ∷ xs) n y none fails = go (p x) none (find_more p xs n y) where
  go : (b : Bool) → cond b (Some x) (find p xs) ≡ None → (find p xs ≡ None → p y ≡ false → find p (xs ++ replicate n y) ≡ None) → cond b (Some x) (find p (xs ++ replicate n y)) ≡ None
  go true h later = absurd cc
  go false h later = later h fails

module _ (slots : List (Option Entry)) (e : Entry) (absent : file_named slots e.name ≡ None) where
  not_found : find (has_name e.name) slots ≡ None
  not_found = elim (first_of (has_name e.name) slots) [
    | inl f ↦ absurd (by_value f.value f.passes f.find)
    | inr n ↦ n.find
  ] where
    by_value : (slot : Option Entry) → has_name e.name slot ≡ true → find (has_name e.name) slots ≡ Some slot → ⊥
    by_value None passes found = absurd cc
    by_value (Some d) passes found =
        (let both : ◌≡◌ {A = Option ℕ} (Some d.file) None = sym (ap (λ (o : Option (Option Entry)). option_and_then (λ slot. option_map (λ e. e.file) slot) o) found) ∙ absent in absurd cc)

  no_slot : slot_of slots e.name ≡ None
  no_slot = (absent_from_file slots e.name absent).slot

  -- it names its file
  pub put_named : file_named (put_name slots e) e.name ≡ Some e.file
  put_named = ap (λ (o : Option (Option Entry)). option_and_then (λ slot. option_map (λ e. e.file) slot) o) found where
    found : find (has_name e.name) (put_name slots e) ≡ Some (Some e)
    found = elim (first_of is_none slots) [
      | inl f ↦
          ap (find (has_name e.name)) (put_there slots e f.place (ap (λ (o : Option ℕ). option_or o (position is_none slots)) no_slot ∙ f.position))
          ∙ find_set (has_name e.name) slots f.place (Some e) not_found (name_has e.name e refl) (slice_get_within slots f.place f.value f.there)
      | inr full ↦
          ap (find (has_name e.name)) (put_added slots e (ap (λ (o : Option ℕ). option_or o (position is_none slots)) no_slot ∙ full.position))
          ∙ find_set (has_name e.name) (slots ++ replicate 15 None) (length slots) (Some e) (find_more (has_name e.name) slots 15 None not_found refl) (name_has e.name e refl)
          (let more : length (slots ++ replicate 15 None) ≡ length slots + 15 = length-append slots (replicate 15 None) in omega (arith, more))
    ]

-- ---- its directory

pub slots_with : (slots : List (Option Entry)) (c : Content) → is_directory c ≡ true → slots_of (with_slots slots c) ≡ slots
slots_with slots (Regular blocks) is = absurd cc
slots_with slots (Directory old parent) is = refl
slots_with slots (Link blocks) is = absurd cc

pub used_with : (slots : List (Option Entry)) (c : Content) → is_directory c ≡ true → used (with_slots slots c) ≡ used_by (length slots)
used_with slots (Regular blocks) is = absurd cc
used_with slots (Directory old parent) is = refl
used_with slots (Link blocks) is = absurd cc

-- where the checks of a name pass, it is a directory
pub row_directory : (t : PlainTree) (cred : Cred) (n : Named) (d : File) → file_of t n.dir ≡ Some d → first_failure (named_row t cred n) ≡ None → is_directory d.content ≡ true
unfolding first_failure
row_directory t cred n d there none = go (is_directory d.content) refl (sym (named_there t cred n d there) ∙ none) where
  go : (b : Bool) → is_directory d.content ≡ b → first_failure (directory_row d cred n) ≡ None → b ≡ true
  go true is h = refl
  go false is h = absurd (let both : ◌≡◌ {A = Check} (Some notdir) None = sym (fails is) ∙ h in cc) where
    fails : is_directory d.content ≡ false → first_failure (directory_row d cred n) ≡ Some notdir
    fails is = ap (λ (b : Bool). first_failure (cond (not b) (Some notdir) None ∷ name_check n ∷ cond (not (may d cred n.bits)) (Some acces) None ∷ [])) is

-- the file that it names lives
pub named_lives : (t : PlainTree) (n m : ℕ) (d : File) (name : List ℕ) → IsGood t → get t.files n ≡ Some d → is_directory d.content ≡ true → file_named (slots_of d.content) name ≡ Some m
    → (f : File) × (get t.files m ≡ Some f)
named_lives t n m d name good there is named =
    let c = dir_content d.content is in
    some_of (get t.files m) (named_file_of t n d c.0 name m (whole_from_good t good) (record { there = there; content = c.1 }) named).lives

-- it has few slots
pub few_slots : (t : PlainTree) (n : ℕ) (d : File) → IsGood t → get t.files n ≡ Some d → is_directory d.content ≡ true → length (slots_of d.content) ≤ 7650
few_slots t n d good there is =
    let c = dir_content d.content is in
    (dir_list t n d c.0 (whole_from_good t good) (record { there = there; content = c.1 })).few
