-- The limits of edits that grow in nothing.
use Rattle.std.proofs.Common.{◌≡◌, ℕ, ◌+◌, ◌/◌, ◌≤◌, Bool, true, false, cond, ltb, List, [], ◌∷◌, length, Option, Some, None, refl, sym, ap, ◌∙◌, arith}
use Rattle.std.specs.Prelude.{sum_by, slice_set, ◌||◌, ◌&&◌, is_none}
use Rattle.std.proofs.lemmas.List.Sums.{sum_by-cons}
use Rattle.std.proofs.lemmas.List.{length-set}
use Rattle.std.specs.Option.{option_map_or}
use Rattle.std.specs.List.{list_any}
use Rattle.std.proofs.lemmas.Bool.{le-ltb}
use Rattle.std.specs.FinMap.{get}
use Rattle.nfs_proto.specs.declared.stamp.Stamp.{Stamp}
use Rattle.fs_rules.specs.declared.content.Content.{Content}
use Rattle.fs_rules.specs.declared.content.Content.TheVariants.{Directory}
use Rattle.fs_rules.specs.declared.entry.Entry.{Entry}
use Rattle.fs_rules.specs.declared.file.File.{File}
use Rattle.fs_rules.specs.declared.plain_tree.PlainTree.{PlainTree}
use Rattle.fs_rules.specs.File.{used, slots_of, chains_up_to, last_of}
use Rattle.fs_rules.specs.Slots.{slot_of, take_name}
use Rattle.fs_rules.specs.Numbers.{free_blocks, first_free}
use Rattle.fs_rules.specs.Statuses.{first_failure, fbig, nospc}
use Rattle.fs_rules.specs.Edits.{Edit, Changed, Freed, limits, rise, used_at, is_spent, is_linked_too_often, has_too_many_slots, is_made}
use Rattle.fs_rules.specs.Names.{without_name, unlinked}
use Rattle.fs_rules.specs.Good.{IsGood}
use Rattle.fs_laws.proofs.DirLemmas.{IsDir, renamed_dir, dir_list}
use Rattle.fs_laws.proofs.WholeLemmas.{whole_from_good}

-- ---- the limits

-- edits that pass all limits but that of the change numbers
pub record IsRoomy (t : PlainTree) (es : List Edit) : Type 0 where
  pub links : list_any is_linked_too_often es ≡ false
  pub slots : list_any has_too_many_slots es ≡ false
  pub made : list_any is_made es ≡ false
  pub rise : sum_by (rise t) es ≤ free_blocks t

roomy_by : (spent linked slotted made numbers full : Bool) → linked ≡ false → slotted ≡ false → made ≡ false → full ≡ false
    → first_failure (cond spent (Some fbig) None ∷ cond linked (Some nospc) None ∷ cond slotted (Some nospc) None ∷ cond (made && numbers) (Some nospc) None ∷ cond full (Some nospc) None ∷ [])
    ≡ cond spent (Some fbig) None
unfolding first_failure
roomy_by true linked slotted made numbers full a b c d = refl
roomy_by false true slotted made numbers full a b c d = absurd cc
roomy_by false false true made numbers full a b c d = absurd cc
roomy_by false false false true numbers full a b c d = absurd cc
roomy_by false false false false numbers true a b c d = absurd cc
roomy_by false false false false numbers false a b c d = refl

pub limits_roomy : (t : PlainTree) (start : ℕ) (es : List Edit) → IsRoomy t es → first_failure (limits t start es) ≡ cond (list_any is_spent es) (Some fbig) None
unfolding limits
limits_roomy t start es r =
    roomy_by (list_any is_spent es) (list_any is_linked_too_often es) (list_any has_too_many_slots es) (list_any is_made es) (is_none (first_free t start)) (ltb (free_blocks t) (sum_by (rise t) es))
    r.links r.slots r.made (le-ltb (free_blocks t) (sum_by (rise t) es) r.rise)

-- ---- an edit that grows in nothing

pub record IsLight (t : PlainTree) (x : Edit) : Type 0 where
  pub links : is_linked_too_often x ≡ false
  pub slots : has_too_many_slots x ≡ false
  pub made : is_made x ≡ false
  pub rise : rise t x ≡ 0

neither : (a b : Bool) → a ≡ false → b ≡ false → (a || (b || false)) ≡ false
neither true b p q = absurd cc
neither false true p q = absurd cc
neither false false p q = refl

pub light_two : (t : PlainTree) (x y : Edit) → IsLight t x → IsLight t y → IsRoomy t (x ∷ y ∷ [])
light_two t x y a b = record {
  links = neither (is_linked_too_often x) (is_linked_too_often y) a.links b.links;
  slots = neither (has_too_many_slots x) (has_too_many_slots y) a.slots b.slots;
  made = neither (is_made x) (is_made y) a.made b.made;
  rise = (let first = sum_by-cons (rise t) x (y ∷ []) in let second = sum_by-cons (rise t) y [] in let p = a.rise in let q = b.rise in omega (arith, first, second, p, q));
}

pub light_freed : (t : PlainTree) (m : ℕ) (f : File) → IsLight t (Freed m f)
light_freed t m f = record { links = refl; slots = refl; made = refl; rise = refl }

-- a change that uses as many blocks
pub light_changed : (t : PlainTree) (n : ℕ) (f g : File) → get t.files n ≡ Some f → g.links ≤ 32000 → length (slots_of g.content) ≤ 7650 → used g.content ≡ used f.content → IsLight t (Changed n g)
light_changed t n f g there links slots same = record {
  links = le-ltb 32000 g.links links;
  slots = le-ltb 7650 (length (slots_of g.content)) slots;
  made = refl;
  rise = (let old : used_at t n ≡ used f.content = ap (λ (o : Option File). option_map_or (λ f. used f.content) o 0) there in omega (arith, old, same));
}

-- ---- slots without a name

pub length_taken : (slots : List (Option Entry)) (name : List ℕ) → length (take_name slots name) ≡ length slots
unfolding take_name
length_taken slots name = go (slot_of slots name) where
  go : (o : Option ℕ) → length (option_map_or (λ i. slice_set slots i None) o slots) ≡ length slots
  go None = refl
  go (Some i) = length-set slots i None

-- the directory without it
pub light_dir : (now : Stamp) (t : PlainTree) (n : ℕ) (d : File) (parent : ℕ) (name : List ℕ) (links : ℕ) → IsGood t → IsDir t n d parent
    → IsLight t (Changed n (unlinked links (without_name now name d)))
light_dir now t n d parent name links good dir =
    let slots = slots_of d.content in
    let d' : File = unlinked links (without_name now name d) in
    let content : d'.content ≡ Directory (take_name slots name) parent = (renamed_dir now (take_name slots name) d parent dir.content).content in
    let few : length slots ≤ 7650 = (dir_list t n d parent (whole_from_good t good) dir).few in
    let size : length (slots_of d'.content) ≡ length slots = ap (λ (c : Content). length (slots_of c)) content ∙ length_taken slots name in
    let same : used d'.content ≡ used d.content =
    ap used content ∙ ap (λ (k : ℕ). k / 15 + chains_up_to (last_of (k / 15))) (length_taken slots name) ∙ sym (ap used dir.content) in
    light_changed t n d d' dir.there (let most : d.links ≤ 32000 = (good.files n d dir.there).links in omega (arith, most)) (omega (arith, few, size)) same
