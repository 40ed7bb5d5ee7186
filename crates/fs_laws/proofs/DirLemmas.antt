-- Directories whose slots change, and the forms of names.
use Rattle.std.proofs.Common.{◌≡◌, ◌≢◌, ℕ, ◌+◌, ◌*◌, ◌/◌, ◌≤◌, Bool, true, false, cond, not, ◌||◌, List, [], ◌∷◌, length, Option, Some, None, refl, sym, ap, subst, ◌∙◌}
use Rattle.std.specs.Prelude.{◌==◌, nat_lt, bytes_eq, codes}
use Rattle.std.specs.List.{AllByRecursion, list_any}
use Rattle.std.specs.Cmp.Lexicographic.{bytes_decides}
use Rattle.std.specs.FinMap as table
use Rattle.std.proofs.lemmas.Bool.{or_parts, and_parts, ltb-false, ltb-true, eqb-false, not-true}
use Rattle.std.proofs.lemmas.List.Elements.{All-from_recursion}
use Rattle.sfs_base.specs.Reading.{IsBytes}
use Rattle.nfs_proto.specs.declared.stamp.Stamp.{Stamp}
use Rattle.fs_rules.specs.declared.content.Content.{Content}
use Rattle.fs_rules.specs.declared.content.Content.TheVariants.{Regular, Link, Directory}
use Rattle.fs_rules.specs.declared.entry.Entry.{Entry}
use Rattle.fs_rules.specs.declared.file.File.{File}
use Rattle.fs_rules.specs.declared.plain_tree.PlainTree.{PlainTree}
use Rattle.fs_rules.specs.File.{slots_of, is_directory}
use Rattle.fs_rules.specs.Edits.{Edit, Changed, is_linked_too_often, has_too_many_slots}
use Rattle.fs_rules.specs.Arguments.{Named, name_check, is_name_form, is_dot, is_dot_dot, is_dots}
use Rattle.fs_rules.specs.Making.{with_slots, renamed}
use Rattle.fs_rules.specs.Good.{IsName, subdirectories}
use Rattle.fs_laws.proofs.WholeLemmas.{IsOwn, IsOwnContent, IsSlotList, HasLinks, IsWhole}
use Rattle.fs_laws.proofs.EditLemmas.{IsWithin}
use Rattle.fs_laws.proofs.SlotLemmas.{AreNames, names_from_list, list_from_names}

-- ---- the form of a name

-- bytes that are none of these two
list_any_plain : (name : List ℕ) → list_any (λ b. (b == 0) || (b == 47)) name ≡ false → AllByRecursion (λ b. (b ≢ 0) × (b ≢ 47)) name
list_any_plain [] h = tt
list_any_plain (b ∷ name) h =
    let parts = or_parts ((b == 0) || (b == 47)) (list_any (λ b. (b == 0) || (b == 47)) name) h in
    let here = or_parts (b == 0) (b == 47) parts.0 in
    ((eqb-false b 0 here.0, eqb-false b 47 here.1), list_any_plain name parts.1)

not_equal : (name other : List ℕ) → bytes_eq name other ≡ false → name ≢ other
not_equal name other h same = let e : true ≡ false = sym ((bytes_decides name other).1 same) ∙ h in absurd cc

-- a name that passed its checks is one that a slot may have
pub name_from_checks : (n : Named) → name_check n ≡ None → is_dots n.name ≡ false → IsBytes n.name → IsName n.name
name_from_checks n passed plain bytes = go (nat_lt 255 (length n.name)) (is_name_form n.name) refl refl passed where
  go : (long form : Bool) → nat_lt 255 (length n.name) ≡ long → is_name_form n.name ≡ form → cond long (Some 63) (cond (not form) (Some n.unfit) None) ≡ None → IsName n.name
  go true form long_is form_is h = absurd cc
  go false false long_is form_is h = absurd cc
  go false true long_is form_is h =
      let parts = and_parts (nat_lt 0 (length n.name)) (not (list_any (λ b. (b == 0) || (b == 47)) n.name)) form_is in
      let dots = or_parts (is_dot n.name) (is_dot_dot n.name) plain in
      record {
        sized = (ltb-true 0 (length n.name) parts.0, ltb-false 255 (length n.name) long_is);
        bytes = bytes;
        plain = All-from_recursion (λ b. (b ≢ 0) × (b ≢ 47)) n.name (list_any_plain n.name (not-true (list_any (λ b. (b == 0) || (b == 47)) n.name) parts.1));
        other = (not_equal n.name (codes ".") dots.0, not_equal n.name (codes "..") dots.1);
      }

-- ---- directories

-- a live directory, with its parent
pub record IsDir (t : PlainTree) (n : ℕ) (d : File) (parent : ℕ) : Type 0 where
  pub there : table.get t.files n ≡ Some d
  pub content : d.content ≡ Directory (slots_of d.content) parent

pub dir_content : (c : Content) → is_directory c ≡ true → (parent : ℕ) × (c ≡ Directory (slots_of c) parent)
dir_content (Regular blocks) h = absurd cc
dir_content (Directory slots parent) h = (parent, refl)
dir_content (Link blocks) h = absurd cc

pub dir_list : (t : PlainTree) (n : ℕ) (d : File) (parent : ℕ) → IsWhole t → IsDir t n d parent → IsSlotList (slots_of d.content)
dir_list t n d parent whole dir = (subst (IsOwnContent d) dir.content (whole.own n d dir.there).content).1

pub dir_names : (t : PlainTree) (n : ℕ) (d : File) (parent : ℕ) → IsWhole t → IsDir t n d parent → AreNames (slots_of d.content)
dir_names t n d parent whole dir = names_from_list (slots_of d.content) (dir_list t n d parent whole dir)

pub dir_links : (t : PlainTree) (n : ℕ) (d : File) (parent : ℕ) → IsWhole t → IsDir t n d parent → d.links ≡ 2 + subdirectories t (slots_of d.content)
dir_links t n d parent whole dir = subst (HasLinks t d) dir.content (whole.links n d dir.there)

-- a directory with other slots, as far as its size and its links go
pub record IsRenamed (d d' : File) (slots : List (Option Entry)) (parent : ℕ) : Type 0 where
  pub content : d'.content ≡ Directory slots parent
  pub mode : d'.mode ≡ d.mode
  pub size : d'.size ≡ 4096 * (length slots / 15)

pub renamed_dir : (now : Stamp) (slots : List (Option Entry)) (d : File) (parent : ℕ) → d.content ≡ Directory (slots_of d.content) parent → IsRenamed d (renamed now slots d) slots parent
renamed_dir now slots d parent content = record { content = ap (with_slots slots) content; mode = refl; size = refl }

-- is in order in itself, where it is within the limits
pub renamed_own : (d d' : File) (slots : List (Option Entry)) (parent : ℕ) → IsOwn d → IsRenamed d d' slots parent → AreNames slots → d'.links ≤ 32000
    → length (slots_of d'.content) ≤ 7650 → IsOwn d'
renamed_own d d' slots parent own r names links few = record {
  mode = subst (λ (m : ℕ). m ≤ 0o7777) (sym r.mode) own.mode;
  links = links;
  content = subst (IsOwnContent d') (sym r.content) (r.size, list_from_names slots names (subst (λ c. length (slots_of c) ≤ 7650) r.content few));
}

-- ---- the limits of a change of a directory and of more

pub record IsRoomy (t : PlainTree) (start n : ℕ) (d' : File) (es : List Edit) : Type 0 where
  pub links : d'.links ≤ 32000
  pub slots : length (slots_of d'.content) ≤ 7650
  pub more_links : list_any is_linked_too_often es ≡ false

pub roomy : (t : PlainTree) (start n : ℕ) (d' : File) (es : List Edit) → IsWithin t start (Changed n d' ∷ es) → IsRoomy t start n d' es
roomy t start n d' es w =
    let l = or_parts (nat_lt 32000 d'.links) (list_any is_linked_too_often es) w.links in
    let s = or_parts (nat_lt 7650 (length (slots_of d'.content))) (list_any has_too_many_slots es) w.slots in
    record {
      links = ltb-false 32000 d'.links l.0;
      slots = ltb-false 7650 (length (slots_of d'.content)) s.0;
      more_links = l.1;
    }
