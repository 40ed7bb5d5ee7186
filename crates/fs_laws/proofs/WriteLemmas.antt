-- The calls that leave all names as they are leave a file system.
use Rattle.std.proofs.Common.{◌≡◌, ℕ, ◌+◌, ◌≤◌, Bool, true, false, cond, not, ◌&&◌, List, [], ◌∷◌, length, Option, Some, None, refl, sym, ap, subst, ◌∙◌, arith}
use Rattle.std.specs.Prelude.{IsSome}
use Rattle.std.specs.Option.{option_map_or}
use Rattle.std.specs.FinMap as table
use Rattle.std.proofs.lemmas.Bool.{ltb-false}
use Rattle.sfs_base.specs.Reading.{IsBytes}
use Rattle.rpc_msg.specs.declared.cred.Cred.{Cred}
use Rattle.nfs_proto.specs.declared.sattr.Sattr.{Sattr}
use Rattle.nfs_proto.specs.declared.stamp.Stamp.{Stamp}
use Rattle.fs_rules.specs.declared.content.Content.{Content}
use Rattle.fs_rules.specs.declared.content.Content.TheVariants.{Regular, Link as LinkTo, Directory}
use Rattle.fs_rules.specs.declared.file.File.{File}
use Rattle.fs_rules.specs.declared.plain_tree.PlainTree.{PlainTree}
use Rattle.fs_rules.specs.Handle.{number_in}
use Rattle.fs_rules.specs.File.{is_directory, is_link, blocks_of}
use Rattle.fs_rules.specs.Contents.{written}
use Rattle.fs_rules.specs.Statuses.{Check}
use Rattle.fs_rules.specs.Edits.{Edit, Changed, edited, limits}
use Rattle.fs_rules.specs.Arguments.{file_of, at_file}
use Rattle.fs_rules.specs.Attributes.{is_set, chosen, mode_bits, sets_something, resized_content, is_too_large, size_checks, owner_checks, set_attr_checks, with_attributes, set_attr_edits}
use Rattle.fs_rules.specs.Writing.{is_nothing, write_checks, with_bytes, write_edits}
use Rattle.fs_rules.specs.Good.{IsGood, IsStored}
use Rattle.fs_laws.proofs.StatusLemmas.{ArePassed, passed_back, not_so}
use Rattle.fs_laws.proofs.ContentLemmas.{written_stored, resized_stored}
use Rattle.fs_laws.proofs.WholeLemmas.{IsOwn, IsOwnContent, whole_from_good, good_from_whole}
use Rattle.fs_laws.proofs.EditLemmas.{within_limits}
use Rattle.fs_laws.proofs.ShapeLemmas.{AreAlike, IsSameShape, same_shaped, whole_edited}

-- ---- a change of one file whose names stay

-- a live file becomes another of its kind with the same names and links, which is in order in itself
pub record IsSameFile (t : PlainTree) (n : ℕ) (f g : File) : Type 0 where
  pub shape : IsSameShape t n f g
  pub own : IsOwn g

-- such a change, within the limits, leaves a file system
pub change_good : (now : Stamp) (t : PlainTree) (start n : ℕ) (f g : File) → IsGood t → IsSameFile t n f g → ArePassed (limits t start (Changed n g ∷ []))
    → IsGood (edited now t (Changed n g ∷ []))
change_good now t start n f g good same passed =
    let whole = whole_from_good t good in
    good_from_whole (edited now t (Changed n g ∷ []))
    (whole_edited now t start (Changed n g ∷ []) whole (tt, tt) ((subst IsSome (sym same.shape.there) refl, same.own), tt)
    (within_limits t start (Changed n g ∷ []) passed) (same_shaped now t n f g same.shape whole))

pub nothing_good : (now : Stamp) (t : PlainTree) → IsGood t → IsGood (edited now t [])
unfolding edited
nothing_good now t good = good

-- ---- SETATTR

-- what the checks of a size say
pub record IsSizeFit (f : File) (size : ℕ) : Type 0 where
  pub directory : (is_set size && is_directory f.content) ≡ false
  pub link : (is_set size && is_link f.content) ≡ false
  pub small : (is_set size && is_too_large size) ≡ false

pub size_fit : (f : File) (size : ℕ) (cred : Cred) → ArePassed (size_checks f size cred) → IsSizeFit f size
size_fit f size cred passed = record { directory = not_so 21 _ passed.0; link = not_so 6 _ passed.1.0; small = not_so 27 _ passed.1.1.1.0 }

-- the mode, of which twelve bits are set
set_mode : (b : Bool) (mode old : ℕ) → old ≤ 0o7777 → cond b (mode_bits mode) old ≤ 0o7777
set_mode true mode old le = omega arith
set_mode false mode old le = le

-- a test beside one that is true
both : (b : Bool) → (b && true) ≡ b
both true = refl
both false = refl

set_content : (now : Stamp) (set : Sattr) (f : File) (c : Content) → f.content ≡ c → IsSizeFit f set.size → IsOwnContent f c
    → IsOwnContent (with_attributes now set f) (resized_content f.size (chosen set.size f.size) c)
unfolding with_attributes
set_content now set f (Regular blocks) c_is fit own =
    (small (is_set set.size) refl, resized_stored f.size (chosen set.size f.size) blocks own.1, own.2) where
      small : (b : Bool) → is_set set.size ≡ b → chosen set.size f.size ≤ 16711680
      small true is =
          let e : chosen set.size f.size ≡ set.size = ap (λ b. cond b set.size f.size) is in
          let k : is_too_large set.size ≡ false = ap (λ b. b && is_too_large set.size) (sym is) ∙ fit.small in
          omega (arith, e, ltb-false 16711680 set.size k)
      small false is = let e : chosen set.size f.size ≡ f.size = ap (λ b. cond b set.size f.size) is in omega (arith, e, own.0)
set_content now set f (Directory slots parent) c_is fit own =
    let unset : is_set set.size ≡ false = sym (both (is_set set.size)) ∙ ap (λ c. is_set set.size && is_directory c) (sym c_is) ∙ fit.directory in
    let same : chosen set.size f.size ≡ f.size = ap (λ b. cond b set.size f.size) unset in
    (same ∙ own.0, own.1)
set_content now set f (LinkTo blocks) c_is fit own =
    let unset : is_set set.size ≡ false = sym (both (is_set set.size)) ∙ ap (λ c. is_set set.size && is_link c) (sym c_is) ∙ fit.link in
    let same : chosen set.size f.size ≡ f.size = ap (λ b. cond b set.size f.size) unset in
    (subst (λ (s : ℕ). s ≤ 1024) (sym same) own.0, subst (λ (s : ℕ). IsStored s blocks) (sym same) own.1, own.2)

resized_alike : (old new : ℕ) (c : Content) → AreAlike c (resized_content old new c)
resized_alike old new (Regular blocks) = tt
resized_alike old new (Directory slots parent) = (refl, refl)
resized_alike old new (LinkTo blocks) = tt

-- attributes that are set leave a file in order
pub set_same : (now : Stamp) (t : PlainTree) (n : ℕ) (f : File) (set : Sattr) → table.get t.files n ≡ Some f → IsOwn f → IsSizeFit f set.size
    → IsSameFile t n f (with_attributes now set f)
unfolding with_attributes
set_same now t n f set there own fit = record {
  shape = record { there = there; content = resized_alike f.size (chosen set.size f.size) f.content; links = refl };
  own = record {
    mode = set_mode (is_set set.mode) set.mode f.mode own.mode;
    links = own.links;
    content = set_content now set f f.content refl fit own.content;
  };
}

set_attr_fit : (f : File) (set : Sattr) (cred : Cred) → ArePassed (set_attr_checks f set cred) → IsSizeFit f set.size
unfolding set_attr_checks
set_attr_fit f set cred passed = size_fit f set.size cred (passed_back (owner_checks f set cred) (size_checks f set.size cred) passed)

pub set_attr_good : (now : Stamp) (t : PlainTree) (start n : ℕ) (f : File) (set : Sattr) (cred : Cred) → IsGood t → table.get t.files n ≡ Some f
    → ArePassed (set_attr_checks f set cred) → ArePassed (limits t start (set_attr_edits now set n f)) → IsGood (edited now t (set_attr_edits now set n f))
unfolding set_attr_edits
set_attr_good now t start n f set cred good there checked within = go (sets_something set) within where
  go : (b : Bool) → ArePassed (limits t start (cond b (Changed n (with_attributes now set f) ∷ []) []))
      → IsGood (edited now t (cond b (Changed n (with_attributes now set f) ∷ []) []))
  go true within = change_good now t start n f (with_attributes now set f) good
      (set_same now t n f set there ((whole_from_good t good).own n f there) (set_attr_fit f set cred checked)) within
  go false within = nothing_good now t good

-- ---- WRITE

written_content : (now : Stamp) (offset : ℕ) (bytes : List ℕ) (f : File) (c : Content) → IsBytes bytes → offset + length bytes ≤ 16711680
    → is_directory c ≡ false → is_link c ≡ false → IsOwnContent f c
    → IsOwnContent (with_bytes now offset bytes f) (Regular (written (blocks_of c) offset bytes)) × AreAlike c (Regular (written (blocks_of c) offset bytes))
unfolding with_bytes
written_content now offset bytes f (Regular blocks) fit small dir link own =
    ((omega (arith, own.0), written_stored f.size blocks own.1 offset bytes fit, own.2), tt)
written_content now offset bytes f (Directory slots parent) fit small dir link own = absurd cc
written_content now offset bytes f (LinkTo blocks) fit small dir link own = absurd cc

-- bytes that are written leave a file in order
pub write_same : (now : Stamp) (t : PlainTree) (n : ℕ) (f : File) (offset : ℕ) (bytes : List ℕ) (cred : Cred) → table.get t.files n ≡ Some f → IsOwn f → IsBytes bytes
    → is_nothing bytes ≡ false → ArePassed (write_checks f cred offset bytes) → IsSameFile t n f (with_bytes now offset bytes f)
unfolding with_bytes
write_same now t n f offset bytes cred there own fit some passed =
    let small : is_too_large (offset + length bytes) ≡ false =
    ap (λ b. not b && is_too_large (offset + length bytes)) (sym some) ∙ not_so 27 (not (is_nothing bytes) && is_too_large (offset + length bytes)) passed.1.1.1.0 in
    let h = written_content now offset bytes f f.content fit (ltb-false 16711680 (offset + length bytes) small) (not_so 21 _ passed.0) (not_so 6 _ passed.1.0) own.content in
    record {
      shape = record { there = there; content = h.1; links = refl };
      own = record { mode = own.mode; links = own.links; content = h.0 };
    }

pub write_good : (now : Stamp) (t : PlainTree) (start n : ℕ) (f : File) (offset : ℕ) (bytes : List ℕ) (cred : Cred) → IsGood t → table.get t.files n ≡ Some f → IsBytes bytes
    → ArePassed (write_checks f cred offset bytes) → ArePassed (limits t start (write_edits now offset bytes n f)) → IsGood (edited now t (write_edits now offset bytes n f))
unfolding write_edits
write_good now t start n f offset bytes cred good there fit checked within = go (is_nothing bytes) refl within where
  go : (b : Bool) → is_nothing bytes ≡ b → ArePassed (limits t start (cond b [] (Changed n (with_bytes now offset bytes f) ∷ [])))
      → IsGood (edited now t (cond b [] (Changed n (with_bytes now offset bytes f) ∷ [])))
  go true is within = nothing_good now t good
  go false is within = change_good now t start n f (with_bytes now offset bytes f) good
      (write_same now t n f offset bytes cred there ((whole_from_good t good).own n f there) fit is checked) within

-- ---- at a handle

-- edits of the file that a handle names
pub at_file_good : (now : Stamp) (t : PlainTree) (start : ℕ) (name : List ℕ) (checked : ℕ → File → List Check) (es : ℕ → File → List Edit) → IsGood t
    → ((f : File) → file_of t name ≡ Some f → ArePassed (checked (number_in name) f) → ArePassed (limits t start (es (number_in name) f))
    → IsGood (edited now t (es (number_in name) f)))
    → ArePassed (at_file t name [] checked) → ArePassed (limits t start (at_file t name [] es)) → IsGood (edited now t (at_file t name [] es))
at_file_good now t start name checked es good each = go (file_of t name) refl where
  go : (o : Option File) → file_of t name ≡ o → ArePassed (option_map_or (checked (number_in name)) o [])
      → ArePassed (limits t start (option_map_or (es (number_in name)) o [])) → IsGood (edited now t (option_map_or (es (number_in name)) o []))
  go None is passed within = nothing_good now t good
  go (Some f) is passed within = each f is passed within
