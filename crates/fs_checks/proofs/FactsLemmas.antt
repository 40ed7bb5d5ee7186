-- The checks look at the facts of a file alone.
use Rattle.std.proofs.Common.{◌≡◌, ℕ, Bool, List, Some, None, Result, Ok, Err, refl, sym, ap, ◌∙◌}
use Rattle.rpc_msg.specs.declared.cred.Cred.{Cred}
use Rattle.nfs_proto.specs.declared.sattr.Sattr.{Sattr}
use Rattle.fs_rules.specs.declared.content.Content.{Content}
use Rattle.fs_rules.specs.declared.content.Content.TheVariants.{Regular, Link, Directory}
use Rattle.fs_rules.specs.declared.file.File.{File}
use Rattle.fs_rules.specs.Access.{may}
use Rattle.fs_rules.specs.Arguments.{Named}
use Rattle.fs_rules.specs.Attributes.{set_attr_checks}
use Rattle.fs_rules.specs.Reading.{read_checks}
use Rattle.fs_rules.specs.Writing.{write_checks}
use Rattle.fs_rules.specs.Making.{existing_checks}
use Rattle.fs_rules.specs.Statuses.{Check, first_failure}
use Rattle.fs_checks.specs.declared.facts.Facts.{Facts}
use Rattle.fs_checks.specs.declared.status.Status.{Status}
use Rattle.fs_checks.specs.Facts.{facts_of, bare}
use Rattle.fs_checks.specs.Rows.{is_one, directory_row, pair_row, read_dir_row}
use Rattle.fs_checks.specs.Naming.{link_row, over_row}
use Rattle.fs_checks.specs.Verdict.{verdict}

-- ---- what is decided

-- a check that passed, and one that failed
pub passed : (k : Check) (r : Result (Unit {0}) Status) (u : Unit {0}) → r ≡ verdict k → r ≡ Ok u → k ≡ None
passed None r u is ok = refl
passed (Some status) r u is ok = absurd cc

pub failed : (k : Check) (r : Result (Unit {0}) Status) (s : Status) → r ≡ verdict k → r ≡ Err s → k ≡ Some s.0
failed None r s is err = absurd cc
failed (Some status) r s is err = let same : ◌≡◌ {A = Status} s (record { 0 = status }) = cc in ap (λ (s : Status). Some s.0) (sym same)

-- ---- the facts alone

module _ (set : Sattr) (cred : Cred) where
  pub set_attr_looks : (f : File) → set_attr_checks (bare (facts_of f)) set cred ≡ set_attr_checks f set cred
  unfolding set_attr_checks
  set_attr_looks f = go f.content where
    go : (c : Content) → set_attr_checks (bare (facts_of (record f { content = c }))) set cred ≡ set_attr_checks (record f { content = c }) set cred
    go (Regular blocks) = refl
    go (Directory slots parent) = refl
    go (Link blocks) = refl

  pub existing_looks : (f : File) → existing_checks (bare (facts_of f)) set cred ≡ existing_checks f set cred
  existing_looks f = go f.content where
    go : (c : Content) → existing_checks (bare (facts_of (record f { content = c }))) set cred ≡ existing_checks (record f { content = c }) set cred
    go (Regular blocks) = refl
    go (Directory slots parent) = refl
    go (Link blocks) = refl

module _ (cred : Cred) where
  pub read_looks : (f : File) → read_checks (bare (facts_of f)) cred ≡ read_checks f cred
  read_looks f = go f.content where
    go : (c : Content) → read_checks (bare (facts_of (record f { content = c }))) cred ≡ read_checks (record f { content = c }) cred
    go (Regular blocks) = refl
    go (Directory slots parent) = refl
    go (Link blocks) = refl

  pub write_looks : (offset : ℕ) (bytes : List ℕ) (f : File) → write_checks (bare (facts_of f)) cred offset bytes ≡ write_checks f cred offset bytes
  write_looks offset bytes f = go f.content where
    go : (c : Content) → write_checks (bare (facts_of (record f { content = c }))) cred offset bytes ≡ write_checks (record f { content = c }) cred offset bytes
    go (Regular blocks) = refl
    go (Directory slots parent) = refl
    go (Link blocks) = refl

  pub named_looks : (n : Named) (f : File) → directory_row (bare (facts_of f)) cred n ≡ directory_row f cred n
  named_looks n f = go f.content where
    go : (c : Content) → directory_row (bare (facts_of (record f { content = c }))) cred n ≡ directory_row (record f { content = c }) cred n
    go (Regular blocks) = refl
    go (Directory slots parent) = refl
    go (Link blocks) = refl

  pub pair_looks : (c d : File) (from_name to_name : List ℕ) → pair_row (bare (facts_of c)) from_name (bare (facts_of d)) to_name cred ≡ pair_row c from_name d to_name cred
  pair_looks c d from_name to_name = go c.content d.content where
    go : (a b : Content) → pair_row (bare (facts_of (record c { content = a }))) from_name (bare (facts_of (record d { content = b }))) to_name cred
        ≡ pair_row (record c { content = a }) from_name (record d { content = b }) to_name cred
    go (Regular x) (Regular y) = refl
    go (Regular x) (Directory y p) = refl
    go (Regular x) (Link y) = refl
    go (Directory x q) (Regular y) = refl
    go (Directory x q) (Directory y p) = refl
    go (Directory x q) (Link y) = refl
    go (Link x) (Regular y) = refl
    go (Link x) (Directory y p) = refl
    go (Link x) (Link y) = refl

  pub list_looks : (f : File) → read_dir_row (bare (facts_of f)) cred ≡ read_dir_row f cred
  list_looks f = go f.content where
    go : (c : Content) → read_dir_row (bare (facts_of (record f { content = c }))) cred ≡ read_dir_row (record f { content = c }) cred
    go (Regular blocks) = refl
    go (Directory slots parent) = refl
    go (Link blocks) = refl

  pub may_looks : (bits : ℕ) (f : File) → may (bare (facts_of f)) cred bits ≡ may f cred bits
  may_looks bits f = go f.content where
    go : (c : Content) → may (bare (facts_of (record f { content = c }))) cred bits ≡ may (record f { content = c }) cred bits
    go (Regular blocks) = refl
    go (Directory slots parent) = refl
    go (Link blocks) = refl

pub is_one_looks : (f : File) → is_one (bare (facts_of f)) ≡ is_one f
is_one_looks f = go f.content where
  go : (c : Content) → is_one (bare (facts_of (record f { content = c }))) ≡ is_one (record f { content = c })
  go (Regular blocks) = refl
  go (Directory slots parent) = refl
  go (Link blocks) = refl

pub link_looks : (taken : Bool) (f : File) → link_row (bare (facts_of f)) taken ≡ link_row f taken
link_looks taken f = go f.content where
  go : (c : Content) → link_row (bare (facts_of (record f { content = c }))) taken ≡ link_row (record f { content = c }) taken
  go (Regular blocks) = refl
  go (Directory slots parent) = refl
  go (Link blocks) = refl

pub over_looks : (is_dir in_use : Bool) (f : File) → over_row is_dir (bare (facts_of f)) in_use ≡ over_row is_dir f in_use
over_looks is_dir in_use f = go f.content where
  go : (c : Content) → over_row is_dir (bare (facts_of (record f { content = c }))) in_use ≡ over_row is_dir (record f { content = c }) in_use
  go (Regular blocks) = refl
  go (Directory slots parent) = refl
  go (Link blocks) = refl

-- ---- checks of a file, over its facts

module _ (checks : File → List Check) (looks : (f : File) → checks (bare (facts_of f)) ≡ checks f) (f : File) (x : Facts) (r : Result (Unit {0}) Status) (is : x ≡ facts_of f)
    (decides : r ≡ verdict (first_failure (checks (bare x)))) where
  pub of_file : r ≡ verdict (first_failure (checks f))
  of_file = decides ∙ ap (λ (x : Facts). verdict (first_failure (checks (bare x)))) is ∙ ap (λ (l : List Check). verdict (first_failure l)) (looks f)

  pub passed_of : (u : Unit {0}) → r ≡ Ok u → first_failure (checks f) ≡ None
  passed_of u ok = passed (first_failure (checks f)) r u of_file ok

  pub failed_of : (s : Status) → r ≡ Err s → first_failure (checks f) ≡ Some s.0
  failed_of s err = failed (first_failure (checks f)) r s of_file err
